-- A room is looked up among what is filed with it, and the end of a quote as well.
use Rattle.std.specs.Prelude.{◌≡◌, ℕ, ◌%◌, ◌==◌, ◌&&◌, Bool, true, false, List, [], ◌∷◌, ◌++◌, filter, length, cond, is_some, nat_lt, bytes_eq, Option, Some, None, if◌then◌else◌, refl}
use Rattle.std.specs.List.{flat_map}
use Rattle.std.proofs.Common.{sym, ◌∙◌, ap, subst, eq-eqb, eqb-true}
use Rattle.std.proofs.lemmas.Bool.{true≢false}
use Rattle.std.proofs.lemmas.Slice.Eq.{bytes_eq-Decides}
use Rattle.page_text.specs.Parts.{Part}
use Rattle.participants.specs.ParticipantFile.{ParticipantFile}
use Rattle.venue_rules.specs.Rooms.{printed}
use Rattle.day_events.specs.declared.event.Event.{Event}
use Rattle.day_events.specs.declared.event.NewRequest.{NewRequest}
use Rattle.day_events.specs.declared.event.Origin.{Origin}
use Rattle.day_events.specs.declared.event.RoomTrade.{RoomTrade}
use Rattle.day_events.specs.declared.event.What.{What}
use Rattle.day_events.specs.declared.event.What.TheVariants as what
use Rattle.day_tables.specs.Parts.{framed, plain_part}
use Rattle.day_sections.proofs.Walks.{skipped}
use Rattle.request_sections.specs.declared.day.Form.{Form}
use Rattle.request_sections.specs.declared.day.Form.TheVariants as form
use Rattle.request_sections.specs.declared.fate.Fate.{Fate}
use Rattle.request_sections.specs.declared.fate.Fate.TheVariants as fate
use Rattle.request_sections.specs.declared.fate.Quoted.{Quoted}
use Rattle.request_sections.specs.declared.keys.By.TheVariants as by
use Rattle.request_sections.specs.declared.picks.Pick.TheVariants as pick
use Rattle.request_sections.specs.declared.template.TheConstants.{CELL_END, ROOM_END}
use Rattle.day_sections.specs.Counts.{is_quoted}
use Rattle.request_sections.specs.Fate.{decided, end_in, ended, fate_at, first_or, in_room, names_quote, or_later as or_later_end, outcome_of}
use Rattle.request_sections.specs.Keys.{by_quote, by_room, in_bucket, key_of, name_key, named_key, quote_key, room_key}
use Rattle.request_sections.specs.Lives.{axis_of, capped, end_moment, live_until, moment_if, moment_or, or_last, room_moment}
use Rattle.request_sections.specs.declared.lives.Axis.{Axis}
use Rattle.request_sections.specs.Picks.{is_asked_in, is_picked, is_silent, names_room}
use Rattle.recipient_sections.specs.Asked.{recipients_parts}
use Rattle.request_sections.specs.Requests.{Sheet, all_quotes, asked_in, body_parts, fate_part, form_of, head_parts, if_quote_parts, if_traded, or_later, quote_by, quote_part, quoted_of, quotes_in, quotes_part, request_by, request_parts, rest_parts, silent_parts, tick_in, trade_in, trade_moment, traded_at}
use Rattle.request_sections.specs.Refused.{is_name, is_refused, refused_in, refused_of, refused_section, refuses}
use Rattle.request_sections.specs.Shown.{shown_section}
use Rattle.day_sections.specs.Values.{row_part}

-- All that counts for a room is kept.
record Covers (r : ℕ) (k : Event → Bool) : Type 0 where
  asked : (e : Event) → k e ≡ false → is_asked_in r e.what ≡ false
  quotes : (e : Event) → k e ≡ false → (is_quoted e.what && names_room r e.at.named) ≡ false
  untraded : (e : Event) → k e ≡ false → if_traded r e.what ≡ None
  undecided : (q : Quoted) (e : Event) → q.room ≡ r → k e ≡ false → decided q e.at e.what ≡ None

-- The trade of a room.

trade_step : (r : ℕ) (k : Event → Bool) (e : Event) (es : List Event) (is : Bool) → k e ≡ is → (k e ≡ false → if_traded r e.what ≡ None) → trade_in r (filter k es) ≡ trade_in r es
    → trade_in r (filter k (e ∷ es)) ≡ trade_in r (e ∷ es)
trade_step r k e es true kept skips same = rw kept (ap (or_later (if_traded r e.what)) same)
trade_step r k e es false late skips same = rw (late, skips late) same

same_trade : (r : ℕ) (k : Event → Bool) → Covers r k → (es : List Event) → trade_in r (filter k es) ≡ trade_in r es
same_trade r k c [] = refl
same_trade r k c (e ∷ es) = trade_step r k e es (k e) refl (c.untraded e) (same_trade r k c es)

-- What became of a quote.

room_step : (q : Quoted) (last : Option ℕ) (k : Event → Bool) (e : Event) (es : List Event) (is : Bool) → k e ≡ is → (k e ≡ false → decided q e.at e.what ≡ None)
    → in_room q last (filter k es) ≡ in_room q last es → in_room q last (filter k (e ∷ es)) ≡ in_room q last (e ∷ es)
room_step q last k e es true kept skips same = rw kept (ap (first_or (fate_at q e)) same)
room_step q last k e es false late skips same = rw (late, skips late) same

same_room : (r : ℕ) (k : Event → Bool) → Covers r k → (q : Quoted) → q.room ≡ r → (last : Option ℕ) (es : List Event) → in_room q last (filter k es) ≡ in_room q last es
same_room r k c q is last [] = refl
same_room r k c q is last (e ∷ es) = room_step q last k e es (k e) refl (c.undecided q e is) (same_room r k c q is last es)

end_step : (q : Quoted) (k : Event → Bool) (e : Event) (es : List Event) (is : Bool) → k e ≡ is → (k e ≡ false → ended q e.at e.what ≡ None)
    → end_in q (filter k es) ≡ end_in q es → end_in q (filter k (e ∷ es)) ≡ end_in q (e ∷ es)
end_step q k e es true kept skips same = rw kept (ap (or_later_end (ended q e.at e.what)) same)
end_step q k e es false late skips same = rw (late, skips late) same

same_end : (q : Quoted) (k : Event → Bool) → ((e : Event) → k e ≡ false → ended q e.at e.what ≡ None) → (es : List Event) → end_in q (filter k es) ≡ end_in q es
same_end q k skips [] = refl
same_end q k skips (e ∷ es) = end_step q k e es (k e) refl (skips e) (same_end q k skips es)

-- Until when it was live, and when its room traded.

room_moment_step : (q : Quoted) (k : Event → Bool) (e : Event) (es : List Event) (is : Bool) → k e ≡ is → (k e ≡ false → decided q e.at e.what ≡ None)
    → room_moment q (filter k es) ≡ room_moment q es → room_moment q (filter k (e ∷ es)) ≡ room_moment q (e ∷ es)
room_moment_step q k e es true kept skips same = rw kept (ap (moment_if (decided q e.at e.what) e.at.moment) same)
room_moment_step q k e es false late skips same = rw (late, skips late) same

same_room_moment : (r : ℕ) (k : Event → Bool) → Covers r k → (q : Quoted) → q.room ≡ r → (es : List Event) → room_moment q (filter k es) ≡ room_moment q es
same_room_moment r k c q is [] = refl
same_room_moment r k c q is (e ∷ es) = room_moment_step q k e es (k e) refl (c.undecided q e is) (same_room_moment r k c q is es)

end_moment_step : (q : Quoted) (k : Event → Bool) (e : Event) (es : List Event) (is : Bool) → k e ≡ is → (k e ≡ false → ended q e.at e.what ≡ None)
    → end_moment q (filter k es) ≡ end_moment q es → end_moment q (filter k (e ∷ es)) ≡ end_moment q (e ∷ es)
end_moment_step q k e es true kept skips same = rw kept (ap (moment_if (ended q e.at e.what) e.at.moment) same)
end_moment_step q k e es false late skips same = rw (late, skips late) same

same_end_moment : (q : Quoted) (k : Event → Bool) → ((e : Event) → k e ≡ false → ended q e.at e.what ≡ None) → (es : List Event) → end_moment q (filter k es) ≡ end_moment q es
same_end_moment q k skips [] = refl
same_end_moment q k skips (e ∷ es) = end_moment_step q k e es (k e) refl (skips e) (same_end_moment q k skips es)

trade_moment_step : (r : ℕ) (k : Event → Bool) (e : Event) (es : List Event) (is : Bool) → k e ≡ is → (k e ≡ false → if_traded r e.what ≡ None)
    → trade_moment r (filter k es) ≡ trade_moment r es → trade_moment r (filter k (e ∷ es)) ≡ trade_moment r (e ∷ es)
trade_moment_step r k e es true kept skips same = rw kept (ap (traded_at (if_traded r e.what) e.at.moment) same)
trade_moment_step r k e es false late skips same = rw (late, skips late) same

same_trade_moment : (r : ℕ) (k : Event → Bool) → Covers r k → (es : List Event) → trade_moment r (filter k es) ≡ trade_moment r es
same_trade_moment r k c [] = refl
same_trade_moment r k c (e ∷ es) = trade_moment_step r k e es (k e) refl (c.untraded e) (same_trade_moment r k c es)

-- The parts of a request.

same_quote : (file : ParticipantFile) (s : Sheet) (tick : ℕ) (a : Axis) (room : ℕ) (k : Event → Bool) → Covers room k → (es : List Event) (e : Event) (w : What)
    → if_quote_parts file s tick a (filter k es) room e w ≡ if_quote_parts file s tick a es room e w
same_quote file s tick a room k c es e (what.Entered x) = refl
same_quote file s tick a room k c es e (what.TooRecent x) = refl
same_quote file s tick a room k c es e (what.Filled x) = refl
same_quote file s tick a room k c es e (what.Cancelled x) = refl
same_quote file s tick a room k c es e (what.Replaced x) = refl
same_quote file s tick a room k c es e (what.Asked x) = refl
same_quote file s tick a room k c es e (what.Quoted x) =
    let q : Quoted = quoted_of room e x in
    λ j. quote_by file s tick a e x (moment_or (end_moment q s.events) (capped q.end (or_last (same_room_moment room k c q refl es j) s.last))) (first_or (end_in q s.events) (same_room room k c q refl s.last es j))
same_quote file s tick a room k c es e (what.Withdrawn x) = refl
same_quote file s tick a room k c es e what.Passed = refl
same_quote file s tick a room k c es e (what.Traded x) = refl
same_quote file s tick a room k c es e (what.Refused x) = refl

same_body : (file : ParticipantFile) (s : Sheet) (tick : ℕ) (room : ℕ) (k : Event → Bool) → Covers room k → (es : List Event) (e : Event) (asked quotes : List Event)
    → body_parts file s tick (filter k es) e room asked quotes ≡ body_parts file s tick es e room asked quotes
same_body file s tick room k c es e asked quotes =
    let a : Axis = axis_of e.at.moment (trade_moment room es) quotes in
    ap (λ (o : Option ℕ). recipients_parts file s.linked e room asked ++ (shown_section tick s.shown quotes ++ (refused_section file s.dated s.linked (refused_in e.at.row room quotes s.events) ++ all_quotes file s tick (axis_of e.at.moment o quotes) (filter k es) room asked quotes))) (same_trade_moment room k c es)
    ∙ λ j. recipients_parts file s.linked e room asked
    ++ (shown_section tick s.shown quotes
    ++ (refused_section file s.dated s.linked (refused_in e.at.row room quotes s.events)
    ++ framed (quotes_part room) (flat_map (λ (x : Event). same_quote file s tick a room k c es x x.what j) quotes ++ silent_parts file (filter (is_silent quotes) asked)) (plain_part ROOM_END.now)))

same_rest : (f : Form) (file : ParticipantFile) (s : Sheet) (tick : ℕ) (room : ℕ) (k : Event → Bool) → Covers room k → (es : List Event) (e : Event) (asked quotes : List Event)
    → rest_parts f file s tick (filter k es) e room asked quotes ≡ rest_parts f file s tick es e room asked quotes
same_rest form.Open file s tick room k c es e asked quotes = same_body file s tick room k c es e asked quotes
same_rest form.Folded file s tick room k c es e asked quotes = same_body file s tick room k c es e asked quotes
same_rest form.Line file s tick room k c es e asked quotes = refl

same_request : (file : ParticipantFile) (s : Sheet) (es : List Event) (e : Event) (r : NewRequest) (k : Event → Bool) → Covers r.room k
    → request_parts file s (filter k es) e r ≡ request_parts file s es e r
same_request file s es e r k c =
    let asked : asked_in r.room (filter k es) ≡ asked_in r.room es = skipped (is_picked (pick.Asked r.room)) k c.asked es in
    let quotes : quotes_in r.room (filter k es) ≡ quotes_in r.room es = skipped (is_picked (pick.Quotes r.room)) k c.quotes es in
    let trade : trade_in r.room (filter k es) ≡ trade_in r.room es = same_trade r.room k c es in
    let f : Form = form_of s.count (is_some (trade_in r.room es)) in
    let tick : ℕ = tick_in s.instruments r in
    let head : List Part = head_parts f file s.dated tick e r (asked_in r.room es) (quotes_in r.room es) (trade_in r.room es) in
    (λ j. request_by file s tick (filter k es) e r (asked j) (quotes j) (trade j))
    ∙ ap (λ (l : List Part). head ++ l) (same_rest f file s tick r.room k c es e (asked_in r.room es) (quotes_in r.room es))

-- What is not in the bucket of a room is not of it.

here : (n a b : ℕ) → a ≡ b → (a % n == b % n) ≡ true
here n a b same = eq-eqb (a % n) (b % n) (ap (λ (x : ℕ). x % n) same)

no_name : (n key prefix : ℕ) (id : List ℕ) (m : ℕ) (is : Bool) → bytes_eq (printed prefix m) id ≡ is → key ≡ name_key (printed prefix m) → (name_key id % n == key % n) ≡ false → is ≡ false
no_name n key prefix id m true same of late =
    absurd (true≢false (sym (here n (name_key id) key (ap name_key (sym ((bytes_eq-Decides (printed prefix m) id).0 same)) ∙ sym of)) ∙ late))
no_name n key prefix id m false same of late = refl

other_name : (n r : ℕ) (named : Option (List ℕ)) → in_bucket n (room_key r % n) (named_key named) ≡ false → names_room r named ≡ false
other_name n r None late = refl
other_name n r (Some id) late = no_name n (room_key r) 82 id r (bytes_eq (printed 82 r) id) refl refl late

other_quote : (n q : ℕ) (named : Option (List ℕ)) → in_bucket n (quote_key q % n) (named_key named) ≡ false → names_quote q named ≡ false
other_quote n q None late = refl
other_quote n q (Some id) late = no_name n (quote_key q) 81 id q (bytes_eq (printed 81 q) id) refl refl late

other_room_by : (n a r : ℕ) (is : Bool) → (a == r) ≡ is → (room_key a % n == room_key r % n) ≡ false → is ≡ false
other_room_by n a r true same late = absurd (true≢false (sym (here n (room_key a) (room_key r) (ap room_key (eqb-true a r same))) ∙ late))
other_room_by n a r false same late = refl

other_room : (n a r : ℕ) → in_bucket n (room_key r % n) (Some (room_key a)) ≡ false → (a == r) ≡ false
other_room n a r late = other_room_by n a r (a == r) refl late

asked_late : (n r : ℕ) (named : Option (List ℕ)) (w : What) → in_bucket n (room_key r % n) (by_room named w) ≡ false → is_asked_in r w ≡ false
asked_late n r named (what.Entered x) late = refl
asked_late n r named (what.TooRecent x) late = refl
asked_late n r named (what.Filled x) late = refl
asked_late n r named (what.Cancelled x) late = refl
asked_late n r named (what.Replaced x) late = refl
asked_late n r named (what.Asked x) late = other_room n x.room r late
asked_late n r named (what.Quoted x) late = refl
asked_late n r named (what.Withdrawn x) late = refl
asked_late n r named what.Passed late = refl
asked_late n r named (what.Traded x) late = refl
asked_late n r named (what.Refused x) late = refl

quotes_late : (n r : ℕ) (named : Option (List ℕ)) (w : What) → in_bucket n (room_key r % n) (by_room named w) ≡ false → (is_quoted w && names_room r named) ≡ false
quotes_late n r named (what.Entered x) late = refl
quotes_late n r named (what.TooRecent x) late = refl
quotes_late n r named (what.Filled x) late = refl
quotes_late n r named (what.Cancelled x) late = refl
quotes_late n r named (what.Replaced x) late = refl
quotes_late n r named (what.Asked x) late = refl
quotes_late n r named (what.Quoted x) late = other_name n r named late
quotes_late n r named (what.Withdrawn x) late = refl
quotes_late n r named what.Passed late = refl
quotes_late n r named (what.Traded x) late = refl
quotes_late n r named (what.Refused x) late = refl

traded_late : (n r : ℕ) (named : Option (List ℕ)) (w : What) → in_bucket n (room_key r % n) (by_room named w) ≡ false → if_traded r w ≡ None
traded_late n r named (what.Entered x) late = refl
traded_late n r named (what.TooRecent x) late = refl
traded_late n r named (what.Filled x) late = refl
traded_late n r named (what.Cancelled x) late = refl
traded_late n r named (what.Replaced x) late = refl
traded_late n r named (what.Asked x) late = refl
traded_late n r named (what.Quoted x) late = refl
traded_late n r named (what.Withdrawn x) late = refl
traded_late n r named what.Passed late = refl
traded_late n r named (what.Traded x) late = rw (other_room n x.room r late) refl
traded_late n r named (what.Refused x) late = refl

not_both : (a b c : Bool) (fate : Fate) → c ≡ false → (if a && (b && c) then Some fate else None) ≡ None
not_both true true c fate h = rw h refl
not_both true false c fate h = refl
not_both false b c fate h = refl

decided_late : (n : ℕ) (q : Quoted) (o : Origin) (w : What) → in_bucket n (room_key q.room % n) (by_room o.named w) ≡ false → decided q o w ≡ None
decided_late n q o (what.Entered x) late = refl
decided_late n q o (what.TooRecent x) late = refl
decided_late n q o (what.Filled x) late = refl
decided_late n q o (what.Cancelled x) late = refl
decided_late n q o (what.Replaced x) late = refl
decided_late n q o (what.Asked x) late = refl
decided_late n q o (what.Quoted x) late = not_both (nat_lt q.quote x.quote) (o.from == q.from) (names_room q.room o.named) (fate.Replaced x.quote) (other_name n q.room o.named late)
decided_late n q o (what.Withdrawn x) late = refl
decided_late n q o what.Passed late = refl
decided_late n q o (what.Traded x) late = rw (other_room n x.room q.room late) refl
decided_late n q o (what.Refused x) late = refl

ended_late : (n : ℕ) (q : Quoted) (o : Origin) (w : What) → in_bucket n (quote_key q.quote % n) (by_quote o.named w) ≡ false → ended q o w ≡ None
ended_late n q o (what.Entered x) late = refl
ended_late n q o (what.TooRecent x) late = refl
ended_late n q o (what.Filled x) late = refl
ended_late n q o (what.Cancelled x) late = refl
ended_late n q o (what.Replaced x) late = refl
ended_late n q o (what.Asked x) late = refl
ended_late n q o (what.Quoted x) late = refl
ended_late n q o (what.Withdrawn id) late = rw (other_quote n q.quote id late) refl
ended_late n q o what.Passed late = rw (other_quote n q.quote o.named late) refl
ended_late n q o (what.Traded x) late = refl
ended_late n q o (what.Refused x) late = refl

-- what was refused, by what it names

no_id : (n : ℕ) (id named : List ℕ) (is : Bool) → bytes_eq id named ≡ is → (name_key named % n == name_key id % n) ≡ false → is ≡ false
no_id n id named true same late = absurd (true≢false (sym (here n (name_key named) (name_key id) (ap name_key (sym ((bytes_eq-Decides id named).0 same)))) ∙ late))
no_id n id named false same late = refl

other_id : (n : ℕ) (id : List ℕ) (named : Option (List ℕ)) → in_bucket n (name_key id % n) (named_key named) ≡ false → is_name id named ≡ false
other_id n id None late = refl
other_id n id (Some x) late = no_id n id x (bytes_eq id x) refl late

not_all : (a b : Bool) → b ≡ false → (a && b) ≡ false
not_all true b h = h
not_all false b h = refl

refused_late : (n : ℕ) (id : List ℕ) (later : Bool) (own named : Option (List ℕ)) (w : What) → in_bucket n (name_key id % n) (by_room named w) ≡ false → (is_refused w && (later && (is_some own && is_name id named))) ≡ false
refused_late n id later own named (what.Entered x) late = refl
refused_late n id later own named (what.TooRecent x) late = refl
refused_late n id later own named (what.Filled x) late = refl
refused_late n id later own named (what.Cancelled x) late = refl
refused_late n id later own named (what.Replaced x) late = refl
refused_late n id later own named (what.Asked x) late = refl
refused_late n id later own named (what.Quoted x) late = refl
refused_late n id later own named (what.Withdrawn x) late = refl
refused_late n id later own named what.Passed late = refl
refused_late n id later own named (what.Traded x) late = refl
refused_late n id later own named (what.Refused x) late = not_all later (is_some own && is_name id named) (not_all (is_some own) (is_name id named) (other_id n id named late))

pub refused_found : (n row : ℕ) (id : List ℕ) (es said : List Event) → said ≡ filter (λ x. in_bucket n (name_key id % n) (key_of by.Room x)) es → refused_of row id said ≡ refused_of row id es
refused_found n row id es said is =
    ap (refused_of row id) is ∙ skipped (refuses row id) (λ x. in_bucket n (name_key id % n) (key_of by.Room x)) (λ x late. refused_late n id (nat_lt row x.at.row) x.at.own x.at.named x.what late) es

bucket_covers : (n r : ℕ) → Covers r (λ e. in_bucket n (room_key r % n) (key_of by.Room e))
bucket_covers n r = record {
  asked = λ e late. asked_late n r e.at.named e.what late;
  quotes = λ e late. quotes_late n r e.at.named e.what late;
  untraded = λ e late. traded_late n r e.at.named e.what late;
  undecided = λ q e is late. decided_late n q e.at e.what (subst (λ (m : ℕ). in_bucket n (room_key m % n) (key_of by.Room e) ≡ false) (sym is) late);
}

-- a request, by the bucket of its room
pub request_found : (file : ParticipantFile) (s : Sheet) (n : ℕ) (es said : List Event) (e : Event) (r : NewRequest) → said ≡ filter (λ x. in_bucket n (room_key r.room % n) (key_of by.Room x)) es
    → request_parts file s said e r ≡ request_parts file s es e r
request_found file s n es said e r is =
    ap (λ (l : List Event). request_parts file s l e r) is ∙ same_request file s es e r (λ x. in_bucket n (room_key r.room % n) (key_of by.Room x)) (bucket_covers n r.room)

-- its trade
pub trade_found : (n r : ℕ) (es said : List Event) → said ≡ filter (λ x. in_bucket n (room_key r % n) (key_of by.Room x)) es → trade_in r said ≡ trade_in r es
trade_found n r es said is = ap (trade_in r) is ∙ same_trade r (λ x. in_bucket n (room_key r % n) (key_of by.Room x)) (bucket_covers n r) es

-- what became of a quote, by the bucket of those that were withdrawn or passed
pub outcome_found : (q : Quoted) (last : Option ℕ) (n : ℕ) (said es ends : List Event) → ends ≡ filter (λ x. in_bucket n (quote_key q.quote % n) (key_of by.Quote x)) es
    → outcome_of q last said ends ≡ outcome_of q last said es
outcome_found q last n said es ends is =
    ap (λ (f : Option Fate). first_or f (in_room q last said))
    (ap (end_in q) is ∙ same_end q (λ x. in_bucket n (quote_key q.quote % n) (key_of by.Quote x)) (λ x late. ended_late n q x.at x.what late) es)

-- and until when it was live
pub until_found : (q : Quoted) (last : Option ℕ) (n : ℕ) (said es ends : List Event) → ends ≡ filter (λ x. in_bucket n (quote_key q.quote % n) (key_of by.Quote x)) es
    → live_until q last said ends ≡ live_until q last said es
until_found q last n said es ends is =
    ap (λ (o : Option ℕ). moment_or o (capped q.end (or_last (room_moment q said) last)))
    (ap (end_moment q) is ∙ same_end_moment q (λ x. in_bucket n (quote_key q.quote % n) (key_of by.Quote x)) (λ x late. ended_late n q x.at x.what late) es)
