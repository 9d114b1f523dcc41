-- Rows that are printed one after another.
use Rattle.std.proofs.Common.{◌≡◌, ℕ, ◌+◌, ◌<◌, inl, inr, ◌⊎◌, Bool, true, false, ◌||◌, ◌&&◌, not, List, [], ◌∷◌, ◌++◌, length, take, get_or, Option, None, Some, is_none, if◌then◌else◌, refl, sym, ap, ◌∙◌, subst, append_assoc, append-nil}
use Rattle.std.proofs.KnownBytes.{Appends-kept, Appends-trans, Keeps-trans}
use Rattle.std.proofs.lemmas.List.{take_more}
use Rattle.std.specs.Io.KnownBytes.{Appends, Keeps}
use Rattle.std.specs.List.{list_any}
use Rattle.participants.specs.ParticipantFile.{ParticipantFile}
use Rattle.venue_rules.specs.declared.replies.Reply.{Reply}
use Rattle.venue_rules.specs.declared.trail.TrailRow.{TrailRow}
use Rattle.venue_rules.specs.Answer.{Answer}
use Rattle.venue_rules.specs.Facts.{History, no_history}
use Rattle.venue_rules.specs.Market.{Market}
use Rattle.venue_rules.specs.Run.{Input, after, answer_input, run, run_from}
use Rattle.venue_core.specs.Replay.{AreEmitted, Emits}
use Rattle.venue_core.specs.VenueFacts.{IsAfter, IsAnswer, IsHistory}
use Rattle.venue_core.specs.State.{State}
use Rattle.venue_core.specs.Taking.{IsSame, Stands, Takes}
use Rattle.message_words.specs.declared.form.Form.{Form}
use Rattle.row_replay.specs.Laws.{AreTheirs}
use Rattle.trail_answers.specs.declared.fault.AnswersFault.{AnswersFault}
use Rattle.trail_answers.specs.declared.fault.AnswersFault.TheVariants.{Memory, Output, NoOrder, NoRoom}
use Rattle.trail_answers.specs.declared.scope.Scope.{Scope}
use Rattle.trail_answers.specs.Entries.{entries_text, heading}
use Rattle.trail_answers.specs.Emitted.{BeginsRows, HasNoOrder, HasNoRoom, IsEmittedOf, IsFailed, EmitsAnswers, EmitsRow, above, comes, emitted_at, emitted_from, emitted_on, is_nothing, none_text, or_none, seen_from, seen_on}
use Rattle.trail_answers.specs.Life.{Life, after_replies, after_reply, at_input, is_about, is_asked, life_after, with_reply}
use Rattle.trail_answers.specs.Sought.{Seen, is_order_there, is_room_there, is_row_sought, is_sender_sought, is_sought, is_there, seen_after, unseen}
use Rattle.trail_answers.specs.Talk.{Talk, opens, talk_after}

-- one row more
more_rows : (rs : List TrailRow) (is : List Input) (r : TrailRow) (i : Input) → AreEmitted rs is → Emits r i → AreEmitted (rs ++ r ∷ []) (is ++ i ∷ [])
more_rows [] [] r i emitted emits = (emits, tt)
more_rows [] (j ∷ is) r i emitted emits = absurd emitted
more_rows (x ∷ rs) [] r i emitted emits = absurd emitted
more_rows (x ∷ rs) (j ∷ is) r i emitted emits = (emitted.0, more_rows rs is r i emitted.1 emits)

seen_more : (m : Market) (scope : Scope) (known : Seen) (h : History) (is : List Input) (i : Input)
    → seen_from m scope known h (is ++ i ∷ []) ≡ seen_after scope (seen_from m scope known h is) i (answer_input m (run_from m h is).history i).replies
seen_more m scope known h [] i = refl
seen_more m scope known h (j ∷ is) i = seen_more m scope (seen_after scope known j (answer_input m h j).replies) (after h (answer_input m h j)) is i

text_more : (form : Form) (m : Market) (scope : Scope) (known : Seen) (h : History) (rs : List TrailRow) (is : List Input) (r : TrailRow) (i : Input) → AreEmitted rs is
    → emitted_from form m scope known h (rs ++ r ∷ []) (is ++ i ∷ [])
    ≡ emitted_from form m scope known h rs is
    ++ emitted_at form m.participants scope (seen_after scope (seen_from m scope known h is) i (answer_input m (run_from m h is).history i).replies) r i (answer_input m (run_from m h is).history i).replies
text_more form m scope known h [] [] r i emitted = append-nil (emitted_at form m.participants scope (seen_after scope known i (answer_input m h i).replies) r i (answer_input m h i).replies)
text_more form m scope known h [] (j ∷ is) r i emitted = absurd emitted
text_more form m scope known h (x ∷ rs) [] r i emitted = absurd emitted
text_more form m scope known h (x ∷ rs) (j ∷ is) r i emitted =
    let a = answer_input m h j in
    let next = seen_after scope known j a.replies in
    let here = emitted_at form m.participants scope next x j a.replies in
    let last = (answer_input m (run_from m (after h a) is).history i).replies in
    ap (λ (l : List ℕ). here ++ l) (text_more form m scope next (after h a) rs is r i emitted.1)
    ∙ sym (append_assoc here (emitted_from form m scope next (after h a) rs is) (emitted_at form m.participants scope (seen_after scope (seen_from m scope next (after h a) is) i last) r i last))

abbrev pub TakesOne : Type 0
TakesOne = (i : Input) (s between s' : State) (a : Answer) → IsSame s between → IsAnswer s i a → s'.market ≡ between.market → IsAfter between a s' → Takes s i a s'

-- a venue plans the input of a row, what it says is noted, the text of its replies is written, and it applies the plan
pub emits : TakesOne → (form : Form) (scope : Scope) (r : TrailRow) (i : Input) (s mid s' : State) (a : Answer) (replies : List Reply) (known knows : Seen) (now : Bool) (none : Bool) (text : List ℕ) (before after : Option (List ℕ))
    → Emits r i → IsSame s mid → IsAnswer s i a → s'.market ≡ mid.market → IsAfter mid a s' → replies ≡ a.replies → knows ≡ seen_after scope known i replies → now ≡ comes scope known knows
    → text ≡ above form now ++ emitted_at form s.market.participants scope knows r i replies → Appends before after text → none ≡ is_nothing text → EmitsRow form scope r none known knows s s' before after
emits law form scope r i s mid s' a replies known knows now none text held after item same own market goes said noted come is written silent = record {
  input = i;
  answer = a;
  emits = item;
  takes = law i s mid s' a same own market goes;
  seen = λ h stands. noted ∙ ap (seen_after scope known i) (answered h stands);
  written = λ h stands. subst (Appends held after) (printed h stands) written;
  nothing = λ h stands. silent ∙ ap is_nothing (printed h stands);
}
  where
    answered : (h : History) → IsHistory s h → replies ≡ (answer_input s.market h i).replies
    answered h stands = said ∙ ap (λ (x : Answer). x.replies) (own h stands)

    printed : (h : History) → IsHistory s h → text ≡ above form (comes scope known knows) ++ emitted_at form s.market.participants scope knows r i (answer_input s.market h i).replies
    printed h stands =
        is ∙ ap (λ (b : Bool). above form b ++ emitted_at form s.market.participants scope knows r i replies) come
        ∙ ap (λ (l : List Reply). above form (comes scope known knows) ++ emitted_at form s.market.participants scope knows r i l) (answered h stands)

-- What is there stays there.

reply_stays : (l : Life) (r : Reply) → l.there ≡ true → (after_reply l r).there ≡ true
reply_stays l r is = by (is_about l r)
  where
    by : (b : Bool) → (if b then with_reply l r else l).there ≡ true
    by true = refl
    by false = is

replies_stay : (l : Life) (rs : List Reply) → l.there ≡ true → (after_replies l rs).there ≡ true
replies_stay l [] is = is
replies_stay l (r ∷ rs) is = replies_stay (after_reply l r) rs (reply_stays l r is)

life_stays : (order : Option ℕ) (l : Life) (i : Input) (rs : List Reply) → l.there ≡ true → (life_after order l i rs).there ≡ true
life_stays None l i rs is = is
life_stays (Some number) l i rs is = replies_stay (at_input l i) rs (ap (λ (b : Bool). b || is_asked l i) is)

talk_stays : (room : Option ℕ) (t : Talk) (i : Input) (rs : List Reply) → t.opened ≡ true → (talk_after room t i rs).opened ≡ true
talk_stays None t i rs is = is
talk_stays (Some room) t i rs is = ap (λ (b : Bool). b || list_any (λ (r : Reply). opens room r.what) rs) is

and_true : (c d : Bool) → c ≡ true → d ≡ true → (c && d) ≡ true
and_true true true one two = refl
and_true true false one two = two
and_true false d one two = one

both : (a b c d : Bool) → (a ≡ true → c ≡ true) → (b ≡ true → d ≡ true) → (a && b) ≡ true → (c && d) ≡ true
both true true c d one two is = and_true c d (one refl) (two refl)
both true false c d one two is = absurd (cc)
both false b c d one two is = absurd (cc)

or_stays : (n a b : Bool) → (a ≡ true → b ≡ true) → (n || a) ≡ true → (n || b) ≡ true
or_stays true a b so is = refl
or_stays false a b so is = so is

stays_there : (scope : Scope) (known : Seen) (i : Input) (rs : List Reply) → is_there scope known ≡ true → is_there scope (seen_after scope known i rs) ≡ true
stays_there scope known i rs is = both (is_order_there scope known) (is_room_there scope known) (is_order_there scope (seen_after scope known i rs)) (is_room_there scope (seen_after scope known i rs))
    (or_stays (is_none scope.order) known.life.there (life_after scope.order known.life i rs).there (life_stays scope.order known.life i rs))
    (or_stays (is_none scope.room) known.talk.opened (talk_after scope.room known.talk i rs).opened (talk_stays scope.room known.talk i rs))
    is

-- a row is not printed while what is sought is not there
not_sought : (scope : Scope) (known : Seen) (r : TrailRow) → is_there scope known ≡ false → is_sought scope known r ≡ false
not_sought scope known r none = by (is_row_sought scope.rows r.n) (is_sender_sought scope.from r.who) (is_none scope.order || known.life.here) (is_none scope.room || known.talk.here) (is_there scope known) none
  where
    by : (a b c d e : Bool) → e ≡ false → (a && (b && (c && (d && e)))) ≡ false
    by false b c d e none = refl
    by true false c d e none = refl
    by true true false d e none = refl
    by true true true false e none = refl
    by true true true true e none = none

no_text : (form : Form) (file : ParticipantFile) (scope : Scope) (known : Seen) (r : TrailRow) (i : Input) (replies : List Reply) → is_there scope known ≡ false → emitted_at form file scope known r i replies ≡ []
no_text form file scope known r i replies none = ap (λ (b : Bool). if b then entries_text form file scope.to r i replies else []) (not_sought scope known r none)

-- the text so far, and that of a row: the names of the fields come once
joined : (form : Form) (was is : Bool) (text row : List ℕ) → (was ≡ true → is ≡ true) → (was ≡ false → text ≡ []) → (is ≡ false → row ≡ [])
    → (above form was ++ text) ++ (above form (is && not was) ++ row) ≡ above form is ++ (text ++ row)
joined form true true text row stays none silent = append_assoc (heading form) text row
joined form true false text row stays none silent = absurd (no_longer (stays refl))
  where
    no_longer : false ≡ true → ⊥
    no_longer e = absurd (cc)
joined form false true text row stays none silent = (λ k. none refl k ++ (heading form ++ row)) ∙ sym (λ k. heading form ++ (none refl k ++ row))
joined form false false text row stays none silent = refl

still_silent : (was is : Bool) (text row : List ℕ) → (was ≡ true → is ≡ true) → (was ≡ false → text ≡ []) → (is ≡ false → row ≡ []) → is ≡ false → text ++ row ≡ []
still_silent true true text row stays none silent never = absurd (cc)
still_silent true false text row stays none silent never = absurd (no_longer (stays refl))
  where
    no_longer : false ≡ true → ⊥
    no_longer e = absurd (cc)
still_silent false is text row stays none silent never = λ k. none refl k ++ silent never k

abbrev pub StandsOn : Type 0
StandsOn = (m : Market) (is : List Input) (i : Input) (s s' : State) (a : Answer) → Stands m is s → Takes s i a s' → Stands m (is ++ i ∷ []) s'

-- and for the market of a run
here_in : (form : Form) (m : Market) (scope : Scope) (r : TrailRow) (i : Input) (known knows : Seen) (h : History) (s : State) (mid after : Option (List ℕ)) → s.market ≡ m
    → knows ≡ seen_after scope known i (answer_input s.market h i).replies
    → Appends mid after (above form (comes scope known knows) ++ emitted_at form s.market.participants scope knows r i (answer_input s.market h i).replies)
    → (knows ≡ seen_after scope known i (answer_input m h i).replies)
    × Appends mid after (above form (comes scope known knows) ++ emitted_at form m.participants scope knows r i (answer_input m h i).replies)
here_in form m scope r i known knows h s mid after same noted written = (
  subst (λ (n : Market). knows ≡ seen_after scope known i (answer_input n h i).replies) same noted,
  subst (λ (n : Market). Appends mid after (above form (comes scope known knows) ++ emitted_at form n.participants scope knows r i (answer_input n h i).replies)) same written,
)

nothing_in_both : (xs ys : List ℕ) → (is_nothing xs && is_nothing ys) ≡ is_nothing (xs ++ ys)
nothing_in_both [] ys = refl
nothing_in_both (x ∷ xs) ys = refl

both_nothing : (a b c d : Bool) → a ≡ c → b ≡ d → (a && b) ≡ (c && d)
both_nothing a b c d one two = λ k. one k && two k

one_more : StandsOn → (form : Form) (m : Market) (scope : Scope) (rs : List TrailRow) (r : TrailRow) (none silent : Bool) (known knows : Seen) (s s' : State) (before mid after : Option (List ℕ))
    → IsEmittedOf form m scope rs none known s before mid → EmitsRow form scope r silent known knows s s' mid after → IsEmittedOf form m scope (rs ++ r ∷ []) (none && silent) knows s' before after
one_more law form m scope rs r none silent known knows s s' before mid after so_far here =
    let h = (run m so_far.items).history in
    let i = here.input in
    let replies = (answer_input m h i).replies in
    let own = here_in form m scope r i known knows h s mid after so_far.stands.market (here.seen h so_far.stands.history) (here.written h so_far.stands.history) in
    let row = emitted_at form m.participants scope knows r i replies in
    let text = emitted_on form m scope rs so_far.items in
    let noted : knows ≡ seen_after scope (seen_on m scope so_far.items) i replies = own.0 ∙ ap (λ (k : Seen). seen_after scope k i replies) so_far.seen in
    let longer : emitted_on form m scope (rs ++ r ∷ []) (so_far.items ++ i ∷ []) ≡ text ++ row =
    text_more form m scope (unseen scope) no_history rs so_far.items r i so_far.emitted ∙ ap (λ (k : Seen). text ++ emitted_at form m.participants scope k r i replies) (sym noted) in
    let stays : is_there scope known ≡ true → is_there scope knows ≡ true = λ is. subst (λ (k : Seen). is_there scope k ≡ true) (sym own.0) (stays_there scope known i replies is) in
    let quiet : is_there scope knows ≡ false → row ≡ [] = no_text form m.participants scope knows r i replies in
    let said : silent ≡ is_nothing (above form (comes scope known knows) ++ row) =
    subst (λ (n : Market). silent ≡ is_nothing (above form (comes scope known knows) ++ emitted_at form n.participants scope knows r i (answer_input n h i).replies)) so_far.stands.market (here.nothing h so_far.stands.history) in
    record {
      items = so_far.items ++ i ∷ [];
      emitted = more_rows rs so_far.items r i so_far.emitted here.emits;
      stands = law m so_far.items i s s' here.answer so_far.stands here.takes;
      seen = noted ∙ sym (seen_more m scope (unseen scope) no_history so_far.items i);
      silent = λ never. longer ∙ still_silent (is_there scope known) (is_there scope knows) text row stays so_far.silent quiet never;
      written = subst (λ (l : List ℕ). Appends before after (above form (is_there scope knows) ++ l)) (sym longer)
          (subst (Appends before after) (joined form (is_there scope known) (is_there scope knows) text row stays so_far.silent quiet) (Appends-trans before mid after _ _ so_far.written own.1));
      nothing =
          both_nothing none silent _ _ so_far.nothing said
          ∙ nothing_in_both (above form (is_there scope known) ++ text) (above form (comes scope known knows) ++ row)
          ∙ ap is_nothing (joined form (is_there scope known) (is_there scope knows) text row stays so_far.silent quiet)
          ∙ ap (λ (l : List ℕ). is_nothing (above form (is_there scope knows) ++ l)) (sym longer);
    }

pub emitted_more : StandsOn → (form : Form) (m : Market) (scope : Scope) (rs : List TrailRow) (k : ℕ) (r : TrailRow) (none silent both : Bool) (known knows : Seen) (s s' : State) (before mid after : Option (List ℕ)) → k < length rs → r ≡ get_or rs k r → both ≡ (none && silent)
    → IsEmittedOf form m scope (take k rs) none known s before mid → EmitsRow form scope r silent known knows s s' mid after → IsEmittedOf form m scope (take (k + 1) rs) both knows s' before after
emitted_more law form m scope rs k r none silent both known knows s s' before mid after low at_k is so_far here =
    let longer : take (k + 1) rs ≡ take k rs ++ r ∷ [] = take_more rs k r low ∙ ap (λ (x : TrailRow). take k rs ++ x ∷ []) (sym at_k) in
    subst (λ (b : Bool). IsEmittedOf form m scope (take (k + 1) rs) b knows s' before after) (sym is)
    (subst (λ (l : List TrailRow). IsEmittedOf form m scope l (none && silent) knows s' before after) (sym longer) (one_more law form m scope (take k rs) r none silent known knows s s' before mid after so_far here))

-- before the first
pub emitted_nothing : (form : Form) (scope : Scope) (s : State) (none : Bool) (known : Seen) (there : Bool) (before after : Option (List ℕ)) → IsHistory s no_history → known ≡ unseen scope → there ≡ is_there scope known → Appends before after (above form there) → none ≡ is_nothing (above form there)
    → IsEmittedOf form s.market scope [] none known s before after
emitted_nothing form scope s none known there before after fresh noted is written silent = record {
  items = [];
  emitted = tt;
  stands = record { market = refl; history = fresh };
  seen = noted;
  silent = λ _. refl;
  written = subst (Appends before after) (ap (above form) is ∙ sym (append-nil (above form (is_there scope known)))) written;
  nothing = silent ∙ ap is_nothing (ap (above form) is ∙ sym (append-nil (above form (is_there scope known))));
}

nothing_appended : (before after : Option (List ℕ)) (text : List ℕ) → text ≡ [] → Appends before after text → Keeps before after
nothing_appended None after text none written = tt
nothing_appended (Some xs) None text none written = absurd written
nothing_appended (Some xs) (Some ys) text none written = written ∙ ap (λ (l : List ℕ). xs ++ l) none ∙ append-nil xs

-- an allocation fails at a row
pub begins : (form : Form) (m : Market) (scope : Scope) (rs : List TrailRow) (k : ℕ) (none : Bool) (known : Seen) (s : State) (before mid after : Option (List ℕ)) → k < length rs → IsEmittedOf form m scope (take k rs) none known s before mid → Keeps mid after
    → Keeps before after ⊎ BeginsRows form m scope rs before after
begins form m scope rs k none known s before mid after low so_far kept = by (is_there scope known) so_far.silent so_far.written
  where
    by : (b : Bool) → (b ≡ false → emitted_on form m scope (take k rs) so_far.items ≡ []) → Appends before mid (above form b ++ emitted_on form m scope (take k rs) so_far.items) → Keeps before after ⊎ BeginsRows form m scope rs before after
    by true silent written = inr (record { count = k; few = low; items = so_far.items; emitted = so_far.emitted; written = Appends-kept before mid after _ written kept })
    by false silent written = inl (Keeps-trans before mid after (nothing_appended before mid _ (silent refl) written) kept)

there_on : (scope : Scope) (known knows : Seen) (b : Bool) → known ≡ knows → is_there scope known ≡ b → is_there scope knows ≡ b
there_on scope known knows b same is = subst (λ (k : Seen). is_there scope k ≡ b) same is

pub emits_all : AreTheirs → (form : Form) (m : Market) (scope : Scope) (rs : List TrailRow) (none : Bool) (known : Seen) (s : State) (before mid after : Option (List ℕ)) → IsEmittedOf form m scope rs none known s before mid → is_there scope known ≡ true
    → Appends mid after (none_text form none) → EmitsAnswers form m scope rs before after
emits_all law form m scope rs none known s before mid after done is last = record {
  items = done.items;
  emitted = law rs done.items done.emitted;
  there = there_on scope known (seen_on m scope done.items) true done.seen is;
  written = subst (λ (b : Bool). Appends before after (or_none form (above form b ++ emitted_on form m scope rs done.items))) is
      (Appends-trans before mid after _ _ done.written (subst (λ (b : Bool). Appends mid after (none_text form b)) done.nothing last));
}

-- the order is not there
pub no_order : AreTheirs → (form : Form) (m : Market) (scope : Scope) (rs : List TrailRow) (none : Bool) (known : Seen) (s : State) (before after : Option (List ℕ)) → IsEmittedOf form m scope rs none known s before after → is_order_there scope known ≡ false
    → HasNoOrder m scope rs
no_order law form m scope rs silent known s before after done none = record {
  items = done.items;
  emitted = law rs done.items done.emitted;
  none = subst (λ (k : Seen). is_order_there scope k ≡ false) done.seen none;
}

-- or the room
pub no_room : AreTheirs → (form : Form) (m : Market) (scope : Scope) (rs : List TrailRow) (none : Bool) (known : Seen) (s : State) (before after : Option (List ℕ)) → IsEmittedOf form m scope rs none known s before after → is_room_there scope known ≡ false
    → HasNoRoom m scope rs
no_room law form m scope rs silent known s before after done none = record {
  items = done.items;
  emitted = law rs done.items done.emitted;
  none = subst (λ (k : Seen). is_room_there scope k ≡ false) done.seen none;
}

pub nothing_there : (form : Form) (m : Market) (scope : Scope) (rs : List TrailRow) (none : Bool) (known : Seen) (s : State) (before after : Option (List ℕ)) → IsEmittedOf form m scope rs none known s before after → is_there scope known ≡ false
    → Keeps before after
nothing_there form m scope rs silent known s before after done none = nothing_appended before after _ (done.silent none) (subst (λ (b : Bool). Appends before after (above form b ++ emitted_on form m scope rs done.items)) none done.written)

-- what failed is not that it is not there
pub never_none : {R : Type 0} (fault : AnswersFault) → IsFailed fault → fault ≡ NoOrder → R
never_none Memory failed is = absurd (cc)
never_none Output failed is = absurd (cc)
never_none NoOrder failed is = absurd failed
never_none NoRoom failed is = absurd failed

pub never_roomless : {R : Type 0} (fault : AnswersFault) → IsFailed fault → fault ≡ NoRoom → R
never_roomless Memory failed is = absurd (cc)
never_roomless Output failed is = absurd (cc)
never_roomless NoOrder failed is = absurd failed
never_roomless NoRoom failed is = absurd failed

-- what is not there is no failure
pub not_memory : {R : Type 0} (fault : AnswersFault) → (IsFailed fault → ⊥) → fault ≡ Memory → R
not_memory Memory never is = absurd (never tt)
not_memory Output never is = absurd (cc)
not_memory NoOrder never is = absurd (cc)
not_memory NoRoom never is = absurd (cc)

-- nor is a write that failed one of memory, or of what is not there

pub not_for_memory : {R : Type 0} (fault : AnswersFault) → fault ≡ Output → fault ≡ Memory → R
not_for_memory fault is held = absurd (cc)

pub not_for_order : {R : Type 0} (fault : AnswersFault) → fault ≡ Output → fault ≡ NoOrder → R
not_for_order fault is held = absurd (cc)

pub not_for_room : {R : Type 0} (fault : AnswersFault) → fault ≡ Output → fault ≡ NoRoom → R
not_for_room fault is held = absurd (cc)
