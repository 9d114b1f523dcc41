-- What became of a quote, by the steps of rooms.
use Rattle.std.proofs.Common.{◌≡◌, refl, ap, ◌∙◌, ℕ, ◌==◌, ◌&&◌, ◌||◌, Bool, true, false, not, nat_lt, if◌then◌else◌, List, [], ◌∷◌, ◌++◌, Option, Some, None}
use Rattle.std.specs.List.{list_any}
use Rattle.day_events.specs.declared.event.Event.{Event}
use Rattle.day_events.specs.declared.event.Origin.{Origin}
use Rattle.day_events.specs.declared.event.What.{What}
use Rattle.day_events.specs.declared.event.What.TheVariants as what
use Rattle.request_sections.specs.declared.fate.Fate.{Fate}
use Rattle.request_sections.specs.declared.fate.Fate.TheVariants as fate
use Rattle.request_sections.specs.declared.fate.Quoted.{Quoted}
use Rattle.request_sections.specs.Fate.{at_end, decided, end_in, ended, first_or, in_room, in_time, names_quote, or_later, outcome_of}
use Rattle.request_sections.specs.Picks.{names_room}
use Rattle.quote_laws.specs.Outcomes.{is_gone}
use Rattle.quote_laws.proofs.Steps.{Step, Quotes, Ends, Trades, source_of, step_of, steps}

-- it is live, or was hit in a trade, or neither
pub data Became : Type 0 where
  Still : Became
  HitIn : ℕ → Became
  Over : Became

abbrev pub became : Fate → Became
became fate.Live = Still
became (fate.Hit n) = HitIn n
became (fate.Withdrawn n) = Over
became (fate.Passed n) = Over
became (fate.Replaced n) = Over
became fate.NotTaken = Over
became fate.RanOut = Over

abbrev pub decides : Quoted → Step → Option Became
decides q (Quotes n id from end) = if nat_lt q.quote n && (from == q.from && names_room q.room id) then Some Over else None
decides q (Ends id) = None
decides q (Trades n room id t) = if not (room == q.room) then None else (if names_quote q.quote id then (if nat_lt q.end t then Some Over else Some (HitIn n)) else Some Over)

abbrev pub or_then : Option Became → Became → Became
or_then (Some b) c = b
or_then None c = c

abbrev pub becomes : Quoted → Option ℕ → List Step → Became
becomes q last [] = became (at_end q last)
becomes q last (s ∷ ss) = or_then (decides q s) (becomes q last ss)

abbrev pub ends : Quoted → Step → Bool
ends q (Quotes n id from end) = false
ends q (Ends id) = names_quote q.quote id
ends q (Trades n room id t) = false

-- by its room

over_late : (c : Bool) (f g : Fate) → became g ≡ Over → became (first_or (if c then Some fate.RanOut else Some g) f) ≡ Over
over_late true f g e = refl
over_late false f g e = e

hit_late : (c : Bool) (n : ℕ) (f : Fate) (b : Became) → became (first_or (if c then Some fate.RanOut else Some (fate.Hit n)) f) ≡ or_then (if c then Some Over else Some (HitIn n)) b
hit_late true n f b = refl
hit_late false n f b = refl

traded_by : (q : Quoted) (t n : ℕ) (a b : Bool) (f : Fate) (g : Became) → became f ≡ g
    → became (first_or (in_time q t (if not a then None else (if b then Some (fate.Hit n) else Some fate.NotTaken))) f) ≡ or_then (if not a then None else (if b then (if nat_lt q.end t then Some Over else Some (HitIn n)) else Some Over)) g
traded_by q t n false b f g e = e
traded_by q t n true true f g e = hit_late (nat_lt q.end t) n f g
traded_by q t n true false f g e = over_late (nat_lt q.end t) f fate.NotTaken refl

replaced_by : (q : Quoted) (t n : ℕ) (a : Bool) (f : Fate) (g : Became) → became f ≡ g
    → became (first_or (in_time q t (if a then Some (fate.Replaced n) else None)) f) ≡ or_then (if a then Some Over else None) g
replaced_by q t n false f g e = e
replaced_by q t n true f g e = over_late (nat_lt q.end t) f (fate.Replaced n) refl

one_in_room : (q : Quoted) (last : Option ℕ) (o : Origin) (w : What) (f : Fate) (ss : List Step) → became f ≡ becomes q last ss → became (first_or (in_time q o.moment (decided q o w)) f) ≡ becomes q last (step_of (source_of o) w ++ ss)
one_in_room q last o (what.Traded t) f ss e = traded_by q o.moment t.trade (t.room == q.room) (names_quote q.quote o.named) f (becomes q last ss) e
one_in_room q last o (what.Quoted n) f ss e = replaced_by q o.moment n.quote (nat_lt q.quote n.quote && (o.from == q.from && names_room q.room o.named)) f (becomes q last ss) e
one_in_room q last o (what.Entered x) f ss e = e
one_in_room q last o (what.TooRecent x) f ss e = e
one_in_room q last o (what.Filled x) f ss e = e
one_in_room q last o (what.Cancelled x) f ss e = e
one_in_room q last o (what.Replaced x) f ss e = e
one_in_room q last o (what.Asked x) f ss e = e
one_in_room q last o (what.Withdrawn x) f ss e = e
one_in_room q last o what.Passed f ss e = e
one_in_room q last o (what.Refused x) f ss e = e

by_room : (q : Quoted) (last : Option ℕ) (es : List Event) → became (in_room q last es) ≡ becomes q last (steps es)
by_room q last [] = refl
by_room q last (e ∷ es) = one_in_room q last e.at e.what (in_room q last es) (steps es) (by_room q last es)

-- by its end

withdrawn_by : (b c : Bool) (n : ℕ) (o : Option Fate) (f : Fate) (g : Became) → became (first_or o f) ≡ (if c then Over else g) → became (first_or (or_later (if b then Some (fate.Withdrawn n) else None) o) f) ≡ (if b || c then Over else g)
withdrawn_by true c n o f g e = refl
withdrawn_by false c n o f g e = e

passed_by : (b c : Bool) (n : ℕ) (o : Option Fate) (f : Fate) (g : Became) → became (first_or o f) ≡ (if c then Over else g) → became (first_or (or_later (if b then Some (fate.Passed n) else None) o) f) ≡ (if b || c then Over else g)
passed_by true c n o f g e = refl
passed_by false c n o f g e = e

one_end : (q : Quoted) (o : Origin) (w : What) (x : Option Fate) (f : Fate) (ss : List Step) → became (first_or x f) ≡ (if list_any (ends q) ss then Over else became f) → became (first_or (or_later (ended q o w) x) f) ≡ (if list_any (ends q) (step_of (source_of o) w ++ ss) then Over else became f)
one_end q o (what.Withdrawn id) x f ss e = withdrawn_by (names_quote q.quote id) (list_any (ends q) ss) o.row x f (became f) e
one_end q o what.Passed x f ss e = passed_by (names_quote q.quote o.named) (list_any (ends q) ss) o.row x f (became f) e
one_end q o (what.Traded t) x f ss e = e
one_end q o (what.Quoted n) x f ss e = e
one_end q o (what.Entered n) x f ss e = e
one_end q o (what.TooRecent n) x f ss e = e
one_end q o (what.Filled n) x f ss e = e
one_end q o (what.Cancelled n) x f ss e = e
one_end q o (what.Replaced n) x f ss e = e
one_end q o (what.Asked n) x f ss e = e
one_end q o (what.Refused n) x f ss e = e

by_end : (q : Quoted) (es : List Event) (f : Fate) → became (first_or (end_in q es) f) ≡ (if list_any (ends q) (steps es) then Over else became f)
by_end q [] f = refl
by_end q (e ∷ es) f = one_end q e.at e.what (end_in q es) f (steps es) (by_end q es f)

pub by_steps : (q : Quoted) (last : Option ℕ) (es : List Event) → became (outcome_of q last es es) ≡ (if list_any (ends q) (steps es) then Over else becomes q last (steps es))
by_steps q last es = by_end q es (in_room q last es) ∙ ap (λ g. if list_any (ends q) (steps es) then Over else g) (by_room q last es)

-- Withdrawn or passed.

late_not_gone : (c : Bool) (f g : Fate) → is_gone f ≡ false → is_gone (first_or (if c then Some fate.RanOut else Some f) g) ≡ false
late_not_gone true f g e = refl
late_not_gone false f g e = e

traded_not_gone : (q : Quoted) (t n : ℕ) (a b : Bool) (g : Fate) → is_gone g ≡ false → is_gone (first_or (in_time q t (if not a then None else (if b then Some (fate.Hit n) else Some fate.NotTaken))) g) ≡ false
traded_not_gone q t n false b g e = e
traded_not_gone q t n true true g e = late_not_gone (nat_lt q.end t) (fate.Hit n) g refl
traded_not_gone q t n true false g e = late_not_gone (nat_lt q.end t) fate.NotTaken g refl

replaced_not_gone : (q : Quoted) (t n : ℕ) (a : Bool) (g : Fate) → is_gone g ≡ false → is_gone (first_or (in_time q t (if a then Some (fate.Replaced n) else None)) g) ≡ false
replaced_not_gone q t n true g e = late_not_gone (nat_lt q.end t) (fate.Replaced n) g refl
replaced_not_gone q t n false g e = e

one_not_gone : (q : Quoted) (o : Origin) (w : What) (g : Fate) → is_gone g ≡ false → is_gone (first_or (in_time q o.moment (decided q o w)) g) ≡ false
one_not_gone q o (what.Traded t) g e = traded_not_gone q o.moment t.trade (t.room == q.room) (names_quote q.quote o.named) g e
one_not_gone q o (what.Quoted n) g e = replaced_not_gone q o.moment n.quote (nat_lt q.quote n.quote && (o.from == q.from && names_room q.room o.named)) g e
one_not_gone q o (what.Withdrawn id) g e = e
one_not_gone q o what.Passed g e = e
one_not_gone q o (what.Entered x) g e = e
one_not_gone q o (what.TooRecent x) g e = e
one_not_gone q o (what.Filled x) g e = e
one_not_gone q o (what.Cancelled x) g e = e
one_not_gone q o (what.Replaced x) g e = e
one_not_gone q o (what.Asked x) g e = e
one_not_gone q o (what.Refused x) g e = e

end_not_gone : (q : Quoted) (last : Option ℕ) → is_gone (at_end q last) ≡ false
end_not_gone q None = refl
end_not_gone q (Some t) = by (nat_lt q.end t)
  where
    by : (c : Bool) → is_gone (if c then fate.RanOut else fate.Live) ≡ false
    by true = refl
    by false = refl

room_not_gone : (q : Quoted) (last : Option ℕ) (es : List Event) → is_gone (in_room q last es) ≡ false
room_not_gone q last [] = end_not_gone q last
room_not_gone q last (e ∷ es) = one_not_gone q e.at e.what (in_room q last es) (room_not_gone q last es)

gone_by : (b c : Bool) (g : Fate) (o : Option Fate) (f : Fate) → is_gone g ≡ true → is_gone (first_or o f) ≡ c → is_gone (first_or (or_later (if b then Some g else None) o) f) ≡ (b || c)
gone_by true c g o f e k = e
gone_by false c g o f e k = k

one_gone : (q : Quoted) (o : Origin) (w : What) (x : Option Fate) (f : Fate) (ss : List Step) → is_gone (first_or x f) ≡ list_any (ends q) ss → is_gone (first_or (or_later (ended q o w) x) f) ≡ list_any (ends q) (step_of (source_of o) w ++ ss)
one_gone q o (what.Withdrawn id) x f ss e = gone_by (names_quote q.quote id) (list_any (ends q) ss) (fate.Withdrawn o.row) x f refl e
one_gone q o what.Passed x f ss e = gone_by (names_quote q.quote o.named) (list_any (ends q) ss) (fate.Passed o.row) x f refl e
one_gone q o (what.Traded t) x f ss e = e
one_gone q o (what.Quoted n) x f ss e = e
one_gone q o (what.Entered n) x f ss e = e
one_gone q o (what.TooRecent n) x f ss e = e
one_gone q o (what.Filled n) x f ss e = e
one_gone q o (what.Cancelled n) x f ss e = e
one_gone q o (what.Replaced n) x f ss e = e
one_gone q o (what.Asked n) x f ss e = e
one_gone q o (what.Refused n) x f ss e = e

gone_in : (q : Quoted) (es : List Event) (f : Fate) → is_gone f ≡ false → is_gone (first_or (end_in q es) f) ≡ list_any (ends q) (steps es)
gone_in q [] f e = e
gone_in q (x ∷ es) f e = one_gone q x.at x.what (end_in q es) f (steps es) (gone_in q es f e)

pub gone_by_steps : (q : Quoted) (last : Option ℕ) (es : List Event) → is_gone (outcome_of q last es es) ≡ list_any (ends q) (steps es)
gone_by_steps q last es = gone_in q es (in_room q last es) (room_not_gone q last es)
