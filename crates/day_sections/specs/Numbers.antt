-- The numbers of those whom events of a kind are of: their places plus 1, as rows have them.
use Rattle.std.specs.Prelude.{◌≡◌, ℕ, ◌+◌, ◌==◌, List, [], ◌∷◌, ◌++◌, count_by, Some, if◌then◌else◌}
use Rattle.day_events.specs.declared.event.Event.{Event}
use Rattle.day_sections.specs.Counts.{counts, is_counted, is_of_sender}
use Rattle.day_sections.specs.declared.counts.Kind.{Kind}
use Rattle.day_sections.specs.declared.counts.Kind.TheVariants as kind
use Rattle.day_sections.specs.declared.numbers.Numbers.{Numbers}

abbrev pub number_in : Kind → Event → ℕ
number_in k e = if is_of_sender k then e.at.from else e.to + 1

abbrev pub numbers_in : Kind → Event → List ℕ
numbers_in k e = if is_counted k e.what then number_in k e ∷ [] else []

-- each participant is among them as often as events of this kind are of it
abbrev pub AreOf : Kind → List Event → List ℕ → Type 0
AreOf k es ns = (p : ℕ) → count_by (λ n. n == p + 1) ns ≡ count_by (counts k (Some p)) es

pub record AreNumbers (es : List Event) (n : Numbers) : Type 0 where
  pub refused : AreOf kind.Refused es n.refused.items
  pub entered : AreOf kind.Entered es n.entered.items
  pub replaced : AreOf kind.Replaced es n.replaced.items
  pub cancelled : AreOf kind.Cancelled es n.cancelled.items
  pub asked : AreOf kind.Asked es n.asked.items
  pub quotes : AreOf kind.Quotes es n.quotes.items
  pub hits : AreOf kind.Hits es n.hits.items

-- an event is noted behind those before it
pub record IsNoted (e : Event) (old new : Numbers) : Type 0 where
  pub refused : new.refused.items ≡ old.refused.items ++ numbers_in kind.Refused e
  pub entered : new.entered.items ≡ old.entered.items ++ numbers_in kind.Entered e
  pub replaced : new.replaced.items ≡ old.replaced.items ++ numbers_in kind.Replaced e
  pub cancelled : new.cancelled.items ≡ old.cancelled.items ++ numbers_in kind.Cancelled e
  pub asked : new.asked.items ≡ old.asked.items ++ numbers_in kind.Asked e
  pub quotes : new.quotes.items ≡ old.quotes.items ++ numbers_in kind.Quotes e
  pub hits : new.hits.items ≡ old.hits.items ++ numbers_in kind.Hits e
