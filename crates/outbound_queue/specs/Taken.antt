-- Inputs taken from a participant.
use Rattle.std.specs.Prelude.{ℕ, ◌==◌, List, [], ◌∷◌, if◌then◌else◌}
use Rattle.fix_dictionary.specs.declared.messages.Item.{Item}
use Rattle.venue_rules.specs.Run.{Input, Message, Tick}

-- the items taken from one participant, in order
abbrev pub items_from : ℕ → List Input → List Item
items_from who [] = []
items_from who (Message taken t ∷ is) = if taken.from == who then taken.item ∷ items_from who is else items_from who is
items_from who (Tick t ∷ is) = items_from who is
