-- Identifiers as participants use them: by the participant's place, and then by their bytes.
use Rattle.std.specs.Prelude.{ℕ, List}
use Rattle.std.specs.Ordering.{nat_cmp, ordering_then}
use Rattle.std.specs.declared.cmp.Ordering.{Ordering}
use Rattle.participant_activity.specs.Kept.{name_cmp}
use Rattle.participant_activity.specs.Noting.{named}
use Rattle.surveillance.specs.declared.own_name.OwnName.{OwnName}

abbrev pub own : ℕ → List ℕ → OwnName
own who id = record { who = who; name = named id }

abbrev pub own_cmp : OwnName → OwnName → Ordering
own_cmp a b = ordering_then (nat_cmp a.who b.who) (name_cmp a.name b.name)
