use Rattle.std.specs.Prelude.{List, [], ◌∷◌, ◌++◌}
use Rattle.ghost_history.specs.declared.past.Past.{Past}
use Rattle.ghost_history.specs.declared.past.Past.TheBlock.{Nothing, Then', Joined'}

-- the entries, the first one first
abbrev pub entries : {T : Type 0} → Past T → List T
entries Nothing = []
entries (Then' last b earlier) = entries earlier ++ last.value ∷ []
entries (Joined' more b earlier) = entries earlier ++ more.value.items
