-- What a gate answered, the first answer first.
use Rattle.std.specs.Prelude.{Bool, List, [], ◌∷◌, ◌++◌}
use Rattle.tcp_line.specs.declared.passed.Passed.{Passed}
use Rattle.tcp_line.specs.declared.passed.Passed.TheBlock.{Nothing, Then'}

abbrev pub answers : Passed → List Bool
answers Nothing = []
answers (Then' last marker earlier) = answers earlier ++ last ∷ []
