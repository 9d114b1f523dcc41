-- What words on the command line spell.
use Rattle.std.specs.Prelude.{ℕ, List, Option, Some, None, if◌then◌else◌}
use Rattle.sef_moment.specs.Utc.{moment_of}
use Rattle.sef_moment.specs.UtcTest.{is_utc}

-- the moment that a text spells as a message does, if it does
abbrev pub moment_spelled : List ℕ → Option ℕ
moment_spelled text = if is_utc text then Some (moment_of text) else None
