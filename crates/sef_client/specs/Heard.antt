-- Messages received.
use Rattle.std.specs.Prelude.{◌≡◌, ◌≤◌, ◌++◌, ℕ, Bool, true, false, List, All, take}
use Rattle.std.specs.List.{count_by}
use Rattle.fix_dictionary.specs.declared.messages.Body.{Body}
use Rattle.fix_dictionary.specs.declared.messages.Body.TheVariants as bodies
use Rattle.fix_dictionary.specs.declared.messages.Message.{Message}
use Rattle.sef_client.specs.declared.script.ScriptStep.{ScriptStep}
use Rattle.sef_client.specs.declared.script.ScriptStep.TheVariants as steps

abbrev pub is_app_body : Body → Bool
is_app_body (bodies.App app) = true
is_app_body (bodies.Admin m) = false

-- no session message
abbrev pub is_application : Message → Bool
is_application m = is_app_body m.body

-- the count of application messages received
abbrev pub applications : List Message → ℕ
applications heard = count_by is_application heard

-- what a step waits for was received, with this count of application messages
abbrev pub IsAwaited : ℕ → ScriptStep → Type 0
IsAwaited heard (steps.Await count) = count ≤ heard
IsAwaited heard step = Unit {0}

-- the same of the first `count` steps
abbrev pub AreAwaited : ℕ → ℕ → List ScriptStep → Type 0
AreAwaited heard count script = All (IsAwaited heard) (take count script)

-- no message received is lost
abbrev pub Grows : List Message → List Message → Type 0
Grows old new = (more : List Message) × (new ≡ old ++ more)
