-- The count of messages received, as it rises.
use Rattle.std.proofs.Common.{◌≡◌, ◌+◌, ◌≤◌, ◌<◌, ℕ, List, [], ◌++◌, length, take, get_or, sym, ap, ◌∙◌, arith, subst, All, append-nil, append_assoc}
use Rattle.std.proofs.lemmas.List.{take_all, take_more}
use Rattle.std.proofs.lemmas.List.Elements.{All-push}
use Rattle.std.proofs.lemmas.List.Sums.{sum_by-append}
use Rattle.fix_dictionary.specs.declared.messages.Message.{Message}
use Rattle.sef_client.specs.declared.script.ScriptStep.{ScriptStep}
use Rattle.sef_client.specs.declared.script.ScriptStep.TheVariants as steps
use Rattle.sef_client.specs.Heard.{AreAwaited, Grows, IsAwaited, applications}

pub grows_here : (h : List Message) → Grows h h
grows_here h = ([], sym (append-nil h))

pub grows_then : (a b c : List Message) → Grows a b → Grows b c → Grows a c
grows_then a b c g k = (g.0 ++ k.0, k.1 ∙ ap (λ (x : List Message). x ++ k.0) g.1 ∙ append_assoc a g.0 k.0)

applications_grow : (old new : List Message) → Grows old new → applications old ≤ applications new
applications_grow old new g =
    let e : applications (old ++ g.0) ≡ applications old + applications g.0 = sum_by-append _ old g.0 in
    let f : applications new ≡ applications (old ++ g.0) = ap applications g.1 in
    omega (arith, e, f)

more_awaited : (m n : ℕ) (step : ScriptStep) → m ≤ n → IsAwaited m step → IsAwaited n step
more_awaited m n steps.Logon le h = h
more_awaited m n (steps.Send app) le h = h
more_awaited m n (steps.Await count) le h = omega (arith, le, h)
more_awaited m n steps.Break le h = h
more_awaited m n steps.Logout le h = h

-- what was waited for is there when more was received
pub awaited_grown : (old new : List Message) (count : ℕ) (script : List ScriptStep) → Grows old new → AreAwaited (applications old) count script → AreAwaited (applications new) count script
awaited_grown old new count script g all = λ k d inside. more_awaited (applications old) (applications new) _ (applications_grow old new g) (all k d inside)

-- one step further
pub awaited_next : (heard count : ℕ) (script : List ScriptStep) (step : ScriptStep) → count < length script → AreAwaited heard count script → IsAwaited heard (get_or script count step) → AreAwaited heard (count + 1) script
awaited_next heard count script step inside all next =
    subst (All (IsAwaited heard)) (sym (take_more script count step inside)) (All-push (IsAwaited heard) (take count script) (get_or script count step) all next)

-- where all steps are done
pub all_awaited : (heard count : ℕ) (script : List ScriptStep) → length script ≤ count → AreAwaited heard count script → All (IsAwaited heard) script
all_awaited heard count script reached all = subst (All (IsAwaited heard)) (take_all count script reached) all

-- a turn in which nothing was received at first, and then more
pub awaited_still : (before between after : List Message) (count : ℕ) (script script' : List ScriptStep)
    → between ≡ before → Grows between after → script ≡ script' → AreAwaited (applications before) count script → AreAwaited (applications after) count script'
awaited_still before between after count script script' same grown is all =
    let grows : Grows before after = (grown.0, grown.1 ∙ ap (λ (x : List Message). x ++ grown.0) same) in
    let one : AreAwaited (applications after) count script = awaited_grown before after count script grows all in
    subst (AreAwaited (applications after) count) is one
