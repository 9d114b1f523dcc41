-- A committed plan answers an item.
use Rattle.std.proofs.Common.{◌≡◌, ℕ, ◌+◌, Bool, true, List, [], ◌∷◌, ◌++◌, sym, ap, ◌∙◌, Option, None, Result, Ok, Err}
use Rattle.std.specs.Prelude.{OnOk}
use Rattle.venue_rules.specs.declared.replies.Reply.{Reply}
use Rattle.venue_rules.specs.declared.trail.TrailRow.{TrailRow}
use Rattle.venue_rules.specs.Answer.{Answer}
use Rattle.venue_rules.specs.Run.{Input, row}
use Rattle.venue_core.specs.VenueFacts.{IsAfter, IsAnswer}
use Rattle.venue_core.specs.State.{State as Venue}
use Rattle.venue_core.specs.Taking.{IsSame, Takes}
use Rattle.venue_engine.specs.Outbox.{Waiting}
use Rattle.venue_engine.specs.Outbox.{first_behind, posted}
use Rattle.venue_engine.specs.Inner.{AreRows, IsPosted, StandsBehind}

abbrev pub TakesPlanned : Type 0
TakesPlanned = (i : Input) (s between s' : Venue) (a : Answer) → IsSame s between → IsAnswer s i a → s'.market ≡ between.market → IsAfter between a s' → Takes s i a s'

pub answered_by : {E : Type 0} (law : TakesPlanned) (result : Result (Unit {0}) E) (item : Input) (v between v' : Venue) (a : Answer) (replies : List Reply) (ws ws' : List Waiting) → IsSame v between → IsAnswer v item a → replies ≡ a.replies → None ≡ first_behind 0 replies ws
    → OnOk result (v'.market ≡ between.market) → OnOk result (IsAfter between a v') → OnOk result (ws' ≡ posted a.replies ws) → OnOk result (IsPosted item v v' ws ws')
answered_by law (Ok x) item v between v' a replies ws ws' same answers is none market goes queued = record {
  answer = a;
  takes = law item v between v' a same answers market goes;
  none_behind = ap (λ (l : List Reply). first_behind 0 l ws) (sym is) ∙ sym none;
  queued = queued;
}
answered_by law (Err x) item v between v' a replies ws ws' same answers is none market goes queued = tt

pub recorded_by : {E : Type 0} (result : Result (Unit {0}) E) (item : Input) (kept : TrailRow) (rows rows' : List TrailRow) (clean' : Bool) (count count' : ℕ) → kept ≡ row (count + 1) item
    → OnOk result (clean' ≡ true → rows' ≡ rows ++ kept ∷ []) → OnOk result (count' ≡ count + 1) → OnOk result (AreRows item rows rows' clean' count count')
recorded_by (Ok x) item kept rows rows' clean' count count' is recorded counted = ((λ clean. recorded clean ∙ ap (λ (r : TrailRow). rows ++ r ∷ []) is), counted)
recorded_by (Err x) item kept rows rows' clean' count count' is recorded counted = tt

pub behind_by : (item : Input) (v : Venue) (a : Answer) (replies : List Reply) (ws : List Waiting) (who : Option ℕ) → IsAnswer v item a → replies ≡ a.replies → who ≡ first_behind 0 replies ws → StandsBehind item v ws who
behind_by item v a replies ws who answers is e = record { answer = a; answers = answers; first = ap (λ (l : List Reply). first_behind 0 l ws) (sym is) ∙ sym e }
