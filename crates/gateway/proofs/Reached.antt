-- The state once both boards are closed.
use Rattle.std.proofs.Common.{◌≡◌, ℕ, List, [], ◌∷◌, ◌++◌, map, Bool, true, false, refl, ap, sym, ◌∙◌, append_assoc, append-nil}
use Rattle.std.specs.Prelude.{Option, Some, slice_get}
use Rattle.std.specs.Option.{option_map}
use Rattle.std.proofs.lemmas.Option.{slice_get-map}
use Rattle.fix_session.specs.Sent.{numbered}
use Rattle.std.specs.Option.{option_to_list}
use Rattle.fix_dictionary.specs.declared.messages.App.{App}
use Rattle.fix_dictionary.specs.declared.messages.Item.{Item}
use Rattle.fix_session.specs.Reader.{Reader}
use Rattle.outbound_queue.specs.declared.outgoing.Outgoing.{Outgoing}
use Rattle.outbound_queue.specs.declared.outgoing.Outgoing.TheVariants.{Cut}
use Rattle.gateway.specs.Calls.{without_cuts}
use Rattle.gateway.specs.Closing.{Reached, IsTakenWhole}
use Rattle.outbound_queue.specs.Owed.{outgoing}
use Rattle.venue_worker.specs.Queued.{IsOwed}
use Rattle.gateway.specs.Thread.{Thread}
use Rattle.gateway.specs.Whole.{HasLed, IsNew}
use Rattle.gateway.proofs.Ties.{without_cuts-append}

without_cuts-outgoing : (apps : List App) → without_cuts (outgoing apps) ≡ apps
without_cuts-outgoing [] = refl
without_cuts-outgoing (x ∷ apps) = ap (λ (xs : List App). x ∷ xs) (without_cuts-outgoing apps)

-- what was given is what was taken, then what is left; so what was numbered and what is left make up what was given
whole : (numbered : List App) (given taken left waiting : List Outgoing) → numbered ≡ without_cuts taken → given ≡ taken ++ left → numbered ++ without_cuts (left ++ waiting) ≡ without_cuts (given ++ waiting)
whole numbered given taken left waiting is split =
    ap (λ (xs : List App). xs ++ without_cuts (left ++ waiting)) is
    ∙ sym (without_cuts-append taken (left ++ waiting))
    ∙ ap (λ (xs : List Outgoing). without_cuts xs) (sym (append_assoc taken left waiting))
    ∙ ap (λ (xs : List Outgoing). without_cuts (xs ++ waiting)) (sym split)

pub reached : (owed numbered : List App) (given taken left waiting : List Outgoing) (cut : Bool) → numbered ≡ without_cuts taken → given ≡ taken ++ left → IsOwed owed given waiting cut → Reached owed numbered left waiting cut
reached owed numbered given taken left waiting false is split out =
    whole numbered given taken left waiting is split ∙ ap (λ (xs : List Outgoing). without_cuts xs) out ∙ without_cuts-outgoing owed
reached owed numbered given taken left waiting true is split out =
    let first : List App = out.0 in
    let rest : List App = out.1 in
    let made : numbered ++ without_cuts (left ++ waiting) ≡ first =
    whole numbered given taken left waiting is split ∙ ap (λ (xs : List Outgoing). without_cuts xs) out.3
    ∙ without_cuts-append (outgoing first) (Cut ∷ []) ∙ append-nil (without_cuts (outgoing first)) ∙ without_cuts-outgoing first in
    (rest, ap (λ (xs : List App). xs ++ rest) made ∙ out.2)

pub taken_whole : (turns : ℕ) (start end : Thread) (passed passed' : List Bool) (emitted emitted' : List ℕ) (taken : List Item) (left : Option Item) →
    (led : HasLed turns start end passed passed' emitted emitted') → IsNew start → end.hand.given ≡ taken ++ option_to_list left → IsTakenWhole start led.turn_records end.session taken left
taken_whole turns start end passed passed' emitted emitted' taken left led new split = λ (r : Reader).
    sym (append_assoc taken (option_to_list left) end.session.ready)
    ∙ ap (λ (xs : List Item). xs ++ end.session.ready) (sym split)
    ∙ (led.spells r new).accepted

pub reached_there : (r : Reader) (turns : ℕ) (start end : Thread) (passed passed' : List Bool) (emitted emitted' : List ℕ) (owed : List App) (given waiting : List Outgoing) (left : Option Outgoing) (cut : Bool) →
    HasLed turns start end passed passed' emitted emitted' → IsNew start → given ≡ end.take.taken ++ option_to_list left → IsOwed owed given waiting cut → Reached owed (numbered end.session) (option_to_list left) waiting cut
reached_there r turns start end passed passed' emitted emitted' owed given waiting left cut led new split out =
    reached owed (numbered end.session) given end.take.taken (option_to_list left) waiting cut (led.spells r new).numbered split out

pub slice_map : {A B : Type 0} (f : A → B) (xs : List A) (k : ℕ) (x : A) → slice_get xs k ≡ Some x → slice_get (map f xs) k ≡ Some (f x)
slice_map {A} {B} f xs k x is = slice_get-map f xs k ∙ ap (λ (y : Option A). option_map f y) is
