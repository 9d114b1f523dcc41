-- The front of a queue goes to a reply seat, or back.
use Rattle.std.proofs.Common.{◌≡◌, ◌⊎◌, inl, inr, ℕ, ◌*◌, ◌<◌, true, false, List, [], ◌∷◌, ◌++◌, length, length-set, set, refl, sym, ap, ◌∙◌, subst}
use Rattle.std.specs.Prelude.{slice_get, Some, None}
use Rattle.intake_seats.specs.Given.{HandEnd}
use Rattle.intake_seats.specs.Ends.{IsShut}
use Rattle.outbound_queue.specs.declared.outgoing.Outgoing.{Outgoing}
use Rattle.outbound_queue.specs.declared.queue.Queue.{Queue}
use Rattle.venue_engine.specs.Ledger.{Ledger}
use Rattle.venue_engine.specs.Queued.{HasPlace}
use Rattle.venue_engine.specs.Step.{IsFront, IsPutBack, with_queue}
use Rattle.venue_worker.specs.Calls.{MovesFront}
use Rattle.venue_worker.proofs.Lists.{below_at, get_set, set_set}

abbrev pub IsSameHand : HandEnd Outgoing → HandEnd Outgoing → Type 0
IsSameHand h h' = (h'.board ≡ h.board) × (h'.number ≡ h.number)

pub nothing_moves : (j : ℕ) (l l' : Ledger) (h : HandEnd Outgoing) → IsFront j l l' None → MovesFront j l h l' h false
nothing_moves j l l' h f = (f.0, f.1, f.2, f.3, (f.6, refl, refl), (f.5 ∙ sym f.4, refl, inl (f.4, refl, refl)))

pub front_moves : (j : ℕ) (l l' : Ledger) (h h' : HandEnd Outgoing) (x : Outgoing) → IsFront j l l' (Some x) → IsSameHand h h' → h'.given ≡ h.given ++ x ∷ [] → h.looks < h'.looks → h'.last ≡ 4 * length h.given → MovesFront j l h l' h' true
front_moves j l l' h h' x f same given looks last = (f.0, f.1, f.2, f.3, (f.5, same.0, same.1), (x, f.4, given, looks, last))

-- the queue in the place of the one whose front was taken
pub front_queue : (j : ℕ) (l mid : Ledger) (x : Outgoing) (f : IsFront j l mid (Some x)) (q : Queue) → slice_get mid.queues j ≡ Some q → q ≡ f.1
front_queue j l mid x f q q_at =
    let there : slice_get mid.queues j ≡ Some f.1 = ap (λ (z : Ledger). slice_get z.queues j) f.3 ∙ get_set l.queues j f.1 (below_at l.queues j f.0 f.2) in
    cc

pub has_place : (j : ℕ) (l mid : Ledger) (x : Outgoing) → IsFront j l mid (Some x) → (q : Queue) → slice_get mid.queues j ≡ Some q → HasPlace q
has_place j l mid x f q q_at = subst HasPlace (sym (front_queue j l mid x f q q_at)) f.6

pub still_named : (j : ℕ) (l mid : Ledger) (x : Outgoing) → IsFront j l mid (Some x) → j < length mid.queues
still_named j l mid x f = subst (λ n. j < n) (sym (ap (λ (z : Ledger). length z.queues) f.3 ∙ length-set l.queues j f.1)) (below_at l.queues j f.0 f.2)

pub front_goes_back : (j : ℕ) (l mid l' : Ledger) (h h' : HandEnd Outgoing) (x back : Outgoing) → IsFront j l mid (Some x) → back ≡ x → IsPutBack j back mid l' → IsSameHand h h' → h'.given ≡ h.given → h.looks < h'.looks → IsShut h.given h'.last → MovesFront j l h l' h' false
front_goes_back j l mid l' h h' x back f is p same given looks shut =
    let r_is : p.0 ≡ f.1 = front_queue j l mid x f p.0 p.2 in (
      f.0,
      p.1,
      f.2,
      p.3 ∙ ap (λ (z : Ledger). with_queue z j p.1) f.3 ∙ ap (λ (qs : List Queue). record l { queues = qs }) (set_set l.queues j f.1 p.1),
      (p.5 ∙ ap (λ (z : Queue). z.is_cut) r_is ∙ f.5, same.0, same.1),
      (p.4 ∙ (λ i. is i ∷ (r_is i).waiting.items) ∙ sym f.4, given, inr (shut, looks)),
    )
