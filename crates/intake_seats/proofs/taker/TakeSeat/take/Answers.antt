use Rattle.std.proofs.Common.{◌≡◌, [], ◌∷◌, ℕ, arith, ap, sym, ◌∙◌, Bool, false}
use Rattle.std.specs.Prelude.{Option, None, Some}
use Rattle.std.specs.Option.{is_some}
use Rattle.atomic_table.specs.Table.{Me, rest}
use Rattle.intake_seats.specs.declared.views.View.{View}
use Rattle.intake_seats.specs.Given.{TakeEnd}
use Rattle.intake_seats.specs.Ends.{take_end, taking, carried, resting_taker, first_taker}
use Rattle.intake_seats.specs.Steps.{looked, with_hand, in_hand_of}
use Rattle.intake_seats.proofs.TakerSteps.{top, settles, taker_looks_as, takes_out_as}
use Rattle.intake_seats.proofs.taker.TakeSeat.take.Goals as goal

pub load-found-requires : goal.load-found-requires
load-found-requires g c =
    let e = take_end c.self.inside.seat.table_id c.self.inside.seat.me.0 in (
      ap (λ h. h.board) c.self.view_is ∙ c.requires.own ∙ sym c.board.view_is,
      omega (arith, c.self.invariant.2, ap (λ t. t.words) (ap (λ h. h.board) c.self.view_is ∙ c.requires.own ∙ sym c.board.view_is)),
      taker_looks_as _ _ _ _ _ (resting_taker e) (carried c.self.inside.number c.self.inside.holds) c.self.invariant.0 c.self.invariant.1,
    )

pub compare_exchange-requires : goal.compare_exchange-requires
compare_exchange-requires g c =
    let seen = c.load-found.ensures in (
      seen.0 ∙ ap (λ h. h.board) c.self.view_is ∙ c.requires.own ∙ sym c.board.view_is,
      omega (arith, c.self.invariant.2, ap (λ t. t.words) (ap (λ h. h.board) c.self.view_is ∙ c.requires.own ∙ sym c.board.view_is)),
      takes_out_as _ _ _ _ _ _ _ (carried c.self.inside.number c.self.inside.holds) (seen.2.0 ∙ ap (λ m. (looked c.load-found.result m.0, m.1)) c.self.invariant.0) c.self.invariant.1 (omega (arith, c.if-found-ne-FULL.false)),
    )

-- the seat after the exchange: the message is in hand, and nothing else was
after_found : {M : Type 0} (k r : ℕ) (holds : Bool) (e : TakeEnd M) (m : M) (loaded tried : Me (Option M) (View M)) → loaded ≡ (looked r (taking e), carried k holds) → holds ≡ is_some e.in_hand
    → tried ≡ (with_hand (Some m) loaded.0, (k, Some m) ∷ loaded.1) → in_hand_of loaded.0 ≡ None → (e.in_hand ≡ None) × (tried ≡ (with_hand (Some m) (looked r (taking e)), (k, Some m) ∷ []))
after_found {M} k r holds e m loaded tried l is t none =
    let free : e.in_hand ≡ None = sym (ap (λ (z : Me (Option M) (View M)). in_hand_of z.0) l) ∙ none in
    let off : holds ≡ false = is ∙ ap is_some free in
    (free, t ∙ ap (λ (z : Me (Option M) (View M)). (with_hand (Some m) z.0, (k, Some m) ∷ z.1)) (l ∙ ap (λ (b : Bool). (looked r (taking e), carried k b)) off))

pub exchange-message-requires : goal.exchange-message-requires
exchange-message-requires g c =
    let did = c.compare_exchange.ensures.2.0 c.if-compare_exchange-found.false in
    let k : ℕ = c.self.inside.number in (
      c.compare_exchange.ensures.0 ∙ c.load-found.ensures.0 ∙ ap (λ h. h.board) c.self.view_is ∙ c.requires.own ∙ sym c.board.view_is,
      (Some did.0, ap (λ m. m.1) did.1 ∙ sym (ap (λ m. (k, Some did.0) ∷ rest m.1) did.1)),
    )

pub invariant_of-self-2 : goal.invariant_of-self-2
invariant_of-self-2 g c =
    let did = c.compare_exchange.ensures.2.0 c.if-compare_exchange-found.false in
    let e = take_end c.self.inside.seat.table_id c.self.inside.seat.me.0 in
    let k : ℕ = c.self.inside.number in
    let r : ℕ = c.load-found.result in
    let d = after_found k r c.self.inside.holds e did.0 _ _ (c.load-found.ensures.2.0 ∙ ap (λ m. (looked r m.0, m.1)) c.self.invariant.0) c.self.invariant.3 did.1 did.2 in
    let x = c.exchange-message.ensures.3 ∙ ap (λ m. (m.0, (k, None) ∷ rest m.1)) d.1 in
    (settles c.exchange-message.new.seat.table_id _ _ _ x, c.self.invariant.1 ∙ sym (ap (λ m. (first_taker m.0).number) x), omega (arith, c.self.invariant.2, ap (λ t. t.words) (c.exchange-message.ensures.0 ∙ c.compare_exchange.ensures.0 ∙ c.load-found.ensures.0)), sym (ap (λ m. is_some (first_taker m.0).in_hand) x))

pub returns-clause-in_hand : goal.returns-clause-in_hand
returns-clause-in_hand g c =
    let did = c.compare_exchange.ensures.2.0 c.if-compare_exchange-found.false in
    let e = take_end c.self.inside.seat.table_id c.self.inside.seat.me.0 in
    let k : ℕ = c.self.inside.number in
    let r : ℕ = c.load-found.result in
    let d = after_found k r c.self.inside.holds e did.0 _ _ (c.load-found.ensures.2.0 ∙ ap (λ m. (looked r m.0, m.1)) c.self.invariant.0) c.self.invariant.3 did.1 did.2 in
    let x = c.exchange-message.ensures.3 ∙ ap (λ m. (m.0, (k, None) ∷ rest m.1)) d.1 in
    let got : c.exchange-message.result ≡ Some did.0 = sym (ap top c.exchange-message.ensures.2) ∙ ap (λ m. top m.1) d.1 in
    rw got (sym (ap (λ t. t.in_hand) c.self.view_is) ∙ d.0, ap (λ m. (first_taker m.0).in_hand) x)
