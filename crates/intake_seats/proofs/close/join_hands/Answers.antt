use Rattle.std.proofs.Common.{◌≡◌, arith, ap, sym, ◌∙◌}
use Rattle.std.proofs.lemmas.List.Elements.{All-pop}
use Rattle.std.specs.Prelude.{Some}
use Rattle.intake_seats.specs.Ends.{with_handers}
use Rattle.intake_seats.specs.Steps.{united}
use Rattle.intake_seats.proofs.Dealing.{unites}
use Rattle.intake_seats.proofs.Closing.{hands_more}
use Rattle.intake_seats.proofs.close.join_hands.Goals as goal

pub join_seat-requires : goal.join_seat-requires
join_seat-requires g c =
    let i = c.loop-hand.invariant in
    let popped = All-pop (λ h. h.board ≡ c.args.board.now) _ _ (Some c.in-Some.hand) c.in-Some.ensures.items i.3 in
    let seat = c.into_seat-seat.ensures in (
      i.0 ∙ c.requires.whole.0 ∙ sym c.board.view_is,
      seat.0 ∙ popped.1 ∙ sym c.board.view_is,
      ap (λ m. m.1) seat.1,
      omega (arith, c.board.invariant.0, c.board.invariant.2),
      unites _ _ _ _ _,
    )

pub loop-hand-preserved : goal.loop-hand-preserved
loop-hand-preserved g c =
    let i = c.loop-hand.invariant in
    let popped = All-pop (λ h. h.board ≡ c.args.board.now) _ _ (Some c.in-Some.hand) c.in-Some.ensures.items i.3 in
    let seat = c.into_seat-seat.ensures in
    let now = c.join_seat.ensures in (
      now.0 ∙ i.0,
      ap (λ m. m.1) now.2 ∙ i.1,
      ap (λ m. with_handers c.pop.new.self.items m.0) now.2 ∙ ap (λ m. with_handers c.pop.new.self.items (united c.loop-hand.whole.me.0 m.0)) seat.1
          ∙ hands_more c.pop.new.self.items c.in-Some.hand c.loop-hand.whole.me.0 ∙ ap (λ l. with_handers l c.loop-hand.whole.me.0) (sym c.in-Some.ensures.items) ∙ i.2,
      popped.0,
    )
