use Rattle.std.proofs.Common.{sym, ◌∙◌}
use Rattle.intake_seats.proofs.Dealing.{starts, zero_words}
use Rattle.intake_seats.proofs.NewEnds.{new_hands_are, new_takes_are}
use Rattle.intake_seats.proofs.board.Board.new.Goals as goal

pub vacant-requires : goal.vacant-requires
vacant-requires g c = let zeros = zero_words 32 c.args.seats c.requires.seats.1 in starts c.args.seats _ zeros.0 (λ k _. zeros.1 k)

pub returns-clause-own : goal.returns-clause-own
returns-clause-own g c =
    let all = sym (zero_words 32 c.args.seats c.requires.seats.1).0 ∙ sym c.in_ok-table.ensures.0 in
    ((new_hands_are _ _ _ _ all c.deal_hands.ensures.hands).0, (new_takes_are _ _ _ _ all c.deal_takes.ensures.takes).0)

pub returns-clause-unused : goal.returns-clause-unused
returns-clause-unused g c =
    let all = sym (zero_words 32 c.args.seats c.requires.seats.1).0 ∙ sym c.in_ok-table.ensures.0 in
    ((new_hands_are _ _ _ _ all c.deal_hands.ensures.hands).1, (new_takes_are _ _ _ _ all c.deal_takes.ensures.takes).1)
