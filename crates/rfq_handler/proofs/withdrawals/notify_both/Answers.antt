use Rattle.std.proofs.Common.{◌≡◌, ◌∙◌, ◌==◌, ap, sym, length, Some, option_map}
use Rattle.venue_rules.specs.Rooms.{room_by_number}
use Rattle.rfq_handler.proofs.Rooms.{find-listed}
use Rattle.rfq_handler.proofs.withdrawals.notify_both.Goals as goal

pub symbol_of-symbol-requires : goal.symbol_of-symbol-requires
symbol_of-symbol-requires c =
    let found : room_by_number c.args.rooms.now.facts c.args.quote.now.room ≡ Some c.in-Some.room.now = sym c.room.ensures ∙ ap (option_map (λ r. r.now)) c.in-Some.is in
    find-listed (length c.args.instruments.now) (λ r. r.number == c.args.quote.now.room) c.args.rooms.now.facts c.in-Some.room.now c.requires found
