use Rattle.std.proofs.Common.{◌∙◌, sym, ap, length, option_map, bytes_eq}
use Rattle.venue_rules.specs.Rooms.{printed}
use Rattle.rfq_room.proofs.Listed.{find-listed}
use Rattle.rfq_room.proofs.quoting.draft_quote.Goals as goal

pub quote_cause-requires : goal.quote_cause-requires
quote_cause-requires c = find-listed (length c.args.market.instruments.now) (λ r. bytes_eq (printed 82 r.number) c.args.quote.now.request_id) c.args.kept.now.facts c.in-Some.room.now c.requires (sym c.find_room.ensures ∙ ap (option_map (λ r. r.now)) c.in-Some.is)
