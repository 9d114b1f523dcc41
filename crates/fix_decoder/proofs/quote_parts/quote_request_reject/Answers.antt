use Rattle.fix_validation.specs.Positions.{places}
use Rattle.fix_decoder.proofs.QuoteRanges.{reject_instrument, reject_holds}
use Rattle.fix_decoder.proofs.quote_parts.quote_request_reject.Goals as goal

pub symbol-requires : goal.symbol-requires
symbol-requires c = reject_instrument (places c.args.located.now) c.requires

pub reject_of-requires : goal.reject_of-requires
reject_of-requires c = rw (c.deref.ensures, rw c.in_ok-fields.was at c.part.ensures) (reject_holds (places c.args.located.now) c.requires)
