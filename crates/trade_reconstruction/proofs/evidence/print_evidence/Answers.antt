use Rattle.std.proofs.Common.{subst}
use Rattle.std.proofs.lemmas.Result.{on_ok_weaker}
use Rattle.venue_rules.specs.Market.{Market}
use Rattle.trade_reconstruction.specs.Emitted.{HasNoTrade}
use Rattle.trade_reconstruction.proofs.Emitting.{keeps_own, memory_alone, not_writing, output_alone, output_writing, emitted_written, unwritten_alone}
use Rattle.trade_reconstruction.proofs.evidence.print_evidence.Goals as goal

pub returns-in_err-venue-clause-refused : goal.returns-in_err-venue-clause-refused
returns-in_err-venue-clause-refused g c = memory_alone c.from_residual.result _ c.from_residual.ensures.1

pub returns-in_err-venue-clause-unwritten : goal.returns-in_err-venue-clause-unwritten
returns-in_err-venue-clause-unwritten g c = unwritten_alone c.from_residual.result _ c.from_residual.ensures.1 (keeps_own _)

pub evidence_in-emitted-requires-clause-fresh : goal.evidence_in-emitted-requires-clause-fresh
evidence_in-emitted-requires-clause-fresh g c = c.in_ok-venue.ensures.history

pub returns-in-Ok-clause-emitted : goal.returns-in-Ok-clause-emitted
returns-in-Ok-clause-emitted g c =
    on_ok_weaker c.write_text.result
    (λ w. emitted_written c.in_ok-venue.venue.market (record { participants = c.args.participants; instruments = c.args.instruments }) c.args.rows.now c.args.number c.in-Ok.text.items c.deref.result.now
    (g.W.Write.contents c.args.writer.now) (g.W.Write.contents c.write_text.new.writer) c.in_ok-venue.ensures.market c.deref.ensures.value c.in-Ok.ensures.emitted w)
    c.write_text.ensures.written

pub returns-in-Ok-clause-refused : goal.returns-in-Ok-clause-refused
returns-in-Ok-clause-refused g c = output_alone c.write_text.result _ c.write_text.ensures.output

pub returns-in-Ok-clause-unwritten : goal.returns-in-Ok-clause-unwritten
returns-in-Ok-clause-unwritten g c = output_writing c.write_text.result _ c.write_text.ensures.output

pub returns-in-Err-clause-refused : goal.returns-in-Err-clause-refused
returns-in-Err-clause-refused g c = λ e. subst (λ (m : Market). HasNoTrade m c.args.rows.now c.args.number) c.in_ok-venue.ensures.market (c.in-Err.ensures.refused e)

pub returns-in-Err-clause-unwritten : goal.returns-in-Err-clause-unwritten
returns-in-Err-clause-unwritten g c = not_writing c.in-Err.fault _ (keeps_own _)
