use Rattle.std.proofs.Common.{◌++◌, ◌∙◌, append_assoc}
use Rattle.venue_rules.specs.Market.{Market}
use Rattle.trade_reconstruction.specs.Lines.{evidence, last_lines, place_lines}
use Rattle.trade_reconstruction.specs.NoteLines.{fate_lines}
use Rattle.trade_reconstruction.proofs.evidence.evidence_of.Goals as goal

pub returns : goal.returns
unfolding evidence
returns c =
    let a = c.args in
    let market : Market = record { participants = a.participants.now; instruments = a.instruments.now } in
    let row = c.trade_row-row.result in
    let noted = fate_lines a.fates.now in
    let placed = place_lines a.rows.now a.participants.now a.words.now a.stood.now a.trade.now row in
    c.in_ok-append_last.ensures
    ∙ (λ k. c.in_ok-append_fates.ensures k ++ last_lines market a.rows.now a.trade.now row)
    ∙ (λ k. (c.in_ok-append_place.ensures k ++ noted) ++ last_lines market a.rows.now a.trade.now row)
    ∙ (λ k. ((c.new-text.ensures.items k ++ placed) ++ noted) ++ last_lines market a.rows.now a.trade.now row)
    ∙ append_assoc placed noted (last_lines market a.rows.now a.trade.now row)
    ∙ (λ k. place_lines a.rows.now a.participants.now a.words.now a.stood.now a.trade.now (c.trade_row-row.ensures k) ++ (noted ++ last_lines market a.rows.now a.trade.now (c.trade_row-row.ensures k)))
