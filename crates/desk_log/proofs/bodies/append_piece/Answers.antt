use Rattle.std.proofs.Common.{sym, ◌∙◌}
use Rattle.desk_log.proofs.Texts.{header_passed, piece_kept}
use Rattle.desk_log.proofs.bodies.append_piece.Goals as goal

pub returns-then-is_header-clause-text : goal.returns-then-is_header-clause-text
returns-then-is_header-clause-text c =
    header_passed c.args.body.now c.rest_of-rest.result.now c.args.text.now.items c.requires (sym c.is_header.ensures ∙ c.if-is_header.true) c.rest_of-rest.ensures.rest

pub returns-clause-text : goal.returns-clause-text
returns-clause-text c =
    piece_kept c.args.body.now c.rest_of-rest.result.now c.args.text.now.items c.extend_from_slice.new.self.items c.requires (sym c.is_header.ensures ∙ c.if-is_header.false) c.rest_of-rest.ensures.rest c.in_ok-extend_from_slice.ensures.items
