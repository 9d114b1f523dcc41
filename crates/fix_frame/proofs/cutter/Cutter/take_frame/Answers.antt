use Rattle.std.proofs.Common.{◌≡◌, ℕ, ◌+◌, Some, take, drop, sym, ◌∙◌, ap, arith}
use Rattle.std.proofs.lemmas.List.{drop-drop}
use Rattle.fix_frame.proofs.Cutting.{part_taken}
use Rattle.fix_frame.proofs.Starts.{begins_from_look}
use Rattle.fix_frame.proofs.cutter.Cutter.take_frame.Goals as goal

pub returns-clause-cut : goal.returns-clause-cut
returns-clause-cut c =
    let items = c.self.inside.buffer.items in
    let place = c.self.inside.start in
    let n : ℕ = c.args.end + 7 in
    let look = c.requires in
    let unread : drop place items ≡ c.args.self.now.unread = ap (λ v. v.unread) c.self.view_is in (
      n,
      (omega arith, look.1, omega arith, look.3, begins_from_look c.args.self.now.unread c.args.start c.args.end look),
      record {
        within = look.3;
        taken = ap Some (part_taken items place n ∙ ap (take n) unread);
        unread = sym (drop-drop n place items) ∙ ap (drop n) unread;
      },
    )
