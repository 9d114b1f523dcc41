use Rattle.std.proofs.Common.{◌≡◌, MatchResult, subst}
use Rattle.std.specs.Io.KnownBytes.{Appends}
use Rattle.tcp_line.specs.Link.{Link, TookPart, promised, due}
use Rattle.tcp_line.proofs.Links.{given_after, part_of_more}
use Rattle.tcp_line.proofs.connection.Connection.write.Goals as goal

pub returns-in-Err-clause-bytes : goal.returns-in-Err-clause-bytes
returns-in-Err-clause-bytes g c =
    let same : c.keep.new.self ≡ c.args.self.now = c.if-keep.ensures in
    subst (λ (l : Link). TookPart l.taken c.flush.new.self.taken (due l c.args.bytes.now)) same
    (part_of_more c.keep.new.self.taken c.flush.new.self.taken c.keep.new.self.waiting c.args.bytes.now c.in-Err.ensures.bytes)

pub returns-in-Ok-clause-bytes : goal.returns-in-Ok-clause-bytes
returns-in-Ok-clause-bytes g c =
    let same : c.keep.new.self ≡ c.args.self.now = c.if-keep.ensures in
    subst
    (λ (l : Link). MatchResult c.pass.result (λ _. Appends (promised l) (promised c.pass.new.self) c.args.bytes.now) (λ _. TookPart l.taken c.pass.new.self.taken (due l c.args.bytes.now)))
    same
    (given_after c.keep.new.self c.flush.new.self c.pass.new.self c.args.bytes.now c.pass.result c.in-Ok.ensures.bytes.0 c.in-Ok.ensures.bytes.1 c.pass.ensures.waiting c.pass.ensures.bytes)
