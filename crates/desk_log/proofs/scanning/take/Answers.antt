use Rattle.std.proofs.Common.{ℕ, ◌+◌, ap, ◌∙◌}
use Rattle.desk_log.specs.Scan.{bodies_with, broken_with, outside_with}
use Rattle.desk_log.proofs.Scan.{bodies_taken, broken_taken, found, outside_taken}
use Rattle.desk_log.proofs.scanning.take.Goals as goal

pub returns-clause-bodies : goal.returns-clause-bodies
returns-clause-bodies c =
    let log = c.args.log.now in
    let at = c.args.at in
    let look = c.look_at-look.result in
    let new = c.push_body.new.bodies.items in
    ap (λ (n : ℕ). bodies_with new n log) c.behind.ensures
    ∙ bodies_taken log at look c.args.scan.now.bodies.items new c.requires.low (found log at look c.look_at-look.ensures.look) c.in_ok-push_body.ensures

pub returns-clause-outside : goal.returns-clause-outside
returns-clause-outside c =
    let log = c.args.log.now in
    let at = c.args.at in
    let look = c.look_at-look.result in
    let old = c.args.scan.now.outside in
    let new = old + c.outside_of.result in
    ap (λ (n : ℕ). outside_with new n log) c.behind.ensures
    ∙ outside_taken log at look old new c.requires.low (found log at look c.look_at-look.ensures.look) (ap (λ (n : ℕ). old + n) c.outside_of.ensures.count)

pub returns-clause-broken : goal.returns-clause-broken
returns-clause-broken c =
    let log = c.args.log.now in
    let at = c.args.at in
    let look = c.look_at-look.result in
    let new = c.first_of-scan.result in
    ap (λ (n : ℕ). broken_with new n log) c.behind.ensures
    ∙ broken_taken log at look c.args.scan.now.broken new c.requires.low (found log at look c.look_at-look.ensures.look) c.first_of-scan.ensures
