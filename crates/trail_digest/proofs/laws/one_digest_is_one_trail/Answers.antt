use Rattle.trail_digest.proofs.Digests.{one_beginning, one_digest}
use Rattle.trail_digest.proofs.laws.one_digest_is_one_trail.Goals as goal

pub returns-clause-whole : goal.returns-clause-whole
returns-clause-whole c = one_digest

pub returns-clause-first : goal.returns-clause-first
returns-clause-first c = one_beginning
