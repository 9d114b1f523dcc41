use Rattle.sef_moment.proofs.TestLemmas.{utc-to, utc-from}
use Rattle.sef_moment.proofs.utc.test_decides.Goals as goal

pub returns : goal.returns
returns c = λ text. (utc-to text, utc-from text)
