use Rattle.refusal_causes.proofs.Firsts.{causes_first}
use Rattle.refusal_causes.proofs.Waiting.{holds_before}
use Rattle.refusal_causes.proofs.Linked.{passes_after_linked}
use Rattle.refusal_causes.proofs.Meant.{says_what_holds}
use Rattle.refusal_causes.proofs.Prints.{prints_what_holds}
use Rattle.refusal_causes.proofs.laws.causes_are_first.Goals as goal

pub returns-clause-first : goal.returns-clause-first
returns-clause-first c = causes_first

pub returns-clause-before : goal.returns-clause-before
returns-clause-before c = holds_before

pub returns-clause-linked : goal.returns-clause-linked
returns-clause-linked c = passes_after_linked

pub returns-clause-says : goal.returns-clause-says
returns-clause-says c = says_what_holds

pub returns-clause-printed : goal.returns-clause-printed
returns-clause-printed c = prints_what_holds
