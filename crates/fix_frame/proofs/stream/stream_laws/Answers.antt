use Rattle.fix_frame.proofs.Reading.{Reads-front, Frames-one, Passes-push, Frames-prefix}
use Rattle.fix_frame.proofs.Next.{next_some, next_one, next_stays, first_then_rest, none_then_end}
use Rattle.fix_frame.proofs.Total.{Frames-some}
use Rattle.fix_frame.proofs.stream.stream_laws.Goals as goal

pub returns-clause-start : goal.returns-clause-start
returns-clause-start c = Reads-front

pub returns-clause-some : goal.returns-clause-some
returns-clause-some c = Frames-some

pub returns-clause-one : goal.returns-clause-one
returns-clause-one c = Frames-one

pub returns-clause-passed : goal.returns-clause-passed
returns-clause-passed c = Passes-push

pub returns-clause-prefix : goal.returns-clause-prefix
returns-clause-prefix c = Frames-prefix

pub returns-clause-some_next : goal.returns-clause-some_next
returns-clause-some_next c = next_some

pub returns-clause-one_next : goal.returns-clause-one_next
returns-clause-one_next c = next_one

pub returns-clause-next_stays : goal.returns-clause-next_stays
returns-clause-next_stays c = next_stays

pub returns-clause-first : goal.returns-clause-first
returns-clause-first c = first_then_rest

pub returns-clause-end : goal.returns-clause-end
returns-clause-end c = none_then_end
