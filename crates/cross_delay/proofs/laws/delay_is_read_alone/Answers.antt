use Rattle.cross_delay.proofs.DelayFacts.{crossed-delay, due-delay, find_held-delay, held-delay, used-delay}
use Rattle.cross_delay.proofs.Keeping.{held-falls}
use Rattle.cross_delay.proofs.laws.delay_is_read_alone.Goals as goal

pub returns : goal.returns
returns c = record { held = held-delay; due = due-delay; side = find_held-delay; crossed = crossed-delay; used = used-delay; falls = held-falls }
