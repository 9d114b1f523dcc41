use Rattle.cross_delay.proofs.Among.{due-fact, due-named, due-passed, found-fact}
use Rattle.cross_delay.proofs.laws.due_side_is_held.Goals as goal

pub returns : goal.returns
returns c = record { passed = due-passed; named = due-named; due_fact = due-fact; found_fact = found-fact }
