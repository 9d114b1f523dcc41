use Rattle.venue_rules.specs.declared.trail.Taken.{Taken}
use Rattle.venue_rules.specs.Answer.{Sender}
use Rattle.venue_rules.specs.Answers.{type_of}

-- the sender of a message, its number and its type
abbrev pub sender : Taken → Sender
sender taken = record { who = taken.from; number = taken.item.number; kind = type_of taken.item.app }
