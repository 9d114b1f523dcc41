-- The reaction of a run to a refusal.
use Rattle.venue_rules.specs.declared.trail.EventFault.{EventFault}
use Rattle.venue_rules.specs.declared.trail.EventFault.TheVariants.{Behind, TrailRefused, Down, Due, NoMemory}
use Rattle.venue_worker.specs.declared.retry_policy.RetryPolicy.{RetryPolicy}
use Rattle.venue_worker.specs.declared.retry_policy.RetryPolicy.TheVariants.{Cut, Wait, Stop}

-- a participant that would be behind is cut, the trail's refusal ends the run, and the rest is tried again
abbrev pub retry_policy_of : EventFault → RetryPolicy
retry_policy_of (Behind who) = Cut who
retry_policy_of NoMemory = Wait
retry_policy_of Due = Wait
retry_policy_of TrailRefused = Stop
retry_policy_of (Down who) = Stop
