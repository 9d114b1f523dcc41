use Rattle.std.proofs.Common.{◌≡◌, drop}
use Rattle.day_events.specs.Events.{refused_at}
use Rattle.day_events.proofs.refusing.push_refusal.Given as goal

-- the replies so far do not refuse, so that the refusal is that of the others
abbrev pub invariant-loop-reply : goal.invariant-loop-reply
invariant-loop-reply l = (refused_at l.origin (drop l.reply-index l.replies) ≡ refused_at l.origin l.replies) × (l.events ≡ l.fn.events)
