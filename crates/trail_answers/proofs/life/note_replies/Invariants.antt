use Rattle.std.proofs.Common.{◌≡◌, drop}
use Rattle.trail_answers.specs.Life.{after_replies, life_of}
use Rattle.trail_answers.proofs.life.note_replies.Given as goal

abbrev pub invariant-loop-reply : goal.invariant-loop-reply
invariant-loop-reply l = after_replies (life_of l.life) (drop l.reply-index l.replies) ≡ after_replies (life_of l.fn.life) l.replies
