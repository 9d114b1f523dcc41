use Rattle.fix_session.proofs.Restarted.{refused, cause, tick_else, lasts, never, tries, accepted}
use Rattle.fix_session.proofs.laws.old_numbers_refused.Goals as goal

pub returns : goal.returns
returns c = record { refused = refused; cause = cause; tick = tick_else; lasts = lasts; never = never; tries = tries; accepted = accepted }
