use Rattle.std.proofs.Common.{length}
use Rattle.sef_client.proofs.outgoing.Outgoing.send_again.Given as goal

abbrev pub decreases-loop-resend : goal.decreases-loop-resend
decreases-loop-resend l = length l.resends
