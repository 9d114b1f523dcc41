use Rattle.std.proofs.Common.{◌≡◌, take}
use Rattle.rfq_room.specs.Views.{recipients_of}
use Rattle.rfq_room.proofs.recipients.recipients.Given as goal

abbrev pub invariant-loop-party : goal.invariant-loop-party
invariant-loop-party l = l.recipients.items ≡ recipients_of l.participants (take l.party-index l.parties)
