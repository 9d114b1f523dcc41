-- Replies owed to a participant, and those that wait.
use Rattle.std.specs.Prelude.{ℕ, ◌+◌, Bool, true, false, not, ◌&&◌, nat_lt, List, [], map, length}
use Rattle.fix_dictionary.specs.declared.messages.App.{App}
use Rattle.venue_rules.specs.declared.replies.Reply.{Reply}
use Rattle.venue_rules.specs.Run.{replies_to}
use Rattle.outbound_queue.specs.declared.outgoing.Outgoing.{Outgoing}
use Rattle.outbound_queue.specs.declared.outgoing.Outgoing.TheVariants.{Message}

-- messages, as queued
abbrev pub outgoing : List App → List Outgoing
outgoing apps = map Message apps

-- the effect of messages on a queue: none once it is cut
abbrev pub added : Bool → List App → List Outgoing
added true apps = []
added false apps = outgoing apps

-- the most replies that may wait for a participant
abbrev pub most_queued : ℕ
most_queued = 65536

-- some of the replies are for this participant, it is not cut, and with those that wait they pass the limit
abbrev pub is_behind : ℕ → List Reply → Bool → ℕ → Bool
is_behind who replies is_cut waiting = not is_cut && nat_lt 0 (length (replies_to who replies)) && nat_lt most_queued (waiting + length (replies_to who replies))
