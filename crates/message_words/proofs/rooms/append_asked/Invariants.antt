use Rattle.std.proofs.Common.{◌≡◌, ◌++◌, take}
use Rattle.std.specs.List.{flat_map}
use Rattle.message_words.specs.Words.{asked_words}
use Rattle.message_words.proofs.rooms.append_asked.Given as goal

abbrev pub invariant-loop-party : goal.invariant-loop-party
invariant-loop-party l = l.text.items ≡ l.fn.text.items ++ flat_map asked_words (take l.party-index l.parties)
