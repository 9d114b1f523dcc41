use Rattle.std.proofs.Common.{◌≡◌, ◌++◌, take}
use Rattle.std.specs.List.{flat_map}
use Rattle.message_words.specs.Words.{maker_words}
use Rattle.message_words.proofs.rooms.append_makers.Given as goal

abbrev pub invariant-loop-party : goal.invariant-loop-party
invariant-loop-party l = l.text.items ≡ l.fn.text.items ++ flat_map maker_words (take l.party-index l.parties)
