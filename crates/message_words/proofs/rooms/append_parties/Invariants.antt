use Rattle.std.proofs.Common.{◌≡◌, ◌++◌, take}
use Rattle.std.specs.List.{flat_map}
use Rattle.message_words.specs.Words.{party_words}
use Rattle.message_words.proofs.rooms.append_parties.Given as goal

abbrev pub invariant-loop-party : goal.invariant-loop-party
invariant-loop-party l = l.text.items ≡ l.fn.text.items ++ flat_map party_words (take l.party-index l.parties)
