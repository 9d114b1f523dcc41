use Rattle.std.proofs.Common.{◌≡◌, ◌++◌, take}
use Rattle.std.specs.List.{flat_map}
use Rattle.message_words.specs.Json.{json_shown, next_member}
use Rattle.message_words.proofs.json.append_others.Given as goal

abbrev pub invariant-loop-member : goal.invariant-loop-member
invariant-loop-member l = l.out.items ≡ l.fn.out.items ++ flat_map (λ m. next_member m.name.now (json_shown m.value)) (take l.member-index l.members)
