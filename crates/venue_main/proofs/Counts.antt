-- The bytes read of a file.
use Rattle.std.proofs.Common.{◌≡◌, ℕ, ◌+◌, ◌≤◌, List, length, take, Option, None, Some, IfSome, option_map, ap, ◌∙◌, arith}
use Rattle.std.proofs.lemmas.List.{length-take, take_all}

-- where fewer bytes came than were asked for, all came
pub short_is_whole : (known : Option (List ℕ)) (limit : ℕ) (text : List ℕ) → IfSome (option_map (take (limit + 1)) known) (λ bytes. text ≡ bytes) → length text ≤ limit → IfSome known (λ bytes. text ≡ bytes)
short_is_whole None limit text read short = tt
short_is_whole (Some bytes) limit text read short =
    let count = ap (λ (l : List ℕ). length l) read ∙ length-take (limit + 1) bytes in
    read ∙ take_all (limit + 1) bytes (omega (arith, count, short))
