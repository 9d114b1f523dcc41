-- The bytes of an identifier, and the zeros after them.
use Rattle.std.proofs.Common.{◌≡◌, ℕ, List, ◌++◌, refl, length, take, drop, replicate, ◌-◌}
use Rattle.std.proofs.lemmas.List.{drop-replicate}
use Rattle.std.proofs.Math.Seq.{take-append_seam}
use Rattle.fix_dictionary.specs.Values.{zero_padded}

pub zeros_behind : (bytes : List ℕ) → bytes ++ drop (length bytes) (replicate 64 0) ≡ zero_padded bytes
zeros_behind bytes = rw drop-replicate refl

pub bytes_in_front : (bytes : List ℕ) → take (length bytes) (zero_padded bytes) ≡ bytes
bytes_in_front bytes = take-append_seam bytes (replicate (64 - length bytes) 0)
