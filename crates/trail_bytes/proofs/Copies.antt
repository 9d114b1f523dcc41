-- A file in memory after one write at its beginning.
use Rattle.std.proofs.Common.{◌≡◌, ℕ, List, [], length, arith}
use Rattle.sqlite_disk.specs.Disk.{Holds, Torn}
use Rattle.sqlite_wal.proofs.CreateLemmas.{page_if_held}

-- what was written into an empty file is all that it holds
pub copy_is : (bytes old new : List ℕ) → old ≡ [] → Torn 0 (length bytes) old new → Holds new 0 bytes → new ≡ bytes
copy_is bytes old new empty torn held = page_if_held bytes old new (rw empty (omega arith)) torn held
