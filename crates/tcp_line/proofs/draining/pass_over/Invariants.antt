-- the bytes passed over are those gone from what was to come, at most 256 a read
use Rattle.std.proofs.Common.{◌≡◌, ◌≤◌, ◌*◌, ℕ, List, length}
use Rattle.std.specs.Io.KnownBytes.{Consumes}
use Rattle.tcp_line.proofs.draining.pass_over.Given as goal

abbrev pub invariant-loop-read : goal.invariant-loop-read
invariant-loop-read g l =
    ((l.passed_over ≤ 256 * l.read) × (l.looks ≤ 100))
    × ((bytes : List ℕ) × Consumes l.initial.connection.coming l.connection.coming bytes × (length bytes ≡ l.passed_over))
    × ((l.connection.taken ≡ l.initial.connection.taken) × (l.connection.waiting ≡ l.initial.connection.waiting))
