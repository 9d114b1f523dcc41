-- A stream read piece by piece, and its end.
use Rattle.std.proofs.Common.{◌≤◌, ℕ, List, [], ◌++◌, length, Option, IfSome, sym, subst, append-nil}
use Rattle.std.specs.Io.KnownBytes.{Consumes, IsAtEnd, Keeps}
use Rattle.std.proofs.KnownBytes.{Consumes-nil, Consumes-trans, Consumes-whole}
use Rattle.venue_world.specs.Seen.{Seen}
use Rattle.once_session.specs.Course.{Wrote}
use Rattle.once_session.specs.Reading.{Halts, IsEnd, IsMore, IsSoFar, longest_piece}
use Rattle.once_session.proofs.Going.{wrote-kept, wrote-nil, wrote-still, wrote-went}

-- nothing is read so far
pub so-far-none : (t : ℕ) (a : Seen) (left held : Option (List ℕ)) → IsSoFar t a a left left held held
so-far-none t a left held = record { came = []; consumed = Consumes-nil left; wrote = wrote-nil t a held }

-- a further piece
pub so-far-more : (t : ℕ) (a b c d : Seen) (left mid left' held held1 held2 : Option (List ℕ)) → IsSoFar t a b left mid held held1 → Wrote t b c [] held1 held2 → IsMore c d mid left'
    → IsSoFar t a d left left' held held2
so-far-more t a b c d left mid left' held held1 held2 so_far answers more = record {
  came = so_far.came ++ more.piece;
  consumed = Consumes-trans left mid left' so_far.came more.piece so_far.consumed more.consumed;
  wrote = wrote-went t a c d so_far.came more.piece held held2 (wrote-still t a b c so_far.came held held1 held2 so_far.wrote answers) (more.came t);
}

-- at the end of the input all of it is consumed,
consumed-to-end : (t : ℕ) (a b c d : Seen) (left mid left' held held1 : Option (List ℕ)) → (so_far : IsSoFar t a b left mid held held1) → IsEnd c d mid left' → Consumes left left' so_far.came
consumed-to-end t a b c d left mid left' held held1 so_far end =
    subst (Consumes left left') (append-nil so_far.came) (Consumes-trans left mid left' so_far.came [] so_far.consumed end.consumed)

pub read-out : (t : ℕ) (a b c d : Seen) (left mid left' held held1 : Option (List ℕ)) → IsSoFar t a b left mid held held1 → IsEnd c d mid left'
    → IfSome left (λ input. Consumes left left' input × IsAtEnd left')
read-out t a b c d left mid left' held held1 so_far end =
    let consumed = consumed-to-end t a b c d left mid left' held held1 so_far end in
    Consumes-whole left left' so_far.came (λ input. Consumes left left' input × IsAtEnd left') consumed end.ends (consumed, end.ends)

-- and answered
pub so-far-ended : (t : ℕ) (a b c d : Seen) (left mid left' held held1 held2 held' : Option (List ℕ)) → IsSoFar t a b left mid held held1 → Wrote t b c [] held1 held2 → IsEnd c d mid left' → Keeps held2 held'
    → IfSome left (λ input. Wrote t a d input held held')
so-far-ended t a b c d left mid left' held held1 held2 held' so_far answers end kept =
    let consumed = consumed-to-end t a b c d left mid left' held held1 so_far end in
    let wrote = wrote-kept t a c so_far.came held held2 held' (wrote-still t a b c so_far.came held held1 held2 so_far.wrote answers) kept in
    Consumes-whole left left' so_far.came (λ input. Wrote t a d input held held') consumed end.ends (subst (λ (x : Seen). Wrote t a x so_far.came held held') (sym end.same) wrote)

-- a stop after the bytes so far
pub so-far-halts : (t : ℕ) (a b then : Seen) (left mid left' held held1 held' : Option (List ℕ)) (lost : List ℕ) → IsSoFar t a b left mid held held1 → Wrote t b then [] held1 held'
    → Consumes mid left' lost → length lost ≤ longest_piece → Halts t a left left' held held'
so-far-halts t a b then left mid left' held held1 held' lost so_far answers consumed short = record {
  then = then;
  came = so_far.came;
  lost = lost;
  consumed = Consumes-trans left mid left' so_far.came lost so_far.consumed consumed;
  short = short;
  wrote = wrote-still t a b then so_far.came held held1 held' so_far.wrote answers;
}
