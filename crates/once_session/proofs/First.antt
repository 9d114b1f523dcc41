-- Facts of the first participant's side.
use Rattle.std.proofs.Common.{◌≡◌, ◌<◌, List, [], ◌∷◌, length, Some, refl, sym, subst, slice_get, arith}
use Rattle.venue_world.specs.Side.{Side}
use Rattle.venue_world.specs.World.{at}
use Rattle.once_session.specs.Acts.{OfFirst}
use Rattle.once_session.specs.Course.{OfBoth}

pub of-so : (P Q : Side → Type 0) (sides : List Side) → OfFirst P sides → ((s : Side) → P s → Q s) → OfFirst Q sides
of-so P Q [] p so = absurd p
of-so P Q (s ∷ sides) p so = so s p

pub of-two : (P Q X : Side → Type 0) (sides : List Side) → OfFirst P sides → OfFirst Q sides → ((s : Side) → P s → Q s → X s) → OfFirst X sides
of-two P Q X [] p q so = absurd p
of-two P Q X (s ∷ sides) p q so = so s p q

pub of-at : (P Q : Side → Type 0) (f : Side → Side) (sides sides' : List Side) → sides' ≡ at 0 f sides → OfFirst P sides → ((s : Side) → P s → Q (f s)) → OfFirst Q sides'
of-at P Q f [] sides' is p so = absurd p
of-at P Q f (s ∷ sides) sides' is p so = subst (OfFirst Q) (sym is) (so s p)

pub both-at : (P : Side → Type 0) (R : Side → Side → Type 0) (f : Side → Side) (sides sides' : List Side) → sides' ≡ at 0 f sides → OfFirst P sides → ((s : Side) → P s → R s (f s)) → OfBoth R sides sides'
both-at P R f [] sides' is p so = absurd p
both-at P R f (s ∷ sides) sides' is p so = subst (OfBoth R (s ∷ sides)) (sym is) (so s p)

pub of-both : (P : Side → Type 0) (R : Side → Side → Type 0) (Q : Side → Type 0) (a b : List Side) → OfFirst P a → OfBoth R a b → ((s s' : Side) → P s → R s s' → Q s') → OfFirst Q b
of-both P R Q [] b p r so = absurd p
of-both P R Q (s ∷ a) [] p r so = absurd r
of-both P R Q (s ∷ a) (s' ∷ b) p r so = so s s' p r

pub of-later : (R : Side → Side → Type 0) (Q : Side → Type 0) (a b : List Side) → OfBoth R a b → ((s s' : Side) → R s s' → Q s') → OfFirst Q b
of-later R Q [] b r so = absurd r
of-later R Q (s ∷ a) [] r so = absurd r
of-later R Q (s ∷ a) (s' ∷ b) r so = so s s' r

pub both-so : (R R' : Side → Side → Type 0) (a b : List Side) → OfBoth R a b → ((s s' : Side) → R s s' → R' s s') → OfBoth R' a b
both-so R R' [] b r so = absurd r
both-so R R' (s ∷ a) [] r so = absurd r
both-so R R' (s ∷ a) (s' ∷ b) r so = so s s' r

pub both-from : (P : Side → Type 0) (R R' : Side → Side → Type 0) (a b : List Side) → OfFirst P a → OfBoth R a b → ((s s' : Side) → P s → R s s' → R' s s') → OfBoth R' a b
both-from P R R' [] b p r so = absurd p
both-from P R R' (s ∷ a) [] p r so = absurd r
both-from P R R' (s ∷ a) (s' ∷ b) p r so = so s s' p r

pub both-then : (R S X : Side → Side → Type 0) (a b c : List Side) → OfBoth R a b → OfBoth S b c → ((s s' s'' : Side) → R s s' → S s' s'' → X s s'') → OfBoth X a c
both-then R S X [] b c r q so = absurd r
both-then R S X (s ∷ a) [] c r q so = absurd r
both-then R S X (s ∷ a) (s' ∷ b) [] r q so = absurd q
both-then R S X (s ∷ a) (s' ∷ b) (s'' ∷ c) r q so = so s s' s'' r q

pub both-same : (P : Side → Type 0) (R : Side → Side → Type 0) (a : List Side) → OfFirst P a → ((s : Side) → P s → R s s) → OfBoth R a a
both-same P R [] p so = absurd p
both-same P R (s ∷ a) p so = so s p

pub is-named : (P : Side → Type 0) (a : List Side) → OfFirst P a → 0 < length a
is-named P [] p = absurd p
is-named P (s ∷ a) p = omega arith

pub of-place : (P Q : Side → Type 0) (a : List Side) → OfFirst P a → ((s : Side) → slice_get a 0 ≡ Some s → Q s) → OfFirst Q a
of-place P Q [] p so = absurd p
of-place P Q (s ∷ a) p so = so s refl
