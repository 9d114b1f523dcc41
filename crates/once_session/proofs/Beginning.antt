-- Opening a line, with all other participants cut.
use Rattle.std.proofs.Common.{◌≡◌, ◌≤◌, ◌<◌, ◌+◌, ◌-◌, ℕ, suc, zero, List, [], ◌∷◌, ◌++◌, length, map, refl, sym, subst, arith}
use Rattle.fix_session.specs.declared.comp_ids.CompIds.{CompIds}
use Rattle.fix_session.specs.Reader.{Reader}
use Rattle.participants.specs.ParticipantFile.{ParticipantFile}
use Rattle.venue_rules.specs.Market.{Market}
use Rattle.venue_world.specs.declared.world_event.WorldEvent.TheVariants.{Alone}
use Rattle.venue_world.specs.declared.world_event.SessionEvent.TheVariants.{Cuts, Resumes}
use Rattle.venue_world.specs.Seen.{Done, Seen, Shows}
use Rattle.venue_world.specs.Side.{Side, does, fresh_side}
use Rattle.venue_world.specs.World.{WorldState, after_all, at, fresh_world, ids_of}
use Rattle.once_session.specs.Acts.{IsAnswered, OfFirst}
use Rattle.once_session.specs.Stream.{cuts_behind, opened}
use Rattle.once_session.proofs.First.{of-at}
use Rattle.once_session.proofs.Going.{after-append}

-- a further participant is cut
pub cut-more : (r : Reader) (a b : Seen) (w0 : WorldState) (k : ℕ) → Shows a (after_all r w0 (cuts_behind k)) → Done r (Alone (suc k) Cuts) a b → Shows b (after_all r w0 (cuts_behind (suc k)))
cut-more r a b w0 k shows done =
    subst (Shows b) (sym (after-append r w0 (cuts_behind k) (Alone (suc k) Cuts ∷ []))) (done (after_all r w0 (cuts_behind k)) shows).shows

pub cut-next : (r : Reader) (a b : Seen) (w0 : WorldState) (place next who : ℕ) → 1 ≤ place → next ≡ place + 1 → who ≡ place → Shows a (after_all r w0 (cuts_behind (place - 1))) → Done r (Alone who Cuts) a b
    → Shows b (after_all r w0 (cuts_behind (next - 1)))
cut-next r a b w0 zero next who from after is shows done = absurd (omega (arith, from))
cut-next r a b w0 (suc k) next who from after is shows done =
    let here : suc k - 1 ≡ k = omega arith in
    let there : next - 1 ≡ suc k = omega (arith, after) in
    subst (λ (n : ℕ). Shows b (after_all r w0 (cuts_behind n))) (sym there)
    (cut-more r a b w0 k (subst (λ (n : ℕ). Shows a (after_all r w0 (cuts_behind n))) here shows) (subst (λ (n : ℕ). Done r (Alone n Cuts) a b) is done))

-- and the line comes up
pub comes-up : (r : Reader) (t : ℕ) (a b : Seen) (w0 : WorldState) (k : ℕ) → Shows a (after_all r w0 (cuts_behind k)) → Done r (Alone 0 (Resumes t)) a b
    → Shows b (after_all r w0 (cuts_behind k ++ Alone 0 (Resumes t) ∷ []))
comes-up r t a b w0 k shows done =
    subst (Shows b) (sym (after-append r w0 (cuts_behind k) (Alone 0 (Resumes t) ∷ []))) (done (after_all r w0 (cuts_behind k)) shows).shows

-- The first side is unchanged until its line comes up.

abbrev IsFresh : Side → Type 0
IsFresh s = (ids : CompIds) × (s ≡ fresh_side ids)

fresh-list : (file : ParticipantFile) (names : List (List ℕ)) → 0 < length names → OfFirst IsFresh (map (λ name. fresh_side (ids_of file name)) names)
fresh-list file [] some = absurd (omega (arith, some))
fresh-list file (name ∷ names) some = (ids_of file name, refl)

behind-first : (P : Side → Type 0) (k : ℕ) (f : Side → Side) (sides : List Side) → OfFirst P sides → OfFirst P (at (suc k) f sides)
behind-first P k f [] p = p
behind-first P k f (s ∷ sides) p = p

cuts-first : (P : Side → Type 0) (r : Reader) (w : WorldState) (k : ℕ) → OfFirst P w.sides → OfFirst P (after_all r w (cuts_behind k)).sides
cuts-first P r w zero p = p
cuts-first P r w (suc k) p =
    subst (λ (x : WorldState). OfFirst P x.sides) (sym (after-append r w (cuts_behind k) (Alone (suc k) Cuts ∷ [])))
    (behind-first P k (does r Cuts) (after_all r w (cuts_behind k)).sides (cuts-first P r w k p))

up-is-answered : (r : Reader) (t : ℕ) (s : Side) → IsFresh s → IsAnswered (does r (Resumes t) s)
up-is-answered r t s fresh =
    subst (λ (x : Side). IsAnswered (does r (Resumes t) x)) (sym fresh.1) (record { none_ready = refl; none_in_seat = refl; none_queued = refl; no_reply = refl; all_written = refl })

opened-first : (r : Reader) (t : ℕ) (w : WorldState) (k : ℕ) → OfFirst IsFresh w.sides → OfFirst IsAnswered (after_all r w (cuts_behind k ++ Alone 0 (Resumes t) ∷ [])).sides
opened-first r t w k fresh =
    let cut = after_all r w (cuts_behind k) in
    subst (λ (x : WorldState). OfFirst IsAnswered x.sides) (sym (after-append r w (cuts_behind k) (Alone 0 (Resumes t) ∷ [])))
    (of-at IsFresh IsAnswered (does r (Resumes t)) cut.sides (at 0 (does r (Resumes t)) cut.sides) refl (cuts-first IsFresh r w k fresh) (up-is-answered r t))

pub opened-answered : (r : Reader) (m : Market) (t : ℕ) → 0 < length m.participants.names → OfFirst IsAnswered (opened r m t).sides
opened-answered r m t some = opened-first r t (fresh_world m) (length m.participants.names - 1) (fresh-list m.participants m.participants.names some)
