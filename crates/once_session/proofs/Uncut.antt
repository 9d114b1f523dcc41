-- The first participant is not cut.
use Rattle.std.proofs.Common.{◌≡◌, ◌-◌, ◌||◌, ℕ, suc, zero, List, [], ◌∷◌, ◌++◌, length, Bool, true, false, refl, ap, ◌∙◌}
use Rattle.std.proofs.Math.Dec.{eqb-suc-zero}
use Rattle.fix_session.specs.Reader.{Reader}
use Rattle.venue_rules.specs.Market.{Market}
use Rattle.venue_world.specs.declared.world_event.WorldEvent.{WorldEvent}
use Rattle.venue_world.specs.declared.world_event.WorldEvent.TheVariants.{Alone, Takes, VenueTicks}
use Rattle.venue_world.specs.declared.world_event.SessionEvent.{SessionEvent}
use Rattle.venue_world.specs.declared.world_event.SessionEvent.TheVariants.{Pieces, Steps, Ticks, Breaks, Resumes, Hands, Delivers, Collects, Cuts, Writes}
use Rattle.venue_world.specs.Headline.{Headline, is_cut_of, was_cut}
use Rattle.venue_world.specs.World.{WorldState, after_act, after_all, fresh_world}
use Rattle.once_session.specs.Acts.{Leads, MayCome}
use Rattle.once_session.specs.Stream.{cuts_behind, opened, opening, run_of}

-- the headline's law
abbrev pub KeepsItsWord : Type 0
KeepsItsWord = (r : Reader) (m : Market) (acts : List WorldEvent) → Headline (after_all r (fresh_world m) acts).sides (after_all r (fresh_world m) acts).moment r m acts

uncut-more : (c d e : Bool) → (c || d) ≡ false → (d ≡ false → e ≡ false) → (c || e) ≡ false
uncut-more true d e p f = p
uncut-more false d e p f = f p

pub uncut-append : (a b : List WorldEvent) → was_cut 0 a ≡ false → was_cut 0 b ≡ false → was_cut 0 (a ++ b) ≡ false
uncut-append [] b p q = q
uncut-append (x ∷ a) b p q = uncut-more (is_cut_of 0 x) (was_cut 0 a) (was_cut 0 (a ++ b)) p (λ p'. uncut-append a b p' q)

cuts-uncut : (k : ℕ) → was_cut 0 (cuts_behind k) ≡ false
cuts-uncut zero = refl
cuts-uncut (suc k) = uncut-append (cuts_behind k) (Alone (suc k) Cuts ∷ []) (cuts-uncut k) (ap (λ (b : Bool). b || false) (eqb-suc-zero k))

does-uncut : (r : Reader) (t : ℕ) (w : WorldState) (x : SessionEvent) → MayCome r t w (Alone 0 x) → is_cut_of 0 (Alone 0 x) ≡ false
does-uncut r t w (Pieces bytes) may = refl
does-uncut r t w (Steps u) may = refl
does-uncut r t w (Ticks u) may = refl
does-uncut r t w Breaks may = refl
does-uncut r t w (Resumes u) may = refl
does-uncut r t w Hands may = refl
does-uncut r t w Delivers may = refl
does-uncut r t w (Collects u) may = refl
does-uncut r t w Cuts may = absurd may
does-uncut r t w Writes may = refl

pub one-uncut : (r : Reader) (t : ℕ) (w : WorldState) (a : WorldEvent) → MayCome r t w a → is_cut_of 0 a ≡ false
one-uncut r t w (Alone zero x) may = does-uncut r t w x may
one-uncut r t w (Alone (suc k) x) may = absurd may
one-uncut r t w (Takes k u) may = refl
one-uncut r t w (VenueTicks u) may = refl

all-uncut : (r : Reader) (t : ℕ) (w : WorldState) (acts : List WorldEvent) → Leads r t w acts → was_cut 0 acts ≡ false
all-uncut r t w [] leads = refl
all-uncut r t w (a ∷ acts) leads = ap (λ (b : Bool). b || was_cut 0 acts) (one-uncut r t w a leads.0) ∙ all-uncut r t (after_act r w a) acts leads.1

pub opening-uncut : (m : Market) (t : ℕ) → was_cut 0 (opening (length m.participants.names) t) ≡ false
opening-uncut m t = uncut-append (cuts_behind (length m.participants.names - 1)) (Alone 0 (Resumes t) ∷ []) (cuts-uncut (length m.participants.names - 1)) refl

pub run-uncut : (r : Reader) (m : Market) (t : ℕ) (acts : List WorldEvent) → Leads r t (opened r m t) acts → was_cut 0 (run_of m t acts) ≡ false
run-uncut r m t acts leads = uncut-append (opening (length m.participants.names) t) acts (opening-uncut m t) (all-uncut r t (opened r m t) acts leads)
