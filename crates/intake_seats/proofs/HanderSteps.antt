-- The steps of a seat's hander keep the board's rule.
use Rattle.std.proofs.Common.{◌≡◌, ◌≢◌, ℕ, ◌+◌, ◌*◌, ◌/◌, ◌%◌, ◌^◌, ◌<◌, ◌≤◌, eqb, true, false, List, [], ◌∷◌, ◌++◌, length, get_or, set, refl, sym, ap, ◌∙◌, subst, arith, length-set, length-append}
use mathlib.Core.Option.{none, some}
use mathlib.Core.Option as maybe
use mathlib.Core.Path.{Path}
use Rattle.std.proofs.lemmas.Bool.{false≢true}
use native.Mathlib.Nat.{mod-eq_of_lt}
use lib.ListN.{get_elem?}
use prog.Atomic.{either}
use Rattle.std.specs.Prelude.{Option, None, Some}
use Rattle.atomic_table.specs.Table.{Me, Act, keeps, takes, gives, step, stepped, Valid, carried_after, Allows}
use Rattle.atomic_table.proofs.Lists.{set_here, set_else, exchanged}
use Rattle.intake_seats.specs.declared.views.Hander.{Hander}
use Rattle.intake_seats.specs.declared.views.View.{View}
use Rattle.intake_seats.specs.Rule.{Stage, empty, filling, full, taking, Account, code, is_filling, in_hand_at, FitsStage, IsSettled, IsBoard}
use Rattle.intake_seats.specs.Steps.{looked, hander_looked, claimed, handed}
use Rattle.intake_seats.proofs.Moves.{Home, Board, hander_alone, hander_moves}

-- what the word says of the count of messages given, where nothing is claimed
abbrev CountsGiven : ℕ → ℕ → Type 0
CountsGiven word given = (word % 4 ≡ 0 → word ≡ 4 * given) × (word % 4 ≢ 0 → given ≡ word / 4 + 1) × (given ≤ 2 ^ 60)

module _ {M : Type 0} where
  abbrev pub Goes : ℕ → Board M → ℕ → ℕ → Me (Option M) (View M) → (ℕ → Me (Option M) (View M) → Type 0) → ℕ → Type 0
  Goes n s k id me then x = (w : View M) × (a : Act (Option M)) × Valid s.homes me.1 a × IsBoard n (stepped s k x id me.1 w a) × then (get_or s.words k 0) (w, carried_after me.1 a)

  pub stage_at_0 : (word m : ℕ) (stage : Stage M) → word ≡ 4 * m + code stage → word % 4 ≡ 0 → Path (Stage M) stage empty
  stage_at_0 word m empty is e = refl
  stage_at_0 word m filling is e = absurd (omega arith)
  stage_at_0 word m (full x) is e = absurd (omega arith)
  stage_at_0 word m (taking x) is e = absurd (omega arith)

  -- where nothing is claimed, the word of an empty seat counts all that was given, and any other all but the last
  counts_at : (word : ℕ) (home : maybe.Option (Home M)) (given taken : List M) (stage : Stage M) → word ≡ 4 * length taken + code stage → FitsStage home given taken stage → is_filling stage ≡ false
      → (word % 4 ≡ 0 → word ≡ 4 * length given) × (word % 4 ≢ 0 → length given ≡ word / 4 + 1)
  counts_at word home given taken empty is fits still = let l : length given ≡ length taken = ap length fits.0 in ((λ e. omega arith), λ ne. omega arith)
  counts_at word home given taken filling is fits still = absurd (false≢true (sym still))
  counts_at word home given taken (full x) is fits still = let l : length given ≡ length taken + 1 = ap length fits.0 ∙ length-append taken (x ∷ []) in ((λ e. omega arith), λ ne. omega arith)
  counts_at word home given taken (taking x) is fits still = let l : length given ≡ length taken + 1 = ap length fits.0 ∙ length-append taken (x ∷ []) in ((λ e. omega arith), λ ne. omega arith)

  counts : (word : ℕ) (home : maybe.Option (Home M)) (a : Account M) (given : List M) → IsSettled word home a → given ≡ a.given → is_filling a.stage ≡ false → CountsGiven word (length given)
  counts word home a given settled same still = subst (λ (g : List M). CountsGiven word (length g)) (sym same) (let c = counts_at word home a.given a.taken a.stage settled.0 settled.2 still in (c.0, c.1, settled.1))

  -- a look leaves the board as it is
  pub looks_on : (n slots id : ℕ) (h : Hander M) (c : List (ℕ × Option M)) (s : Board M) (b : IsBoard n s) → get_elem? s.views id ≡ some (hander_alone h) → h.claiming ≡ false
      → (then : ℕ → Me (Option M) (View M) → Type 0)
      → (CountsGiven (get_or s.words h.number 0) (length h.given) → then (get_or s.words h.number 0) (looked (get_or s.words h.number 0) (hander_alone h), c))
      → Goes n s h.number id (hander_alone h, c) then (get_or s.words h.number 0)
  looks_on n slots id h c s b at free then emitted =
      let k : ℕ = h.number in let x : ℕ = get_or s.words k 0 in let a = b.account k in let know = b.each_hander id (hander_alone h) 0 h at refl in let settled = b.each_seat k know.0 in (
        looked x (hander_alone h),
        keeps,
        tt,
        hander_moves n s b id h record { number = k; given = h.given; claiming = h.claiming; last = x; looks = h.looks + 1 } x s.homes a.stage at refl refl (λ _ _. refl)
            (settled.0, subst (λ (g : List M). length g ≤ 2 ^ 60) (sym know.2) settled.1, subst (λ (g : List M). FitsStage (get_elem? s.homes k) g a.taken a.stage) (sym know.2) settled.2)
            refl know.3,
        emitted (counts x (get_elem? s.homes k) a h.given settled know.2 (sym know.3 ∙ free)),
      )

  pub hander_looks : (n slots id : ℕ) (h : Hander M) (c : List (ℕ × Option M)) → h.claiming ≡ false → Allows (IsBoard n) slots id (hander_alone h, c) h.number (λ x. x) (hander_looked (step slots h.number 0 0 none) (hander_alone h, c))
  hander_looks n slots id h c free s b wide at _ = looks_on n slots id h c s b at free (hander_looked (step slots h.number 0 0 none) (hander_alone h, c)) (λ counted. (refl, counted.0, counted.1, counted.2))

  pub claims : (n slots id old : ℕ) (h : Hander M) (c : List (ℕ × Option M)) → h.claiming ≡ false → old % 4 ≡ 0
      → Allows (IsBoard n) slots id (hander_alone h, c) h.number (λ x. either (eqb x old) (old + 1) x) (claimed (step slots h.number old (old + 1) none) (hander_alone h, c))
  claims n slots id old h c free low s b wide at _ =
      let k : ℕ = h.number in let x : ℕ = get_or s.words k 0 in let then = claimed (step slots k old (old + 1) none) (hander_alone h, c) in
      let a = b.account k in let know = b.each_hander id (hander_alone h) 0 h at refl in let settled = b.each_seat k know.0 in
      exchanged x old (old + 1) (Goes n s k id (hander_alone h, c) then)
      (λ hit. let zero_now : x % 4 ≡ 0 = ap (λ (y : ℕ). y % 4) hit ∙ low in
      let st = stage_at_0 x (length a.taken) a.stage settled.0 zero_now in
      let fits : FitsStage (get_elem? s.homes k) a.given a.taken empty = subst (FitsStage (get_elem? s.homes k) a.given a.taken) st settled.2 in
      let co : code a.stage ≡ 0 = ap code st in let w = settled.0 in
      let near : k < length s.homes = (let g = b.homes_are in let f = know.0 in omega arith) in (
        hander_alone record { number = k; given = h.given; claiming = true; last = h.last; looks = h.looks },
        takes k None,
        fits.1,
        hander_moves n s b id h record { number = k; given = h.given; claiming = true; last = h.last; looks = h.looks } (old + 1) (set s.homes k none) filling at refl (length-set s.homes k none) (λ j apart. set_else s.homes k j none apart)
            ((let g : old + 1 ≡ 4 * length a.taken + 1 = omega arith in g), subst (λ (g : List M). length g ≤ 2 ^ 60) (sym know.2) settled.1, (know.2 ∙ fits.0, set_here s.homes k none near))
            (ap in_hand_at (sym st)) refl,
        ((λ _. (refl, (counts x (get_elem? s.homes k) a h.given settled know.2 (sym know.3 ∙ free)).0 zero_now)), λ miss. absurd (miss hit)),
      ))
      (λ miss. looks_on n slots id h c s b at free then (λ counted. ((λ hit. absurd (miss hit)), λ _. (refl, counted.0, counted.1, counted.2))))

  filling_is : (stage : Stage M) → is_filling stage ≡ true → Path (Stage M) stage filling
  filling_is empty e = absurd (false≢true e)
  filling_is filling e = refl
  filling_is (full x) e = absurd (false≢true e)
  filling_is (taking x) e = absurd (false≢true e)

  pub hands : (n slots id : ℕ) (h : Hander M) (x : M) (c : List (ℕ × Option M)) → h.claiming ≡ true → length h.given < 2 ^ 60
      → Allows (IsBoard n) slots id (hander_alone h, (h.number, Some x) ∷ c) h.number (λ w. (w + 1) % 2 ^ 64) (handed (step slots h.number 1 0 none) (hander_alone h, (h.number, Some x) ∷ c))
  hands n slots id h x c claim headroom s b wide at _ =
      let k : ℕ = h.number in let w : ℕ = get_or s.words k 0 in
      let a = b.account k in let know = b.each_hander id (hander_alone h) 0 h at refl in let settled = b.each_seat k know.0 in
      let st = filling_is a.stage (sym know.3 ∙ claim) in
      let fits : FitsStage (get_elem? s.homes k) a.given a.taken filling = subst (FitsStage (get_elem? s.homes k) a.given a.taken) st settled.2 in
      let same : a.given ≡ a.taken = fits.0 in
      let l : length h.given ≡ length a.taken = ap length (know.2 ∙ same) in
      let co : code a.stage ≡ 1 = ap code st in let is : w ≡ 4 * length a.taken + code a.stage = settled.0 in
      let next : (w + 1) % 2 ^ 64 ≡ w + 1 = mod-eq_of_lt (omega arith) in
      let near : k < length s.homes = (let g = b.homes_are in let f = know.0 in omega arith) in (
        hander_alone record { number = k; given = h.given ++ x ∷ []; claiming = false; last = h.last; looks = h.looks },
        gives,
        tt,
        hander_moves n s b id h record { number = k; given = h.given ++ x ∷ []; claiming = false; last = h.last; looks = h.looks } ((w + 1) % 2 ^ 64) (set s.homes k (some (Some x))) (full x) at refl
            (length-set s.homes k (some (Some x))) (λ j apart. set_else s.homes k j (some (Some x)) apart) (
              (let g : (w + 1) % 2 ^ 64 ≡ 4 * length a.taken + 2 = omega arith in g),
              (let g = length-append h.given (x ∷ []) in omega arith),
              (ap (λ (z : List M). z ++ x ∷ []) (know.2 ∙ same), set_here s.homes k (some (Some x)) near),
            )
            (ap in_hand_at (sym st)) refl,
        refl,
      )

  -- the same at a seat that is known by equations
  pub hander_looks_as : (n slots id k : ℕ) (me : Me (Option M) (View M)) (h : Hander M) (c : List (ℕ × Option M)) → me ≡ (hander_alone h, c) → k ≡ h.number → h.claiming ≡ false
      → Allows (IsBoard n) slots id me k (λ x. x) (hander_looked (step slots k 0 0 none) me)
  hander_looks_as n slots id k me h c is at free = subst (λ (z : Me (Option M) (View M) × ℕ). Allows (IsBoard n) slots id z.0 z.1 (λ x. x) (hander_looked (step slots z.1 0 0 none) z.0)) (λ i. (sym is i, sym at i))
      (hander_looks n slots id h c free)

  pub claims_as : (n slots id k old : ℕ) (me : Me (Option M) (View M)) (h : Hander M) (c : List (ℕ × Option M)) → me ≡ (hander_alone h, c) → k ≡ h.number → h.claiming ≡ false → old % 4 ≡ 0
      → Allows (IsBoard n) slots id me k (λ x. either (eqb x old) (old + 1) x) (claimed (step slots k old (old + 1) none) me)
  claims_as n slots id k old me h c is at free low = subst (λ (z : Me (Option M) (View M) × ℕ). Allows (IsBoard n) slots id z.0 z.1 (λ x. either (eqb x old) (old + 1) x) (claimed (step slots z.1 old (old + 1) none) z.0)) (λ i. (sym is i, sym at i))
      (claims n slots id old h c free low)

  pub hands_as : (n slots id k : ℕ) (me : Me (Option M) (View M)) (h : Hander M) (x : M) (c : List (ℕ × Option M)) → me ≡ (hander_alone h, (k, Some x) ∷ c) → k ≡ h.number → h.claiming ≡ true → length h.given < 2 ^ 60
      → Allows (IsBoard n) slots id me k (λ w. (w + 1) % 2 ^ 64) (handed (step slots k 1 0 none) me)
  hands_as n slots id k me h x c is at claim headroom = subst (λ (z : Me (Option M) (View M) × ℕ). Allows (IsBoard n) slots id z.0 z.1 (λ w. (w + 1) % 2 ^ 64) (handed (step slots z.1 1 0 none) z.0))
      (λ i. (sym (is ∙ ap (λ (j : ℕ). (hander_alone h, (j, Some x) ∷ c)) at) i, sym at i)) (hands n slots id h x c claim headroom)
