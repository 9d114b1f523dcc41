-- The steps of a seat's taker keep the board's rule.
use Rattle.std.proofs.Common.{◌≡◌, ℕ, ◌+◌, ◌-◌, ◌*◌, ◌/◌, ◌%◌, ◌^◌, ◌<◌, ◌≤◌, eqb, true, List, [], ◌∷◌, ◌++◌, length, get_or, set, refl, sym, ap, ◌∙◌, subst, arith, length-set, length-append}
use mathlib.Core.Option.{none, some}
use mathlib.Core.Option as maybe
use mathlib.Core.Path.{Path}
use lib.ListN.{get_elem?}
use prog.Atomic.{either}
use Rattle.std.specs.Prelude.{Option, None, Some}
use Rattle.std.specs.Option.{is_some, option_to_list}
use Rattle.atomic_table.specs.Table.{Me, keeps, takes, gives, step, Allows}
use Rattle.atomic_table.proofs.Lists.{set_here, set_else, exchanged}
use Rattle.intake_seats.specs.declared.views.Taker.{Taker}
use Rattle.intake_seats.specs.declared.views.View.{View}
use Rattle.intake_seats.specs.Rule.{Stage, empty, filling, full, taking, Account, code, is_filling, in_hand_at, FitsStage, IsSettled, IsBoard}
use Rattle.intake_seats.specs.Steps.{looked, taker_looked, took, put_back, cleared}
use Rattle.std.specs.Prelude.{IfSome}
use Rattle.atomic_table.specs.Seated.{TableId}
use Rattle.intake_seats.specs.Ends.{take_end, taking as end_view}
use Rattle.intake_seats.proofs.Moves.{Home, Board, taker_alone, taker_moves}
use Rattle.intake_seats.proofs.HanderSteps.{Goes}

module _ {M : Type 0} where
  full_at_2 : (word m : ℕ) (stage : Stage M) → word ≡ 4 * m + code stage → word % 4 ≡ 2 → (x : M) × Path (Stage M) stage (full x)
  full_at_2 word m empty is e = absurd (omega arith)
  full_at_2 word m filling is e = absurd (omega arith)
  full_at_2 word m (full x) is e = (x, refl)
  full_at_2 word m (taking x) is e = absurd (omega arith)

  taking_at : (x : M) (stage : Stage M) → Some x ≡ in_hand_at stage → Path (Stage M) stage (taking x)
  taking_at x empty e = absurd (cc)
  taking_at x filling e = absurd (cc)
  taking_at x (full y) e = absurd (cc)
  taking_at x (taking y) e = let same : x ≡ y = cc in ap taking (sym same)

  -- in each state the word counts what was taken
  counts_at : (word m : ℕ) (stage : Stage M) → word ≡ 4 * m + code stage → word / 4 ≡ m
  counts_at word m empty is = omega arith
  counts_at word m filling is = omega arith
  counts_at word m (full x) is = omega arith
  counts_at word m (taking x) is = omega arith

  counts : (word : ℕ) (home : maybe.Option (Home M)) (a : Account M) (taken : List M) → IsSettled word home a → taken ≡ a.taken → word / 4 ≡ length taken
  counts word home a taken settled same = counts_at word (length a.taken) a.stage settled.0 ∙ sym (ap length same)

  -- a look leaves the board as it is
  pub looks_on : (n slots id : ℕ) (t : Taker M) (c : List (ℕ × Option M)) (s : Board M) (b : IsBoard n s) → get_elem? s.views id ≡ some (taker_alone t)
      → (then : ℕ → Me (Option M) (View M) → Type 0)
      → (get_or s.words t.number 0 / 4 ≡ length t.taken → then (get_or s.words t.number 0) (looked (get_or s.words t.number 0) (taker_alone t), c))
      → Goes n s t.number id (taker_alone t, c) then (get_or s.words t.number 0)
  looks_on n slots id t c s b at then emitted =
      let k : ℕ = t.number in let x : ℕ = get_or s.words k 0 in let a = b.account k in let know = b.each_taker id (taker_alone t) 0 t at refl in let settled = b.each_seat k know.0 in (
        looked x (taker_alone t),
        keeps,
        tt,
        taker_moves n s b id t record { number = k; taken = t.taken; in_hand = t.in_hand; last = x; looks = t.looks + 1 } x s.homes a.stage at refl refl (λ _ _. refl)
            (subst (λ (g : List M). x ≡ 4 * length g + code a.stage) (sym know.2) settled.0, settled.1, subst (λ (g : List M). FitsStage (get_elem? s.homes k) a.given g a.stage) (sym know.2) settled.2)
            refl know.3,
        emitted (counts x (get_elem? s.homes k) a t.taken settled know.2),
      )

  pub taker_looks : (n slots id : ℕ) (t : Taker M) (c : List (ℕ × Option M)) → Allows (IsBoard n) slots id (taker_alone t, c) t.number (λ x. x) (taker_looked (step slots t.number 0 0 none) (taker_alone t, c))
  taker_looks n slots id t c s b wide at _ = looks_on n slots id t c s b at (taker_looked (step slots t.number 0 0 none) (taker_alone t, c)) (λ counted. (refl, counted))

  pub takes_out : (n slots id old : ℕ) (t : Taker M) (c : List (ℕ × Option M)) → old % 4 ≡ 2
      → Allows (IsBoard n) slots id (taker_alone t, c) t.number (λ x. either (eqb x old) (old + 1) x) (took (step slots t.number old (old + 1) none) (taker_alone t, c))
  takes_out n slots id old t c two s b wide at _ =
      let k : ℕ = t.number in let x : ℕ = get_or s.words k 0 in let then = took (step slots k old (old + 1) none) (taker_alone t, c) in
      let a = b.account k in let know = b.each_taker id (taker_alone t) 0 t at refl in let settled = b.each_seat k know.0 in
      exchanged x old (old + 1) (Goes n s k id (taker_alone t, c) then)
      (λ hit. let two_now : x % 4 ≡ 2 = ap (λ (y : ℕ). y % 4) hit ∙ two in
      let st = full_at_2 x (length a.taken) a.stage settled.0 two_now in
      let m : M = st.0 in
      let fits : FitsStage (get_elem? s.homes k) a.given a.taken (full m) = subst (FitsStage (get_elem? s.homes k) a.given a.taken) st.1 settled.2 in
      let co : code a.stage ≡ 2 = ap code st.1 in let w = settled.0 in let l : length t.taken ≡ length a.taken = ap length know.2 in
      let near : k < length s.homes = (let g = b.homes_are in let f = know.0 in omega arith) in (
        taker_alone record { number = k; taken = t.taken; in_hand = Some m; last = t.last; looks = t.looks },
        takes k (Some m),
        fits.1,
        taker_moves n s b id t record { number = k; taken = t.taken; in_hand = Some m; last = t.last; looks = t.looks } (old + 1) (set s.homes k none) (taking m) at refl (length-set s.homes k none) (λ j apart. set_else s.homes k j none apart)
            ((let g : old + 1 ≡ 4 * length t.taken + 3 = omega arith in g), settled.1, (fits.0 ∙ ap (λ (g : List M). g ++ m ∷ []) (sym know.2), set_here s.homes k none near))
            (ap is_filling (sym st.1)) refl,
        ((λ _. (m, refl, know.3 ∙ ap in_hand_at st.1)), λ miss. absurd (miss hit)),
      ))
      (λ miss. looks_on n slots id t c s b at then (λ counted. ((λ hit. absurd (miss hit)), λ _. (refl, counted))))

  pub puts_back : (n slots id : ℕ) (t : Taker M) (x : M) (c : List (ℕ × Option M)) → t.in_hand ≡ Some x
      → Allows (IsBoard n) slots id (taker_alone t, (t.number, Some x) ∷ c) t.number (λ w. (w + (2 ^ 64 - 1)) % 2 ^ 64) (put_back (step slots t.number 1 0 none) (taker_alone t, (t.number, Some x) ∷ c))
  puts_back n slots id t x c has s b wide at _ =
      let k : ℕ = t.number in let w : ℕ = get_or s.words k 0 in
      let a = b.account k in let know = b.each_taker id (taker_alone t) 0 t at refl in let settled = b.each_seat k know.0 in
      let st = taking_at x a.stage (sym has ∙ know.3) in
      let fits : FitsStage (get_elem? s.homes k) a.given a.taken (taking x) = subst (FitsStage (get_elem? s.homes k) a.given a.taken) st settled.2 in
      let same : a.given ≡ a.taken ++ x ∷ [] = fits.0 in
      let l : length t.taken ≡ length a.taken = ap length know.2 in
      let lg : length a.given ≡ length a.taken + 1 = ap length same ∙ length-append a.taken (x ∷ []) in let most : length a.given ≤ 2 ^ 60 = settled.1 in
      let co : code a.stage ≡ 3 = ap code st in let is : w ≡ 4 * length a.taken + code a.stage = settled.0 in
      let next : (w + (2 ^ 64 - 1)) % 2 ^ 64 ≡ 4 * length t.taken + 2 = omega arith in
      let near : k < length s.homes = (let g = b.homes_are in let f = know.0 in omega arith) in (
        taker_alone record { number = k; taken = t.taken; in_hand = None; last = t.last; looks = t.looks },
        gives,
        tt,
        taker_moves n s b id t record { number = k; taken = t.taken; in_hand = None; last = t.last; looks = t.looks } ((w + (2 ^ 64 - 1)) % 2 ^ 64) (set s.homes k (some (Some x))) (full x) at refl
            (length-set s.homes k (some (Some x))) (λ j apart. set_else s.homes k j (some (Some x)) apart)
            (next, most, (same ∙ ap (λ (g : List M). g ++ x ∷ []) (sym know.2), set_here s.homes k (some (Some x)) near))
            (ap is_filling (sym st)) refl,
        refl,
      )

  pub clears : (n slots id : ℕ) (t : Taker M) (x : M) (c : List (ℕ × Option M)) → t.in_hand ≡ Some x
      → Allows (IsBoard n) slots id (taker_alone t, (t.number, None) ∷ c) t.number (λ w. (w + 1) % 2 ^ 64) (cleared (step slots t.number 1 0 none) (taker_alone t, (t.number, None) ∷ c))
  clears n slots id t x c has s b wide at _ =
      let k : ℕ = t.number in let w : ℕ = get_or s.words k 0 in
      let a = b.account k in let know = b.each_taker id (taker_alone t) 0 t at refl in let settled = b.each_seat k know.0 in
      let st = taking_at x a.stage (sym has ∙ know.3) in
      let fits : FitsStage (get_elem? s.homes k) a.given a.taken (taking x) = subst (FitsStage (get_elem? s.homes k) a.given a.taken) st settled.2 in
      let same : a.given ≡ a.taken ++ x ∷ [] = fits.0 in
      let now : List M = t.taken ++ option_to_list t.in_hand in
      let all : now ≡ a.given = (λ i. know.2 i ++ option_to_list (has i)) ∙ sym same in
      let l : length now ≡ length a.given = ap length all in
      let lg : length a.given ≡ length a.taken + 1 = ap length same ∙ length-append a.taken (x ∷ []) in let most : length a.given ≤ 2 ^ 60 = settled.1 in
      let co : code a.stage ≡ 3 = ap code st in let is : w ≡ 4 * length a.taken + code a.stage = settled.0 in
      let next : (w + 1) % 2 ^ 64 ≡ 4 * length now + 0 = omega arith in
      let near : k < length s.homes = (let g = b.homes_are in let f = know.0 in omega arith) in (
        taker_alone record { number = k; taken = now; in_hand = None; last = t.last; looks = t.looks },
        gives,
        tt,
        taker_moves n s b id t record { number = k; taken = now; in_hand = None; last = t.last; looks = t.looks } ((w + 1) % 2 ^ 64) (set s.homes k (some None)) empty at refl
            (length-set s.homes k (some None)) (λ j apart. set_else s.homes k j (some None) apart)
            (next, most, (sym all, set_here s.homes k (some None) near))
            (ap is_filling (sym st)) refl,
        refl,
      )

  -- the same at a seat that is known by equations
  pub taker_looks_as : (n slots id k : ℕ) (me : Me (Option M) (View M)) (t : Taker M) (c : List (ℕ × Option M)) → me ≡ (taker_alone t, c) → k ≡ t.number
      → Allows (IsBoard n) slots id me k (λ x. x) (taker_looked (step slots k 0 0 none) me)
  taker_looks_as n slots id k me t c is at = subst (λ (z : Me (Option M) (View M) × ℕ). Allows (IsBoard n) slots id z.0 z.1 (λ x. x) (taker_looked (step slots z.1 0 0 none) z.0)) (λ i. (sym is i, sym at i))
      (taker_looks n slots id t c)

  pub takes_out_as : (n slots id k old : ℕ) (me : Me (Option M) (View M)) (t : Taker M) (c : List (ℕ × Option M)) → me ≡ (taker_alone t, c) → k ≡ t.number → old % 4 ≡ 2
      → Allows (IsBoard n) slots id me k (λ x. either (eqb x old) (old + 1) x) (took (step slots k old (old + 1) none) me)
  takes_out_as n slots id k old me t c is at two = subst (λ (z : Me (Option M) (View M) × ℕ). Allows (IsBoard n) slots id z.0 z.1 (λ x. either (eqb x old) (old + 1) x) (took (step slots z.1 old (old + 1) none) z.0)) (λ i. (sym is i, sym at i))
      (takes_out n slots id old t c two)

  pub puts_back_as : (n slots id k : ℕ) (me : Me (Option M) (View M)) (t : Taker M) (x : M) (c : List (ℕ × Option M)) → me ≡ (taker_alone t, (k, Some x) ∷ c) → k ≡ t.number → t.in_hand ≡ Some x
      → Allows (IsBoard n) slots id me k (λ w. (w + (2 ^ 64 - 1)) % 2 ^ 64) (put_back (step slots k 1 0 none) me)
  puts_back_as n slots id k me t x c is at has = subst (λ (z : Me (Option M) (View M) × ℕ). Allows (IsBoard n) slots id z.0 z.1 (λ w. (w + (2 ^ 64 - 1)) % 2 ^ 64) (put_back (step slots z.1 1 0 none) z.0))
      (λ i. (sym (is ∙ ap (λ (j : ℕ). (taker_alone t, (j, Some x) ∷ c)) at) i, sym at i)) (puts_back n slots id t x c has)

  abbrev pub top : List (ℕ × Option M) → Option M
  top [] = None
  top (x ∷ xs) = x.1

  pub held_is : (o : Option M) (x : M) → is_some o ≡ true → IfSome o (λ h. h ≡ x) → o ≡ Some x
  held_is None x e h = absurd (cc)
  held_is (Some y) x e h = ap Some h

  -- a thread with one end sees that end
  pub settles : (id : TableId) (me : Me (Option M) (View M)) (t : Taker M) (c : List (ℕ × Option M)) → me ≡ (taker_alone t, c) → me ≡ (end_view (take_end id me.0), c)
  settles id me t c e = subst (λ (v : View M). me ≡ (end_view (take_end id v), c)) (sym (ap (λ (z : Me (Option M) (View M)). z.0) e)) e

  -- a taker that holds a message holds the emptied slot
  pub clears_as : (n slots id k : ℕ) (me : Me (Option M) (View M)) (t : Taker M) (c : List (ℕ × Option M)) → me ≡ (taker_alone t, (k, None) ∷ c) → k ≡ t.number → is_some t.in_hand ≡ true
      → Allows (IsBoard n) slots id me k (λ w. (w + 1) % 2 ^ 64) (cleared (step slots k 1 0 none) me)
  clears_as n slots id k me t c is at has = subst (λ (z : Me (Option M) (View M) × ℕ). Allows (IsBoard n) slots id z.0 z.1 (λ w. (w + 1) % 2 ^ 64) (cleared (step slots z.1 1 0 none) z.0))
      (λ i. (sym (is ∙ ap (λ (j : ℕ). (taker_alone t, (j, None) ∷ c)) at) i, sym at i)) (let h = held t.in_hand has in clears n slots id t h.0 c h.1)
    where
      held : (o : Option M) → is_some o ≡ true → (x : M) × (o ≡ Some x)
      held None e = absurd (cc)
      held (Some x) e = (x, refl)
