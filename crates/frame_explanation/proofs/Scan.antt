-- A log read byte by byte.
use Rattle.std.proofs.Common.{◌≡◌, ℕ, suc, ◌+◌, ◌-◌, ◌<◌, ◌≤◌, List, [], ◌∷◌, ◌++◌, Some, true, false, length, take, drop, get_or, sym, ap, ◌∙◌, arith, add-one, append_assoc, refl, subst}
use Rattle.std.proofs.Math.Seq.{drop-cons}
use Rattle.std.proofs.lemmas.List.{take_rest}
use Rattle.frame_explanation.specs.Frames.{broken, ends_run, is_framed, look, look_behind, founds, inside, found_from, run_length}
use Rattle.frame_explanation.specs.declared.frames.Look.{Look}
use Rattle.frame_explanation.specs.declared.frames.Look.TheVariants.{Frame, Broken, Nothing}
use Rattle.frame_explanation.specs.declared.frames.Found.{Found}

pub front : (s : List ℕ) (at : ℕ) → at < length s → drop at s ≡ get_or s at 0 ∷ drop (suc at) s
front s at low = drop-cons s at 0 low

-- a byte of what was found before

pub found_passed : (s : List ℕ) (at next : ℕ) → at < length s → at < next → found_from (at + 1) (next - (at + 1)) (drop (at + 1) s) ≡ found_from at (next - at) (drop at s)
found_passed s at next low less =
    let left : next - at ≡ suc (next - (at + 1)) = omega arith in
    rw (left, front s at low, add-one)

-- a byte at which this begins

found_here : (s : List ℕ) (at next : ℕ) (l : Look) → at < length s → next ≤ at → l ≡ look (drop at s) → found_from at (next - at) (drop at s) ≡ founds at l ++ found_from (at + 1) (inside l) (drop (at + 1) s)
found_here s at next l low past is =
    let left : next - at ≡ 0 = omega arith in
    rw (is, left, front s at low, add-one)

seen_there : (s : List ℕ) (at : ℕ) (l : Look) → l ≡ look (take (length s - at) (drop at s)) → l ≡ look (drop at s)
seen_there s at l is = is ∙ ap look (take_rest s at)

-- something was found, whose last bytes end at `later`
pub was_found : (s : List ℕ) (at next later : ℕ) (l : Look) (one : Found) (old new : List Found) → at < length s → next ≤ at → l ≡ look (take (length s - at) (drop at s)) → founds at l ≡ one ∷ [] → inside l ≡ later - (at + 1)
    → new ≡ old ++ one ∷ [] → new ++ found_from (at + 1) (later - (at + 1)) (drop (at + 1) s) ≡ old ++ found_from at (next - at) (drop at s)
was_found s at next later l one old new low past is founds_one bytes pushed =
    ap (λ (x : List Found). x ++ found_from (at + 1) (later - (at + 1)) (drop (at + 1) s)) pushed
    ∙ append_assoc old (one ∷ []) (found_from (at + 1) (later - (at + 1)) (drop (at + 1) s))
    ∙ ap (λ (n : ℕ). old ++ (one ∷ found_from (at + 1) n (drop (at + 1) s))) (sym bytes)
    ∙ ap (λ (x : List Found). old ++ (x ++ found_from (at + 1) (inside l) (drop (at + 1) s))) (sym founds_one)
    ∙ ap (λ (x : List Found). old ++ x) (sym (found_here s at next l low past (seen_there s at l is)))

pub none_found : (s : List ℕ) (at next : ℕ) (old : List Found) → at < length s → next ≤ at → Nothing ≡ look (take (length s - at) (drop at s))
    → old ++ found_from (at + 1) (next - (at + 1)) (drop (at + 1) s) ≡ old ++ found_from at (next - at) (drop at s)
none_found s at next old low past is =
    let nothing_left : next - (at + 1) ≡ 0 = omega arith in
    ap (λ (x : List Found). old ++ x)
    (ap (λ (n : ℕ). found_from (at + 1) n (drop (at + 1) s)) nothing_left
    ∙ sym (found_here s at next Nothing low past (seen_there s at Nothing is)))

-- what is broken goes on

run_cons : (c : ℕ) (cs : List ℕ) → ends_run (c ∷ cs) ≡ false → run_length (c ∷ cs) ≡ suc (run_length cs)
run_cons c cs no_end = rw no_end refl

pub run_later : (s : List ℕ) (at : ℕ) → at < length s → ends_run (take (length s - at) (drop at s)) ≡ false → at + 1 + run_length (drop (at + 1) s) ≡ at + run_length (drop at s)
run_later s at low no_end =
    let here : ends_run (drop at s) ≡ false = ap ends_run (sym (take_rest s at)) ∙ no_end in
    let f = front s at low in
    let step : run_length (drop at s) ≡ suc (run_length (drop (suc at) s)) =
    subst (λ (l : List ℕ). run_length l ≡ suc (run_length (drop (suc at) s))) (sym f) (run_cons (get_or s at 0) (drop (suc at) s) (subst (λ (l : List ℕ). ends_run l ≡ false) f here)) in
    let same : run_length (drop (at + 1) s) ≡ run_length (drop (suc at) s) = ap (λ (n : ℕ). run_length (drop n s)) (add-one at) in
    omega (arith, step, same)

-- what has no body, or no checksum, is broken
pub look_broken : (s : List ℕ) (start n : ℕ) → is_framed s start (start + n) ≡ false → broken s ≡ look_behind s start (Some n)
look_broken s start n none = rw none refl
