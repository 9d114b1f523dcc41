-- The hashed texts give back what they are made of.
use Rattle.std.proofs.Common.{◌≡◌, ℕ, ◌+◌, List, [], ◌∷◌, ◌++◌, length, take, drop, codes, refl, sym, ap, ◌∙◌, arith}
use Rattle.std.specs.Prelude.{All}
use Rattle.std.specs.Int.{from_be_bytes, w64}
use Rattle.std.proofs.lemmas.List.{append-nil, append_assoc, append_cancel_left, drop_at, take_at}
use Rattle.std.proofs.lemmas.List.Elements.{All-from_recursion, All-head, All-tail}
use Rattle.std.proofs.lemmas.Nat.{from_be_bytes-to_be_bytes_8}
use Rattle.venue_rules.specs.declared.trail.TrailRow.{TrailRow}
use Rattle.trail_digest.specs.Chain.{fields, link_text, number, numbers, part, start_text, version}
use Rattle.trail_digest.specs.Laws.{Fits, FitsRow}

-- two lists that begin with parts of one length
pub split : {A : Type 0} (a b c d : List A) → length a ≡ length c → a ++ b ≡ c ++ d → (a ≡ c) × (b ≡ d)
split a b c d h e = (
  sym (take_at a b (length c) h) ∙ ap (take (length c)) e ∙ take_at c d (length c) refl,
  sym (drop_at a b (length c) h) ∙ ap (drop (length c)) e ∙ drop_at c d (length c) refl,
)

pub number_injective : (m n : ℕ) → Fits m → Fits n → number m ≡ number n → m ≡ n
unfolding number
number_injective m n hm hn e = sym (from_be_bytes-to_be_bytes_8 m hm) ∙ ap (from_be_bytes w64) e ∙ from_be_bytes-to_be_bytes_8 n hn

pub length-number : (n : ℕ) → length (number n) ≡ 8
unfolding number
length-number n = refl

pub numbers_injective : (ms ns x y : List ℕ) → length ms ≡ length ns → All Fits ms → All Fits ns → numbers ms ++ x ≡ numbers ns ++ y → (ms ≡ ns) × (x ≡ y)
numbers_injective [] [] x y l hm hn e = (refl, e)
numbers_injective [] (n ∷ ns) x y l hm hn e = absurd (omega arith)
numbers_injective (m ∷ ms) [] x y l hm hn e = absurd (omega arith)
numbers_injective (m ∷ ms) (n ∷ ns) x y l hm hn e =
    let parted = split (number m) (numbers ms ++ x) (number n) (numbers ns ++ y) (length-number m ∙ sym (length-number n)) (sym (append_assoc (number m) (numbers ms) x) ∙ e ∙ append_assoc (number n) (numbers ns) y) in
    let first : m ≡ n = number_injective m n (All-head Fits m ms hm) (All-head Fits n ns hn) parted.0 in
    let shorter : length ms ≡ length ns = omega arith in
    let rest = numbers_injective ms ns x y shorter (All-tail Fits m ms hm) (All-tail Fits n ns hn) parted.1 in
    let both : m ∷ ms ≡ n ∷ ns = ap (λ k. k ∷ ms) first ∙ ap (λ l. n ∷ l) rest.0 in
    (both, rest.1)

pub part_injective : (a b x y : List ℕ) → Fits (length a) → Fits (length b) → number (length a) ++ (a ++ x) ≡ number (length b) ++ (b ++ y) → (a ≡ b) × (x ≡ y)
part_injective a b x y ha hb e =
    let parted = split (number (length a)) (a ++ x) (number (length b)) (b ++ y) (length-number (length a) ∙ sym (length-number (length b))) e in
    split a x b y (number_injective (length a) (length b) ha hb parted.0) parted.1

regroup : (t v m p n i k d : List ℕ) → t ++ v ++ (m ++ p) ++ (n ++ i) ++ k ++ d ≡ (t ++ v) ++ (m ++ (p ++ (n ++ (i ++ (k ++ d)))))
regroup t v m p n i k d = simp append_assoc

-- the text that the chain begins with, part by part
start_parts : (p i d : List ℕ) → start_text p i d ≡ (codes "trail" ++ number version) ++ (number (length p) ++ (p ++ (number (length i) ++ (i ++ (number (length d) ++ numbers d)))))
start_parts p i d = regroup (codes "trail") (number version) (number (length p)) p (number (length i)) i (number (length d)) (numbers d)

pub start_injective : (p i d p' i' d' : List ℕ) → Fits (length p) → Fits (length p') → Fits (length i) → Fits (length i') → Fits (length d) → Fits (length d') → All Fits d → All Fits d' → start_text p i d ≡ start_text p' i' d' → (p ≡ p') × (i ≡ i') × (d ≡ d')
start_injective p i d p' i' d' hp hp' hi hi' hn hn' hd hd' e =
    let all = append_cancel_left (codes "trail" ++ number version) _ _ (sym (start_parts p i d) ∙ e ∙ start_parts p' i' d') in
    let first = part_injective p p' _ _ hp hp' all in
    let second = part_injective i i' _ _ hi hi' first.1 in
    let third = split (number (length d)) (numbers d) (number (length d')) (numbers d') (length-number (length d) ∙ sym (length-number (length d'))) second.1 in
    let count : length d ≡ length d' = number_injective (length d) (length d') hn hn' third.0 in
    let delays = numbers_injective d d' [] [] count hd hd' (append-nil (numbers d) ∙ third.1 ∙ sym (append-nil (numbers d'))) in
    (first.0, second.0, delays.0)

fields_fit : (r : TrailRow) → FitsRow r → All Fits (fields r)
fields_fit r f = All-from_recursion Fits (fields r) (f.n, (f.moment, (f.who, (f.number, (f.era, tt)))))

-- rows with the same fields
pub same_rows : (r s : TrailRow) → r.n ≡ s.n → r.who ≡ s.who → r.era ≡ s.era → r.number ≡ s.number → r.moment ≡ s.moment → r.text ≡ s.text → r ≡ s
same_rows r s n who era number moment text =
    let row : ℕ → ℕ → ℕ → ℕ → ℕ → List ℕ → TrailRow = λ a b c d e f. record { n = a; who = b; era = c; number = d; moment = e; text = f } in
    ap (λ a. row a r.who r.era r.number r.moment r.text) n
    ∙ ap (λ b. row s.n b r.era r.number r.moment r.text) who
    ∙ ap (λ c. row s.n s.who c r.number r.moment r.text) era
    ∙ ap (λ d. row s.n s.who s.era d r.moment r.text) number
    ∙ ap (λ e. row s.n s.who s.era s.number e r.text) moment
    ∙ ap (λ f. row s.n s.who s.era s.number s.moment f) text

link_parts : (h : List ℕ) (r : TrailRow) → link_text h r ≡ codes "row" ++ (h ++ (numbers (fields r) ++ (number (length r.text) ++ (r.text ++ []))))
link_parts h r = rw (append-nil r.text) (simp append_assoc)

pub link_injective : (h h' : List ℕ) (r s : TrailRow) → length h ≡ length h' → FitsRow r → FitsRow s → link_text h r ≡ link_text h' s → (h ≡ h') × (r ≡ s)
link_injective h h' r s l fr fs e =
    let all = append_cancel_left (codes "row") _ _ (sym (link_parts h r) ∙ e ∙ link_parts h' s) in
    let before = split h _ h' _ l all in
    let numbered = numbers_injective (fields r) (fields s) _ _ refl (fields_fit r fr) (fields_fit s fs) before.1 in
    let spelled = part_injective r.text s.text [] [] fr.text fs.text numbered.1 in
    let n : r.n ≡ s.n = cc in
    let moment : r.moment ≡ s.moment = cc in
    let who : r.who ≡ s.who = cc in
    let number : r.number ≡ s.number = cc in
    let era : r.era ≡ s.era = cc in
    (before.0, same_rows r s n who era number moment spelled.0)
