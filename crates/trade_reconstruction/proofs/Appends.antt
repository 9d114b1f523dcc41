-- Texts appended one after another.
use Rattle.std.proofs.Common.{◌≡◌, ◌++◌, ◌∙◌, ◌∷◌, ◌+◌, ◌<◌, [], ℕ, zero, suc, refl, arith, List, ap, get_or, length, sym, take, append-nil, append_assoc}
use Rattle.std.specs.List.{flat_map}
use Rattle.std.proofs.lemmas.List.{take_more}

-- two texts, and then three
pub five : (old one two three all a b b' c d e : List ℕ) → one ≡ old ++ (a ++ (b ++ [])) → b ≡ b' → two ≡ one ++ c → three ≡ two ++ d → all ≡ three ++ e → all ≡ old ++ (a ++ (b' ++ (c ++ (d ++ e))))
five old one two three all a b b' c d e first is then third last = last ∙ simp (third, then, first, is, append-nil, append_assoc)

-- two texts, two more, three, one, and one
pub nine : (old m1 m2 m3 m4 all o n b w w' s s' q q' y p e : List ℕ) → m1 ≡ old ++ (o ++ n) → m2 ≡ m1 ++ (b ++ (w ++ [])) → w ≡ w' → m3 ≡ m2 ++ (s ++ (q ++ y)) → s ≡ s' → q ≡ q' → m4 ≡ m3 ++ p → all ≡ m4 ++ e
    → all ≡ old ++ (o ++ (n ++ (b ++ (w' ++ (s' ++ (q' ++ (y ++ (p ++ e))))))))
nine old m1 m2 m3 m4 all o n b w w' s s' q q' y p e h1 h2 hw h3 hs hq h4 last = last ∙ simp (h4, h3, h2, h1, hw, hs, hq, append-nil, append_assoc)

-- four texts
pub four : (old one two three all a b c d : List ℕ) → one ≡ old ++ a → two ≡ one ++ b → three ≡ two ++ c → all ≡ three ++ d → all ≡ old ++ (a ++ (b ++ (c ++ d)))
four old one two three all a b c d h1 h2 h3 last = last ∙ simp (h3, h2, h1, append_assoc)

-- three texts and numbers, a text, a price, one as it is known, and a last one
pub eleven : (old m1 m2 m3 m4 m5 m6 all o n b r s s' l l' t p f f' w : List ℕ) → m1 ≡ old ++ (o ++ n) → m2 ≡ m1 ++ (b ++ r) → m3 ≡ m2 ++ (s ++ l) → s ≡ s' → l ≡ l' → m4 ≡ m3 ++ (t ++ []) → m5 ≡ m4 ++ p → m6 ≡ m5 ++ f → f ≡ f' → all ≡ m6 ++ w
    → all ≡ old ++ (o ++ (n ++ (b ++ (r ++ (s' ++ (l' ++ (t ++ (p ++ (f' ++ w)))))))))
eleven old m1 m2 m3 m4 m5 m6 all o n b r s s' l l' t p f f' w h1 h2 h3 hs hl h4 h5 h6 hf last = last ∙ simp (h6, h5, h4, h3, h2, h1, hs, hl, hf, append-nil, append_assoc)

-- a text and a number, two texts, two more pairs, and a last one
pub ten : (old m1 m2 m3 m4 all o n t x x' f d s u w : List ℕ) → m1 ≡ old ++ (o ++ n) → m2 ≡ m1 ++ (t ++ (x ++ [])) → x ≡ x' → m3 ≡ m2 ++ (f ++ d) → m4 ≡ m3 ++ (s ++ u) → all ≡ m4 ++ w
    → all ≡ old ++ (o ++ (n ++ (t ++ (x' ++ (f ++ (d ++ (s ++ (u ++ w))))))))
ten old m1 m2 m3 m4 all o n t x x' f d s u w h1 h2 hx h3 h4 last = last ∙ simp (h4, h3, h2, h1, hx, append-nil, append_assoc)

-- five texts, of which three as they are known, and four more
pub eight : (old ma mb m1 m2 m3 m4 all h q q' b n n' s s' p r t w : List ℕ) → ma ≡ old ++ (h ++ (q ++ [])) → q ≡ q' → mb ≡ ma ++ (b ++ (n ++ [])) → n ≡ n' → m1 ≡ mb ++ (s ++ []) → s ≡ s' → m2 ≡ m1 ++ p → m3 ≡ m2 ++ r → m4 ≡ m3 ++ t → all ≡ m4 ++ w
    → all ≡ old ++ (h ++ (q' ++ (b ++ (n' ++ (s' ++ (p ++ (r ++ (t ++ w))))))))
eight old ma mb m1 m2 m3 m4 all h q q' b n n' s s' p r t w ha hq hb hn h1 hs h2 h3 h4 last = last ∙ simp (h4, h3, h2, h1, hb, ha, hq, hn, hs, append-nil, append_assoc)

-- two texts
pub both : (old one all a b : List ℕ) → one ≡ old ++ a → all ≡ one ++ b → all ≡ old ++ (a ++ b)
both old one all a b h last = last ∙ (ap (λ l. l ++ b) h ∙ append_assoc old a b)

-- five texts
pub quintet : (old one two three more all a b c d e : List ℕ) → one ≡ old ++ a → two ≡ one ++ b → three ≡ two ++ c → more ≡ three ++ d → all ≡ more ++ e → all ≡ old ++ (a ++ (b ++ (c ++ (d ++ e))))
quintet old one two three more all a b c d e h1 h2 h3 h4 last = last ∙ simp (h4, h3, h2, h1, append_assoc)

-- three lists, the first two as they are known
pub three : {A : Type 0} (old one two all a a' b b' c : List A) → one ≡ old ++ a → a ≡ a' → two ≡ one ++ b → b ≡ b' → all ≡ two ++ c → all ≡ old ++ (a' ++ (b' ++ c))
three old one two all a a' b b' c h1 ha h2 hb last = last ∙ simp (h2, h1, ha, hb, append_assoc)

-- three texts
pub trio : (old one two all a b c : List ℕ) → one ≡ old ++ a → two ≡ one ++ b → all ≡ two ++ c → all ≡ old ++ (a ++ (b ++ c))
trio old one two all a b c h1 h2 last = last ∙ simp (h2, h1, append_assoc)

-- two texts, two more, four, two, and two
pub twelve : (old m1 m2 m3 m4 all q n o w w' b p f r u t a e : List ℕ) → m1 ≡ old ++ (q ++ n) → m2 ≡ m1 ++ (o ++ (w ++ [])) → w ≡ w' → m3 ≡ m2 ++ (b ++ (p ++ (f ++ r))) → m4 ≡ m3 ++ (u ++ t)
    → all ≡ m4 ++ (a ++ e) → all ≡ old ++ (q ++ (n ++ (o ++ (w' ++ (b ++ (p ++ (f ++ (r ++ (u ++ (t ++ (a ++ e)))))))))))
twelve old m1 m2 m3 m4 all q n o w w' b p f r u t a e h1 h2 hw h3 h4 last = last ∙ simp (h4, h3, h2, h1, hw, append-nil, append_assoc)

-- what one more element adds to those before it

flat_more : {A B : Type 0} (f : A → List B) (xs : List A) (x : A) → flat_map f (xs ++ x ∷ []) ≡ flat_map f xs ++ f x
flat_more f [] x = append-nil (f x)
flat_more f (y ∷ ys) x = ap (λ l. f y ++ l) (flat_more f ys x) ∙ sym (append_assoc (f y) (flat_map f ys) (f x))

pub one_more : {A B : Type 0} (f : A → List B) (old : List B) (xs : List A) (k : ℕ) (x : A) → k < length xs → x ≡ get_or xs k x → (old ++ flat_map f (take k xs)) ++ f x ≡ old ++ flat_map f (take (k + 1) xs)
one_more f old xs k x low at =
    append_assoc old (flat_map f (take k xs)) (f x)
    ∙ ap (λ l. old ++ l) (sym (flat_more f (take k xs) x) ∙ ap (flat_map f) (ap (λ y. take k xs ++ y ∷ []) at ∙ sym (take_more xs k x low)))

-- within a list the default of a look-up does not matter
pub any_default : {A : Type 0} (xs : List A) (k : ℕ) (a b : A) → k < length xs → get_or xs k a ≡ get_or xs k b
any_default [] k a b low = absurd (omega (arith, low))
any_default (x ∷ xs) zero a b low = refl
any_default (x ∷ xs) (suc k) a b low = any_default xs k a b (omega (arith, low))
