-- Entries of a list as the reader sees them, and as data.
use Rattle.std.proofs.Common.{◌≡◌, refl, ap, ◌∙◌, ℕ, Bool, ◌||◌, List, [], ◌∷◌, map, bytes_eq}
use Rattle.std.specs.List.{list_any}
use Rattle.toml.specs.View.{view}
use Rattle.toml.specs.declared.value.Value.{Value}
use Rattle.config_format.specs.Document.{text_at}
use Rattle.config_format.proofs.ListLemmas.{any-seen}
use Rattle.participants.specs.Reading.{is_same_named, named}
use Rattle.file_diagnosis.specs.declared.cause.Key.{Key}
use Rattle.file_diagnosis.specs.declared.cause.Wrong.TheVariants.{Twice}
use Rattle.file_diagnosis.specs.Causes.{first_wrong, key_word, repeat_in, repeated_pair}

pub any_of : {X Y : Type 0} (p : Y → Bool) (f : X → Y) (xs : List X) → list_any p (map f xs) ≡ list_any (λ x. p (f x)) xs
any_of p f [] = refl
any_of p f (x ∷ xs) = ap (λ b. p (f x) || b) (any_of p f xs)

-- a text that an entry before has
pub text_seen : (k : Key) (word text : List ℕ) (before : List Value) (e : Value) (b : Bool) → word ≡ key_word k → text ≡ text_at word (view e) → b ≡ list_any (λ d. bytes_eq (text_at word (view d)) text) before
    → first_wrong ((b, Twice) ∷ []) ≡ repeat_in k (map view before) (view e)
text_seen k word text before e b named_so at seen =
    ap (λ x. first_wrong ((x, Twice) ∷ []))
    (seen
    ∙ (any-seen (λ d. bytes_eq (text_at word d) text) before (map view before) refl
    ∙ (ap (λ t. list_any (λ d. bytes_eq (text_at word d) t) (map view before)) at
    ∙ ap (λ w. list_any (λ d. bytes_eq (text_at w d) (text_at w (view e))) (map view before)) named_so)))

-- a pair that stands before
pub pair_seen : (before : List Value) (e : Value) (b : Bool) → b ≡ list_any (λ d. is_same_named (named (view d)) (named (view e))) before → first_wrong ((b, Twice) ∷ []) ≡ repeated_pair (map view before) (view e)
pair_seen before e b seen = ap (λ x. first_wrong ((x, Twice) ∷ [])) (seen ∙ any-seen (λ d. is_same_named (named d) (named (view e))) before (map view before) refl)
