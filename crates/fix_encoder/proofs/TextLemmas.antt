-- Slots, in order.
use Rattle.std.proofs.Common.{◌≡◌, ℕ, ◌+◌, ◌<◌, List, [], ◌∷◌, ◌++◌, length, take, get_or, refl, sym, ap, ◌∙◌, append_assoc, append-nil}
use Rattle.std.proofs.lemmas.List.{take_more}
use Rattle.fix_dictionary.specs.Text.{Slot, slots_text, each_slots}
use Rattle.fix_dictionary.proofs.TextLemmas.{slots_text_append}
use Rattle.fix_encoder.specs.Printed.{slot, slots}
use Rattle.fix_encoder.specs.declared.print.Slot as values

slots_append : (xs ys : List values.Slot) → slots (xs ++ ys) ≡ slots xs ++ slots ys
slots_append [] ys = refl
slots_append (x ∷ xs) ys = ap (λ (l : List Slot). slot x ∷ l) (slots_append xs ys)

-- another slot
pub slots_take : (list : List values.Slot) (i : ℕ) (d : values.Slot) → i < length list
    → slots_text (slots (take (i + 1) list)) ≡ slots_text (slots (take i list)) ++ slots_text (slots (get_or list i d ∷ []))
slots_take list i d lt =
    ap (λ (l : List values.Slot). slots_text (slots l)) (take_more list i d lt)
    ∙ ap slots_text (slots_append (take i list) (get_or list i d ∷ []))
    ∙ slots_text_append (slots (take i list)) (slots (get_or list i d ∷ []))

each_append : {X : Type 0} (f : X → List Slot) (xs ys : List X) → each_slots f (xs ++ ys) ≡ each_slots f xs ++ each_slots f ys
each_append f [] ys = refl
each_append f (x ∷ xs) ys = ap (λ (l : List Slot). f x ++ l) (each_append f xs ys) ∙ sym (append_assoc (f x) (each_slots f xs) (each_slots f ys))

-- another instance
pub each_take : {X : Type 0} (f : X → List Slot) (list : List X) (i : ℕ) (d : X) → i < length list
    → slots_text (each_slots f (take (i + 1) list)) ≡ slots_text (each_slots f (take i list)) ++ slots_text (f (get_or list i d))
each_take {X = X} f list i d lt =
    ap (λ (l : List X). slots_text (each_slots f l)) (take_more list i d lt)
    ∙ ap slots_text (each_append f (take i list) (get_or list i d ∷ []))
    ∙ slots_text_append (each_slots f (take i list)) (f (get_or list i d) ++ [])
    ∙ ap (λ (l : List Slot). slots_text (each_slots f (take i list)) ++ slots_text l) (append-nil (f (get_or list i d)))
