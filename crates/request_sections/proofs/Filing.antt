-- One more event goes into the bucket of its key.
use Rattle.std.proofs.Common.{◌≡◌, refl, sym, ap, subst, ◌∙◌, ℕ, zero, suc, Bool, true, false, cond, List, [], ◌∷◌, ◌++◌, All, filter, length, slice_get, option_map, Option, Some, None, append-nil, if◌then◌else◌}
use Rattle.std.proofs.lemmas.List.Elements.{All-head, All-tail, filter-append}
use Rattle.day_events.specs.declared.event.Event.{Event}
use Rattle.request_sections.specs.declared.keys.By.{By}
use Rattle.request_sections.specs.Keys.{AreFiled, in_bucket, key_of}

none_is_some : {A : Type 0} (a : A) → None ≡ Some a → ⊥
none_is_some a e = cc

same_some : {A : Type 0} (a b : A) → Some a ≡ Some b → a ≡ b
same_some a b e = cc

abbrev pub Put : (e : Event) → Option ℕ → List (List Event) → List (List Event) → Type 0
Put e key old new = (b : ℕ) → slice_get new b ≡ option_map (λ kept. if in_bucket (length old) b key then kept ++ e ∷ [] else kept) (slice_get old b)

of_last : (test : Event → Bool) (es : List Event) (e : Event) (kept : List Event) (is : Bool) → test e ≡ is → kept ≡ filter test es → (if is then kept ++ e ∷ [] else kept) ≡ filter test (es ++ e ∷ [])
of_last test es e kept true h same =
    (λ j. same j ++ e ∷ []) ∙ (ap (λ (b : Bool). filter test es ++ cond b (e ∷ []) []) (sym h) ∙ sym (filter-append test es (e ∷ [])))
of_last test es e kept false h same =
    same ∙ (sym (append-nil (filter test es)) ∙ (ap (λ (b : Bool). filter test es ++ cond b (e ∷ []) []) (sym h) ∙ sym (filter-append test es (e ∷ []))))

pub filed_more : (x : By) (es : List Event) (e : Event) (old new : List (List Event)) → AreFiled x es old → length new ≡ length old → Put e (key_of x e) old new → AreFiled x (es ++ e ∷ []) new
filed_more x es e old new filed same put b kept there = by (slice_get old b) refl
  where
    n : ℕ
    n = length old

    more : List Event → List Event
    more l = if in_bucket n b (key_of x e) then l ++ e ∷ [] else l

    by : (o : Option (List Event)) → slice_get old b ≡ o → kept ≡ filter (λ y. in_bucket (length new) b (key_of x y)) (es ++ e ∷ [])
    by None h = absurd (none_is_some kept (sym (put b ∙ ap (option_map more) h) ∙ there))
    by (Some l) h =
        let is : more l ≡ kept = same_some (more l) kept (sym (put b ∙ ap (option_map more) h) ∙ there) in
        sym is ∙ (of_last (λ y. in_bucket n b (key_of x y)) es e l (in_bucket n b (key_of x e)) refl (filed b l h)
        ∙ ap (λ (m : ℕ). filter (λ y. in_bucket m b (key_of x y)) (es ++ e ∷ [])) (sym same))

-- no event yet
pub filed_none : (x : By) (buckets : List (List Event)) → All (λ (l : List Event). l ≡ []) buckets → AreFiled x [] buckets
filed_none x buckets none b kept there = empty buckets none b kept there
  where
    empty : (bs : List (List Event)) → All (λ (l : List Event). l ≡ []) bs → (k : ℕ) (l : List Event) → slice_get bs k ≡ Some l → l ≡ []
    empty [] all k l h = absurd (none_is_some l h)
    empty (y ∷ ys) all zero l h = sym (same_some y l h) ∙ All-head (λ (q : List Event). q ≡ []) y ys all
    empty (y ∷ ys) all (suc k) l h = empty ys (All-tail (λ (q : List Event). q ≡ []) y ys all) k l h
