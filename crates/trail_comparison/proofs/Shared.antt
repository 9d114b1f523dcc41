-- The inputs of the rows that both of two venues take.
use Rattle.std.proofs.Common.{◌≡◌, ℕ, ◌+◌, ◌-◌, ◌==◌, ◌&&◌, not, Bool, true, false, List, [], ◌∷◌, ◌++◌, filter, Option, None, Some, if◌then◌else◌, refl, sym, ap, ◌∙◌, append-nil, arith}
use Rattle.std.proofs.lemmas.Bool.Decides.{nat_tests}
use Rattle.std.proofs.lemmas.List.Elements.{filter-append}
use Rattle.venue_rules.specs.declared.trail.TrailRow.{TrailRow}
use Rattle.venue_rules.specs.Run.{Input, Message, Tick}
use Rattle.venue_core.specs.Replay.{Emits}
use Rattle.trail_comparison.specs.Without.{is_input_of, is_row_of, is_shared, shared_inputs}

-- the sender of a row sent its message
same_sender : (who sender from : ℕ) → sender ≡ from + 1 → (from == who) ≡ (not (sender == 0) && (who == (sender - 1)))
same_sender who sender from is = by (from == who) (sender == 0) (who == (sender - 1)) refl refl refl
  where
    earlier : sender - 1 ≡ from
    earlier = omega (arith, is)

    by : (b c d : Bool) → (from == who) ≡ b → (sender == 0) ≡ c → (who == (sender - 1)) ≡ d → b ≡ (not c && d)
    by b true d e f g = absurd (grind (arith, nat_tests, is))
    by true false true e f g = refl
    by false false false e f g = refl
    by true false false e f g = absurd (grind (arith, nat_tests, earlier))
    by false false true e f g = absurd (grind (arith, nat_tests, earlier))

sent : (who : ℕ) (r : TrailRow) (i : Input) → Emits r i → is_input_of who i ≡ is_row_of who r
sent who r (Message taken t) emits = same_sender who r.who taken.from emits.0
sent who r (Tick t) emits = sym (ap (λ (w : ℕ). not (w == 0) && (who == (w - 1))) emits.0)

first_of : (p : Input → Bool) (i : Input) (is : List Input) (b : Bool) → p i ≡ b → filter p (i ∷ is) ≡ (if b then i ∷ filter p is else filter p is)
first_of p i is true e = rw e refl
first_of p i is false e = rw e refl

pub first_shared : (left : Option ℕ) (r : TrailRow) (i : Input) (is : List Input) → Emits r i
    → shared_inputs left (i ∷ is) ≡ (if is_shared left r then i ∷ shared_inputs left is else shared_inputs left is)
first_shared None r i is emits = refl
first_shared (Some who) r i is emits = first_of (λ j. not (is_input_of who j)) i is (not (is_row_of who r)) (ap not (sent who r i emits))

pub none_shared : (left : Option ℕ) → shared_inputs left [] ≡ []
none_shared None = refl
none_shared (Some who) = refl

more_shared : (left : Option ℕ) (is : List Input) (i : Input) → shared_inputs left (is ++ i ∷ []) ≡ shared_inputs left is ++ shared_inputs left (i ∷ [])
more_shared None is i = refl
more_shared (Some who) is i = filter-append (λ j. not (is_input_of who j)) is (i ∷ [])

-- of one row more: its input, or none
pub one_shared : (left : Option ℕ) (r : TrailRow) (is : List Input) (i : Input) → is_shared left r ≡ true → Emits r i → shared_inputs left (is ++ i ∷ []) ≡ shared_inputs left is ++ i ∷ []
one_shared left r is i taken emits =
    more_shared left is i
    ∙ ap (λ (js : List Input). shared_inputs left is ++ js)
    (first_shared left r i [] emits ∙ ap (λ (b : Bool). if b then i ∷ shared_inputs left [] else shared_inputs left []) taken ∙ ap (λ (js : List Input). i ∷ js) (none_shared left))

pub none_shared_more : (left : Option ℕ) (r : TrailRow) (is : List Input) (i : Input) → is_shared left r ≡ false → Emits r i → shared_inputs left (is ++ i ∷ []) ≡ shared_inputs left is
none_shared_more left r is i passed emits =
    more_shared left is i
    ∙ ap (λ (js : List Input). shared_inputs left is ++ js)
    (first_shared left r i [] emits ∙ ap (λ (b : Bool). if b then i ∷ shared_inputs left [] else shared_inputs left []) passed ∙ none_shared left)
    ∙ append-nil (shared_inputs left is)
