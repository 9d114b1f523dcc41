-- The head above an answer.
use Rattle.std.proofs.Common.{◌≡◌, ◌⊎◌, inl, inr, ℕ, List, Bool, true, false, Option, None, Some, is_some, is_none, length, ap, refl, sym, subst, ◌∙◌, ◌||◌}
use Rattle.std.specs.Io.KnownBytes.{Keeps}
use Rattle.message_words.specs.declared.form.Form.{Form}
use Rattle.participants.specs.ParticipantFile.{ParticipantFile}
use Rattle.venue_rules.specs.Market.{Market}
use Rattle.venue_rules.specs.declared.trail.TrailRow.{TrailRow}
use Rattle.trail_answers.specs.declared.scope.Scope.{Scope}
use Rattle.trail_answers.specs.Emitted.{HasNoOrder, HasNoRoom}
use Rattle.trail_digest.specs.Trail.{Trail}
use Rattle.trail_questions.specs.declared.answers.Narrowing.{Narrowing}
use Rattle.trail_questions.specs.declared.fault.AskedFault.{AskedFault}
use Rattle.trail_questions.specs.declared.fault.AskedFault.TheVariants as asked
use Rattle.trail_questions.specs.declared.fault.Unknown.{Unknown}
use Rattle.trail_questions.specs.Answers.{Narrows, own_head}
use Rattle.trail_questions.specs.Ending.{Fails, IsNever}
use Rattle.trail_questions.specs.Headed.{Heads}

-- where the head is not written, nothing else is
pub head_failed : (Begun Differing : Type 0) (IsUnknown : Unknown → Type 0) (before after : Option (List ℕ)) (fault : AskedFault)
    → Fails ⊥ ⊥ IsNever before after fault → Fails Begun Differing IsUnknown before after fault
head_failed Begun Differing IsUnknown before after asked.Memory (inl keeps) = inl keeps
head_failed Begun Differing IsUnknown before after asked.Memory (inr none) = absurd none
head_failed Begun Differing IsUnknown before after asked.Output why = tt
head_failed Begun Differing IsUnknown before after (asked.Unknown what) why = absurd why.0
head_failed Begun Differing IsUnknown before after asked.Differs why = absurd why

-- an order that is not there is one that is sought, of which no head was written
unheaded : (n : Narrowing) (form : Form) (trail : Trail) (before mid : Option (List ℕ)) → (is_some n.order || is_some n.room) ≡ true → Heads (own_head n form) trail before mid → mid ≡ before
unheaded n form trail before mid sought heads = let at = rw sought at heads in at

or_right : (b : Bool) → (b || true) ≡ true
or_right true = refl
or_right false = refl

some_order : (scope : Scope) (b : Bool) (order : Option ℕ) → scope.order ≡ order → (is_none scope.order || b) ≡ false → is_some order ≡ true
some_order scope b None same none = let h = rw same at none in absurd (cc)
some_order scope b (Some k) same none = refl

some_room : (scope : Scope) (b : Bool) (room : Option ℕ) → scope.room ≡ room → (is_none scope.room || b) ≡ false → is_some room ≡ true
some_room scope b None same none = let h = rw same at none in absurd (cc)
some_room scope b (Some k) same none = refl

pub order_unwritten : (n : Narrowing) (form : Form) (m : Market) (trail : Trail) (scope : Scope) (count : ℕ) (before mid after : Option (List ℕ))
    → Narrows m.participants count n scope → Heads (own_head n form) trail before mid → HasNoOrder m scope trail.rows → Keeps mid after → Keeps before after
order_unwritten n form m trail scope count before mid after narrows heads none keeps =
    let given : is_some n.order ≡ true = some_order scope _ n.order narrows.order none.none in
    subst (λ (b : Option (List ℕ)). Keeps b after) (unheaded n form trail before mid (rw given refl) heads) keeps

pub room_unwritten : (n : Narrowing) (form : Form) (m : Market) (trail : Trail) (scope : Scope) (count : ℕ) (before mid after : Option (List ℕ))
    → Narrows m.participants count n scope → Heads (own_head n form) trail before mid → HasNoRoom m scope trail.rows → Keeps mid after → Keeps before after
room_unwritten n form m trail scope count before mid after narrows heads none keeps =
    let given : is_some n.room ≡ true = some_room scope _ n.room narrows.room none.none in
    subst (λ (b : Option (List ℕ)). Keeps b after) (unheaded n form trail before mid (rw given (or_right (is_some n.order))) heads) keeps
