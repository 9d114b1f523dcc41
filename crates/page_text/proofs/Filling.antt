-- What filling a template does to spots and tags: the same whatever the values are.
use Rattle.std.specs.Prelude.{◌≡◌, ℕ, List, [], ◌∷◌, ◌++◌, Bool, true, false, ◌==◌, if◌then◌else◌, map, refl}
use Rattle.std.proofs.Common.{sym, ◌∙◌, ap, subst, append_assoc}
use Rattle.page_text.specs.declared.spot.Spot.{Spot}
use Rattle.page_text.specs.declared.spot.Spot.TheVariants.{Text, Tag, Quoted}
use Rattle.page_text.specs.declared.spot.Reading.{Reading}
use Rattle.page_text.specs.declared.spot.Reading.TheVariants.{Own, Name}
use Rattle.page_text.specs.Spots.{after, step, tags}
use Rattle.page_text.specs.Parts.{Part, emitted, filled, left, next, shown, spot_of, with_part, with_parts}
use Rattle.page_text.specs.Laws.{PartsFollowParts, ValuesLeaveTagsAlone, empty_part}
use Rattle.page_text.proofs.Scanning.{IsQuiet, after-append, tags-append, quiet_inert_text, quiet_inert_quoted, value_inert}

-- what stands in a place is quiet there
shown_quiet : (s : Spot) (vs : List (List ℕ)) → IsQuiet s (shown s vs)
shown_quiet s [] = record { stays = refl; adds = refl }
shown_quiet Text (v ∷ vs) = quiet_inert_text _ (value_inert v)
shown_quiet Tag (v ∷ vs) = record { stays = refl; adds = refl }
shown_quiet Quoted (v ∷ vs) = quiet_inert_quoted _ (value_inert v)

own_spot : (s : Spot) (b : ℕ) (is : Bool) (vs : List (List ℕ)) → after s (if is then shown s vs else b ∷ []) ≡ spot_of (if is then Name s else Own (step s b))
own_spot s b true vs = (shown_quiet s vs).stays
own_spot s b false vs = refl

name_spot : (s : Spot) (is : Bool) → s ≡ spot_of (if is then Own s else Name s)
name_spot s true = refl
name_spot s false = refl

pub emitted_spot : (r : Reading) (b : ℕ) (vs : List (List ℕ)) → after (spot_of r) (emitted r b vs) ≡ spot_of (next r b)
emitted_spot (Own s) b vs = own_spot s b (b == 36) vs
emitted_spot (Name s) b vs = name_spot s (b == 59)

own_tags : (s : Spot) (b : ℕ) (is : Bool) (vs : List (List ℕ)) → tags s (if is then shown s vs else b ∷ []) ≡ tags s (if is then shown s [] else b ∷ [])
own_tags s b true vs = (shown_quiet s vs).adds
own_tags s b false vs = refl

emitted_tags : (r : Reading) (b : ℕ) (vs : List (List ℕ)) → tags (spot_of r) (emitted r b vs) ≡ tags (spot_of r) (emitted r b [])
emitted_tags (Own s) b vs = own_tags s b (b == 36) vs
emitted_tags (Name s) b vs = refl

-- a byte of the template, where what follows stands alike whatever the values are
step_after : (r : Reading) (b : ℕ) (bs : List ℕ) (vs : List (List ℕ))
    → ((ws : List (List ℕ)) → after (spot_of (next r b)) (filled (next r b) bs ws) ≡ after (spot_of (next r b)) (filled (next r b) bs []))
    → after (spot_of r) (filled r (b ∷ bs) vs) ≡ after (spot_of (next r b)) (filled (next r b) bs [])
step_after r b bs vs others =
    after-append (spot_of r) (emitted r b vs) (filled (next r b) bs (left r b vs))
    ∙ (ap (λ (s : Spot). after s (filled (next r b) bs (left r b vs))) (emitted_spot r b vs)
    ∙ others (left r b vs))

-- the spot behind a filled template
same_after : (r : Reading) (t : List ℕ) (vs : List (List ℕ)) → after (spot_of r) (filled r t vs) ≡ after (spot_of r) (filled r t [])
same_after r [] vs = refl
same_after r (b ∷ bs) vs = step_after r b bs vs (λ ws. same_after (next r b) bs ws) ∙ sym (step_after r b bs [] (λ ws. same_after (next r b) bs ws))

step_tags : (r : Reading) (b : ℕ) (bs : List ℕ) (vs : List (List ℕ))
    → ((ws : List (List ℕ)) → tags (spot_of (next r b)) (filled (next r b) bs ws) ≡ tags (spot_of (next r b)) (filled (next r b) bs []))
    → tags (spot_of r) (filled r (b ∷ bs) vs) ≡ tags (spot_of r) (emitted r b []) ++ tags (spot_of (next r b)) (filled (next r b) bs [])
step_tags r b bs vs others =
    let rest = filled (next r b) bs (left r b vs) in
    tags-append (spot_of r) (emitted r b vs) rest
    ∙ (ap (λ (l : List ℕ). l ++ tags (after (spot_of r) (emitted r b vs)) rest) (emitted_tags r b vs)
    ∙ (ap (λ (s : Spot). tags (spot_of r) (emitted r b []) ++ tags s rest) (emitted_spot r b vs)
    ∙ ap (λ (l : List ℕ). tags (spot_of r) (emitted r b []) ++ l) (others (left r b vs))))

-- the tags of a filled template
same_tags : (r : Reading) (t : List ℕ) (vs : List (List ℕ)) → tags (spot_of r) (filled r t vs) ≡ tags (spot_of r) (filled r t [])
same_tags r [] vs = refl
same_tags r (b ∷ bs) vs = step_tags r b bs vs (λ ws. same_tags (next r b) bs ws) ∙ sym (step_tags r b bs [] (λ ws. same_tags (next r b) bs ws))

-- two texts of one spot and one list of tags
record AreAlike (a b : List ℕ) : Type 0 where
  spot : after Text a ≡ after Text b
  tags_of : tags Text a ≡ tags Text b

-- a part with values, and the same part without, keep texts alike
part_alike : (a b : List ℕ) (p : Part) → AreAlike a b → AreAlike (with_part a p) (with_part b (empty_part p))
part_alike a b p h =
    let s = after Text a in
    let z = after Text b in
    let full = filled (Own s) p.template p.values in
    let none = filled (Own z) p.template [] in
    let P : Spot → Type 0 = λ (x : Spot). after s full ≡ after x (filled (Own x) p.template []) in
    let Q : Spot → Type 0 = λ (x : Spot). tags s full ≡ tags x (filled (Own x) p.template []) in
    record {
      spot = after-append Text a full ∙ (subst P h.spot (same_after (Own s) p.template p.values) ∙ sym (after-append Text b none));
      tags_of = tags-append Text a full
          ∙ (ap (λ (l : List ℕ). l ++ tags s full) h.tags_of
          ∙ (ap (λ (l : List ℕ). tags Text b ++ l) (subst Q h.spot (same_tags (Own s) p.template p.values))
          ∙ sym (tags-append Text b none)));
    }

parts_alike : (a b : List ℕ) (ps : List Part) → AreAlike a b → AreAlike (with_parts a ps) (with_parts b (map empty_part ps))
parts_alike a b [] h = h
parts_alike a b (p ∷ ps) h = parts_alike (with_part a p) (with_part b (empty_part p)) ps (part_alike a b p h)

pub values_leave_tags_alone : ValuesLeaveTagsAlone
values_leave_tags_alone ps = (parts_alike [] [] ps (record { spot = refl; tags_of = refl })).tags_of

-- a byte of the template, in the loop that fills it: what stands there and what is still to come are the whole
pub filling_goes_on : (out more : List ℕ) (r r' : Reading) (b : ℕ) (bs : List ℕ) (vs vs' : List (List ℕ)) (whole : List ℕ)
    → more ≡ out ++ emitted r b vs → r' ≡ next r b → vs' ≡ left r b vs → out ++ filled r (b ∷ bs) vs ≡ whole → more ++ filled r' bs vs' ≡ whole
filling_goes_on out more r r' b bs vs vs' whole e f g h =
    let rest = filled (next r b) bs (left r b vs) in
    ap (λ (l : List ℕ). l ++ filled r' bs vs') e
    ∙ (ap (λ (x : Reading). (out ++ emitted r b vs) ++ filled x bs vs') f
    ∙ (ap (λ (x : List (List ℕ)). (out ++ emitted r b vs) ++ filled (next r b) bs x) g
    ∙ (append_assoc out (emitted r b vs) rest ∙ h)))

pub spot_goes_on : (r r' : Reading) (b : ℕ) (bs : List ℕ) (vs vs' : List (List ℕ)) (end : Spot)
    → r' ≡ next r b → vs' ≡ left r b vs → after (spot_of r) (filled r (b ∷ bs) vs) ≡ end → after (spot_of r') (filled r' bs vs') ≡ end
spot_goes_on r r' b bs vs vs' end f g h =
    let rest = filled (next r b) bs (left r b vs) in
    ap (λ (x : Reading). after (spot_of x) (filled x bs vs')) f
    ∙ (ap (λ (x : List (List ℕ)). after (spot_of (next r b)) (filled (next r b) bs x)) g
    ∙ (ap (λ (s : Spot). after s rest) (sym (emitted_spot r b vs))
    ∙ (sym (after-append (spot_of r) (emitted r b vs) rest) ∙ h)))

pub parts_follow_parts : PartsFollowParts
parts_follow_parts page [] qs = refl
parts_follow_parts page (p ∷ ps) qs = parts_follow_parts (with_part page p) ps qs
