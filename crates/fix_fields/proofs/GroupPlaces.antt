-- Places at which fields are cut.
use Rattle.std.proofs.Common.{◌≡◌, ℕ, suc, ◌+◌, ◌<◌, ◌≤◌, ◌==◌, Bool, true, not, List, [], ◌∷◌, ◌++◌, length, get_or, filter, take, drop, cond, refl, sym, ap, subst, ◌∙◌, arith, append-nil}
use Rattle.std.specs.List.{count_by, position_or_len}
use Rattle.std.proofs.lemmas.List.Sums.{length-filter}
use Rattle.fix_fields.specs.declared.group.Group.{Group}
use Rattle.fix_fields.specs.declared.fields.Field.{Field}
use Rattle.fix_fields.specs.Fields.{Entry}
use Rattle.fix_fields.specs.Views.{entry, entries}
use Rattle.fix_fields.specs.Groups.{is_own, is_end, HasNo, before_tag, cut_before}
use Rattle.fix_fields.specs.GroupParts.{BeginsAs, IsCut}
use Rattle.fix_fields.proofs.GroupLemmas.{by_cases}

-- fields cut at the first one whose tag passes the test
pub record IsSplit (test : ℕ → Bool) (all front rest : List Entry) : Type 0 where
  pub parts : all ≡ front ++ rest
  pub before : HasNo test front
  pub here : BeginsAs test rest

split_first : (test : ℕ → Bool) (f : Field) (fs : List Field)
    → (let place = position_or_len (λ (f : Field). test f.tag) fs in IsSplit test (entries fs) (entries (take place fs)) (entries (drop place fs)))
    → let place = position_or_len (λ (f : Field). test f.tag) (f ∷ fs) in IsSplit test (entries (f ∷ fs)) (entries (take place (f ∷ fs))) (entries (drop place (f ∷ fs)))
split_first test f fs rest =
    let n = position_or_len (λ (f : Field). test f.tag) fs in
    by_cases (test f.tag) (λ b. (test f.tag ≡ b) → IsSplit test (entries (f ∷ fs)) (entries (take (cond (not b) (1 + n) 0) (f ∷ fs))) (entries (drop (cond (not b) (1 + n) 0) (f ∷ fs))))
    (λ _ e. record { parts = refl; before = tt; here = e })
    (λ _ e. let more : 1 + n ≡ suc n = omega arith in
    rw more record { parts = ap (λ (l : List Entry). entry f ∷ l) rest.parts; before = (e, rest.before); here = rest.here })
    refl

pub split_is : (test : ℕ → Bool) (fields : List Field) → let place = position_or_len (λ (f : Field). test f.tag) fields in IsSplit test (entries fields) (entries (take place fields)) (entries (drop place fields))
split_is test [] = record { parts = refl; before = tt; here = tt }
split_is test (f ∷ fs) = split_first test f fs (split_is test fs)

-- the fields before the tag begin no instance
pub cut-front : (tag : ℕ) (front rest : List Entry) → HasNo (λ t. t == tag) front → cut_before tag (front ++ rest) ≡ cut_before tag rest
cut-front tag [] rest h = refl
cut-front tag (f ∷ fs) rest h = let e = h.0 in let more = cut-front tag fs rest h.1 in rw e more

before-front : (tag : ℕ) (front rest : List Entry) → HasNo (λ t. t == tag) front → BeginsAs (λ t. t == tag) rest → before_tag tag (front ++ rest) ≡ front
before-front tag [] [] h b = refl
before-front tag [] (r ∷ rs) h b = rw b refl
before-front tag (f ∷ fs) rest h b = let e = h.0 in rw e (ap (λ (l : List Entry). f ∷ l) (before-front tag fs rest h.1 b))

-- a field with the tag begins one, up to the next
pub cut-first : (tag : ℕ) (f : Entry) (front rest : List Entry) → (f.0 == tag) ≡ true → HasNo (λ t. t == tag) front → BeginsAs (λ t. t == tag) rest
    → cut_before tag (f ∷ (front ++ rest)) ≡ (f ∷ front) ∷ cut_before tag rest
cut-first tag f front rest e h b =
    let before = before-front tag front rest h b in
    let behind = cut-front tag front rest h in
    rw e (rw (before, behind) refl)

-- there are as many instances as fields with the tag
begun : (tag : ℕ) (fields : List Field) → length (filter (λ (f : Field). f.tag == tag) fields) ≡ length (cut_before tag (entries fields))
begun tag [] = refl
begun tag (f ∷ fs) =
    let more = begun tag fs in
    by_cases (f.tag == tag) (λ b. length (cond b (f ∷ filter (λ (f : Field). f.tag == tag) fs) (filter (λ (f : Field). f.tag == tag) fs)) ≡ length (cond b ((entry f ∷ before_tag tag (entries fs)) ∷ cut_before tag (entries fs)) (cut_before tag (entries fs))))
    (λ _. ap suc more) (λ _. more)

pub number_is : (tag : ℕ) (fields : List Field) → count_by (λ (f : Field). f.tag == tag) fields ≡ length (cut_before tag (entries fields))
number_is tag fields = sym (length-filter (λ (f : Field). f.tag == tag) fields) ∙ begun tag fields

-- the same of the cut in the code
split_at : (test : ℕ → Bool) (fields : List Field) (place : ℕ) → place ≡ position_or_len (λ (f : Field). test f.tag) fields
    → IsSplit test (entries fields) (entries (take place fields)) (entries (drop place fields))
split_at test fields place e = rw e (split_is test fields)

split_from : (test : ℕ → Bool) (fields found : List Field) (place : ℕ) → place ≡ position_or_len (λ (f : Field). test f.tag) fields → drop place fields ≡ found
    → IsSplit test (entries fields) (entries (take place fields)) (entries found)
split_from test fields found place e same =
    subst (λ (l : List Field). IsSplit test (entries fields) (entries (take place fields)) (entries l)) same (split_at test fields place e)

none_before : (test : ℕ → Bool) (all front : List Entry) → IsSplit test all front [] → HasNo test all
none_before test all front h = subst (λ (l : List Entry). HasNo test l) (sym (h.parts ∙ append-nil front)) h.before

pub no_parts : (g : Group) (fields found : List Field) (place : ℕ) → place ≡ position_or_len (λ (f : Field). is_own g f.tag) fields → drop place fields ≡ found → found ≡ []
    → HasNo (is_own g) (entries fields)
no_parts g fields found place e same none = none_before (is_own g) (entries fields) (entries (take place fields)) (split_from (is_own g) fields [] place e (same ∙ none))

pub parts_are : (g : Group) (fields found behind body rest : List Field) (count : Field) (place end : ℕ)
    → place ≡ position_or_len (λ (f : Field). is_own g f.tag) fields → drop place fields ≡ found → found ≡ count ∷ behind
    → end ≡ position_or_len (λ (f : Field). is_end g f.tag) behind → body ≡ take end behind → rest ≡ drop end behind
    → IsCut g (entries fields) (entry count) (entries body) (entries rest)
parts_are g fields found behind body rest count place end e same cons f eb er =
    let own = split_from (is_own g) fields (count ∷ behind) place e (same ∙ cons) in
    let ends = split_at (is_end g) behind end f in
    rw (eb, er) record {
      front = entries (take place fields);
      parts = own.parts ∙ ap (λ (l : List Entry). entries (take place fields) ++ entry count ∷ l) ends.parts;
      before = own.before;
      own = own.here;
      middle = ends.before;
      behind = ends.here;
    }

pub no_instance : (tag : ℕ) (fields found : List Field) (place : ℕ) → place ≡ position_or_len (λ (f : Field). f.tag == tag) fields → drop place fields ≡ found → found ≡ []
    → cut_before tag (entries fields) ≡ []
no_instance tag fields found place e same none =
    let split = split_from (λ t. t == tag) fields [] place e (same ∙ none) in
    ap (cut_before tag) split.parts ∙ cut-front tag (entries (take place fields)) [] split.before

pub instance_is : (tag : ℕ) (fields found behind instance rest : List Field) (first : Field) (place end : ℕ)
    → place ≡ position_or_len (λ (f : Field). f.tag == tag) fields → drop place fields ≡ found → found ≡ first ∷ behind
    → end ≡ position_or_len (λ (f : Field). f.tag == tag) behind → instance ≡ take (1 + end) found → rest ≡ drop (1 + end) found
    → cut_before tag (entries fields) ≡ entries instance ∷ cut_before tag (entries rest)
instance_is tag fields found behind instance rest first place end e same cons f ei er =
    let at = split_from (λ t. t == tag) fields (first ∷ behind) place e (same ∙ cons) in
    let ends = split_at (λ t. t == tag) behind end f in
    let more : 1 + end ≡ suc end = omega arith in
    let front : instance ≡ first ∷ take end behind = ei ∙ ap (λ (l : List Field). take (1 + end) l) cons ∙ ap (λ (n : ℕ). take n (first ∷ behind)) more in
    let back : rest ≡ drop end behind = er ∙ ap (λ (l : List Field). drop (1 + end) l) cons ∙ ap (λ (n : ℕ). drop n (first ∷ behind)) more in
    rw (front, back)
    (ap (cut_before tag) at.parts
    ∙ cut-front tag (entries (take place fields)) (entry first ∷ entries behind) at.before
    ∙ ap (λ (l : List Entry). cut_before tag (entry first ∷ l)) ends.parts
    ∙ cut-first tag (entry first) (entries (take end behind)) (entries (drop end behind)) at.here ends.before ends.here)

abbrev pub no_field : Field
no_field = record { tag = 0; value = record { ref_ptr = (0, 0); now = [] } }

-- a list with an element is it and the rest
pub headed : (xs : List Field) (d : Field) → 1 ≤ length xs → xs ≡ get_or xs 0 d ∷ drop 1 xs
headed [] d h = absurd (omega arith)
headed (x ∷ xs) d h = refl

pub empty : (xs : List Field) → length xs < 1 → xs ≡ []
empty [] h = refl
empty (x ∷ xs) h = absurd (omega arith)
