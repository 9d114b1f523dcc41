-- Groups: the parts of fields that hold one, and the uniqueness of its instances.
use Rattle.std.proofs.Common.{◌≡◌, ℕ, ◌==◌, Bool, true, false, ◌&&◌, ◌||◌, not, List, [], ◌∷◌, ◌++◌, length, map, cond, refl, sym, ap, subst, ◌∙◌, arith, inl, inr, Result, Ok, Err}
use Rattle.std.specs.List.{AllByRecursion}
use Rattle.std.proofs.lemmas.Bool.{cases_eq}
use Rattle.std.proofs.lemmas.Bool.Decides.{nat_tests}
use Rattle.std.proofs.lemmas.List.Elements.{filter-append}
use Rattle.std.proofs.lemmas.List.{length-map}
use Rattle.fix_fields.specs.Fields.{Entry}
use Rattle.fix_fields.specs.Forms.{integer_in}
use Rattle.fix_fields.specs.declared.value.ValueFault.{ValueFault}
use Rattle.fix_fields.specs.declared.group.Group.{Group}
use Rattle.fix_fields.specs.Groups.{has, is_member, is_own, is_named, is_end, kept, HasNo, IsInstance, chained, Emits, IsGroup, before_tag, cut_before}
use Rattle.fix_fields.specs.GroupParts.{BeginsAs, IsCut, begins_with, has_no, is_read_as, emits, is_whole}

-- every field has a tag that passes the test
abbrev pub HasOnly : (ℕ → Bool) → List Entry → Type 0
HasOnly test fields = AllByRecursion (λ (f : Entry). test f.0 ≡ true) fields

-- the list is empty, or its first field fails the test
abbrev pub Stops : (ℕ → Bool) → List Entry → Type 0
Stops test [] = Unit {0}
Stops test (f ∷ fs) = test f.0 ≡ false

-- the list is empty, or its first field has the tag
abbrev pub BeginsRight : ℕ → List Entry → Type 0
BeginsRight tag [] = Unit {0}
BeginsRight tag (f ∷ fs) = f.0 ≡ tag

-- the parts are a group with that many instances
pub record IsWhole (g : Group) (count : Entry) (body rest : List Entry) (many : ℕ) : Type 0 where
  pub tag : count.0 ≡ g.count
  pub begins : BeginsRight g.first (kept g body)
  pub behind : HasNo (is_member g) rest
  pub number : Emits many count.1

pub by_cases : (b : Bool) (P : Bool → Type 0) → (b ≡ true → P true) → (b ≡ false → P false) → P b
by_cases true P h k = h refl
by_cases false P h k = k refl

pub not_both : (b : Bool) → b ≡ true → b ≡ false → ⊥
not_both true h k = cc
not_both false h k = cc

at_tag : (test : ℕ → Bool) (a b : Entry) → a ≡ b → test a.0 ≡ true → test b.0 ≡ true
at_tag test a b e h = subst (λ (x : Entry). test x.0 ≡ true) e h

-- lists that are cut at their first field that passes are cut at the same place
pub record SameCut (xs ys : List Entry) (a b : Entry) (more others : List Entry) : Type 0 where
  pub front : xs ≡ ys
  pub here : a ≡ b
  pub behind : more ≡ others

pub same_cut : (test : ℕ → Bool) (xs ys : List Entry) (a b : Entry) (more others : List Entry) → HasNo test xs → HasNo test ys
    → test a.0 ≡ true → test b.0 ≡ true → xs ++ a ∷ more ≡ ys ++ b ∷ others → SameCut xs ys a b more others
same_cut test [] [] a b more others h k p q e = record { front = refl; here = cc; behind = cc }
same_cut test [] (y ∷ ys) a b more others h k p q e =
    let same : a ≡ y = cc in absurd (not_both (test y.0) (at_tag test a y same p) k.0)
same_cut test (x ∷ xs) [] a b more others h k p q e =
    let same : b ≡ x = cc in absurd (not_both (test x.0) (at_tag test b x same q) h.0)
same_cut test (x ∷ xs) (y ∷ ys) a b more others h k p q e =
    let head : x ≡ y = cc in
    let tail : xs ++ a ∷ more ≡ ys ++ b ∷ others = cc in
    let rest = same_cut test xs ys a b more others h.1 k.1 p q tail in
    let front = rest.front in
    record { front = cc; here = rest.here; behind = rest.behind }

-- so are lists that are cut behind their fields that pass
pub same_prefix : (test : ℕ → Bool) (xs ys more others : List Entry) → HasOnly test xs → HasOnly test ys → Stops test more → Stops test others
    → xs ++ more ≡ ys ++ others → (xs ≡ ys) × (more ≡ others)
same_prefix test [] [] more others h k s t e = (refl, e)
same_prefix test [] (y ∷ ys) [] others h k s t e = absurd (cc)
same_prefix test [] (y ∷ ys) (m ∷ more) others h k s t e =
    let same : y ≡ m = cc in absurd (not_both (test m.0) (at_tag test y m same k.0) s)
same_prefix test (x ∷ xs) [] more [] h k s t e = absurd (cc)
same_prefix test (x ∷ xs) [] more (o ∷ others) h k s t e =
    let same : x ≡ o = cc in absurd (not_both (test o.0) (at_tag test x o same h.0) t)
same_prefix test (x ∷ xs) (y ∷ ys) more others h k s t e =
    let head : x ≡ y = cc in
    let tail : xs ++ more ≡ ys ++ others = cc in
    let rest = same_prefix test xs ys more others h.1 k.1 s t tail in
    let front = rest.0 in
    (cc, rest.1)

stops : (test : ℕ → Bool) (xs : List Entry) → HasNo test xs → Stops test xs
stops test [] h = tt
stops test (x ∷ xs) h = h.0

HasOnly-append : (test : ℕ → Bool) (xs ys : List Entry) → HasOnly test xs → HasOnly test ys → HasOnly test (xs ++ ys)
HasOnly-append test [] ys h k = k
HasOnly-append test (x ∷ xs) ys h k = (h.0, HasOnly-append test xs ys h.1 k)

-- ignored fields remove no tag that fails, and add none
kept-HasNo : (g : Group) (test : ℕ → Bool) (xs : List Entry) → HasNo test xs → HasNo test (kept g xs)
kept-HasNo g test [] h = tt
kept-HasNo g test (x ∷ xs) h =
    let rest = kept-HasNo g test xs h.1 in
    by_cases (is_named g x.0) (λ b. HasNo test (cond b (x ∷ kept g xs) (kept g xs))) (λ _. (h.0, rest)) (λ _. rest)

ends : (named member : Bool) → named ≡ true → (named && not member) ≡ false → member ≡ true
ends true true h k = refl
ends true false h k = cc
ends false member h k = cc

no_end : (g : Group) (tag : ℕ) → is_named g tag ≡ true → is_end g tag ≡ false → is_member g tag ≡ true
no_end g tag named h = ends (is_named g tag) (is_member g tag) named h

-- the fields kept of those that do not end the group are its members
kept-members : (g : Group) (xs : List Entry) → HasNo (is_end g) xs → HasOnly (is_member g) (kept g xs)
kept-members g [] h = tt
kept-members g (x ∷ xs) h =
    let rest = kept-members g xs h.1 in
    by_cases (is_named g x.0) (λ b. HasOnly (is_member g) (cond b (x ∷ kept g xs) (kept g xs))) (λ named. (no_end g x.0 named h.0, rest)) (λ _. rest)

ending : (named member : Bool) → (named && not member) ≡ true → (named ≡ true) × (member ≡ false)
ending true true h = cc
ending true false h = (refl, refl)
ending false member h = cc

-- no member follows them
kept-stops : (g : Group) (xs : List Entry) → BeginsAs (is_end g) xs → Stops (is_member g) (kept g xs)
kept-stops g [] h = tt
kept-stops g (x ∷ xs) h =
    let parts = ending (is_named g x.0) (is_member g x.0) h in
    let named = parts.0 in
    rw named parts.1

named-own : (g : Group) (tag : ℕ) → is_own g tag ≡ true → is_named g tag ≡ true
named-own g tag h = rw h refl

second : (a b : Bool) → (a || b) ≡ false → b ≡ false
second true b h = cc
second false b h = h

own-member : (g : Group) (tag : ℕ) → is_own g tag ≡ false → is_member g tag ≡ false
own-member g tag h = second (tag == g.count) (is_member g tag) h

either : (a b : Bool) → b ≡ true → (a || b) ≡ true
either true b h = refl
either false b h = h

named-member : (g : Group) (tag : ℕ) → is_member g tag ≡ true → is_named g tag ≡ true
named-member g tag h = named-own g tag (either (tag == g.count) (is_member g tag) h)

clean-rest : (g : Group) (x : Entry) (xs : List Entry) → HasNo (is_member g) (kept g (x ∷ xs)) → HasNo (is_member g) (kept g xs)
clean-rest g x xs h =
    by_cases (is_named g x.0) (λ b. HasNo (is_member g) (cond b (x ∷ kept g xs) (kept g xs)) → HasNo (is_member g) (kept g xs)) (λ _ k. k.1) (λ _ k. k) h

-- a member among the fields is kept
clean : (g : Group) (xs : List Entry) → HasNo (is_member g) (kept g xs) → HasNo (is_member g) xs
clean g [] h = tt
clean g (x ∷ xs) h =
    by_cases (is_member g x.0) (λ b. (is_member g x.0 ≡ b) → HasNo (is_member g) (x ∷ xs))
    (λ member e. let named = named-member g x.0 e in let all : HasNo (is_member g) (x ∷ kept g xs) = rw named at h in absurd (not_both (is_member g x.0) e all.0))
    (λ _ e. (e, clean g xs (clean-rest g x xs h)))
    refl

-- the parts of the fields that are kept
pub kept_parts : (g : Group) (fields : List Entry) (count : Entry) (body rest : List Entry) (cut : IsCut g fields count body rest)
    → kept g fields ≡ kept g cut.front ++ count ∷ (kept g body ++ kept g rest)
kept_parts g fields count body rest cut =
    let named = named-own g count.0 cut.own in
    ap (kept g) cut.parts
    ∙ filter-append (λ (f : Entry). is_named g f.0) cut.front (count ∷ (body ++ rest))
    ∙ ap (λ (l : List Entry). kept g cut.front ++ l) (rw named (ap (λ (l : List Entry). count ∷ l) (filter-append (λ (f : Entry). is_named g f.0) body rest)))

first-member : (g : Group) (tag : ℕ) → tag ≡ g.first → is_member g tag ≡ true
first-member g tag e = let test : (tag == g.first) ≡ true = grind (arith, nat_tests) in rw test refl

others-members : (g : Group) (fs : List Entry) → AllByRecursion (λ (e : Entry). has g.others.now e.0 ≡ true) fs → HasOnly (is_member g) fs
others-members g [] h = tt
others-members g (f ∷ fs) h = (either (f.0 == g.first) (has g.others.now f.0) h.0, others-members g fs h.1)

-- members, each instance's in turn
instance-members : (g : Group) (instance : List Entry) → IsInstance g instance → HasOnly (is_member g) instance
instance-members g [] h = absurd h
instance-members g (f ∷ fs) h = (first-member g f.0 h.0, others-members g fs h.1)

instances-members : (g : Group) (instances : List (List Entry)) → AllByRecursion (IsInstance g) instances → HasOnly (is_member g) (chained instances)
instances-members g [] h = tt
instances-members g (i ∷ is) h = HasOnly-append (is_member g) i (chained is) (instance-members g i h.0) (instances-members g is h.1)

-- instances begin with the first tag, so cutting before it gives them back
begins : (g : Group) (instances : List (List Entry)) → AllByRecursion (IsInstance g) instances → BeginsRight g.first (chained instances)
begins g [] h = tt
begins g ([] ∷ is) h = absurd h.0
begins g ((f ∷ fs) ∷ is) h = h.0.0

not_first : (g : Group) (tag : ℕ) → has g.others.now g.first ≡ false → has g.others.now tag ≡ true → (tag == g.first) ≡ false
not_first g tag lacks is =
    elim (cases_eq tag g.first) [
      | inl e ↦ absurd (not_both (has g.others.now tag) is (ap (has g.others.now) e ∙ lacks))
      | inr ne ↦ grind (arith, nat_tests)
    ]

before-others : (g : Group) (fs more : List Entry) → has g.others.now g.first ≡ false → AllByRecursion (λ (e : Entry). has g.others.now e.0 ≡ true) fs
    → BeginsRight g.first more → before_tag g.first (fs ++ more) ≡ fs
before-others g [] [] lacks h b = refl
before-others g [] (m ∷ more) lacks h b = let test : (m.0 == g.first) ≡ true = grind (arith, nat_tests) in rw test refl
before-others g (f ∷ fs) more lacks h b =
    let test = not_first g f.0 lacks h.0 in
    rw test (ap (λ (l : List Entry). f ∷ l) (before-others g fs more lacks h.1 b))

cut-others : (g : Group) (fs more : List Entry) → has g.others.now g.first ≡ false → AllByRecursion (λ (e : Entry). has g.others.now e.0 ≡ true) fs
    → cut_before g.first (fs ++ more) ≡ cut_before g.first more
cut-others g [] more lacks h = refl
cut-others g (f ∷ fs) more lacks h = let test = not_first g f.0 lacks h.0 in rw test (cut-others g fs more lacks h.1)

pub cut-instances : (g : Group) (instances : List (List Entry)) → has g.others.now g.first ≡ false → AllByRecursion (IsInstance g) instances
    → cut_before g.first (chained instances) ≡ instances
cut-instances g [] lacks h = refl
cut-instances g ([] ∷ is) lacks h = absurd h.0
cut-instances g ((f ∷ fs) ∷ is) lacks h =
    let tag = h.0.0 in
    let test : (f.0 == g.first) ≡ true = grind (arith, nat_tests) in
    let before = before-others g fs (chained is) lacks h.0.1 (begins g is h.1) in
    let behind = cut-others g fs (chained is) lacks h.0.1 ∙ cut-instances g is lacks h.1 in
    rw test (rw (before, behind) refl)

other : (a b : Bool) → (a || b) ≡ true → a ≡ false → b ≡ true
other true b h k = cc
other false b h k = h

-- what cutting gives are instances, one behind the other
member-other : (g : Group) (tag : ℕ) → is_member g tag ≡ true → (tag == g.first) ≡ false → has g.others.now tag ≡ true
member-other g tag h test = other (tag == g.first) (has g.others.now tag) h test

before-are : (g : Group) (xs : List Entry) → HasOnly (is_member g) xs → AllByRecursion (λ (e : Entry). has g.others.now e.0 ≡ true) (before_tag g.first xs)
before-are g [] h = tt
before-are g (x ∷ xs) h =
    by_cases (x.0 == g.first) (λ b. (x.0 == g.first) ≡ b → AllByRecursion (λ (e : Entry). has g.others.now e.0 ≡ true) (cond b [] (x ∷ before_tag g.first xs)))
    (λ _ e. tt) (λ _ e. (member-other g x.0 h.0 e, before-are g xs h.1)) refl

pub cut-are : (g : Group) (xs : List Entry) → HasOnly (is_member g) xs → AllByRecursion (IsInstance g) (cut_before g.first xs)
cut-are g [] h = tt
cut-are g (x ∷ xs) h =
    let rest = cut-are g xs h.1 in
    by_cases (x.0 == g.first) (λ b. (x.0 == g.first) ≡ b → AllByRecursion (IsInstance g) (cond b ((x ∷ before_tag g.first xs) ∷ cut_before g.first xs) (cut_before g.first xs)))
    (λ _ e. ((grind (arith, nat_tests), before-are g xs h.1), rest)) (λ _ e. rest) refl

joined-behind : (tag : ℕ) (xs : List Entry) → before_tag tag xs ++ chained (cut_before tag xs) ≡ xs
joined-behind tag [] = refl
joined-behind tag (x ∷ xs) =
    let rest = joined-behind tag xs in
    by_cases (x.0 == tag) (λ b. (cond b [] (x ∷ before_tag tag xs)) ++ chained (cond b ((x ∷ before_tag tag xs) ∷ cut_before tag xs) (cut_before tag xs)) ≡ x ∷ xs)
    (λ _. ap (λ (l : List Entry). x ∷ l) rest) (λ _. ap (λ (l : List Entry). x ∷ l) rest)

pub joined-cut : (tag : ℕ) (xs : List Entry) → BeginsRight tag xs → chained (cut_before tag xs) ≡ xs
joined-cut tag [] h = refl
joined-cut tag (x ∷ xs) h =
    let test : (x.0 == tag) ≡ true = grind (arith, nat_tests) in
    rw test (ap (λ (l : List Entry). x ∷ l) (joined-behind tag xs))

first-named : (g : Group) (tag : ℕ) → (tag == g.first) ≡ true → is_named g tag ≡ true
first-named g tag e = named-member g tag (rw e refl)

-- cutting and ignoring fields commute
before-kept : (g : Group) (xs : List Entry) → before_tag g.first (kept g xs) ≡ kept g (before_tag g.first xs)
before-kept g [] = refl
before-kept g (x ∷ xs) =
    let rest = before-kept g xs in
    by_cases (x.0 == g.first) (λ b. (x.0 == g.first) ≡ b → before_tag g.first (kept g (x ∷ xs)) ≡ kept g (cond b [] (x ∷ before_tag g.first xs)))
    (λ _ e. let named = first-named g x.0 e in rw named (rw e refl))
    (λ _ e. by_cases (is_named g x.0) (λ n. before_tag g.first (cond n (x ∷ kept g xs) (kept g xs)) ≡ cond n (x ∷ kept g (before_tag g.first xs)) (kept g (before_tag g.first xs)))
    (λ _. rw e (ap (λ (l : List Entry). x ∷ l) rest)) (λ _. rest))
    refl

pub cut-kept : (g : Group) (xs : List Entry) → cut_before g.first (kept g xs) ≡ map (kept g) (cut_before g.first xs)
cut-kept g [] = refl
cut-kept g (x ∷ xs) =
    let rest = cut-kept g xs in
    let before = before-kept g xs in
    by_cases (x.0 == g.first) (λ b. (x.0 == g.first) ≡ b → cut_before g.first (kept g (x ∷ xs)) ≡ map (kept g) (cond b ((x ∷ before_tag g.first xs) ∷ cut_before g.first xs) (cut_before g.first xs)))
    (λ _ e. let named = first-named g x.0 e in rw named (rw e (rw (before, rest) refl)))
    (λ _ e. by_cases (is_named g x.0) (λ n. cut_before g.first (cond n (x ∷ kept g xs) (kept g xs)) ≡ map (kept g) (cut_before g.first xs))
    (λ _. rw e rest) (λ _. rest))
    refl

own-count : (g : Group) (tag : ℕ) → tag ≡ g.count → is_own g tag ≡ true
own-count g tag e = let test : (tag == g.count) ≡ true = grind (arith, nat_tests) in rw test refl

-- The parts of a group are those of the cut, up to ignored fields.
pub record SameParts (count : Entry) (body rest : List Entry) (other : Entry) (middle more : List Entry) : Type 0 where
  pub here : other ≡ count
  pub members : middle ≡ body
  pub behind : more ≡ rest

pub same_parts : (g : Group) (fields : List Entry) (count : Entry) (body rest : List Entry) (instances : List (List Entry))
    → (cut : IsCut g fields count body rest) (group : IsGroup g fields instances)
    → SameParts count (kept g body) (kept g rest) group.count (chained instances) group.rest
same_parts g fields count body rest instances cut group =
    let same : group.front ++ group.count ∷ (chained instances ++ group.rest) ≡ kept g cut.front ++ count ∷ (kept g body ++ kept g rest) = sym group.parts ∙ kept_parts g fields count body rest cut in
    let at = same_cut (is_own g) group.front (kept g cut.front) group.count count (chained instances ++ group.rest) (kept g body ++ kept g rest)
    group.before (kept-HasNo g (is_own g) cut.front cut.before) (own-count g group.count.0 group.tag) cut.own same in
    let split = same_prefix (is_member g) (chained instances) (kept g body) group.rest (kept g rest)
    (instances-members g instances group.each) (kept-members g body cut.middle) (stops (is_member g) group.rest group.behind) (kept-stops g rest cut.behind) at.behind in
    record { here = at.here; members = split.0; behind = split.1 }

-- the instances of the middle part, without the ignored fields
abbrev pub instances_in : Group → List Entry → List (List Entry)
instances_in g body = map (kept g) (cut_before g.first body)

-- parts that are whole are a group
pub whole-group : (g : Group) (fields : List Entry) (count : Entry) (body rest : List Entry) → IsCut g fields count body rest
    → IsWhole g count body rest (length (cut_before g.first body)) → IsGroup g fields (instances_in g body)
whole-group g fields count body rest cut whole =
    let instances = cut_before g.first (kept g body) in
    let same : instances ≡ instances_in g body = cut-kept g body in
    let many : length (cut_before g.first body) ≡ length instances = sym (length-map (cut_before g.first body) (kept g)) ∙ sym (ap length same) in
    let members = kept-members g body cut.middle in
    let joined : chained instances ≡ kept g body = joined-cut g.first (kept g body) whole.begins in
    let group : IsGroup g fields instances = record {
      front = kept g cut.front;
      count = count;
      rest = kept g rest;
      parts = kept_parts g fields count body rest cut ∙ ap (λ (l : List Entry). kept g cut.front ++ count ∷ (l ++ kept g rest)) (sym joined);
      before = kept-HasNo g (is_own g) cut.front cut.before;
      tag = whole.tag;
      each = cut-are g (kept g body) members;
      behind = kept-HasNo g (is_member g) rest whole.behind;
      number = subst (λ (n : ℕ). Emits n count.1) many whole.number;
    } in
    subst (λ (is : List (List Entry)). IsGroup g fields is) same group

-- and only those
pub group-whole : (g : Group) (fields : List Entry) (count : Entry) (body rest : List Entry) (instances : List (List Entry))
    → has g.others.now g.first ≡ false → IsCut g fields count body rest → IsGroup g fields instances
    → IsWhole g count body rest (length (cut_before g.first body))
group-whole g fields count body rest instances lacks cut group =
    let same = same_parts g fields count body rest instances cut group in
    let cuts : instances ≡ instances_in g body = sym (cut-instances g instances lacks group.each) ∙ ap (cut_before g.first) same.members ∙ cut-kept g body in
    let many : length instances ≡ length (cut_before g.first body) = ap length cuts ∙ length-map (cut_before g.first body) (kept g) in
    record {
      tag = subst (λ (f : Entry). f.0 ≡ g.count) same.here group.tag;
      begins = subst (λ (l : List Entry). BeginsRight g.first l) same.members (begins g instances group.each);
      behind = clean g rest (subst (λ (l : List Entry). HasNo (is_member g) l) same.behind group.behind);
      number = subst (λ (n : ℕ). Emits n count.1) many (subst (λ (f : Entry). Emits (length instances) f.1) same.here group.number);
    }

fails-at : (test : ℕ → Bool) (xs : List Entry) (y : Entry) (ys : List Entry) → HasNo test (xs ++ y ∷ ys) → test y.0 ≡ false
fails-at test [] y ys h = h.0
fails-at test (x ∷ xs) y ys h = fails-at test xs y ys h.1

-- where no field belongs to the group there is no group
pub no_group : (g : Group) (fields : List Entry) (instances : List (List Entry)) → HasNo (is_own g) fields → IsGroup g fields instances → ⊥
no_group g fields instances h group =
    let none : HasNo (is_own g) (group.front ++ group.count ∷ (chained instances ++ group.rest)) =
    subst (λ (l : List Entry). HasNo (is_own g) l) group.parts (kept-HasNo g (is_own g) fields h) in
    not_both (is_own g group.count.0) (own-count g group.count.0 group.tag) (fails-at (is_own g) group.front group.count (chained instances ++ group.rest) none)

-- where there are parts, a field belongs to the group
pub some_own : (g : Group) (fields : List Entry) (count : Entry) (body rest : List Entry) → IsCut g fields count body rest → HasNo (is_own g) fields → ⊥
some_own g fields count body rest cut h =
    let none : HasNo (is_own g) (cut.front ++ count ∷ (body ++ rest)) = subst (λ (l : List Entry). HasNo (is_own g) l) cut.parts h in
    not_both (is_own g count.0) cut.own (fails-at (is_own g) cut.front count (body ++ rest) none)

-- the instances are unique
pub one_group : (g : Group) (fields : List Entry) (instances others : List (List Entry)) → has g.others.now g.first ≡ false
    → IsGroup g fields instances → IsGroup g fields others → instances ≡ others
one_group g fields instances others lacks group more =
    let at = same_cut (is_own g) group.front more.front group.count more.count (chained instances ++ group.rest) (chained others ++ more.rest)
    group.before more.before (own-count g group.count.0 group.tag) (own-count g more.count.0 more.tag) (sym group.parts ∙ more.parts) in
    let split = same_prefix (is_member g) (chained instances) (chained others) group.rest more.rest
    (instances-members g instances group.each) (instances-members g others more.each) (stops (is_member g) group.rest group.behind) (stops (is_member g) more.rest more.behind) at.behind in
    sym (cut-instances g instances lacks group.each) ∙ ap (cut_before g.first) split.0 ∙ cut-instances g others lacks more.each

both : (a b : Bool) → a ≡ true → b ≡ true → (a && b) ≡ true
both a b h k = rw (h, k) refl

left : (a b : Bool) → (a && b) ≡ true → a ≡ true
left true b h = refl
left false b h = h

right : (a b : Bool) → (a && b) ≡ true → b ≡ true
right true b h = h
right false b h = cc

begins-to : (tag : ℕ) (xs : List Entry) → BeginsRight tag xs → begins_with tag xs ≡ true
begins-to tag [] h = refl
begins-to tag (x ∷ xs) h = grind (arith, nat_tests)

begins-from : (tag : ℕ) (xs : List Entry) → begins_with tag xs ≡ true → BeginsRight tag xs
begins-from tag [] h = tt
begins-from tag (x ∷ xs) h = grind (arith, nat_tests)

none-to : (test : ℕ → Bool) (xs : List Entry) → HasNo test xs → has_no test xs ≡ true
none-to test [] h = refl
none-to test (x ∷ xs) h = rw (h.0, none-to test xs h.1) refl

refuted : (b : Bool) → not b ≡ true → b ≡ false
refuted true h = cc
refuted false h = refl

none-from : (test : ℕ → Bool) (xs : List Entry) → has_no test xs ≡ true → HasNo test xs
none-from test [] h = tt
none-from test (x ∷ xs) h = (refuted (test x.0) (left (not (test x.0)) (has_no test xs) h), none-from test xs (right (not (test x.0)) (has_no test xs) h))

stated-to : (n : ℕ) (r : Result ℕ ValueFault) → r ≡ Ok n → is_read_as n r ≡ true
stated-to n r h = let same : (n == n) ≡ true = grind (arith, nat_tests) in rw h same

stated-from : (n : ℕ) (r : Result ℕ ValueFault) → is_read_as n r ≡ true → r ≡ Ok n
stated-from n (Ok m) h = let same : m ≡ n = grind (arith, nat_tests) in ap (λ (k : ℕ). Ok k) same
stated-from n (Err fault) h = cc

whole-to : (g : Group) (count : Entry) (body rest : List Entry) (many : ℕ) → IsWhole g count body rest many → is_whole g count body rest many ≡ true
whole-to g count body rest many h =
    let tag = h.tag in
    both _ _ (grind (arith, nat_tests)) (both _ _ (begins-to g.first (kept g body) h.begins) (both _ _ (none-to (is_member g) rest h.behind) (stated-to many (integer_in 0 1_000_000_000_000_000_000 count.1) h.number)))

whole-from : (g : Group) (count : Entry) (body rest : List Entry) (many : ℕ) → is_whole g count body rest many ≡ true → IsWhole g count body rest many
whole-from g count body rest many h =
    let a = count.0 == g.count in
    let b = begins_with g.first (kept g body) in
    let d = has_no (is_member g) rest in
    let e = emits many count.1 in
    let tag : (count.0 == g.count) ≡ true = left a (b && (d && e)) h in
    let others = right a (b && (d && e)) h in
    let more = right b (d && e) others in
    record {
      tag = grind (arith, nat_tests);
      begins = begins-from g.first (kept g body) (left b (d && e) others);
      behind = none-from (is_member g) rest (left d e more);
      number = stated-from many (integer_in 0 1_000_000_000_000_000_000 count.1) (right d e more);
    }

-- parts that pass the test are a group, and no others are
pub group-of : (g : Group) (fields : List Entry) (count : Entry) (body rest : List Entry) → IsCut g fields count body rest
    → is_whole g count body rest (length (cut_before g.first body)) ≡ true → IsGroup g fields (instances_in g body)
group-of g fields count body rest cut h = whole-group g fields count body rest cut (whole-from g count body rest (length (cut_before g.first body)) h)

pub no_group_of : (g : Group) (fields : List Entry) (count : Entry) (body rest : List Entry) (instances : List (List Entry))
    → has g.others.now g.first ≡ false → IsCut g fields count body rest
    → is_whole g count body rest (length (cut_before g.first body)) ≡ false → IsGroup g fields instances → ⊥
no_group_of g fields count body rest instances lacks cut h group =
    not_both (is_whole g count body rest (length (cut_before g.first body)))
    (whole-to g count body rest (length (cut_before g.first body)) (group-whole g fields count body rest instances lacks cut group)) h
