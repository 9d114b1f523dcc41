-- The position of a field: outside of the groups, or in an instance of a group.
use Rattle.std.specs.Prelude.{ℕ, ◌+◌, ◌==◌, Bool, false, ◌&&◌, if◌then◌else◌, List, [], ◌∷◌, map, Option, None, Some}
use Rattle.std.specs.List.{list_any}
use Rattle.fix_fields.specs.Fields.{Entry}
use Rattle.fix_fields.specs.Views.{entry}
use Rattle.fix_validation.specs.Stated.{some_or}
use Rattle.fix_validation.specs.declared.table.Row.{Row}
use Rattle.fix_validation.specs.declared.positions.FieldPosition.{FieldPosition}
use Rattle.fix_validation.specs.declared.positions.FieldPosition.TheVariants.{Unknown, InPart, Begins, Misplaced}
use Rattle.fix_validation.specs.declared.positions.OpenGroup.{OpenGroup}
use Rattle.fix_validation.specs.declared.positions.State.{State}
use Rattle.fix_validation.specs.declared.positions.Stepped.{Stepped}
use Rattle.fix_validation.specs.declared.positions.Membership.{Membership}
use Rattle.fix_validation.specs.declared.positions.LocatedField as code

-- the group that a table puts a tag in, 0 for none, if it names the tag
abbrev pub group_of : ℕ → List Row → Option ℕ
group_of tag [] = None
group_of tag (r ∷ rs) = if r.tag == tag then Some r.group else group_of tag rs

-- the first tag of a group, 0 for none; a group is named by its count field
abbrev pub first_tag : ℕ → List Row → ℕ
first_tag group [] = 0
first_tag group (r ∷ rs) = if r.group == group then r.tag else first_tag group rs

abbrev pub is_count : ℕ → List Row → Bool
is_count tag rows = list_any (λ (r : Row). r.group == tag) rows

-- the group that a field opens in its part, if it is a count
abbrev pub opened : List Row → ℕ → ℕ → Option OpenGroup
opened rows tag part = if is_count tag rows then Some (record { group = tag; around = part; instance = None }) else None

abbrev pub opened_in : List Row → ℕ → Option ℕ → Option OpenGroup
opened_in rows tag None = None
opened_in rows tag (Some part) = opened rows tag part

-- a member continues the instance, or is a stray before the first one
abbrev pub goes_on : OpenGroup → Option ℕ → FieldPosition
goes_on opening None = Misplaced opening.around
goes_on opening (Some part) = InPart part

-- a member of an open group
abbrev pub entered : List Row → ℕ → OpenGroup → ℕ → Membership
entered rows begun opening tag =
    if tag == first_tag opening.group rows
    then record { position = Begins (begun + 1) opening.around; opening = record { group = opening.group; around = opening.around; instance = Some (begun + 1) }; begun = begun + 1 }
    else record { position = goes_on opening opening.instance; opening = opening; begun = begun }

-- no group stays open
abbrev pub misplaced : State → Stepped
misplaced s = record { position = Misplaced 0; state = record { begun = s.begun; outer = None; inner = None } }

-- a member of a group that is not open, though the group around it may be
abbrev pub unopened : List Row → State → OpenGroup → ℕ → Option ℕ → Stepped
unopened rows s opening group None = misplaced s
unopened rows s opening group (Some part) =
    if some_or 0 (group_of group rows) == opening.group then record { position = Misplaced part; state = record { begun = s.begun; outer = s.outer; inner = None } } else misplaced s

abbrev pub outer_step : List Row → State → ℕ → ℕ → Option OpenGroup → Stepped
outer_step rows s tag group None = misplaced s
outer_step rows s tag group (Some opening) =
    if opening.group == group
    then (let e = entered rows s.begun opening tag in
    record { position = e.position; state = record { begun = e.begun; outer = Some e.opening; inner = opened_in rows tag e.opening.instance } })
    else unopened rows s opening group opening.instance

abbrev pub inner_step : List Row → State → ℕ → ℕ → Option OpenGroup → Stepped
inner_step rows s tag group None = outer_step rows s tag group s.outer
inner_step rows s tag group (Some opening) =
    if opening.group == group
    then (let e = entered rows s.begun opening tag in
    record { position = e.position; state = record { begun = e.begun; outer = s.outer; inner = Some e.opening } })
    else outer_step rows s tag group s.outer

-- a field that the table names, in its group: outside of groups it closes them
abbrev pub step_in : List Row → State → ℕ → Option ℕ → Stepped
step_in rows s tag None = record { position = Unknown; state = s }
step_in rows s tag (Some group) =
    if group == 0 then record { position = InPart 0; state = record { begun = s.begun; outer = opened rows tag 0; inner = None } }
    else inner_step rows s tag group s.inner

-- the header's tags are outside of groups, and leave them open
abbrev pub header_step : List Row → State → ℕ → Option ℕ → Stepped
header_step rows s tag None = step_in rows s tag (group_of tag rows)
header_step rows s tag (Some group) = record { position = InPart 0; state = s }

abbrev pub step : List Row → List Row → State → ℕ → Stepped
step header rows s tag = header_step rows s tag (group_of tag header)

-- a field and its position
abbrev pub LocatedFields : Type 0
LocatedFields = Entry × FieldPosition

abbrev pub start : State
start = record { begun = 0; outer = None; inner = None }

abbrev pub located : List Row → List Row → State → List Entry → List LocatedFields
located header rows s [] = []
located header rows s (f ∷ fs) = (f, (step header rows s f.0).position) ∷ located header rows (step header rows s f.0).state fs

-- the same without its place in memory
abbrev pub place : code.LocatedField → LocatedFields
place p = (entry p.field, p.position)

abbrev pub places : List code.LocatedField → List LocatedFields
places ps = map place ps

abbrev pub is_in : ℕ → FieldPosition → Bool
is_in part Unknown = false
is_in part (InPart p) = p == part
is_in part (Begins p around) = p == part
is_in part (Misplaced p) = p == part

-- the fields of a part
abbrev pub part : ℕ → List LocatedFields → List Entry
part q [] = []
part q (p ∷ ps) = if is_in q p.1 then p.0 ∷ part q ps else part q ps

-- the part that begins, if it is an instance of the group with this first tag
abbrev pub with_begin : ℕ → ℕ → ℕ → FieldPosition → List ℕ → List ℕ
with_begin first around tag (Begins p a) rest = if (tag == first) && (a == around) then p ∷ rest else rest
with_begin first around tag Unknown rest = rest
with_begin first around tag (InPart p) rest = rest
with_begin first around tag (Misplaced p) rest = rest

-- the instances of a group in a part, by the first tag of the group
abbrev pub begins : ℕ → ℕ → List LocatedFields → List ℕ
begins first around [] = []
begins first around (p ∷ ps) = with_begin first around p.0.0 p.1 (begins first around ps)

abbrev pub instances : ℕ → ℕ → List LocatedFields → List (List Entry)
instances first around ps = map (λ (q : ℕ). part q ps) (begins first around ps)

abbrev pub first_of : List (List Entry) → List Entry
first_of [] = []
first_of (i ∷ is) = i

abbrev pub first_or_none : List ℕ → ℕ
first_or_none [] = 0
first_or_none (q ∷ qs) = q

-- the part of the first instance of a group outside of groups
abbrev pub first_begin : ℕ → List LocatedFields → ℕ
first_begin first ps = first_or_none (begins first 0 ps)

abbrev pub second_or_none : List ℕ → ℕ
second_or_none [] = 0
second_or_none (p ∷ []) = 0
second_or_none (p ∷ q ∷ qs) = q

-- the part of the second instance
abbrev pub second_begin : ℕ → List LocatedFields → ℕ
second_begin first ps = second_or_none (begins first 0 ps)

-- the only instance of a group outside of groups
abbrev pub sole : ℕ → List LocatedFields → List Entry
sole first ps = first_of (instances first 0 ps)
