-- A resend request in which its table finds no fault ends at 0 or not before it begins.
use Rattle.std.proofs.Common.{◌≡◌, ℕ, ◌≤◌, true, false, Bool, List, [], refl, sym, ap, ◌∙◌, arith, rules, cond, ◌&&◌, nat_le, Result, Ok, Err, Option, Some, None}
use Rattle.std.proofs.lemmas.Bool.Decides.{nat_tests}
use Rattle.fix_fields.specs.declared.value.ValueFault.{ValueFault}
use Rattle.fix_fields.specs.declared.value.ValueFault.TheVariants.{Format, Range}
use Rattle.fix_fields.specs.Fields.{Entry, value_of}
use Rattle.fix_fields.specs.Forms.{within, integer_in}
use Rattle.fix_validation.specs.declared.table.Form.TheVariants as form
use Rattle.fix_dictionary.specs.Values.{ends, IsResend}
use Rattle.fix_validation.specs.Table.{needs, why, end_fault}
use Rattle.fix_validation.specs.Tables.{resend_request_rows}
use Rattle.fix_validation.specs.Holding.{RowHolds, Holds}
use Rattle.fix_validation.specs.Stated.{ok_or, some_or, bytes_at, number_in, sequence_number_in}
use Rattle.fix_decoder.specs.Messages.{begin_in}
use Rattle.fix_decoder.proofs.BoundLemmas.{within_test, unless_none}

err_not_ok : {X : Type 0} (e : ValueFault) (x : X) → Err e ≡ Ok x → ⊥
err_not_ok e x h = search (h, rules)

some_not_none : {X : Type 0} (x : X) → Some x ≡ None → ⊥
some_not_none x h = search (h, rules)

true_not_false : true ≡ false → ⊥
true_not_false h = search (h, rules)

wider_within : (b : Bool) (low high wide_low wide_high v n : ℕ) → wide_low ≤ low → high ≤ wide_high → cond b (within low high v) (Err Format) ≡ Ok n → cond b (within wide_low wide_high v) (Err Format) ≡ Ok n
wider_within true low high wide_low wide_high v n below above h =
    let found = within_test (nat_le low v && nat_le v high) v n h in
    let test = found.0 in
    let same = found.1 in
    let inside : (nat_le wide_low v && nat_le v wide_high) ≡ true = grind (arith, nat_tests) in
    rw inside (ap (λ (x : ℕ). Ok x) same)
wider_within false low high wide_low wide_high v n below above h = absurd (err_not_ok Format n h)

-- an integer of a range is the same one of a wider range
wider : (low high wide_low wide_high : ℕ) (text : List ℕ) (n : ℕ) → wide_low ≤ low → high ≤ wide_high → integer_in low high text ≡ Ok n → integer_in wide_low wide_high text ≡ Ok n
unfolding integer_in
wider low high wide_low wide_high text n below above h = wider_within _ low high wide_low wide_high _ n below above h

is_ok : {X : Type 0} (r : Result X ValueFault) → why r ≡ None → (x : X) × (r ≡ Ok x)
is_ok (Ok x) h = (x, refl)
is_ok (Err e) h = absurd (some_not_none e h)

end_right : (begin : ℕ) (r : Result ℕ ValueFault) → end_fault begin r ≡ None → ends begin (ok_or 0 r) ≡ true
end_right begin (Ok n) h = unless_none (ends begin n) Range h
end_right begin (Err e) h = absurd (some_not_none e h)

same_begin : (a b end : ℕ) → a ≡ b → ends a end ≡ true → ends b end ≡ true
same_begin a b end e h = rw (← e) h

by_values : (begin : ℕ) (seven sixteen : Option (List ℕ)) → RowHolds (needs 7 (form.Integer 1 999_999_999)) seven → RowHolds (needs 16 (form.End begin)) sixteen
    → begin ≡ ok_or 1_000_000_000 (integer_in 0 1_000_000_000 (some_or [] seven)) → IsResend (sequence_number_in (some_or [] seven)) (number_in (some_or [] sixteen))
by_values begin None sixteen h k e = absurd (true_not_false h)
by_values begin (Some b) None h k e = absurd (true_not_false k)
by_values begin (Some b) (Some c) h k e =
    let found = is_ok (integer_in 1 999_999_999 b) h in
    let first : begin ≡ found.0 = e ∙ ap (ok_or 1_000_000_000) (wider 1 999_999_999 0 1_000_000_000 b found.0 (omega arith) (omega arith) found.1) in
    let own : begin ≡ sequence_number_in b = first ∙ sym (ap (ok_or 1) found.1) in
    same_begin begin (sequence_number_in b) (number_in c) own (end_right begin (integer_in 0 999_999_999 c) k)

pub resend_right : (begin : ℕ) (fields : List Entry) → Holds (resend_request_rows begin) fields → begin ≡ begin_in fields → IsResend (sequence_number_in (bytes_at 7 fields)) (number_in (bytes_at 16 fields))
resend_right begin fields h e = by_values begin (value_of 7 fields) (value_of 16 fields) h.0 h.1.0 e
