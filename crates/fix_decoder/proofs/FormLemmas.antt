-- What is printed in each form fills its row: it has no fault, is a short value, and spells the printed value.
use Rattle.std.proofs.Common.{◌≡◌, ℕ, ◌≤◌, true, false, Bool, List, [], ◌∷◌, refl, ap, ◌∙◌, arith, rules, ◌&&◌, nat_le, nat_lt, length, decimal, Option, Some, None, Ok, ℤ, pos}
use Rattle.std.specs.List.{list_all}
use Rattle.std.proofs.lemmas.Bool.Decides.{nat_tests}
use Rattle.sef_moment.specs.Utc.{utc_text, moment_of}
use Rattle.sef_moment.proofs.RoundTrip.{utc_text-is}
use Rattle.sef_moment.proofs.TestLemmas.{utc-to}
use Rattle.fix_fields.specs.Forms.{within, integer_in, price_text}
use Rattle.fix_fields.specs.declared.value.ValueFault.TheVariants as value
use Rattle.fix_fields.proofs.RoundTrip.{integer_in-decimal, quantity_of-decimal, amount_of-decimal, price_of-price_text}
use Rattle.fix_validation.specs.declared.table.Form.{Form}
use Rattle.fix_validation.specs.declared.table.Form.TheVariants as form
use Rattle.fix_validation.specs.declared.table.Row.{Row}
use Rattle.fix_dictionary.specs.declared.values.Side.{Side}
use Rattle.fix_dictionary.specs.declared.values.Side.TheVariants.{Buy, Sell}
use Rattle.fix_dictionary.specs.Values.{IsText, is_printable, IsNumber, IsFixInt, IsQuantity, IsAmount, IsPrice, IsResend, ends}
use Rattle.fix_validation.specs.Table.{needs, takes, value_fault, why, unless, text_fault, end_fault}
use Rattle.fix_validation.specs.Holding.{RowHolds}
use Rattle.fix_dictionary.specs.Fits.{Given, IsGraphic, IsMoment}
use Rattle.fix_validation.specs.Stated.{stated, number_in, quantity_in, amount_in, price_in, character_in, side_in, flag_in, ok_or}
use Rattle.fix_dictionary.specs.Text.{given, flag_text, side_text}
use Rattle.fix_decoder.proofs.ValueLemmas.{IsShort, short_text, short_decimal, short_byte, short_graphic, short_moment, short_price}

-- the longest value that is printed in a form
abbrev pub longest : Form → ℕ
longest form.Kind = 64
longest (form.Integer low high) = 10
longest (form.End begin) = 10
longest form.Price = 21
longest form.Quantity = 16
longest form.Amount = 16
longest form.Identifier = 64
longest form.Version = 1
longest form.Character = 1
longest form.OneOrTwo = 1
longest form.Flag = 1
longest form.Utc = 21
longest form.Printable = 200

-- the printed value of a row, if any, is valid there and short
pub record Filled (r : Row) (o : Option (List ℕ)) : Type 0 where
  pub holds : RowHolds r o
  pub text : Given (IsShort (longest r.form)) o

absent : (tag : ℕ) (f : Form) → Filled (takes tag f) None
absent tag f = record { holds = refl; text = tt }

both_true : (a b : Bool) → (a && b) ≡ true → (a ≡ true) × (b ≡ true)
both_true true b h = (refl, h)
both_true false b h = absurd (search (h, rules))

text_right : (n : ℕ) (b : List ℕ) → IsText n b → text_fault n b ≡ None
text_right n b h =
    let some = both_true (nat_lt 0 (length b)) (nat_le (length b) n && list_all is_printable b) h in
    let rest = both_true (nat_le (length b) n) (list_all is_printable b) some.1 in
    rw (some.0, rest.0, rest.1) refl

pub kind : (b : List ℕ) → IsText 64 b → Filled (needs 35 form.Kind) (Some b)
kind b h = record { holds = rw h refl; text = short_text 64 b h }

pub version : Filled (needs 1137 form.Version) (Some (57 ∷ []))
version = record { holds = refl; text = short_byte 57 (λ e. absurd (omega (arith, e))) }

pub identifier : (tag : ℕ) (b : List ℕ) → IsText 64 b → Filled (needs tag form.Identifier) (Some b)
identifier tag b h = record { holds = text_right 64 b h; text = short_text 64 b h }

pub identifier_given : (tag : ℕ) (o : Option (List ℕ)) → Given (IsText 64) o → Filled (takes tag form.Identifier) o
identifier_given tag None h = absent tag form.Identifier
identifier_given tag (Some b) h = record { holds = text_right 64 b h; text = short_text 64 b h }

pub text_given : (tag : ℕ) (o : Option (List ℕ)) → Given (IsText 200) o → Filled (takes tag form.Printable) o
text_given tag None h = absent tag form.Printable
text_given tag (Some b) h = record { holds = text_right 200 b h; text = short_text 200 b h }

number_read : (low high n : ℕ) → IsNumber low high n → nat_le high 1_000_000_000 ≡ true → integer_in low high (decimal n) ≡ Ok n
number_read low high n h small =
    let range : within low high n ≡ Ok n = grind (arith, nat_tests) in
    let bound : high ≤ 1_000_000_000 = grind (arith, nat_tests) in
    integer_in-decimal low high n (omega arith) ∙ range

number_short : (high n : ℕ) → n ≤ high → nat_le high 1_000_000_000 ≡ true → IsShort 10 (decimal n)
number_short high n h small =
    let bound : high ≤ 1_000_000_000 = grind (arith, nat_tests) in
    short_decimal 10 n (omega arith) (omega arith) (omega arith)

pub number : (tag low high n : ℕ) → IsNumber low high n → nat_le high 1_000_000_000 ≡ true → Filled (needs tag (form.Integer low high)) (Some (decimal n))
number tag low high n h small = record { holds = ap why (number_read low high n h small); text = number_short high n h.1 small }

pub number_back : (low high other n : ℕ) → IsNumber low high n → nat_le high 1_000_000_000 ≡ true → ok_or other (integer_in low high (decimal n)) ≡ n
number_back low high other n h small = ap (ok_or other) (number_read low high n h small)

pub number_given : (tag : ℕ) (o : Option ℕ) → Given IsFixInt o → Filled (takes tag (form.Integer 0 999_999_999)) (given decimal o)
number_given tag None h = absent tag (form.Integer 0 999_999_999)
number_given tag (Some n) h = record { holds = ap why (number_read 0 999_999_999 n h refl); text = number_short 999_999_999 n h.1 refl }

pub number_given_back : (o : Option ℕ) → Given IsFixInt o → stated number_in (given decimal o) ≡ o
number_given_back None h = refl
number_given_back (Some n) h = ap (λ (x : ℕ). Some x) (number_back 0 999_999_999 0 n h refl)

pub end : (begin n : ℕ) → IsFixInt n → IsResend begin n → Filled (needs 16 (form.End begin)) (Some (decimal n))
end begin n h k = record {
  holds = ap (end_fault begin) (number_read 0 999_999_999 n h refl) ∙ right (ends begin n) k;
  text = number_short 999_999_999 n h.1 refl;
}
  where
    right : (b : Bool) → b ≡ true → unless b value.Range ≡ None
    right b e = rw e refl

pub quantity : (tag n : ℕ) → IsQuantity n → Filled (needs tag form.Quantity) (Some (decimal n))
quantity tag n h = record { holds = ap why (quantity_of-decimal n h.0 h.1); text = short_decimal 16 n (omega arith) (omega (arith, h.1)) (omega (arith, h.1)) }

pub quantity_back : (n : ℕ) → IsQuantity n → quantity_in (decimal n) ≡ n
quantity_back n h = ap (ok_or 1) (quantity_of-decimal n h.0 h.1)

pub quantity_given : (tag : ℕ) (o : Option ℕ) → Given IsQuantity o → Filled (takes tag form.Quantity) (given decimal o)
quantity_given tag None h = absent tag form.Quantity
quantity_given tag (Some n) h = record { holds = (quantity tag n h).holds; text = (quantity tag n h).text }

pub quantity_given_back : (o : Option ℕ) → Given IsQuantity o → stated quantity_in (given decimal o) ≡ o
quantity_given_back None h = refl
quantity_given_back (Some n) h = ap (λ (x : ℕ). Some x) (quantity_back n h)

pub amount : (tag n : ℕ) → IsAmount n → Filled (needs tag form.Amount) (Some (decimal n))
amount tag n h = record { holds = ap why (amount_of-decimal n h); text = short_decimal 16 n (omega arith) (omega (arith, h)) (omega (arith, h)) }

pub amount_back : (n : ℕ) → IsAmount n → amount_in (decimal n) ≡ n
amount_back n h = ap (ok_or 0) (amount_of-decimal n h)

pub amount_given : (tag : ℕ) (o : Option ℕ) → Given IsAmount o → Filled (takes tag form.Amount) (given decimal o)
amount_given tag None h = absent tag form.Amount
amount_given tag (Some n) h = record { holds = (amount tag n h).holds; text = (amount tag n h).text }

pub amount_given_back : (o : Option ℕ) → Given IsAmount o → stated amount_in (given decimal o) ≡ o
amount_given_back None h = refl
amount_given_back (Some n) h = ap (λ (x : ℕ). Some x) (amount_back n h)

pub price_given : (tag : ℕ) (o : Option ℤ) → Given IsPrice o → Filled (takes tag form.Price) (given price_text o)
price_given tag None h = absent tag form.Price
price_given tag (Some p) h = record { holds = ap why (price_of-price_text p h); text = short_price p h }

pub price_given_back : (o : Option ℤ) → Given IsPrice o → stated price_in (given price_text o) ≡ o
price_given_back None h = refl
price_given_back (Some p) h = ap (λ r. Some (ok_or (pos 0) r)) (price_of-price_text p h)

pub character : (tag c : ℕ) → IsGraphic c → Filled (needs tag form.Character) (Some (c ∷ []))
character tag c h = record { holds = rw h refl; text = short_graphic c h }

pub character_given : (tag : ℕ) (o : Option ℕ) → Given IsGraphic o → Filled (takes tag form.Character) (given (λ c. c ∷ []) o)
character_given tag None h = absent tag form.Character
character_given tag (Some c) h = record { holds = rw h refl; text = short_graphic c h }

pub character_given_back : (o : Option ℕ) → stated character_in (given (λ c. c ∷ []) o) ≡ o
character_given_back None = refl
character_given_back (Some c) = refl

side_short : (s : Side) → IsShort 1 (side_text s)
side_short Buy = short_byte 49 (λ e. absurd (omega (arith, e)))
side_short Sell = short_byte 50 (λ e. absurd (omega (arith, e)))

side_right : (s : Side) → value_fault form.OneOrTwo (side_text s) ≡ None
side_right Buy = refl
side_right Sell = refl

pub side : (tag : ℕ) (s : Side) → Filled (needs tag form.OneOrTwo) (Some (side_text s))
side tag s = record { holds = side_right s; text = side_short s }

pub side_back : (s : Side) → side_in (side_text s) ≡ s
side_back Buy = refl
side_back Sell = refl

pub side_given : (tag : ℕ) (o : Option Side) → Filled (takes tag form.OneOrTwo) (given side_text o)
side_given tag None = absent tag form.OneOrTwo
side_given tag (Some s) = record { holds = side_right s; text = side_short s }

pub side_given_back : (o : Option Side) → stated side_in (given side_text o) ≡ o
side_given_back None = refl
side_given_back (Some s) = ap (λ (x : Side). Some x) (side_back s)

flag_short : (f : Bool) → IsShort 1 (flag_text f)
flag_short true = short_byte 89 (λ e. absurd (omega (arith, e)))
flag_short false = short_byte 78 (λ e. absurd (omega (arith, e)))

flag_right : (f : Bool) → value_fault form.Flag (flag_text f) ≡ None
flag_right true = refl
flag_right false = refl

pub flag_given : (tag : ℕ) (o : Option Bool) → Filled (takes tag form.Flag) (given flag_text o)
flag_given tag None = absent tag form.Flag
flag_given tag (Some f) = record { holds = flag_right f; text = flag_short f }

pub flag_given_back : (o : Option Bool) → stated flag_in (given flag_text o) ≡ o
flag_given_back None = refl
flag_given_back (Some true) = refl
flag_given_back (Some false) = refl

moment_right : (n : ℕ) → IsMoment n → value_fault form.Utc (utc_text n) ≡ None
moment_right n h = rw (utc-to (utc_text n) (utc_text-is n h).0) refl

pub moment : (tag n : ℕ) → IsMoment n → Filled (needs tag form.Utc) (Some (utc_text n))
moment tag n h = record { holds = moment_right n h; text = short_moment n }

pub moment_back : (n : ℕ) → IsMoment n → moment_of (utc_text n) ≡ n
moment_back n h = (utc_text-is n h).1

pub moment_given : (tag : ℕ) (o : Option ℕ) → Given IsMoment o → Filled (takes tag form.Utc) (given utc_text o)
moment_given tag None h = absent tag form.Utc
moment_given tag (Some n) h = record { holds = moment_right n h; text = short_moment n }

pub moment_given_back : (o : Option ℕ) → Given IsMoment o → stated moment_of (given utc_text o) ≡ o
moment_given_back None h = refl
moment_given_back (Some n) h = ap (λ (x : ℕ). Some x) (utc_text-is n h).1
