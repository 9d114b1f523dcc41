-- What is printed of bytes that anybody may have written is one line.
use Rattle.std.proofs.Common.{◌≡◌, ◌⊎◌, inl, inr, ℕ, zero, suc, ◌+◌, ◌/◌, ◌%◌, ◌-◌, ◌<◌, ◌≤◌, ◌==◌, ◌&&◌, ◌||◌, Bool, true, false, List, [], ◌∷◌, ◌++◌, Option, None, Some, if◌then◌else◌, refl, arith, decimal}
use Rattle.std.specs.Prelude.{nat_le, nat_lt, bytes_eq, codes}
use Rattle.std.specs.Fmt.{digits, digits_onto, digit_glyph}
use Rattle.std.specs.List.{list_all}
use Rattle.std.proofs.lemmas.Bool.{false≢true}
use Rattle.std.proofs.lemmas.Bool.Decides.{leb_tells, nat_tests}
use Rattle.message_words.specs.Json.{hex_digit}
use Rattle.message_words.specs.Visible.{readable, readable_byte}
use Rattle.desk_log.specs.declared.frames.Span.{Span}
use Rattle.desk_log.specs.declared.missing.Missing.{Missing}
use Rattle.desk_log.specs.declared.owed.Owed.{Owed}
use Rattle.desk_log.specs.Frames.{line_of}
use Rattle.desk_log.specs.Lines.{TextsAreLines, is_end, is_line}
use Rattle.desk_log.specs.Listing.{elsewhere_said, owed_said, report_of, report_said, what_said}
use Rattle.desk_log.specs.Naming.{field, kind_words, named_of}
use Rattle.desk_log.specs.Numbered.{Logged, text_at}
use Rattle.desk_log.specs.Parts.{joined}
use Rattle.desk_log.specs.Report.{described, in_words, logged_line, many_in, missing_line, missing_many, missing_one, owed_row, text_line}

-- bytes that are printed
abbrev ok : List ℕ → Bool
ok xs = list_all (nat_le 32) xs

le_true : (a b : ℕ) → a ≤ b → nat_le a b ≡ true
le_true a b low = by (leb_tells a b)
  where
    by : ((nat_le a b ≡ true) × (a ≤ b)) ⊎ ((nat_le a b ≡ false) × (b < a)) → nat_le a b ≡ true
    by (inl h) = h.0
    by (inr h) = let m = h.1 in absurd (omega (arith, low, m))

both : (a b c : Bool) → (a && b) ≡ true → (b ≡ true → c ≡ true) → (a && c) ≡ true
both true b c h k = k h
both false b c h k = absurd (false≢true h)

ok_append : (xs ys : List ℕ) → ok xs ≡ true → ok ys ≡ true → ok (xs ++ ys) ≡ true
ok_append [] ys h k = k
ok_append (x ∷ xs) ys h k = both (nat_le 32 x) (ok xs) (ok (xs ++ ys)) h (λ r. ok_append xs ys r k)

and_true : (a b : Bool) → a ≡ true → b ≡ true → (a && b) ≡ true
and_true true b h k = k
and_true false b h k = absurd (false≢true h)

ok_more : (x : ℕ) (xs : List ℕ) → 32 ≤ x → ok xs ≡ true → ok (x ∷ xs) ≡ true
ok_more x xs low h = and_true (nat_le 32 x) (ok xs) (le_true 32 x low) h

ok_if : (b : Bool) (xs ys : List ℕ) → ok xs ≡ true → ok ys ≡ true → ok (if b then xs else ys) ≡ true
ok_if true xs ys h k = h
ok_if false xs ys h k = k

-- numbers

glyph_low : (d : ℕ) → 32 ≤ digit_glyph false d
glyph_low d = by (nat_lt d 10) refl
  where
    by : (b : Bool) → nat_lt d 10 ≡ b → 32 ≤ (if b then 48 + d else 87 + d)
    by true e = omega arith
    by false e = omega arith

digits_ok : (k n : ℕ) (acc : List ℕ) → ok acc ≡ true → ok (digits_onto k 10 false n acc) ≡ true
digits_ok zero n acc h = h
digits_ok (suc k) n acc h =
    let d = digit_glyph false (n % 10) in
    let longer = ok_more d acc (glyph_low (n % 10)) h in
    ok_if (n / 10 == 0) (d ∷ acc) (digits_onto k 10 false (n / 10) (d ∷ acc)) longer (digits_ok k (n / 10) (d ∷ acc) longer)

decimal_ok : (n : ℕ) → ok (decimal n) ≡ true
unfolding digits
decimal_ok n = digits_ok 64 n [] refl

-- any bytes, as they are printed

hex_low : (d : ℕ) → 32 ≤ hex_digit d
hex_low d = by (nat_lt d 10) refl
  where
    by : (b : Bool) → nat_lt d 10 ≡ b → 32 ≤ (if b then d + 48 else d + 87)
    by true e = omega arith
    by false e = omega arith

byte_ok : (b : ℕ) → ok (readable_byte b) ≡ true
byte_ok b = by (b == 1) (nat_lt b 32) (nat_lt 126 b) refl
  where
    by : (one low high : Bool) → nat_lt b 32 ≡ low → ok (if one then 124 ∷ [] else (if low || high then 92 ∷ 120 ∷ hex_digit (b / 16) ∷ hex_digit (b % 16) ∷ [] else b ∷ [])) ≡ true
    by true low high e = refl
    by false true high e = ok_more (hex_digit (b / 16)) (hex_digit (b % 16) ∷ []) (hex_low (b / 16)) (ok_more (hex_digit (b % 16)) [] (hex_low (b % 16)) refl)
    by false false true e = ok_more (hex_digit (b / 16)) (hex_digit (b % 16) ∷ []) (hex_low (b / 16)) (ok_more (hex_digit (b % 16)) [] (hex_low (b % 16)) refl)
    by false false false e = ok_more b [] (grind (arith, nat_tests)) refl

readable_ok : (text : List ℕ) → ok (readable text) ≡ true
readable_ok [] = refl
readable_ok (b ∷ bs) = ok_append (readable_byte b) (readable bs) (byte_ok b) (readable_ok bs)

-- lines

or_true : (p q : Bool) → q ≡ true → (p || q) ≡ true
or_true true q h = refl
or_true false q h = h

first_of : (a b : Bool) → (a && b) ≡ true → a ≡ true
first_of true b h = refl
first_of false b h = h

rest_of : (a b : Bool) → (a && b) ≡ true → b ≡ true
rest_of true b h = h
rest_of false b h = absurd (false≢true h)

behind : (xs ys : List ℕ) → ok xs ≡ true → is_line ys ≡ true → is_line (xs ++ ys) ≡ true
behind [] ys h k = k
behind (x ∷ xs) ys h k =
    or_true (x == 10 && is_end (xs ++ ys)) (nat_le 32 x && is_line (xs ++ ys))
    (and_true (nat_le 32 x) (is_line (xs ++ ys)) (first_of (nat_le 32 x) (ok xs) h) (behind xs ys (rest_of (nat_le 32 x) (ok xs) h) k))

-- parts that are printed, and the end of the line

abbrev AreOk : List (List ℕ) → Type 0
AreOk [] = Unit {0}
AreOk (t ∷ ts) = (ok t ≡ true) × AreOk ts

is_one : (ts : List (List ℕ)) → AreOk ts → is_line (joined (ts ++ codes "\n" ∷ [])) ≡ true
is_one [] h = refl
is_one (t ∷ ts) h = behind t (joined (ts ++ codes "\n" ∷ [])) h.0 (is_one ts h.1)

logged_is : (log : List ℕ) (l : Logged) → is_line (logged_line log l) ≡ true
logged_is log l =
    is_one (codes "    in the log, number " ∷ decimal l.0.number ∷ codes " of era " ∷ decimal l.0.era ∷ codes ", line " ∷ decimal (line_of l.1.start log) ∷ codes ": " ∷ readable (text_at log l.1) ∷ [])
    (refl, (decimal_ok l.0.number, (refl, (decimal_ok l.0.era, (refl, (decimal_ok (line_of l.1.start log), (refl, (readable_ok (text_at log l.1), tt))))))))

text_is : (log : List ℕ) (s : Span) → is_line (text_line log s) ≡ true
text_is log s =
    is_one (codes "    line " ∷ decimal (line_of s.start log) ∷ codes ": " ∷ readable (text_at log s) ∷ []) (refl, (decimal_ok (line_of s.start log), (refl, (readable_ok (text_at log s), tt))))

owed_is : (o : Owed) → is_line (owed_row o) ≡ true
owed_is o =
    is_one (codes "    owed at row " ∷ decimal o.row ∷ codes ": " ∷ readable o.text.items ∷ []) (refl, (decimal_ok o.row, (refl, (readable_ok o.text.items, tt))))

-- messages in words

kind_ok : (kind : List ℕ) → ok (kind_words kind) ≡ true
kind_ok kind =
    ok_if (bytes_eq kind (codes "8")) _ _ refl
    (ok_if (bytes_eq kind (codes "9")) _ _ refl
    (ok_if (bytes_eq kind (codes "R")) _ _ refl
    (ok_if (bytes_eq kind (codes "S")) _ _ refl
    (ok_if (bytes_eq kind (codes "AI")) _ _ refl
    (ok_if (bytes_eq kind (codes "AG")) _ _ refl
    (ok_if (bytes_eq kind (codes "W")) _ _ refl
    (ok_if (bytes_eq kind (codes "Y")) _ _ refl
    (ok_if (bytes_eq kind (codes "j")) _ _ refl refl))))))))

words_ok : (text : List ℕ) → ok (in_words text) ≡ true
words_ok text =
    let kind = field (codes "35=") text in
    ok_append (kind_words kind) _ (kind_ok kind) (ok_append (readable (named_of kind text)) _ (readable_ok (named_of kind text)) refl)

described_ok : (owed several : Bool) (o : Option Owed) → ok (described owed several o) ≡ true
described_ok false several o = refl
described_ok true several None = refl
described_ok true several (Some o) = ok_append (if several then codes " (the first: " else codes " (") (in_words o.text.items) (ok_if several (codes " (the first: ") (codes " (") refl refl) (words_ok o.text.items)

one_is : (m : Missing) (what : List ℕ) → ok what ≡ true → is_line (missing_one m what) ≡ true
one_is m what h =
    is_one (codes "    message " ∷ decimal m.first ∷ what ∷ codes " is missing; the log goes on with message " ∷ decimal m.next ∷ []) (refl, (decimal_ok m.first, (h, (refl, (decimal_ok m.next, tt)))))

many_is : (m : Missing) (last : ℕ) (what : List ℕ) → ok what ≡ true → is_line (missing_many m last what) ≡ true
many_is m last what h =
    is_one (codes "    messages " ∷ decimal m.first ∷ codes " to " ∷ decimal last ∷ what ∷ codes " are missing; the log goes on with message " ∷ decimal m.next ∷ [])
    (refl, (decimal_ok m.first, (refl, (decimal_ok last, (h, (refl, (decimal_ok m.next, tt)))))))

missing_is : (owed : Bool) (m : Missing) (o : Option Owed) → is_line (missing_line owed m o) ≡ true
missing_is owed m o = by (many_in m == 1)
  where
    by : (b : Bool) → is_line (if b then missing_one m (described owed false o) else missing_many m (m.next - 1) (described owed true o)) ≡ true
    by true = one_is m (described owed false o) (described_ok owed false o)
    by false = many_is m (m.next - 1) (described owed true o) (described_ok owed true o)

-- messages that are owed and are not in the log

ok_joined : (ts : List (List ℕ)) → AreOk ts → ok (joined ts) ≡ true
ok_joined [] h = refl
ok_joined (t ∷ ts) h = ok_append t (joined ts) h.0 (ok_joined ts h.1)

report_ok : (report : List ℕ) → ok (report_of report) ≡ true
report_ok [] = refl
report_ok (b ∷ bs) = ok_append (codes ", ") (readable (b ∷ bs)) refl (readable_ok (b ∷ bs))

what_ok : (text : List ℕ) → ok (what_said text) ≡ true
what_ok text =
    let kind = field (codes "35=") text in
    ok_append (kind_words kind) (readable (named_of kind text)) (kind_ok kind) (readable_ok (named_of kind text))

elsewhere_ok : (log : List ℕ) (l : Option Logged) → ok (elsewhere_said log l) ≡ true
elsewhere_ok log None = refl
elsewhere_ok log (Some l) =
    ok_joined (codes ", in the log out of order, as number " ∷ decimal l.0.number ∷ codes " of era " ∷ decimal l.0.era ∷ codes ", line " ∷ decimal (line_of l.1.start log) ∷ [])
    (refl, (decimal_ok l.0.number, (refl, (decimal_ok l.0.era, (refl, (decimal_ok (line_of l.1.start log), tt))))))

listed_is : (log : List ℕ) (at many : ℕ) (o : Owed) (l : Option Logged) → is_line (owed_said log at many o l) ≡ true
listed_is log at many o l =
    let text = o.text.items in
    is_one (codes "    " ∷ decimal (at + 1) ∷ codes " of " ∷ decimal many ∷ codes ", row " ∷ decimal o.row ∷ report_said text ∷ codes ", " ∷ what_said text ∷ elsewhere_said log l ∷ codes ": " ∷ readable text ∷ [])
    (refl, (decimal_ok (at + 1), (refl, (decimal_ok many, (refl, (decimal_ok o.row, (report_ok (field (codes "17=") text), (refl, (what_ok text, (elsewhere_ok log l, (refl, (readable_ok text, tt))))))))))))

pub texts_are_lines : TextsAreLines
texts_are_lines = (logged_is, text_is, owed_is, missing_is, listed_is)
