-- Every stream has its frames: what begins some bytes is decidable.
use Rattle.std.proofs.Common.{◌≡◌, ℕ, zero, suc, ◌+◌, ◌-◌, ◌<◌, ◌≤◌, ◌⊎◌, inl, inr, List, [], ◌∷◌, length, take, drop, min, get_or, refl, subst, ⊎_elim, arith, length-drop}
use Rattle.std.specs.Prelude.{slice_range}
use Rattle.std.specs.Char.{digit_value}
use Rattle.std.specs.Str.Parse.{AllDigits, digits_value}
use Rattle.std.proofs.lemmas.Bool.{cases_lt, cases_order}
use Rattle.std.proofs.lemmas.Int.Digits.{digits_more}
use Rattle.std.proofs.lemmas.List.{take_all}
use Rattle.fix_frame.specs.Frame.{opening}
use Rattle.fix_frame.specs.Stream.{IsOpen, Passes, Frames}
use Rattle.fix_frame.specs.Look.{Agree, IsHeader, IsLook, IsLengthField}
use Rattle.fix_frame.specs.declared.look.Look.{Look}
use Rattle.fix_frame.specs.declared.look.Look.TheVariants.{Frame, Unfinished, Nothing}
use Rattle.fix_frame.specs.declared.length_field.LengthField.{LengthField}
use Rattle.fix_frame.specs.declared.length_field.LengthField.TheVariants.{Whole, Cut, Wrong}
use Rattle.fix_frame.proofs.Lengths.{too_many, too_great, too_small, unfinished, not_soh, whole}
use Rattle.fix_frame.proofs.Bodies.{tag}
use Rattle.fix_frame.proofs.Framing.{trailer_behind, start_within, not_tagged, begun, not_ended, not_checked, nearly, framed}
use Rattle.fix_frame.proofs.Opening.{not_opening, few, wrong, cut, header}
use Rattle.fix_frame.proofs.Starts.{nil_open, begins_from_look, IsOpen-from_look}
use Rattle.fix_frame.proofs.Reading.{Passes-none}

-- equality of lists is decidable
same_list : (xs ys : List ℕ) → (xs ≡ ys) ⊎ (xs ≡ ys → ⊥)
same_list [] [] = inl refl
same_list [] (y ∷ ys) = inr (λ e. cc)
same_list (x ∷ xs) [] = inr (λ e. cc)
same_list (x ∷ xs) (y ∷ ys) = ⊎_elim
    (λ (e : x ≡ y). ⊎_elim
    (λ (f : xs ≡ ys). let both : x ∷ xs ≡ y ∷ ys = cc in inl both)
    (λ (other : xs ≡ ys → ⊥). inr (λ g. let f : xs ≡ ys = cc in other f))
    (same_list xs ys))
    (λ (o : (x < y) ⊎ (y < x)). inr (λ g. let e : x ≡ y = cc in ⊎_elim (λ (l : x < y). absurd (omega arith)) (λ (l : y < x). absurd (omega arith)) o))
    (cases_order x y)

agree_or_not : (xs ys : List ℕ) → (Agree xs ys) ⊎ (Agree xs ys → ⊥)
agree_or_not xs ys = same_list (take (min (length xs) (length ys)) xs) (take (min (length xs) (length ys)) ys)

-- the leading digits, seven at most
record Front (bytes : List ℕ) : Type 0 where
  count : ℕ
  within : count ≤ length bytes
  few_digits : count ≤ 7
  digits : AllDigits 10 (take count bytes)
  stop : count < 7 → count < length bytes → 10 ≤ digit_value (get_or bytes count 0)

front_from : (left count : ℕ) (bytes : List ℕ) → left + count ≡ 7 → count ≤ length bytes → AllDigits 10 (take count bytes) → Front bytes
front_from zero count bytes sum within digits = record {
  count = count;
  within = within;
  few_digits = omega arith;
  digits = digits;
  stop = λ less _. absurd (omega arith);
}
front_from (suc left) count bytes sum within digits = ⊎_elim
    (λ (inside : count < length bytes). ⊎_elim
    (λ (digit : digit_value (get_or bytes count 0) < 10).
    front_from left (count + 1) bytes (omega arith) (omega arith) (digits_more 10 bytes count inside digits digit))
    (λ (other : 10 ≤ digit_value (get_or bytes count 0)).
    record { count = count; within = within; few_digits = omega arith; digits = digits; stop = λ _ _. other })
    (cases_lt (digit_value (get_or bytes count 0)) 10))
    (λ (end : length bytes ≤ count).
    record { count = count; within = within; few_digits = omega arith; digits = digits; stop = λ _ inside. absurd (omega arith) })
    (cases_lt count (length bytes))

Field : List ℕ → Type 0
Field bytes = (l : LengthField) × IsLengthField bytes l

-- what follows `9=`
field_of : (bytes : List ℕ) → Front bytes → Field bytes
unfolding Field
field_of bytes f =
    let n : ℕ = digits_value 10 (take f.count bytes) in
    ⊎_elim
    (λ (many : 6 < f.count). (Wrong, too_many bytes f.count f.within many f.digits))
    (λ (few_ones : f.count ≤ 6). ⊎_elim
    (λ (great : 8192 < n). (Wrong, too_great bytes f.count f.digits great))
    (λ (most : n ≤ 8192). ⊎_elim
    (λ (inside : f.count < length bytes).
    let stop = f.stop (omega arith) inside in
    ⊎_elim
    (λ (ends : get_or bytes f.count 0 ≡ 1). ⊎_elim
    (λ (small : n < 4). (Wrong, not_soh bytes f.count inside f.digits stop (inr small)))
    (λ (least : 4 ≤ n). (Whole f.count n, whole bytes f.count inside few_ones f.digits ends least most))
    (cases_lt n 4))
    (λ (o : (get_or bytes f.count 0 < 1) ⊎ (1 < get_or bytes f.count 0)).
    (Wrong, not_soh bytes f.count inside f.digits stop (inl (λ e. ⊎_elim (λ (l : get_or bytes f.count 0 < 1). absurd (omega arith)) (λ (l : 1 < get_or bytes f.count 0). absurd (omega arith)) o))))
    (cases_order (get_or bytes f.count 0) 1))
    (λ (end : length bytes ≤ f.count).
    let within = f.within in
    let long : length bytes ≡ f.count = omega arith in
    let all : take f.count bytes ≡ bytes = take_all f.count bytes end in
    let digits : AllDigits 10 bytes = subst (AllDigits 10) all f.digits in
    let value : digits_value 10 bytes ≤ 8192 = subst (λ x. digits_value 10 x ≤ 8192) all most in
    ⊎_elim
    (λ (less : length bytes < 6). (Cut, unfinished bytes (omega arith) digits value (λ _. less)))
    (λ (six : 6 ≤ length bytes). ⊎_elim
    (λ (small : n < 4). (Wrong, too_small bytes f.count long (omega arith) f.digits small))
    (λ (least : 4 ≤ n).
    let least' : 4 ≤ digits_value 10 bytes = subst (λ x. 4 ≤ digits_value 10 x) all least in
    (Cut, unfinished bytes (omega arith) digits value (λ less. absurd (omega arith))))
    (cases_lt n 4))
    (cases_lt (length bytes) 6))
    (cases_lt f.count (length bytes)))
    (cases_lt 8192 n))
    (cases_lt 6 f.count)

abbrev pub Seen : List ℕ → Type 0
Seen bytes = (l : Look) × IsLook bytes l

-- what follows the header
behind_header : (bytes : List ℕ) (start n : ℕ) → IsHeader bytes start n → Seen bytes
behind_header bytes start n h =
    let end : ℕ = start + n in
    let within = start_within bytes start n h in
    let rest_long = length-drop start bytes in
    let tail_long = length-drop end bytes in
    ⊎_elim
    (λ (tagged : Agree tag (drop start bytes)). ⊎_elim
    (λ (less : length (drop start bytes) < n). (Unfinished, begun bytes start n h tagged less))
    (λ (fits : n ≤ length (drop start bytes)). ⊎_elim
    (λ (ends : get_or bytes (start + n - 1) 0 ≡ 1). ⊎_elim
    (λ (checked : Agree (trailer_behind (take end bytes)) (drop end bytes)). ⊎_elim
    (λ (less : length (drop end bytes) < 7). (Unfinished, nearly bytes start n h fits tagged ends checked less))
    (λ (long : 7 ≤ length (drop end bytes)).
    let most = h.2.most in
    (Frame start end, (framed bytes start n h fits tagged ends checked long, omega arith, omega arith, omega arith)))
    (cases_lt (length (drop end bytes)) 7))
    (λ (never : Agree (trailer_behind (take end bytes)) (drop end bytes) → ⊥). (Nothing, not_checked bytes start n h fits never))
    (agree_or_not (trailer_behind (take end bytes)) (drop end bytes)))
    (λ (o : (get_or bytes (start + n - 1) 0 < 1) ⊎ (1 < get_or bytes (start + n - 1) 0)).
    (Nothing, not_ended bytes start n h fits (λ e. ⊎_elim (λ (l : get_or bytes (start + n - 1) 0 < 1). absurd (omega arith)) (λ (l : 1 < get_or bytes (start + n - 1) 0). absurd (omega arith)) o)))
    (cases_order (get_or bytes (start + n - 1) 0) 1))
    (cases_lt (length (drop start bytes)) n))
    (λ (never : Agree tag (drop start bytes) → ⊥). (Nothing, not_tagged bytes start n h never))
    (agree_or_not tag (drop start bytes))

behind_opening : (bytes : List ℕ) → Agree opening bytes → 13 ≤ length bytes → (l : LengthField) → IsLengthField (drop 13 bytes) l → Seen bytes
behind_opening bytes agree fits (Whole count n) field = behind_header bytes (13 + count + 1) n (header bytes agree fits count n field)
behind_opening bytes agree fits Cut field = (Unfinished, cut bytes agree fits field)
behind_opening bytes agree fits Wrong field = (Nothing, wrong bytes agree fits field)

-- what begins the bytes
pub seen : (bytes : List ℕ) → Seen bytes
unfolding Field
seen bytes = ⊎_elim
    (λ (agree : Agree opening bytes). ⊎_elim
    (λ (less : length bytes < 13). (Unfinished, few bytes agree less))
    (λ (fits : 13 ≤ length bytes).
    let field = field_of (drop 13 bytes) (front_from 7 0 (drop 13 bytes) refl (omega arith) tt) in
    behind_opening bytes agree fits field.0 field.1)
    (cases_lt (length bytes) 13))
    (λ (never : Agree opening bytes → ⊥). (Nothing, not_opening bytes never))
    (agree_or_not opening bytes)

-- the least open position
pub record First (s : List ℕ) : Type 0 where
  pub place : ℕ
  pub passes : Passes place s
  pub can : IsOpen (drop place s)

never_through_first : (b p : ℕ) (s : List ℕ) → (IsOpen (b ∷ s) → ⊥) → Passes p s → (k : ℕ) → k < suc p → IsOpen (drop k (b ∷ s)) → ⊥
never_through_first b p s never h zero below can = never can
never_through_first b p s never h (suc k) below can = h.never k (omega arith) can

passes_more : (b p : ℕ) (s : List ℕ) → (IsOpen (b ∷ s) → ⊥) → Passes p s → Passes (suc p) (b ∷ s)
passes_more b p s never h =
    let within = h.within in
    record { within = omega arith; never = never_through_first b p s never h }

first_here : (b : ℕ) (s : List ℕ) → (l : Look) → IsLook (b ∷ s) l → First s → First (b ∷ s)
first_here b s Nothing look later = record { place = suc later.place; passes = passes_more b later.place s look later.passes; can = later.can }
first_here b s Unfinished look later = record { place = 0; passes = Passes-none (b ∷ s); can = look.0 }
first_here b s (Frame start end) look later = record { place = 0; passes = Passes-none (b ∷ s); can = IsOpen-from_look (b ∷ s) (Frame start end) look (λ e. cc) }

pub first_open : (s : List ℕ) → First s
first_open [] = record { place = 0; passes = Passes-none []; can = nil_open }
first_open (b ∷ s) = first_here b s (seen (b ∷ s)).0 (seen (b ∷ s)).1 (first_open s)

frames_after : (s : List ℕ) (f : First s) (l : Look) → IsLook (drop f.place s) l → ((after : List ℕ) → length after < length s → (bodies : List (List ℕ)) × Frames after bodies) → (bodies : List (List ℕ)) × Frames s bodies
frames_after s f Nothing look later = absurd (look f.can)
frames_after s f Unfinished look later = ([], (drop f.place s, (f.place, f.passes, refl), look.0, look.1))
frames_after s f (Frame start end) look later =
    let rest : List ℕ = drop f.place s in
    let after : List ℕ = drop (end + 7) rest in
    let fits = look.3 in
    let r = later after (omega (arith, length-drop (end + 7) rest, length-drop f.place s)) in
    (slice_range rest start end ∷ r.0, (r.1.0, (f.place, after, f.passes, begins_from_look rest start end look, r.1.1), r.1.2, r.1.3))

frames_within : (most : ℕ) (s : List ℕ) → length s ≤ most → (bodies : List (List ℕ)) × Frames s bodies
frames_within zero s le =
    let f = first_open s in
    frames_after s f (seen (drop f.place s)).0 (seen (drop f.place s)).1 (λ after shorter. absurd (omega arith))
frames_within (suc most) s le =
    let f = first_open s in
    frames_after s f (seen (drop f.place s)).0 (seen (drop f.place s)).1 (λ after shorter. frames_within most after (omega arith))

-- every stream has a list of frames
pub Frames-some : (s : List ℕ) → (bodies : List (List ℕ)) × Frames s bodies
Frames-some s = frames_within (length s) s (omega arith)
