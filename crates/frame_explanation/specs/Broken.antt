-- What begins as a frame and is none: what its length and its checksum would have to be.
use Rattle.std.specs.Prelude.{ℕ, suc, ◌%◌, ◌==◌, ◌&&◌, nat_lt, Bool, true, false, Option, Some, None, List, [], ◌∷◌, ◌++◌, length, take, drop, sum, if◌then◌else◌, codes, decimal}
use Rattle.std.specs.List.{list_any}
use Rattle.fix_fields.specs.Cut.{before, behind}
use Rattle.fix_frame.specs.Frame.{counted, three_digits}
use Rattle.message_words.specs.Visible.{readable}
use Rattle.frame_explanation.specs.Frames.{body_length}
use Rattle.frame_explanation.specs.Parts.{joined}
use Rattle.fix_pieces.specs.Pieces.{begins, first_value}

-- the digits of the checksum of a frame with this BodyLength and body
abbrev pub sum_of : (digits body : List ℕ) → List ℕ
sum_of digits body = three_digits (sum (counted digits body) % 256)

abbrev pub behind_opening : List ℕ → List ℕ
behind_opening text = drop 13 text

-- the number of bytes before the first piece that begins with `10=`
abbrev pub to_trailer : Bool → List ℕ → ℕ
to_trailer starts [] = 0
to_trailer starts (c ∷ cs) = if starts && begins (codes "10=") (c ∷ cs) then 0 else suc (to_trailer (c == 1) cs)

abbrev pub body_in : List ℕ → List ℕ
body_in rest = take (to_trailer true rest) rest

-- what follows it, from the piece `10=..` on
abbrev pub behind_body : List ℕ → List ℕ
behind_body rest = drop (to_trailer true rest) rest

-- BodyLength is this number
abbrev pub is_length : Option ℕ → ℕ → Bool
is_length None n = false
is_length (Some stated) n = stated == n

abbrev pub sum_line : (stated right : List ℕ) → List ℕ
sum_line stated right = joined (codes "    CheckSum (10) is " ∷ stated ∷ codes ", and has to be " ∷ right ∷ codes "\n" ∷ [])

abbrev pub wrong_sum : (digits sum body : List ℕ) → List ℕ
wrong_sum digits sum body = sum_line (readable sum) (sum_of digits body)

abbrev pub length_line : (stated : List ℕ) → (count : ℕ) → (right : List ℕ) → List ℕ
length_line stated count right =
    joined (
    codes "    BodyLength (9) is "
    ∷ stated
    ∷ codes ", and has to be "
    ∷ decimal count
    ∷ codes ", the bytes from 35= up to 10=; CheckSum (10) is then "
    ∷ right
    ∷ codes "\n"
    ∷ [])

abbrev pub wrong_length : (digits body : List ℕ) → List ℕ
wrong_length digits body = length_line (readable digits) (length body) (sum_of (decimal (length body)) body)

abbrev pub wrong : (digits sum body : List ℕ) → List ℕ
wrong digits sum body = if is_length (body_length digits) (length body) then wrong_sum digits sum body else wrong_length digits body

abbrev pub too_long : List ℕ → List ℕ
too_long body = joined (codes "    its body has " ∷ decimal (length body) ∷ codes " bytes, and the venue reads 8192 at most\n" ∷ [])

abbrev pub why_body : (digits sum body : List ℕ) → List ℕ
why_body digits sum body =
    if begins (codes "35=") body
    then (if nat_lt 8_192 (length body) then too_long body else wrong digits sum body)
    else joined (codes "    its third field is not MsgType (35=)\n" ∷ [])

abbrev pub why_of : (digits body : List ℕ) → (sum : Option (List ℕ)) → (rest : List ℕ) → List ℕ
why_of digits body None rest = joined (codes "    it has no CheckSum (10=), with which each frame ends\n" ∷ [])
why_of digits body (Some sum) rest =
    if list_any (λ b. b == 1) rest
    then why_body digits sum body
    else joined (codes "    no SOH ends its CheckSum (10=), which is its last field\n" ∷ [])

-- `rest` stands behind BodyLength
abbrev pub why_behind : (digits rest : List ℕ) → List ℕ
why_behind digits rest = why_of digits (body_in rest) (first_value (codes "10=") rest) (behind_body rest)

abbrev pub why : List ℕ → List ℕ
why text = why_behind (before 1 (behind_opening text)) (behind 1 (behind_opening text))
