-- What the body of a frame says.
use Rattle.std.specs.Prelude.{ℕ, ◌+◌, ◌==◌, ◌&&◌, ◌||◌, not, nat_le, Bool, true, false, List, [], ◌∷◌, ◌++◌, Option, Some, None, bytes_eq, if◌then◌else◌, codes}
use Rattle.fix_fields.specs.Forms.{integer_in}
use Rattle.desk_log.specs.Frames.{number_of}
use Rattle.fix_pieces.specs.Pieces.{begins, first_value}
use Rattle.desk_log.specs.Pieces.{is_piece}

abbrev pub number_if : ℕ → ℕ → Option (List ℕ) → Option ℕ
number_if low high None = None
number_if low high (Some text) = number_of (integer_in low high text)

-- MsgSeqNum (34), if it is a valid one
abbrev pub number_in : List ℕ → Option ℕ
number_in body = number_if 1 999_999_999 (first_value (codes "34=") body)

-- the frame is from the one (49), to the other (56), and numbered
abbrev pub is_between : (from to : List ℕ) → List ℕ → Bool
is_between from to body = is_piece (codes "49=") from body && is_piece (codes "56=") to body

abbrev pub is_kind : List ℕ → List ℕ → Bool
is_kind kind body = is_piece (codes "35=") kind body

-- the session's kinds: Heartbeat, TestRequest, ResendRequest, Reject, SequenceReset, Logout and Logon
abbrev pub is_session_kind : List ℕ → Bool
is_session_kind kind =
    bytes_eq kind (codes "0") || (bytes_eq kind (codes "1") || (bytes_eq kind (codes "2") || (bytes_eq kind (codes "3")
    || (bytes_eq kind (codes "4") || (bytes_eq kind (codes "5") || bytes_eq kind (codes "A"))))))

abbrev pub is_session_value : Option (List ℕ) → Bool
is_session_value None = false
is_session_value (Some kind) = is_session_kind kind

-- the message is the session's
abbrev pub is_session : List ℕ → Bool
is_session body = is_session_value (first_value (codes "35=") body)

-- A Logon that does not go on behind the greatest number so far, or that says so (141=Y): both sides number from 1
-- again, as a venue that was restarted does.
abbrev pub begins_era : (greatest number : ℕ) → List ℕ → Bool
begins_era greatest number body = is_kind (codes "A") body && (nat_le number greatest || is_piece (codes "141=") (codes "Y") body)

-- NewSeqNo (36) of a SequenceReset
abbrev pub next_or : ℕ → Option ℕ → ℕ
next_or number None = number + 1
next_or number (Some n) = n

-- the number that is next behind a message: a SequenceReset says it
abbrev pub next_in : ℕ → List ℕ → ℕ
next_in number body =
    if is_kind (codes "4") body then next_or number (number_if 1 1_000_000_000 (first_value (codes "36=") body))
    else number + 1

-- a field of the header: 49, 56, 34, 52, 43, 97, 122 or 1128
abbrev pub is_header : List ℕ → Bool
is_header piece =
    begins (codes "49=") piece || (begins (codes "56=") piece || (begins (codes "34=") piece || (begins (codes "52=") piece
    || (begins (codes "43=") piece || (begins (codes "97=") piece || (begins (codes "122=") piece || begins (codes "1128=") piece))))))

-- The body without the fields of the header. A field begins here, or the field of which these bytes are is kept or not.
abbrev pub keeps : (starts kept : Bool) → List ℕ → Bool
keeps starts kept text = if starts then not (is_header text) else kept

abbrev pub byte_if : Bool → ℕ → List ℕ
byte_if kept c = if kept then c ∷ [] else []

abbrev pub text_from : (starts kept : Bool) → List ℕ → List ℕ
text_from starts kept [] = []
text_from starts kept (c ∷ cs) = byte_if (keeps starts kept (c ∷ cs)) c ++ text_from (c == 1) (keeps starts kept (c ∷ cs)) cs

abbrev pub text_of : List ℕ → List ℕ
text_of body = text_from true true body
