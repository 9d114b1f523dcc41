-- The lines that name a trail by its content.
--
--     trail of 13 rows, participants SHA-256 <64 digits>, instruments SHA-256 <64 digits>, digest <64 digits>
--     {"trail":{"rows":13,"participants_sha256":"<64>","instruments_sha256":"<64>","digest":"<64>"}}
use Rattle.std.specs.Prelude.{ℕ, Bool, true, nat_le, List, [], ◌∷◌, length, take, codes, decimal, Option, Some, None, ◌==◌, if◌then◌else◌}
use Rattle.hex.specs.Hex.{encode_lower}
use Rattle.sha2.specs.Sha256.{sha256}
use Rattle.trail_digest.specs.declared.head.HeadForm.{HeadForm}
use Rattle.trail_digest.specs.declared.head.HeadForm.TheVariants.{Line, Json}
use Rattle.trail_digest.specs.Chain.{chain}
use Rattle.trail_digest.specs.Printed.{concat}
use Rattle.trail_digest.specs.Trail.{Trail}

abbrev pub rows_word : ℕ → List ℕ
rows_word n = if n == 1 then codes " row" else codes " rows"

-- the SHA-256 of a file, as sha256sum prints it
abbrev pub sha256_text : List ℕ → List ℕ
sha256_text bytes = encode_lower (sha256 bytes)

abbrev pub digest_text : Trail → List ℕ
digest_text t = encode_lower (chain t)

abbrev pub line_pieces : Trail → List (List ℕ)
line_pieces t =
    codes "trail of " ∷ decimal (length t.rows) ∷ rows_word (length t.rows) ∷ codes ", participants SHA-256 " ∷ sha256_text t.participants
    ∷ codes ", instruments SHA-256 " ∷ sha256_text t.instruments ∷ codes ", digest " ∷ digest_text t ∷ codes "\n" ∷ []

abbrev pub json_pieces : Trail → List (List ℕ)
json_pieces t =
    codes "{\"trail\":{\"rows\":" ∷ decimal (length t.rows) ∷ codes ",\"participants_sha256\":\"" ∷ sha256_text t.participants
    ∷ codes "\",\"instruments_sha256\":\"" ∷ sha256_text t.instruments ∷ codes "\",\"digest\":\"" ∷ digest_text t ∷ codes "\"}}\n" ∷ []

unfoldable pub head_text : HeadForm → Trail → List ℕ
head_text Line t = concat (line_pieces t)
head_text Json t = concat (json_pieces t)

-- The digest after a row.

-- how many rows are asked for: all, or those up to a row
abbrev pub count_asked : Option ℕ → ℕ → ℕ
count_asked None rows = rows
count_asked (Some n) rows = n

-- a row that is asked for is there; 0 is the beginning, before the first
abbrev pub is_there : Option ℕ → ℕ → Bool
is_there None rows = true
is_there (Some n) rows = nat_le n rows

-- the trail up to a row
abbrev pub up_to : ℕ → Trail → Trail
up_to n t = record { participants = t.participants; instruments = t.instruments; delays = t.delays; rows = take n t.rows }

abbrev pub row_digest_text : ℕ → Trail → List ℕ
row_digest_text n t = concat (decimal n ∷ codes " " ∷ digest_text (up_to n t) ∷ codes "\n" ∷ [])
