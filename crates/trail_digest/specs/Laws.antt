-- What a digest says.
use Rattle.std.specs.Prelude.{◌≡◌, ◌≢◌, ℕ, ◌<◌, ◌^◌, ◌⊎◌, List, [], ◌∷◌, ◌++◌, length, All, Contains, codes}
use Rattle.sha2.specs.Sha256.{sha256}
use Rattle.venue_rules.specs.declared.trail.TrailRow.{TrailRow}
use Rattle.trail_digest.specs.Head.{up_to}
use Rattle.trail_digest.specs.Trail.{Trail}
use Rattle.trail_digest.specs.Chain.{chain, link, link_text, links, start_of, start_text}

-- the texts whose SHA-256 the chain takes at rows, behind a digest
abbrev pub texts_from : List ℕ → List TrailRow → List (List ℕ)
texts_from before [] = []
texts_from before (r ∷ rs) = link_text before r ∷ texts_from (link before r) rs

-- and of a trail
abbrev pub texts : Trail → List (List ℕ)
texts t = start_text t.participants t.instruments t.delays ∷ texts_from (start_of t) t.rows

-- a number of a row or a delay, or a length: below 2^64, as every one in a program is
abbrev pub Fits : ℕ → Type 0
Fits n = n < 2 ^ 64

pub record FitsRow (r : TrailRow) : Type 0 where
  pub n : Fits r.n
  pub moment : Fits r.moment
  pub who : Fits r.who
  pub number : Fits r.number
  pub era : Fits r.era
  pub text : Fits (length r.text)

pub record FitsTrail (t : Trail) : Type 0 where
  pub participants : Fits (length t.participants)
  pub instruments : Fits (length t.instruments)
  pub count : Fits (length t.delays)
  pub delays : All Fits t.delays
  pub rows : All FitsRow t.rows

-- Two different texts with one SHA-256, one hashed in the chain of each trail.
pub record Collision (a b : Trail) : Type 0 where
  pub one : List ℕ
  pub other : List ℕ
  pub differ : one ≢ other
  pub same : sha256 one ≡ sha256 other
  pub hashed : Contains (texts a) one
  pub hashed_other : Contains (texts b) other

-- two trails with one digest are the same files, delays and rows, or two texts with one SHA-256 are named
abbrev pub OneDigestIsOneTrail : Type 0
OneDigestIsOneTrail = (a b : Trail) → FitsTrail a → FitsTrail b → chain a ≡ chain b → (a ≡ b) ⊎ Collision a b

-- and so a trail whose digest is that of another's first rows is these rows of it
abbrev pub ItsDigestIsItsBeginning : Type 0
ItsDigestIsItsBeginning = (a b : Trail) (n : ℕ) → FitsTrail a → FitsTrail b → chain a ≡ chain (up_to n b) → (a ≡ up_to n b) ⊎ Collision a (up_to n b)

-- the digest of a trail's beginning is the chain's value there, from which the further rows go on
abbrev pub ABeginningHasItsDigest : Type 0
ABeginningHasItsDigest =
    (participants instruments delays : List ℕ) (rows more : List TrailRow) →
    chain (record { participants = participants; instruments = instruments; delays = delays; rows = rows ++ more })
    ≡ links (chain (record { participants = participants; instruments = instruments; delays = delays; rows = rows })) more

-- A small trail, whose digest another program computed.
abbrev pub worked_trail : Trail
worked_trail = record {
  participants = codes "p";
  instruments = codes "i";
  delays = 1000 ∷ [];
  rows = record { n = 1; who = 1; era = 1; number = 2; moment = 1_741_012_200_000; text = codes "35=R" } ∷ [];
}
