-- Two trails, A and B, compared: what they are of, and their answers.
use Rattle.std.specs.Prelude.{◌≡◌, ℕ, Bool, true, false, List, [], ◌++◌, take, Option, None}
use Rattle.std.specs.Io.KnownBytes.{Appends}
use Rattle.venue_rules.specs.Market.{Market}
use Rattle.venue_rules.specs.declared.trail.TrailRow.{TrailRow}
use Rattle.trail_digest.specs.Comparison.{AreShared, Side, comparison_text, same_rules}
use Rattle.trail_digest.specs.Trail.{trail_of}
use Rattle.trail_comparison.specs.declared.day.Day as lent
use Rattle.trail_comparison.specs.Differences.{AreAnswers, BeginsRows}

-- a trail, and its files as they are read
abbrev pub side_of : lent.Day → Side
side_of d = record { trail = trail_of d.contents; participants = d.participants; instruments = d.instruments }

abbrev pub market_of : Side → Market
market_of s = record { participants = s.participants; instruments = s.instruments }

-- what is said of the answers of the rows that both share: nothing where files and delays are the same, and so the
-- answers
abbrev pub IsSaid : Bool → (m n : Market) → List TrailRow → List ℕ → Type 0
IsSaid true m n rs text = text ≡ []
IsSaid false m n rs text = AreAnswers m n rs text

-- What was written compares the trails: files, delays and rows, and behind them, where files or delays differ, each of
-- the shared rows that has other answers, with both; and no other byte.
pub record EmitsComparison (a b : Side) (before after : Option (List ℕ)) : Type 0 where
  pub shared : ℕ
  pub longest : AreShared a.trail.rows b.trail.rows shared
  pub answers : List ℕ
  pub said : IsSaid (same_rules a.trail b.trail) (market_of a) (market_of b) (take shared a.trail.rows) answers
  pub written : Appends before after (comparison_text a b shared ++ answers)

-- or a first part of it: that of files, delays and rows, and the answers of the first rows
pub record BeginsComparison (a b : Side) (before after : Option (List ℕ)) : Type 0 where
  pub shared : ℕ
  pub longest : AreShared a.trail.rows b.trail.rows shared
  pub mid : Option (List ℕ)
  pub written : Appends before mid (comparison_text a b shared)
  pub begins : BeginsRows None (market_of a) (market_of b) (take shared a.trail.rows) mid after
