-- What a question names and the day has not.
use Rattle.std.proofs.Common.{◌≡◌, ℕ, List, length, Option, None, Some, ap, sym, ◌∙◌}
use Rattle.std.proofs.lemmas.List.Elements.{All-take}
use Rattle.std.specs.List.{All}
use Rattle.venue_core.specs.Replay.{IsItem}
use Rattle.venue_rules.specs.Market.{Market}
use Rattle.venue_rules.specs.declared.trail.TrailRow.{TrailRow}
use Rattle.trail_questions.specs.declared.answers.Narrowing.{Narrowing}
use Rattle.trail_questions.specs.declared.fault.Unknown.{Unknown}
use Rattle.trail_questions.specs.declared.fault.Unknown.TheVariants as unknown
use Rattle.trail_questions.specs.Answers.{IsUnknownAnswer, IsUnknownNarrowing, are_there}
use Rattle.trail_questions.specs.Rows.{rows_until}

-- what narrows the answers is not there
pub unknown_answer : (n : Narrowing) (m : Market) (rows : List TrailRow) (count : ℕ) (what : Unknown) → count ≡ length rows → IsUnknownNarrowing m.participants count n what → IsUnknownAnswer n m rows what
unknown_answer n m rows count unknown.Trade same why = absurd why
unknown_answer n m rows count unknown.Recipient same why = why
unknown_answer n m rows count unknown.Sender same why = why
unknown_answer n m rows count unknown.Instrument same why = absurd why
unknown_answer n m rows count unknown.Row same why = ap (are_there n.rows) (sym same) ∙ why
unknown_answer n m rows count unknown.Order same why = absurd why
unknown_answer n m rows count unknown.Room same why = absurd why
unknown_answer n m rows count (unknown.Log lack) same why = absurd why

-- the rows up to one are such rows
pub kept_until : (row : Option ℕ) (rows : List TrailRow) → All IsItem rows → All IsItem (rows_until row rows)
kept_until None rows kept = kept
kept_until (Some n) rows kept = All-take IsItem n rows kept
