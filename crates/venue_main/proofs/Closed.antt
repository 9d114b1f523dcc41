-- The count of a market's lines, and the output of a served venue.
use Rattle.std.proofs.Common.{◌≡◌, ℕ, ◌≤◌, Bool, true, false, nat_le, List, Option, length, leb-true, ap, sym, subst, ◌∙◌}
use Rattle.std.specs.List.{count_by}
use Rattle.std.specs.Io.KnownBytes.{Appends}
use Rattle.std.proofs.lemmas.Bool.{and_parts}
use Rattle.participants.specs.ParticipantFile.{ParticipantFile}
use Rattle.participants.specs.Rows.{is_participant_file, most_participants}
use Rattle.venue_runtime.specs.Closing.{Closing}
use Rattle.venue_rules.specs.Market.{Market}
use Rattle.venue_rules.specs.declared.trail.TrailRow.{TrailRow}
use Rattle.venue_main.specs.Serve.{HasServed, EmitsClosed, closing_line, counted, is_message}

-- a file has at most 32 participants
pub few_names : (file : ParticipantFile) → is_participant_file file ≡ true → length file.names ≤ 32
few_names file h =
    let some = and_parts (nat_le 1 (length file.names)) _ h in
    let few = and_parts (nat_le (length file.names) most_participants) _ some.1 in
    leb-true (length file.names) most_participants few.0

-- the output for this count of sessions, which were closed, and for rows with as many messages as the stored ones
pub emits_read : (turns : ℕ) (m : Market) (kept : List TrailRow) (c : Closing) (count : ℕ) (read : List TrailRow) (before after : Option (List ℕ)) → HasServed turns m kept false c → length c.sessions ≡ count
    → count_by is_message read ≡ count_by is_message c.rows → Appends before after (closing_line count read) → EmitsClosed turns m kept before after
emits_read turns m kept c count read before after served counts same written =
    let each : length c.sessions ≡ length m.participants.names = served.closed.counted.sessions ∙ served.each in
    let line : closing_line count read ≡ closing_line (length m.participants.names) c.rows =
    ap (λ (n : ℕ). counted n (count_by is_message read)) (sym counts ∙ each) ∙ ap (counted (length m.participants.names)) same in
    record { closed = c; served = served; sessions = each; written = subst (Appends before after) line written }

-- what was served from rows and a market that are the same
pub served_of : (turns : ℕ) (m m' : Market) (kept kept' : List TrailRow) (restarted : Bool) (c : Closing) → m' ≡ m → kept' ≡ kept → HasServed turns m' kept' restarted c → HasServed turns m kept restarted c
served_of turns m m' kept kept' restarted c same_market same_rows served =
    subst (λ (n : Market). HasServed turns n kept restarted c) same_market (subst (λ (rows : List TrailRow). HasServed turns m' rows restarted c) same_rows served)
