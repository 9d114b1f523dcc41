-- Causes and refusals are looked for among the refusals alone.
use Rattle.std.specs.Prelude.{◌≡◌, ℕ, ◌==◌, Bool, true, false, List, [], ◌∷◌, filter, length, Option, if◌then◌else◌, refl}
use Rattle.std.specs.List.{flat_map}
use Rattle.std.proofs.Common.{◌∙◌, ap}
use Rattle.participants.specs.ParticipantFile.{ParticipantFile}
use Rattle.day_events.specs.declared.event.Event.{Event}
use Rattle.day_events.specs.declared.event.What.{What}
use Rattle.day_events.specs.declared.event.What.TheVariants as what
use Rattle.day_tables.specs.Parts.{framed, plain_part}
use Rattle.day_sections.specs.declared.picks.Pick.TheVariants as pick
use Rattle.day_sections.specs.declared.template.TheConstants.{NO_REFUSAL, TABLE_END}
use Rattle.day_sections.specs.Counts.{is_refused}
use Rattle.day_sections.specs.Picks.{is_of_cause, is_picked}
use Rattle.day_sections.specs.Refusals.{cause_parts, cause_parts_of, causes, causes_from, count_part, refusals_parts, seen_with}
use Rattle.day_sections.proofs.Walks.{skipped}

not_seen : (seen : List (Option (List ℕ))) (w : What) → is_refused w ≡ false → seen_with seen w ≡ seen
not_seen seen (what.Entered x) other = refl
not_seen seen (what.TooRecent x) other = refl
not_seen seen (what.Filled x) other = refl
not_seen seen (what.Cancelled x) other = refl
not_seen seen (what.Replaced x) other = refl
not_seen seen (what.Asked x) other = refl
not_seen seen (what.Quoted x) other = refl
not_seen seen (what.Withdrawn x) other = refl
not_seen seen what.Passed other = refl
not_seen seen (what.Traded x) other = refl
not_seen seen (what.Refused x) other = cc

cause_step : (seen : List (Option (List ℕ))) (e : Event) (es : List Event) (is : Bool) → is_refused e.what ≡ is
    → ((more : List (Option (List ℕ))) → causes_from more (filter (is_picked pick.Refusals) es) ≡ causes_from more es)
    → causes_from seen (filter (is_picked pick.Refusals) (e ∷ es)) ≡ causes_from seen (e ∷ es)
cause_step seen e es true refused same = rw refused (same (seen_with seen e.what))
cause_step seen e es false other same = rw (other, not_seen seen e.what other) (same seen)

same_causes : (es : List Event) (seen : List (Option (List ℕ))) → causes_from seen (filter (is_picked pick.Refusals) es) ≡ causes_from seen es
same_causes [] seen = refl
same_causes (e ∷ es) seen = cause_step seen e es (is_refused e.what) refl (λ more. same_causes es more)

not_of_cause : (cause : Option (List ℕ)) (w : What) → is_refused w ≡ false → is_of_cause cause w ≡ false
not_of_cause cause (what.Entered x) other = refl
not_of_cause cause (what.TooRecent x) other = refl
not_of_cause cause (what.Filled x) other = refl
not_of_cause cause (what.Cancelled x) other = refl
not_of_cause cause (what.Replaced x) other = refl
not_of_cause cause (what.Asked x) other = refl
not_of_cause cause (what.Quoted x) other = refl
not_of_cause cause (what.Withdrawn x) other = refl
not_of_cause cause what.Passed other = refl
not_of_cause cause (what.Traded x) other = refl
not_of_cause cause (what.Refused x) other = cc

same_cause : (file : ParticipantFile) (linked : Bool) (es : List Event) (cause : Option (List ℕ)) → cause_parts file linked (filter (is_picked pick.Refusals) es) cause ≡ cause_parts file linked es cause
same_cause file linked es cause =
    ap (λ (l : List Event). cause_parts_of file linked cause l) (skipped (is_picked (pick.Refused cause)) (is_picked pick.Refusals) (λ (e : Event) other. not_of_cause cause e.what other) es)

pub by_refused : (file : ParticipantFile) (linked : Bool) (es first again : List Event) (found : List (Option (List ℕ)))
    → first ≡ filter (is_picked pick.Refusals) es → again ≡ filter (is_picked pick.Refusals) es → found ≡ causes first → refusals_parts file linked again found ≡ refusals_parts file linked es (causes es)
by_refused file linked es first again found one two are =
    let same : found ≡ causes es = are ∙ (ap causes one ∙ same_causes es []) in
    ap (λ (l : List Event). refusals_parts file linked l found) two
    ∙ λ j. if length (same j) == 0 then plain_part NO_REFUSAL.now ∷ [] else framed (count_part (same j)) (flat_map (λ (cause : Option (List ℕ)). same_cause file linked es cause j) (same j)) (plain_part TABLE_END.now)
