use Rattle.std.proofs.Common.{◌≡◌, ap, ◌∙◌, ℕ, ◌+◌, ◌<◌, get_or, List, [], ◌∷◌, ◌++◌, length, take, map}
use Rattle.std.proofs.lemmas.List.{map-append}
use Rattle.venue_rules.specs.declared.replies.SnapshotEntry.{SnapshotEntry}
use Rattle.venue_rules.specs.Readings.{shown_order}
use Rattle.trade_history.proofs.Lists.{take-read}

-- a further order is shown
pub shown-more : (es : List SnapshotEntry) (i : ℕ) (e : SnapshotEntry) → i < length es → e ≡ get_or es i e → map shown_order (take (i + 1) es) ≡ map shown_order (take i es) ++ shown_order e ∷ []
shown-more es i e h k = ap (map shown_order) (take-read es i e h k) ∙ map-append shown_order (take i es) (e ∷ [])

pub ruleset shown_mores = (shown-more)
