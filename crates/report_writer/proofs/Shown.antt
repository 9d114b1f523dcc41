use Rattle.std.proofs.Common.{◌≡◌, refl, ap, ◌∙◌, ℕ, ◌≤◌, ◌==◌, false, List, [], ◌∷◌, map, length, take}
use Rattle.std.proofs.lemmas.List.{take_all}
use Rattle.venue_rules.specs.declared.replies.SnapshotEntry.{SnapshotEntry}
use Rattle.fix_dictionary.specs.declared.messages.MarketDataEntry.{MarketDataEntry}
use Rattle.venue_rules.specs.Messages.{shown_entry, snapshot}

-- each resting order is shown, if any
shown-some : (es : List SnapshotEntry) → (length es == 0) ≡ false → map shown_entry es ≡ snapshot es
shown-some [] h = cc
shown-some (e ∷ es) h = refl

pub snapshot-some : (es : List SnapshotEntry) (k : ℕ) (shown : List MarketDataEntry) → shown ≡ map shown_entry (take k es) → length es ≤ k → (length es == 0) ≡ false → shown ≡ snapshot es
snapshot-some es k shown h end some = h ∙ ap (map shown_entry) (take_all k es end) ∙ shown-some es some
