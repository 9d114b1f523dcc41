-- A request for the prices of an instrument, the whole book of it, and the resting orders that its answer shows.
use Rattle.std.specs.Prelude.{ℕ, List, [], ◌∷◌, Option, Some, None}
use Rattle.fix_dictionary.specs.declared.messages.App.TheVariants.{MarketDataRequest}
use Rattle.venue_rules.specs.declared.replies.Reply.{Reply}
use Rattle.venue_rules.specs.declared.replies.ReplyBody.{ReplyBody}
use Rattle.venue_rules.specs.declared.replies.ReplyBody.TheVariants as what
use Rattle.venue_rules.specs.declared.replies.SnapshotEntry.{SnapshotEntry}
use Rattle.venue_rules.specs.declared.trail.Taken.{Taken}

abbrev pub asks : ℕ → List ℕ → Taken
asks who symbol = record {
  from = who;
  item = record { era = 1; number = 1; app = MarketDataRequest (record { request_id = symbol; subscription_type = 48; depth = 0; entry_types = 48 ∷ []; symbol = symbol }) };
}

abbrev pub entries_what : ReplyBody → Option (List SnapshotEntry)
entries_what (what.BookSnapshot p) = Some p.entries
entries_what _ = None

-- nothing where the request is refused
abbrev pub entries_in : List Reply → Option (List SnapshotEntry)
entries_in [] = None
entries_in (r ∷ rs) = entries_what r.what
