-- The prices shown with a quote: the resting orders of the book that the requester is sent with the first quote of its
-- request (17 CFR 37.9(a)(3)), in the order of that snapshot.
use Rattle.std.specs.Prelude.{ℕ, Bool, true, false, List, [], map, Option, None, Some, if◌then◌else◌}
use Rattle.std.specs.List.{flat_map}
use Rattle.fix_dictionary.specs.declared.messages.App.{App}
use Rattle.fix_dictionary.specs.declared.messages.App.TheVariants.{Quote}
use Rattle.venue_rules.specs.declared.replies.Reply.{Reply}
use Rattle.venue_rules.specs.declared.replies.ReplyBody.{ReplyBody}
use Rattle.venue_rules.specs.declared.replies.ReplyBody.TheVariants as reply
use Rattle.venue_rules.specs.declared.replies.SnapshotEntry.{SnapshotEntry}
use Rattle.venue_rules.specs.declared.trail.Taken.{Taken}
use Rattle.venue_rules.specs.declared.trail.TrailRow.{TrailRow}
use Rattle.day_events.specs.declared.shown.ShownPrice.{ShownPrice}

abbrev pub shown_entry : ℕ → ℕ → SnapshotEntry → ShownPrice
shown_entry row to e = record { row = row; to = to; side = e.side; price = e.price; left = e.left; order = e.order }

abbrev pub shown_by : ℕ → ℕ → ReplyBody → List ShownPrice
shown_by row to (reply.BookSnapshot r) = map (shown_entry row to) r.entries
shown_by row to _ = []

abbrev pub shown_in : ℕ → Reply → List ShownPrice
shown_in row r = shown_by row r.to r.what

abbrev pub is_quote : App → Bool
is_quote (Quote d) = true
is_quote _ = false

-- the message of a row is a quote, and not a request for market data, which a snapshot answers, too
abbrev pub is_of_quote : Option Taken → Bool
is_of_quote None = false
is_of_quote (Some taken) = is_quote taken.item.app

-- the prices shown at a row
abbrev pub shown_at : TrailRow → Option Taken → List Reply → List ShownPrice
shown_at r taken replies = if is_of_quote taken then flat_map (shown_in r.n) replies else []
