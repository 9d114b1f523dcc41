-- Held sides of crosses, as they are kept while rows are replayed: what each input changes of them, by the replies to
-- it (17 CFR 37.9(b)(1)).
use Rattle.std.specs.Prelude.{ℕ, ◌+◌, Bool, true, false, not, ◌&&◌, nat_le, nat_lt, is_none, List, [], ◌∷◌, ◌++◌, filter, Option, Some, None, if◌then◌else◌}
use Rattle.fix_dictionary.specs.declared.messages.App.{App}
use Rattle.fix_dictionary.specs.declared.messages.App.TheVariants.{NewOrderCross, OrderCancelRequest}
use Rattle.fix_dictionary.specs.declared.messages.NewOrderCross.{NewOrderCross as CrossMessage}
use Rattle.instruments.specs.declared.instruments.Instrument.{Instrument}
use Rattle.instruments.specs.Listing.{delay_of, instrument_of, is_unknown_instrument}
use Rattle.venue_rules.specs.declared.facts.HeldSide.{HeldSide}
use Rattle.venue_rules.specs.declared.facts.TimeInForce.TheVariants.{Day}
use Rattle.venue_rules.specs.declared.replies.Reply.{Reply}
use Rattle.venue_rules.specs.declared.replies.ReplyBody.{ReplyBody}
use Rattle.venue_rules.specs.declared.replies.ReplyBody.TheVariants as what
use Rattle.venue_rules.specs.Crosses.{second_side}
use Rattle.venue_rules.specs.Delay.{earliest}
use Rattle.venue_rules.specs.Facts.{is_name}
use Rattle.venue_rules.specs.Orders.{price_or_zero}
use Rattle.venue_rules.specs.Run.{Input, Message, Tick}
use Rattle.resting_orders.specs.declared.holding.HeldChange.{HeldChange}
use Rattle.resting_orders.specs.declared.holding.HeldChange.TheVariants.{Same, Holds, Ends}

-- the first of these sides due at t: by due moment, then by arrival
abbrev pub first_due : ℕ → List HeldSide → Option HeldSide
first_due t ks = earliest (filter (λ k. nat_le k.due t) ks)

-- and how it is found, side by side

abbrev pub sooner : Option HeldSide → HeldSide → Option HeldSide
sooner None k = Some k
sooner (Some first) k = if nat_lt k.due first.due then Some k else Some first

abbrev pub sooner_due : ℕ → Option HeldSide → HeldSide → Option HeldSide
sooner_due t first k = if nat_le k.due t then sooner first k else first

-- the moment at which an order enters: of a held side its due moment, and else that of the input
abbrev pub moment_from : ℕ → Option HeldSide → ℕ
moment_from t None = t
moment_from t (Some k) = k.due

abbrev pub entry_moment : List HeldSide → Input → ℕ
entry_moment ks (Message taken t) = t
entry_moment ks (Tick t) = moment_from t (first_due t ks)

-- what the first reply says

abbrev pub is_entered : ReplyBody → Bool
is_entered (what.OrderEntered r) = true
is_entered _ = false

abbrev pub first_enters : List Reply → Bool
first_enters [] = false
first_enters (r ∷ rs) = is_entered r.what

-- a held side has no number of the venue's
abbrev pub is_held_cancelled : ReplyBody → Bool
is_held_cancelled (what.OrderCancelled r) = is_none r.order.order
is_held_cancelled _ = false

abbrev pub first_ends : List Reply → Bool
first_ends [] = false
first_ends (r ∷ rs) = is_held_cancelled r.what

-- the second side of a participant's cross, as the rules hold it
abbrev pub second_held : List Instrument → ℕ → CrossMessage → ℕ → HeldSide
second_held xs who d t =
    let side = second_side d in
    let x = instrument_of xs d.symbol in
    record {
      order = record { who = who; id = side.order_id; link = None; instrument = x; side = side.side; quantity = side.quantity; price = price_or_zero d.price; life = Day };
      cross = d.cross_id;
      due = t + delay_of xs x;
    }

-- the second side is held where the first entered
abbrev pub change_by_cross : List Instrument → ℕ → CrossMessage → ℕ → Bool → HeldChange
change_by_cross xs who d t enters = if enters && not (is_unknown_instrument xs d.symbol) then Holds (second_held xs who d t) else Same

abbrev pub change_by_cancel : ℕ → List ℕ → Bool → HeldChange
change_by_cancel who id ends = if ends then Ends who id else Same

abbrev pub change_by_app : List Instrument → ℕ → App → ℕ → List Reply → HeldChange
change_by_app xs who (NewOrderCross d) t replies = change_by_cross xs who d t (first_enters replies)
change_by_app xs who (OrderCancelRequest d) t replies = change_by_cancel who d.original_id (first_ends replies)
change_by_app xs who _ t replies = Same

-- at a tick the side that is due enters, or is refused: it is held no longer
abbrev pub change_by_due : Option HeldSide → HeldChange
change_by_due None = Same
change_by_due (Some k) = Ends k.order.who k.order.id

-- what an input changes, where these sides were held
abbrev pub change_at : List Instrument → List HeldSide → Input → List Reply → HeldChange
change_at xs ks (Message taken t) replies = change_by_app xs taken.from taken.item.app t replies
change_at xs ks (Tick t) replies = change_by_due (first_due t ks)

abbrev pub is_other : ℕ → List ℕ → HeldSide → Bool
is_other who id k = not (is_name k.order.who k.order.id who id)

-- the sides that are held then, in order of arrival
abbrev pub changed : HeldChange → List HeldSide → List HeldSide
changed Same ks = ks
changed (Holds k) ks = ks ++ k ∷ []
changed (Ends who id) ks = filter (is_other who id) ks

abbrev pub held_after : List Instrument → List HeldSide → Input → List Reply → List HeldSide
held_after xs ks i replies = changed (change_at xs ks i replies) ks
