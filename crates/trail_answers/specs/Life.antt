-- The life of an order on a day: the order with a number, and each order that replaced it.
--
-- A replacement (35=G) enters as a new order: its report (150=5) has a new number (37), a new identifier of the
-- sender's (11), and the one that it replaces (41). So an order is known by numbers, and by its participant's
-- identifiers.
use Rattle.std.specs.Prelude.{ℕ, Bool, true, false, ◌&&◌, ◌||◌, ◌==◌, List, [], ◌∷◌, ◌++◌, Option, Some, None, bytes_eq, if◌then◌else◌}
use Rattle.std.specs.List.{list_any}
use Rattle.fix_dictionary.specs.declared.messages.App.{App}
use Rattle.fix_dictionary.specs.declared.messages.App.TheVariants.{OrderCancelRequest, OrderCancelReplaceRequest}
use Rattle.venue_rules.specs.declared.replies.OrderStatus.{OrderStatus}
use Rattle.venue_rules.specs.declared.replies.Reply.{Reply}
use Rattle.venue_rules.specs.declared.replies.ReplyBody.{ReplyBody}
use Rattle.venue_rules.specs.declared.replies.ReplyBody.TheVariants as what
use Rattle.venue_rules.specs.Run.{Input, Message, Tick}
use Rattle.trail_answers.specs.declared.life.Name.{Name}
use Rattle.trail_answers.specs.declared.life.Life as kept

-- what is known of an order after rows of a day
pub record Life : Type 0 where
  -- its number, and those of its replacements
  pub numbers : List ℕ
  -- whose it is, with each identifier (11) under which it or a replacement entered
  pub names : List Name
  -- a row was about it
  pub there : Bool
  -- the last row was
  pub here : Bool

-- as it is kept
abbrev pub life_of : kept.Life → Life
life_of l = record { numbers = l.numbers.items; names = l.names.items; there = l.there; here = l.here }

-- before the first row
abbrev pub unborn : Option ℕ → Life
unborn None = record { numbers = []; names = []; there = false; here = false }
unborn (Some number) = record { numbers = number ∷ []; names = []; there = false; here = false }

abbrev pub is_numbered : Life → ℕ → Bool
is_numbered l number = list_any (λ n. n == number) l.numbers

abbrev pub is_its_number : Life → Option ℕ → Bool
is_its_number l None = false
is_its_number l (Some number) = is_numbered l number

abbrev pub is_standing : Life → Option OrderStatus → Bool
is_standing l None = false
is_standing l (Some s) = is_numbered l s.order

-- an identifier of this participant names it
abbrev pub is_named : Life → ℕ → List ℕ → Bool
is_named l who id = list_any (λ n. (n.who == who) && bytes_eq n.id id) l.names

-- A report on an order with one of its numbers. A refusal of an order, or of a side of a cross, names the one that
-- rests under its identifier (11).
unfoldable pub reports_on : Life → ReplyBody → Bool
reports_on l (what.OrderEntered r) = is_its_number l r.order
reports_on l (what.OrderFilled r) = is_its_number l r.order.order
reports_on l (what.OrderUnfilled r) = is_its_number l r.order
reports_on l (what.OrderCancelled r) = is_its_number l r.order.order
reports_on l (what.OrderReplaced r) = is_its_number l r.order.order
reports_on l (what.ChangeRefused r) = is_standing l r.standing
reports_on l (what.OrderRefused r) = is_its_number l r.order.order
reports_on l (what.CrossRefused r) = is_its_number l r.order.order
reports_on l _ = false

-- the report of an order that replaces it
unfoldable pub replaces : Life → ℕ → ReplyBody → Bool
replaces l who (what.OrderReplaced r) = is_named l who r.original_id
replaces l who _ = false

-- a reply is about it
abbrev pub is_about : Life → Reply → Bool
is_about l r = reports_on l r.what || replaces l r.to r.what

-- the number of an order that entered, and the identifier under which it did

abbrev pub entered_number : Option ℕ → List ℕ
entered_number None = []
entered_number (Some number) = number ∷ []

-- the number of a replacement, which is one of its own from then on
unfoldable pub numbers_in : ReplyBody → List ℕ
numbers_in (what.OrderReplaced r) = entered_number r.order.order
numbers_in _ = []

abbrev pub name : ℕ → List ℕ → Name
name who id = record { who = who; id = id }

unfoldable pub names_in : ℕ → ReplyBody → List Name
names_in who (what.OrderEntered r) = name who r.id ∷ []
names_in who (what.OrderReplaced r) = name who r.order.id ∷ []
names_in who _ = []

-- after a reply that is about it
abbrev pub with_reply : Life → Reply → Life
with_reply l r = record { numbers = l.numbers ++ numbers_in r.what; names = l.names ++ names_in r.to r.what; there = true; here = true }

-- after a reply
abbrev pub after_reply : Life → Reply → Life
after_reply l r = if is_about l r then with_reply l r else l

abbrev pub after_replies : Life → List Reply → Life
after_replies l [] = l
after_replies l (r ∷ rs) = after_replies (after_reply l r) rs

-- a cancel or a replacement that names it by an identifier (41) that it has or had
unfoldable pub names_it : Life → ℕ → App → Bool
names_it l who (OrderCancelRequest d) = is_named l who d.original_id
names_it l who (OrderCancelReplaceRequest d) = is_named l who d.original_id
names_it l who _ = false

abbrev pub is_asked : Life → Input → Bool
is_asked l (Message taken t) = names_it l taken.from taken.item.app
is_asked l (Tick t) = false

-- at a row, before its replies
abbrev pub at_input : Life → Input → Life
at_input l i = record { numbers = l.numbers; names = l.names; there = l.there || is_asked l i; here = is_asked l i }

-- after a row; an order that is not sought has no life
abbrev pub life_after : Option ℕ → Life → Input → List Reply → Life
life_after None l i replies = l
life_after (Some number) l i replies = after_replies (at_input l i) replies
