-- What a reply says of an order of the book, whatever else it says.
use Rattle.std.proofs.Common.{◌≡◌, refl, ℕ, ◌||◌, Bool, false, List, [], ◌∷◌, Option}
use Rattle.venue_rules.specs.declared.replies.OrderStatus.{OrderStatus}
use Rattle.venue_rules.specs.declared.replies.Reply.{Reply}
use Rattle.venue_rules.specs.declared.replies.ReplyBody.{ReplyBody}
use Rattle.venue_rules.specs.declared.replies.ReplyBody.TheVariants as what
use Rattle.trail_answers.specs.declared.life.Name.{Name}
use Rattle.trail_answers.specs.Life.{Life, entered_number, is_about, is_its_number, is_named, is_standing, name, names_in, numbers_in, replaces, reports_on}

pub data Said : Type 0 where
  -- its number, and the identifier under which it entered
  Enters : Option ℕ → List ℕ → Said
  -- and the identifier of the order that it replaces
  Replaces : Option ℕ → List ℕ → List ℕ → Said
  Fills : Option ℕ → Said
  Leaves : Option ℕ → Said
  IsUnfilled : Option ℕ → Said
  IsKept : Option OrderStatus → Said
  -- another is refused, which has its identifier
  IsNamed : Option ℕ → Said
  Silent : Said

abbrev pub said_what : ReplyBody → Said
said_what (what.OrderEntered r) = Enters r.order r.id
said_what (what.OrderFilled r) = Fills r.order.order
said_what (what.OrderUnfilled r) = IsUnfilled r.order
said_what (what.OrderCancelled r) = Leaves r.order.order
said_what (what.OrderReplaced r) = Replaces r.order.order r.order.id r.original_id
said_what (what.ChangeRefused r) = IsKept r.standing
said_what (what.OrderRefused r) = IsNamed r.order.order
said_what (what.CrossRefused r) = IsNamed r.order.order
said_what _ = Silent

abbrev pub said : Reply → Said
said r = said_what r.what

abbrev pub reports_said : Life → Said → Bool
reports_said l (Enters n id) = is_its_number l n
reports_said l (Replaces n id original) = is_its_number l n
reports_said l (Fills n) = is_its_number l n
reports_said l (Leaves n) = is_its_number l n
reports_said l (IsUnfilled n) = is_its_number l n
reports_said l (IsKept s) = is_standing l s
reports_said l (IsNamed n) = is_its_number l n
reports_said l Silent = false

abbrev pub replaces_said : Life → ℕ → Said → Bool
replaces_said l who (Replaces n id original) = is_named l who original
replaces_said l who _ = false

abbrev pub about_said : Life → ℕ → Said → Bool
about_said l who s = reports_said l s || replaces_said l who s

abbrev pub numbers_said : Said → List ℕ
numbers_said (Replaces n id original) = entered_number n
numbers_said _ = []

abbrev pub names_said : ℕ → Said → List Name
names_said who (Enters n id) = name who id ∷ []
names_said who (Replaces n id original) = name who id ∷ []
names_said who _ = []

pub reports_is : (l : Life) (w : ReplyBody) → reports_on l w ≡ reports_said l (said_what w)
unfolding reports_on
reports_is l (what.OrderRefused r) = refl
reports_is l (what.CrossRefused r) = refl
reports_is l (what.OrderEntered r) = refl
reports_is l (what.OrderFilled r) = refl
reports_is l (what.OrderUnfilled r) = refl
reports_is l (what.OrderCancelled r) = refl
reports_is l (what.OrderReplaced r) = refl
reports_is l (what.ChangeRefused r) = refl
reports_is l (what.RequestRefused r) = refl
reports_is l (what.RequestSent r) = refl
reports_is l (what.QuoteStatus r) = refl
reports_is l (what.QuoteSent r) = refl
reports_is l (what.RoomTraded r) = refl
reports_is l (what.BookSnapshot r) = refl
reports_is l (what.MarketDataReject r) = refl
reports_is l (what.BusinessReject r) = refl

pub replaces_is : (l : Life) (who : ℕ) (w : ReplyBody) → replaces l who w ≡ replaces_said l who (said_what w)
unfolding replaces
replaces_is l who (what.OrderRefused r) = refl
replaces_is l who (what.CrossRefused r) = refl
replaces_is l who (what.OrderEntered r) = refl
replaces_is l who (what.OrderFilled r) = refl
replaces_is l who (what.OrderUnfilled r) = refl
replaces_is l who (what.OrderCancelled r) = refl
replaces_is l who (what.OrderReplaced r) = refl
replaces_is l who (what.ChangeRefused r) = refl
replaces_is l who (what.RequestRefused r) = refl
replaces_is l who (what.RequestSent r) = refl
replaces_is l who (what.QuoteStatus r) = refl
replaces_is l who (what.QuoteSent r) = refl
replaces_is l who (what.RoomTraded r) = refl
replaces_is l who (what.BookSnapshot r) = refl
replaces_is l who (what.MarketDataReject r) = refl
replaces_is l who (what.BusinessReject r) = refl

pub numbers_are : (w : ReplyBody) → numbers_in w ≡ numbers_said (said_what w)
unfolding numbers_in
numbers_are (what.OrderRefused r) = refl
numbers_are (what.CrossRefused r) = refl
numbers_are (what.OrderEntered r) = refl
numbers_are (what.OrderFilled r) = refl
numbers_are (what.OrderUnfilled r) = refl
numbers_are (what.OrderCancelled r) = refl
numbers_are (what.OrderReplaced r) = refl
numbers_are (what.ChangeRefused r) = refl
numbers_are (what.RequestRefused r) = refl
numbers_are (what.RequestSent r) = refl
numbers_are (what.QuoteStatus r) = refl
numbers_are (what.QuoteSent r) = refl
numbers_are (what.RoomTraded r) = refl
numbers_are (what.BookSnapshot r) = refl
numbers_are (what.MarketDataReject r) = refl
numbers_are (what.BusinessReject r) = refl

pub names_are : (who : ℕ) (w : ReplyBody) → names_in who w ≡ names_said who (said_what w)
unfolding names_in
names_are who (what.OrderRefused r) = refl
names_are who (what.CrossRefused r) = refl
names_are who (what.OrderEntered r) = refl
names_are who (what.OrderFilled r) = refl
names_are who (what.OrderUnfilled r) = refl
names_are who (what.OrderCancelled r) = refl
names_are who (what.OrderReplaced r) = refl
names_are who (what.ChangeRefused r) = refl
names_are who (what.RequestRefused r) = refl
names_are who (what.RequestSent r) = refl
names_are who (what.QuoteStatus r) = refl
names_are who (what.QuoteSent r) = refl
names_are who (what.RoomTraded r) = refl
names_are who (what.BookSnapshot r) = refl
names_are who (what.MarketDataReject r) = refl
names_are who (what.BusinessReject r) = refl

pub about_is : (l : Life) (r : Reply) → is_about l r ≡ about_said l r.to (said r)
about_is l r = λ k. reports_is l r.what k || replaces_is l r.to r.what k
