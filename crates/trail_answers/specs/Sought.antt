-- Which rows are printed: all, or those by number, by sender, of an order's life, or of a room's conversation.
use Rattle.std.specs.Prelude.{ℕ, ◌-◌, Bool, true, not, ◌&&◌, ◌||◌, ◌==◌, nat_le, List, Option, Some, None, is_none}
use Rattle.venue_rules.specs.declared.replies.Reply.{Reply}
use Rattle.venue_rules.specs.declared.trail.TrailRow.{TrailRow}
use Rattle.venue_rules.specs.Run.{Input}
use Rattle.trail_answers.specs.declared.scope.RowSpan.{RowSpan}
use Rattle.trail_answers.specs.declared.scope.Scope.{Scope}
use Rattle.trail_answers.specs.declared.sought.Seen as kept
use Rattle.trail_answers.specs.Life.{Life, life_after, life_of, unborn}
use Rattle.trail_answers.specs.Talk.{Talk, talk_after, talk_of, unopened}

-- what is known after rows of a day, of the order and the room that are sought
pub record Seen : Type 0 where
  pub life : Life
  pub talk : Talk

-- as it is kept
abbrev pub seen_of : kept.Seen → Seen
seen_of s = record { life = life_of s.life; talk = talk_of s.talk }

-- before the first row
abbrev pub unseen : Scope → Seen
unseen scope = record { life = unborn scope.order; talk = unopened }

-- after a row
abbrev pub seen_after : Scope → Seen → Input → List Reply → Seen
seen_after scope s i replies = record { life = life_after scope.order s.life i replies; talk = talk_after scope.room s.talk i replies }

-- the order is there, if one is sought
abbrev pub is_order_there : Scope → Seen → Bool
is_order_there scope s = is_none scope.order || s.life.there

-- and the room
abbrev pub is_room_there : Scope → Seen → Bool
is_room_there scope s = is_none scope.room || s.talk.opened

-- what is sought is there
abbrev pub is_there : Scope → Seen → Bool
is_there scope s = is_order_there scope s && is_room_there scope s

abbrev pub is_row_sought : Option RowSpan → ℕ → Bool
is_row_sought None n = true
is_row_sought (Some span) n = nat_le span.first n && nat_le n span.last

-- a row's `who` is 0 at a row of the clock
abbrev pub is_sender_sought : Option ℕ → ℕ → Bool
is_sender_sought None who = true
is_sender_sought (Some k) who = not (who == 0) && (k == (who - 1))

-- the row is about the order, if one is sought, and of the room's conversation; what is sought is there
abbrev pub is_part : Scope → Seen → Bool
is_part scope s = (is_none scope.order || s.life.here) && ((is_none scope.room || s.talk.here) && is_there scope s)

-- a row is printed, after which this is known
abbrev pub is_sought : Scope → Seen → TrailRow → Bool
is_sought scope s r = is_row_sought scope.rows r.n && (is_sender_sought scope.from r.who && is_part scope s)
