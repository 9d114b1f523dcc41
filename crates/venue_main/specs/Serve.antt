-- The output of a served venue as it closes.
use Rattle.std.specs.Prelude.{◌≡◌, ℕ, suc, Bool, true, false, ◌^◌, ◌&&◌, ◌++◌, List, [], ◌∷◌, ◌==◌, nat_le, codes, decimal, not, length, Option}
use Rattle.std.specs.List.{count_by}
use Rattle.std.specs.Io.KnownBytes.{Appends}
use Rattle.venue_runtime.specs.Closing.{Closing, HasClosed}
use Rattle.venue_runtime.specs.Starting.{SessionIo}
use Rattle.venue_rules.specs.Market.{Market}
use Rattle.venue_rules.specs.declared.trail.TrailRow.{TrailRow}
use Rattle.venue_main.specs.declared.serve.ServeFault.{ServeFault}
use Rattle.venue_main.specs.declared.serve.ServeFault.TheVariants.{Memory, Output, Trail, Network, Thread, Heads, Clock}

-- a first port from 1,024 to 65,500, and 1 to 1,000,000,000 turns
abbrev pub is_service : ℕ → ℕ → Bool
is_service port turns = (nat_le 1_024 port && nat_le port 65_500) && (nat_le 1 turns && nat_le turns (10 ^ 9))

-- who listens where: a line for each of these names, the first at this port, each other one at the next
abbrev pub place_line : List ℕ → ℕ → List ℕ
place_line name port = codes "venue_main: " ++ (name ++ (codes " at 127.0.0.1:" ++ (decimal port ++ codes "\n")))

abbrev pub place_lines : ℕ → List (List ℕ) → List ℕ
place_lines port [] = []
place_lines port (name ∷ names) = place_line name port ++ place_lines (suc port) names

-- where the rows are not kept, a line more, which says what ends with the process
abbrev pub with_loss : Bool → List ℕ → List ℕ
with_loss true text = text
with_loss false text = text ++ codes "venue_main: no trail: orders and session numbers end with this process\n"

-- a row that is no tick
abbrev pub is_message : TrailRow → Bool
is_message row = not (row.who == 0)

-- these counts of sessions and messages, as a line of text
abbrev pub counted : ℕ → ℕ → List ℕ
counted sessions taken = codes "closed sessions " ++ (decimal sessions ++ (codes " taken " ++ (decimal taken ++ 10 ∷ [])))

-- the line for this count of sessions, and for the rows of their trail
abbrev pub closing_line : ℕ → List TrailRow → List ℕ
closing_line sessions rows = counted sessions (count_by is_message rows)

-- A venue of this market ran from these rows for `turns` turns, on a line for each participant, and this is its
-- closing. `restarted`: its rows outlive the process.
pub record HasServed (turns : ℕ) (m : Market) (kept : List TrailRow) (restarted : Bool) (c : Closing) : Type 0 where
  pub lines : List SessionIo
  pub each : length lines ≡ length m.participants.names
  pub emitted : List ℕ
  pub emitted' : List ℕ
  pub closed : HasClosed turns m kept restarted lines emitted emitted' c

-- Such a venue was closed, and the output is the one line with the count of its sessions, one for each participant, and
-- of the messages among its rows.
pub record EmitsClosed (turns : ℕ) (m : Market) (kept : List TrailRow) (before after : Option (List ℕ)) : Type 0 where
  pub closed : Closing
  pub served : HasServed turns m kept false closed
  pub sessions : length closed.sessions ≡ length m.participants.names
  pub written : Appends before after (closing_line (length m.participants.names) closed.rows)

-- the fact, unless the closing line was not written
abbrev pub UnlessWriting : ServeFault → Type 0 → Type 0
UnlessWriting Memory fact = fact
UnlessWriting Output fact = Unit {0}
UnlessWriting Trail fact = fact
UnlessWriting (Network why) fact = fact
UnlessWriting Thread fact = fact
UnlessWriting Heads fact = fact
UnlessWriting (Clock why) fact = fact
