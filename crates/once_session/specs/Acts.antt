-- The acts of a run over one stream, and their order.
use Rattle.std.specs.Prelude.{ℕ, suc, zero, ◌≡◌, ◌⊎◌, List, [], ◌∷◌, ◌++◌, false, None}
use Rattle.fix_session.specs.Reader.{Reader}
use Rattle.venue_world.specs.declared.world_event.WorldEvent.{WorldEvent}
use Rattle.venue_world.specs.declared.world_event.WorldEvent.TheVariants.{Alone, Takes, VenueTicks}
use Rattle.venue_world.specs.declared.world_event.SessionEvent.{SessionEvent}
use Rattle.venue_world.specs.declared.world_event.SessionEvent.TheVariants.{Pieces, Steps, Ticks, Breaks, Resumes, Hands, Delivers, Collects, Cuts, Writes}
use Rattle.venue_world.specs.Side.{Side}
use Rattle.venue_world.specs.World.{WorldState, after_act}

-- a property of the first participant's side
abbrev pub OfFirst : (Side → Type 0) → List Side → Type 0
OfFirst P [] = ⊥
OfFirst P (s ∷ sides) = P s

-- each message was taken, each reply was sent, and what was queued is written
pub record IsAnswered (s : Side) : Type 0 where
  pub none_ready : s.session.ready ≡ []
  pub none_in_seat : s.seat ≡ None
  pub none_queued : s.queue ≡ []
  pub no_reply : s.reply ≡ None
  pub all_written : s.session.wire ≡ []

-- no frame is unread, or the line is down
abbrev pub IsHeardOut : Reader → Side → Type 0
IsHeardOut r s = (s.session.line.up ≡ false) ⊎ ((r.front s.session.unread).found ≡ None)

-- The acts of the first participant's side: bytes arrive only after all frames before them were processed and answered,
-- a frame is processed only after those before it were answered, and every moment is t.
abbrev pub MayDo : Reader → ℕ → List Side → SessionEvent → Type 0
MayDo r t sides (Pieces bytes) = OfFirst IsAnswered sides × OfFirst (IsHeardOut r) sides
MayDo r t sides (Steps at) = (at ≡ t) × OfFirst IsAnswered sides
MayDo r t sides Hands = Unit {0}
MayDo r t sides Delivers = Unit {0}
MayDo r t sides (Collects at) = at ≡ t
MayDo r t sides Writes = Unit {0}
MayDo r t sides (Ticks at) = ⊥
MayDo r t sides Breaks = ⊥
MayDo r t sides (Resumes at) = ⊥
MayDo r t sides Cuts = ⊥

-- a possible next act: the first participant's, or the take of its message
abbrev pub MayCome : Reader → ℕ → WorldState → WorldEvent → Type 0
MayCome r t w (Alone zero x) = MayDo r t w.sides x
MayCome r t w (Alone (suc k) x) = ⊥
MayCome r t w (Takes zero at) = at ≡ t
MayCome r t w (Takes (suc k) at) = ⊥
MayCome r t w (VenueTicks at) = ⊥

-- each of these acts is a possible next one after those before it
abbrev pub Leads : Reader → ℕ → WorldState → List WorldEvent → Type 0
Leads r t w [] = Unit {0}
Leads r t w (a ∷ acts) = MayCome r t w a × Leads r t (after_act r w a) acts

-- the bytes received on the line, in order
abbrev pub pieces_by : WorldEvent → List ℕ
pieces_by (Alone k (Pieces bytes)) = bytes
pieces_by a = []

abbrev pub pieces : List WorldEvent → List ℕ
pieces [] = []
pieces (a ∷ acts) = pieces_by a ++ pieces acts
