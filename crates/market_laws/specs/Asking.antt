use Rattle.std.specs.Prelude.{◌≡◌, ℕ, List, Contains}
use Rattle.venue_rules.specs.declared.facts.Fact.TheVariants.{Asked}
use Rattle.venue_rules.specs.declared.facts.Room.{Room}
use Rattle.venue_rules.specs.declared.replies.Reply.{Reply}
use Rattle.venue_rules.specs.declared.replies.RequestSent.{RequestSent as SentRequest}
use Rattle.venue_rules.specs.declared.replies.ReplyBody.TheVariants.{RequestSent}
use Rattle.participants.specs.Relations.{ThreeUnrelated}
use Rattle.venue_rules.specs.Market.{Market}
use Rattle.venue_rules.specs.Addressees.{IsParticipant}
use Rattle.venue_rules.specs.Requests.{request_sent}
use Rattle.venue_rules.specs.RoomTrades.{AskedTogether}
use Rattle.venue_rules.specs.Run.{Input, run}

-- Requests for quotes, traded or not.

-- the recipients are participants, the requester is not among them, and three of them are unrelated to it and to each
-- other; the answer that recorded the request sent it to each of them, and nothing else (17 CFR 37.9(a)(3))
pub record GoesToThree (m : Market) (is : List Input) (asked : Room) : Type 0 where
  pub three_unrelated : ThreeUnrelated m.participants asked.requester asked.recipients
  pub participants : (who : ℕ) → Contains asked.recipients who → IsParticipant m who
  pub others : Contains asked.recipients asked.requester → ⊥
  pub asked_together : AskedTogether m is asked

-- so it is of each request that is recorded, whether it traded or not
abbrev pub RequestsGoToThree : Market → List Input → Type 0
RequestsGoToThree m is = (asked : Room) → Contains (run m is).history.facts (Asked asked) → GoesToThree m is asked

-- whoever is sent a request is a recipient of a recorded one, and is sent it as the others are
abbrev pub OnlyRecipientsAreAsked : Market → List Input → Type 0
OnlyRecipientsAreAsked m is =
    (r : Reply) (sent : SentRequest) → Contains (run m is).replies r → r.what ≡ RequestSent sent → (asked : Room) × Contains (run m is).history.facts (Asked asked) × Contains asked.recipients r.to × (r ≡ request_sent m asked r.to)
