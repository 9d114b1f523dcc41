use Rattle.std.specs.Prelude.{◌≡◌, ℕ, List, [], ◌∷◌}
use Rattle.fix_dictionary.specs.declared.messages.MarketDataRequest.{MarketDataRequest}
use Rattle.instruments.specs.declared.instruments.Instrument.{Instrument}
use Rattle.participants.specs.ParticipantFile.{ParticipantFile}
use Rattle.venue_rules.specs.Facts.{History}
use Rattle.venue_rules.specs.declared.refusals.MarketDataRefusal.{MarketDataRefusal}
use Rattle.venue_rules.specs.declared.replies.ReplyBody.TheVariants.{BookSnapshot, MarketDataReject}
use Rattle.venue_rules.specs.Answer.{Sender, answers, reply}
use Rattle.venue_rules.specs.Book.{picture}
use Rattle.venue_rules.specs.MarketData.{answer_market_data}

-- the snapshot of this instrument answers the request, in any market with these instruments and any history
pub record IsShown (instruments : List Instrument) (d : MarketDataRequest) (x : ℕ) : Type 0 where
  pub answers : (file : ParticipantFile) (h : History) (s : Sender) → answer_market_data (record { participants = file; instruments = instruments }) h s d ≡ answers (reply s.who (BookSnapshot (record { request_id = d.request_id; symbol = d.symbol; entries = picture h.facts x })) ∷ [])

-- the request is refused for this cause
pub record IsNotShown (instruments : List Instrument) (d : MarketDataRequest) (cause : MarketDataRefusal) : Type 0 where
  pub answers : (file : ParticipantFile) (h : History) (s : Sender) → answer_market_data (record { participants = file; instruments = instruments }) h s d ≡ answers (reply s.who (MarketDataReject (record { request_id = d.request_id; cause = cause })) ∷ [])
