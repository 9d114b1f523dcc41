use Rattle.std.proofs.Common.{◌≡◌, refl, sym, ap, ◌∙◌, ℕ, true, false, ◌==◌, List, [], ◌∷◌}
use Rattle.participants.specs.ParticipantFile.{ParticipantFile}
use Rattle.price_book.specs.BookFacts.{book_facts}
use Rattle.venue_rules.specs.declared.facts.Fact.{Fact}
use Rattle.venue_rules.specs.declared.replies.SnapshotEntry.{SnapshotEntry}
use Rattle.venue_rules.specs.declared.replies.ReplyBody.TheVariants.{BookSnapshot}
use Rattle.venue_rules.specs.Answer.{Answer, Sender, answers, reply}
use Rattle.venue_rules.specs.Book.{picture}
use Rattle.venue_rules.specs.Facts.{History}
use Rattle.venue_rules.specs.MarketData.{answer_market_data}
use Rattle.fix_dictionary.specs.declared.messages.MarketDataRequest.{MarketDataRequest}
use Rattle.instruments.specs.declared.instruments.Instrument.{Instrument}
use Rattle.instruments.specs.Listing.{instrument_of, is_unknown_instrument}
use Rattle.venue_rules.specs.declared.refusals.MarketDataRefusal.TheVariants.{UnknownInstrument, SnapshotsOnly, FullDepthOnly}
use Rattle.order_handler.specs.Shown.{IsShown, IsNotShown}

-- Each refusal of a request for market data is the answer where it holds and none before it does.

pub no_instrument : (is : List Instrument) (d : MarketDataRequest) → is_unknown_instrument is d.symbol ≡ true → IsNotShown is d UnknownInstrument
no_instrument is d h1 = record { answers = λ file h s. rw h1 refl }

pub no_snapshot : (is : List Instrument) (d : MarketDataRequest) → is_unknown_instrument is d.symbol ≡ false → (d.subscription_type == 48) ≡ false → IsNotShown is d SnapshotsOnly
no_snapshot is d h1 h2 = record { answers = λ file h s. rw h1 (rw h2 refl) }

pub no_full_depth : (is : List Instrument) (d : MarketDataRequest) → is_unknown_instrument is d.symbol ≡ false → (d.subscription_type == 48) ≡ true → (d.depth == 0) ≡ false → IsNotShown is d FullDepthOnly
no_full_depth is d h1 h2 h3 = record { answers = λ file h s. rw h1 (rw h2 (rw h3 refl)) }

pub snapshot : (is : List Instrument) (d : MarketDataRequest) (x : ℕ) → is_unknown_instrument is d.symbol ≡ false → x ≡ instrument_of is d.symbol → (d.subscription_type == 48) ≡ true → (d.depth == 0) ≡ true → IsShown is d x
snapshot is d x h1 here h2 h3 = record { answers = λ file h s. rw h1 (rw h2 (rw h3 (rw here refl))) }

pub ruleset showings = (no_instrument, no_snapshot, no_full_depth, snapshot)

-- the snapshot of a history is that of its book

pub picture-shown : ((fs : List Fact) (x : ℕ) → picture (book_facts fs) x ≡ picture fs x) → (is : List Instrument) (d : MarketDataRequest) (x : ℕ) (file : ParticipantFile) (h : History) (book : List Fact) (s : Sender) (a : Answer) → IsShown is d x → book_facts h.facts ≡ book → a ≡ answers (reply s.who (BookSnapshot (record { request_id = d.request_id; symbol = d.symbol; entries = picture book x })) ∷ []) → a ≡ answer_market_data (record { participants = file; instruments = is }) h s d
picture-shown law is d x file h book s a shown same made =
    made
    ∙ ap (λ (fs : List Fact). answers (reply s.who (BookSnapshot (record { request_id = d.request_id; symbol = d.symbol; entries = picture fs x })) ∷ [])) (sym same)
    ∙ ap (λ (es : List SnapshotEntry). answers (reply s.who (BookSnapshot (record { request_id = d.request_id; symbol = d.symbol; entries = es })) ∷ [])) (law h.facts x)
    ∙ sym (shown.answers file h s)
