-- The book of an instrument, and what rests or is held, as they are printed.
use Rattle.std.proofs.Common.{◌≡◌, ap, subst, ◌∙◌, ℕ, suc, ◌+◌, ◌++◌, false, List, Option, append_assoc, arith}
use Rattle.std.specs.Io.KnownBytes.{Appends}
use Rattle.participants.specs.ParticipantFile.{ParticipantFile}
use Rattle.instruments.specs.declared.instruments.Instrument.{Instrument}
use Rattle.instruments.specs.Listing.{instrument_of, is_unknown_instrument}
use Rattle.venue_rules.specs.declared.facts.HeldSide.{HeldSide}
use Rattle.venue_rules.specs.declared.trail.TrailRow.{TrailRow}
use Rattle.venue_rules.specs.Facts.{History}
use Rattle.venue_rules.specs.Lawful.{NumbersArePlaces}
use Rattle.venue_rules.specs.Market.{Market}
use Rattle.venue_rules.specs.Run.{Input, Message, answer_input, run}
use Rattle.venue_core.specs.State.{State}
use Rattle.venue_core.specs.VenueFacts.{IsHistory}
use Rattle.row_replay.specs.Asking.{asks, entries_in}
use Rattle.row_replay.specs.Laws.{AreTheirs}
use Rattle.resting_orders.specs.declared.book.Sheet.{Sheet}
use Rattle.resting_orders.specs.declared.form.Form.{Form}
use Rattle.resting_orders.specs.declared.rested.RestedOrder.{RestedOrder}
use Rattle.resting_orders.specs.declared.rests_text.DayEnd.{DayEnd}
use Rattle.resting_orders.specs.declared.asking.Request.{Request}
use Rattle.resting_orders.specs.declared.quoting.OwnQuote.{OwnQuote}
use Rattle.resting_orders.specs.Asking.{still_open}
use Rattle.resting_orders.specs.Book.{EmitsBook, IsBook, book_text, last_moment, sheet_of}
use Rattle.resting_orders.specs.Noting.{entered_on}
use Rattle.resting_orders.specs.Quoting.{still_live_at}
use Rattle.resting_orders.specs.Replayed.{IsNoted, Notes}
use Rattle.resting_orders.specs.Resting.{book_of, books_of, books_shown, rested_shown}
use Rattle.resting_orders.specs.Rests.{EmitsRests, Rests, IsRests, end_of, participant_text, participants_text, rests_text}
use Rattle.resting_orders.proofs.Booking.{book_shown, books_are, entered_are}
use Rattle.resting_orders.proofs.OwnQuotes.{live_are}
use Rattle.resting_orders.proofs.Requesting.{still_open_is}

-- The book's text.

abbrev pub PlacesOn : Type 0
PlacesOn = (m : Market) (is : List Input) → NumbersArePlaces (run m is).history.facts

pub book_is : PlacesOn → AreTheirs → (form : Form) (m : Market) (rs : List TrailRow) (s : State) (n : Notes) (sheet : Sheet) (file : ParticipantFile) (rested : List RestedOrder) (text : List ℕ) → IsNoted m rs s n → is_unknown_instrument m.instruments sheet.symbol ≡ false
    → ((h : History) → IsHistory s h → rested ≡ rested_shown n.orders sheet.symbol (entries_in (answer_input s.market h (Message (asks 0 sheet.symbol) 0)).replies)) → file ≡ s.market.participants → text ≡ book_text form file sheet rested → IsBook form m rs sheet text
book_is places theirs form m rs s n sheet file rested text noted known shown own is =
    let h = (run m noted.items).history in
    let symbol = sheet.symbol in
    let os = entered_on m rs noted.items in
    let all : rested ≡ book_of os symbol h.facts (instrument_of m.instruments symbol) =
    shown h noted.stands.history
    ∙ ((λ j. rested_shown (noted.notes j).orders symbol (entries_in (answer_input (noted.stands.market j) h (Message (asks 0 symbol) 0)).replies))
    ∙ book_shown os m h (entered_are m rs noted.items noted.emitted) (places m noted.items) symbol known) in
    record {
      items = noted.items;
      emitted = theirs rs noted.items noted.emitted;
      known = known;
      is = is ∙ (λ j. book_text form ((own ∙ ap (λ (x : Market). x.participants) noted.stands.market) j) sheet (all j));
    }

pub emits_book : (form : Form) (m : Market) (rs : List TrailRow) (sheet : Sheet) (text : List ℕ) (before after : Option (List ℕ)) → sheet ≡ sheet_of sheet.symbol rs → IsBook form m rs sheet text → Appends before after text → EmitsBook form m rs sheet.symbol before after
emits_book form m rs sheet text before after same book written = record {
  items = book.items;
  emitted = book.emitted;
  known = book.known;
  written = subst (Appends before after) (book.is ∙ ap (λ (s : Sheet). book_text form m.participants s (book_of (entered_on m rs book.items) sheet.symbol (run m book.items).history.facts (instrument_of m.instruments sheet.symbol))) same) written;
}

-- The text of what rests or is held.

pub rests_are : PlacesOn → AreTheirs → (form : Form) (m : Market) (rs : List TrailRow) (s : State) (n : Notes) (file : ParticipantFile) (xs : List Instrument) (end : DayEnd) (orders : List RestedOrder) (held : List HeldSide) (asked_open : List Request) (live : List OwnQuote) (who : Option ℕ) (text : List ℕ) → IsNoted m rs s n
    → ((h : History) → IsHistory s h → orders ≡ books_shown n.orders s.market h s.market.instruments) → held ≡ n.held → asked_open ≡ still_open n.closed n.requests (last_moment rs) → ((h : History) → IsHistory s h → live ≡ still_live_at s.market h (last_moment rs) n.quotes) → file ≡ s.market.participants → xs ≡ s.market.instruments → end ≡ end_of rs
    → text ≡ rests_text form file xs end (record { orders = orders; held = held; requests = asked_open; quotes = live }) who → IsRests form m rs who text
rests_are places theirs form m rs s n file xs end orders sides asked live who text noted shown kept standing alive own own_instruments ends is =
    let h = (run m noted.items).history in
    let os = entered_on m rs noted.items in
    let all : orders ≡ books_of os h.facts m.instruments m.instruments =
    shown h noted.stands.history
    ∙ ((λ j. books_shown (noted.notes j).orders (noted.stands.market j) h (noted.stands.market j).instruments)
    ∙ books_are os m h (entered_are m rs noted.items noted.emitted) (places m noted.items)) in
    record {
      items = noted.items;
      emitted = theirs rs noted.items noted.emitted;
      is = is
          ∙ (λ j.
          rests_text form ((own ∙ ap (λ (x : Market). x.participants) noted.stands.market) j) ((own_instruments ∙ ap (λ (x : Market). x.instruments) noted.stands.market) j) (ends j)
          (record { orders = all j; held = (kept ∙ ap (λ (x : Notes). x.held) noted.notes) j; requests = (standing ∙ (ap (λ (x : Notes). still_open x.closed x.requests (last_moment rs)) noted.notes ∙ still_open_is h.facts (last_moment rs))) j; quotes = (alive h noted.stands.history ∙ ((λ k. still_live_at (noted.stands.market k) h (last_moment rs) (noted.notes k).quotes) ∙ live_are m noted.items (last_moment rs))) j }) who);
    }

pub emits_rests : (form : Form) (m : Market) (rs : List TrailRow) (who : Option ℕ) (text : List ℕ) (before after : Option (List ℕ)) → IsRests form m rs who text → Appends before after text → EmitsRests form m rs who before after
emits_rests form m rs who text before after is written = record { items = is.items; emitted = is.emitted; written = subst (Appends before after) is.is written }

-- one participant further

pub participants_more : (form : Form) (file : ParticipantFile) (xs : List Instrument) (end : DayEnd) (r : Rests) (n : ℕ) (before now next : List ℕ) → now ≡ before ++ participants_text form file xs end r n → next ≡ now ++ participant_text form file xs end r n
    → next ≡ before ++ participants_text form file xs end r (n + 1)
participants_more form file xs end r n before now next is goes =
    goes
    ∙ (ap (λ l. l ++ participant_text form file xs end r n) is
    ∙ (append_assoc before (participants_text form file xs end r n) (participant_text form file xs end r n) ∙ ap (λ k. before ++ participants_text form file xs end r k) (on n)))
  where
    on : (k : ℕ) → suc k ≡ k + 1
    on k = omega arith
