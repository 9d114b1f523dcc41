-- What is printed of why a row's message was refused.
--
--       row 12 at 20250303-14:30:40.999 from BETA, sequence number 3 in era 1: 35=D|11=b2|..
--           order b2 to sell 5 BASIS1Y @ -1
--       row 12 to BETA: 35=8|37=NONE|..
--           report E18: order b2 to sell BASIS1Y refused, ..
--       refused for cause 7 of 8: it would trade with a linked order that entered less than the instrument's delay ..
--           instrument BASIS1Y
--           causes 1 to 6 do not hold
--           ClOrdLinkID (583) L1 alone links it with such an order: without it this cause would not hold
--           it would trade with O8 of GAMMA, who is related to the sender
--           the last linked order that it would trade with entered at 20250303-14:30:40.000, 999 ms before;
--           BASIS1Y asks for 1000 ms
--           no longer so from 20250303-14:30:41.000 on, 1 ms later, as the book stands before this row; the answer
--           would then be:
--           to BETA: report E18: ..
use Rattle.std.specs.Prelude.{◌≡◌, ◌<◌, ◌≤◌, ◌⊎◌, ℕ, ◌-◌, ◌==◌, ◌&&◌, Bool, true, false, nat_lt, List, [], ◌∷◌, ◌++◌, length, take, slice_get, Option, Some, None, ⊤, bytes_eq, codes, decimal, if◌then◌else◌}
use Rattle.std.specs.List.{flat_map, list_any}
use Rattle.std.specs.Io.KnownBytes.{Appends}
use Rattle.sef_moment.specs.Utc.{utc_text}
use Rattle.fix_dictionary.specs.declared.messages.App.{App}
use Rattle.fix_dictionary.specs.declared.messages.App.TheVariants.{QuoteRequest}
use Rattle.fix_dictionary.specs.declared.messages.Party.{Party}
use Rattle.fix_dictionary.specs.declared.messages.QuoteRequest.{QuoteRequest as Request}
use Rattle.instruments.specs.declared.instruments.Instrument.{Instrument}
use Rattle.instruments.specs.Listing.{delay_of, instrument_of}
use Rattle.participants.specs.ParticipantFile.{ParticipantFile}
use Rattle.participants.specs.Relations.{name_of, related}
use Rattle.venue_rules.specs.declared.refusals.RequestRefusal.{RequestRefusal}
use Rattle.venue_rules.specs.declared.refusals.RequestRefusal.TheVariants.{RecipientsNotUnrelated}
use Rattle.venue_rules.specs.declared.replies.Reply.{Reply}
use Rattle.venue_rules.specs.declared.replies.ReplyBody.{ReplyBody}
use Rattle.venue_rules.specs.declared.replies.ReplyBody.TheVariants as what
use Rattle.venue_rules.specs.declared.trail.Taken.{Taken}
use Rattle.venue_rules.specs.declared.trail.TrailRow.{TrailRow}
use Rattle.venue_rules.specs.Answers.{answer}
use Rattle.venue_rules.specs.Facts.{History}
use Rattle.venue_rules.specs.Market.{Market}
use Rattle.venue_rules.specs.Messages.{message}
use Rattle.venue_rules.specs.Run.{Input, Message, Tick, answer_input, run}
use Rattle.venue_core.specs.Replay.{Emits}
use Rattle.message_words.specs.Parts.{Part, parts_text, words_alone}
use Rattle.message_words.specs.RowLines.{came_parts, clock_parts, reply_parts}
use Rattle.message_words.specs.Words.{words}
use Rattle.row_replay.specs.Inputs.{AreOf}
use Rattle.refusal_causes.specs.Linking.{link_lines}
use Rattle.refusal_causes.specs.Listed.{many_in, number_in}
use Rattle.refusal_causes.specs.declared.fault.WhyFault.{WhyFault}
use Rattle.refusal_causes.specs.declared.fault.WhyFault.TheVariants as fault
use Rattle.refusal_causes.specs.declared.figures.Figures.{Figures}
use Rattle.refusal_causes.specs.Figures.{due_figures, figures, figures_parts}
use Rattle.refusal_causes.specs.Sentences.{sentence}
use Rattle.refusal_causes.specs.Why.{IsPassing, IsRefusedFor, count_at, place_at}

-- The row: what came, and the replies to it.

abbrev pub came_lines : ParticipantFile → TrailRow → Input → List ℕ
came_lines file r (Message taken t) = parts_text (came_parts file r taken.item.app)
came_lines file r (Tick t) = parts_text (clock_parts r)

abbrev pub reply_lines : ParticipantFile → TrailRow → Reply → List ℕ
reply_lines file r reply = parts_text (reply_parts file r reply.to (message reply.what))

abbrev pub row_lines : ParticipantFile → TrailRow → Input → List Reply → List ℕ
row_lines file r i replies = came_lines file r i ++ flat_map (reply_lines file r) replies

-- The cause, with its number in docs/PROTOCOL.md, and the figures that decide.

abbrev pub cause_parts : (number many : ℕ) → List ℕ → List Part
cause_parts number many said = (codes "refused for cause ", Some (decimal number)) ∷ (codes " of ", Some (decimal many)) ∷ (codes ": ", Some said) ∷ []

-- without a number where there is no list
abbrev pub unlisted_parts : List ℕ → List Part
unlisted_parts said = (codes "refused: ", Some said) ∷ []

abbrev pub cause_text : (number many : ℕ) → List ℕ → List ℕ
cause_text number many said = if number == 0 then parts_text (unlisted_parts said) else parts_text (cause_parts number many said)

-- that the causes before it do not hold
abbrev pub many_before : ℕ → List Part
many_before last = (codes "\n    causes 1 to ", Some (decimal last)) ∷ words_alone (codes " do not hold") ∷ []

-- two of them, or more
abbrev pub several_before : ℕ → List ℕ
several_before number = if number == 3 then codes "\n    causes 1 and 2 do not hold" else parts_text (many_before (number - 1))

abbrev pub before_lines : ℕ → List ℕ
before_lines number = if nat_lt number 2 then [] else (if number == 2 then codes "\n    cause 1 does not hold" else several_before number)

-- of a request for quotes, which of the sender and the recipients are related

abbrev pub is_named : Party → List ℕ → Bool
is_named p name = if p.source == 68 && p.role == 35 then bytes_eq p.id name else false

abbrev pub is_recipient : List ℕ → Request → Bool
is_recipient name d = list_any (λ p. is_named p name) d.parties

abbrev pub takes_part : ParticipantFile → ℕ → Request → ℕ → Bool
takes_part file who d a = if a == who then true else is_recipient (name_of file a) d

abbrev pub pair_said : List ℕ → List ℕ → List Part
pair_said a b = (codes "\n    ", Some a) ∷ (codes " is related to ", Some b) ∷ []

abbrev pub pair_lines : ParticipantFile → ℕ → Request → ℕ × ℕ → List ℕ
pair_lines file who d p = if takes_part file who d p.0 && takes_part file who d p.1 then parts_text (pair_said (name_of file p.0) (name_of file p.1)) else []

abbrev pub pairs_lines : ParticipantFile → ℕ → Request → RequestRefusal → List ℕ
pairs_lines file who d RecipientsNotUnrelated = flat_map (pair_lines file who d) file.pairs
pairs_lines file who d _ = []

abbrev pub request_lines : ParticipantFile → ℕ → Request → ReplyBody → List ℕ
request_lines file who d (what.RequestRefused r) = pairs_lines file who d r.cause
request_lines file who d _ = []

abbrev pub related_lines : ParticipantFile → ℕ → App → ReplyBody → List ℕ
related_lines file who (QuoteRequest d) w = request_lines file who d w
related_lines file who _ w = []

-- that a message is not refused

abbrev pub unrefused : ReplyBody → List ℕ
unrefused (what.BusinessReject r) = codes "not processed: the venue takes no messages of this type (BusinessMessageReject, 380=3)"
unrefused _ = codes "not refused"

abbrev pub refused_lines : (number many : ℕ) → ReplyBody → Figures → List ℕ
refused_lines number many w f = cause_text number many (sentence w) ++ (parts_text (figures_parts f) ++ before_lines number)

abbrev pub verdict_lines : (place number many : ℕ) → ReplyBody → Figures → List ℕ
verdict_lines place number many w f = if place == 0 then unrefused w else refused_lines number many w f

abbrev pub message_verdict : Market → Taken → (place count : ℕ) → ReplyBody → List ℕ
message_verdict m taken place count w = verdict_lines place (number_in taken.item.app place w) (many_in taken.item.app count) w (figures m.instruments taken.item.app w) ++ related_lines m.participants taken.from taken.item.app w

-- of a held side that is due: docs/PROTOCOL.md has no list
abbrev pub due_lines : (place count : ℕ) → ReplyBody → List ℕ
due_lines place count w = if place == 0 then codes "not refused: no message came at this row" else refused_lines 0 count w (due_figures w)

-- by the first reply
abbrev pub first_verdict : Market → Input → (place count : ℕ) → ReplyBody → List ℕ
first_verdict m (Message taken t) place count w = message_verdict m taken place count w
first_verdict m (Tick t) place count w = due_lines place count w

abbrev pub verdict : Market → Input → (place count : ℕ) → List Reply → List ℕ
verdict m i place count [] = codes "not refused: there is no answer"
verdict m i place count (reply ∷ rs) = first_verdict m i place count reply.what

-- From when on the cause no longer holds, and the answer then, if nothing else happens.

-- the instrument of an order that enters or is refused then
abbrev pub then_symbol : ReplyBody → Option (List ℕ)
then_symbol (what.OrderEntered r) = Some r.symbol
then_symbol (what.OrderReplaced r) = Some r.order.symbol
then_symbol (what.OrderRefused r) = Some r.order.symbol
then_symbol (what.CrossRefused r) = Some r.order.symbol
then_symbol _ = None

-- and its number
abbrev pub then_number : ReplyBody → Option ℕ
then_number (what.OrderEntered r) = r.order
then_number (what.OrderReplaced r) = r.order.order
then_number _ = None

abbrev pub is_number : Option ℕ → Option ℕ → Bool
is_number (Some a) (Some b) = a == b
is_number _ _ = false

abbrev pub relation : ParticipantFile → ℕ → ℕ → List ℕ
relation file who to = if who == to then codes ", the sender itself" else (if related file who to then codes ", who is related to the sender" else codes ", who is not related to the sender")

-- the orders that it would trade with, from the reports of its trades to their owners

abbrev pub met_said : ℕ → (name relation : List ℕ) → List Part
met_said n name relation = (codes "\n    it would trade with O", Some (decimal n)) ∷ (codes " of ", Some name) ∷ ([], Some relation) ∷ []

abbrev pub met_number : ParticipantFile → ℕ → ℕ → Option ℕ → List ℕ
met_number file who to None = []
met_number file who to (Some n) = parts_text (met_said n (name_of file to) (relation file who to))

abbrev pub met_order : ParticipantFile → ℕ → ℕ → (entering number : Option ℕ) → List ℕ
met_order file who to entering number = if is_number entering number then [] else met_number file who to number

abbrev pub met_what : ParticipantFile → ℕ → Option ℕ → ℕ → ReplyBody → List ℕ
met_what file who entering to (what.OrderFilled f) = met_order file who to entering f.order.order
met_what file who entering to _ = []

abbrev pub met_lines : ParticipantFile → ℕ → Option ℕ → Reply → List ℕ
met_lines file who entering reply = met_what file who entering reply.to reply.what

-- when the last linked one of them entered: the delay before

abbrev pub linked_parts : (t entered delay : ℕ) → List ℕ → List Part
linked_parts t entered delay symbol =
    (codes "\n    the last linked order that it would trade with entered at ", Some (utc_text entered))
    ∷ (codes ", ", Some (decimal (t - entered)))
    ∷ (codes " ms before; ", Some symbol)
    ∷ (codes " asks for ", Some (decimal delay))
    ∷ words_alone (codes " ms")
    ∷ []

abbrev pub linked_lines : List Instrument → (t passes : ℕ) → Option (List ℕ) → List ℕ
linked_lines file t passes None = []
linked_lines file t passes (Some symbol) = parts_text (linked_parts t (passes - delay_of file (instrument_of file symbol)) (delay_of file (instrument_of file symbol)) symbol)

abbrev pub passing_parts : (t passes : ℕ) → List Part
passing_parts t passes =
    (codes "\n    no longer so from ", Some (utc_text passes))
    ∷ (codes " on, ", Some (decimal (passes - t)))
    ∷ words_alone (codes " ms later, as the book stands before this row; the answer would then be:")
    ∷ []

abbrev pub then_said : (to said : List ℕ) → List Part
then_said to said = (codes "\n    to ", Some to) ∷ (codes ": ", Some said) ∷ []

abbrev pub then_lines : ParticipantFile → Reply → List ℕ
then_lines file reply = parts_text (then_said (name_of file reply.to) (words (message reply.what)))

-- by the first reply
abbrev pub known_lines : ParticipantFile → List Instrument → (who t passes : ℕ) → ReplyBody → List Reply → List ℕ
known_lines file listed who t passes w rs =
    flat_map (met_lines file who (then_number w)) rs ++ (linked_lines listed t passes (then_symbol w) ++ (parts_text (passing_parts t passes) ++ flat_map (then_lines file) rs))

abbrev pub passing_lines : ParticipantFile → List Instrument → (who t passes : ℕ) → List Reply → List ℕ
passing_lines file listed who t passes [] = parts_text (passing_parts t passes)
passing_lines file listed who t passes (first ∷ rest) = known_lines file listed who t passes first.what (first ∷ rest)

abbrev pub passing_text : Market → History → Input → Option ℕ → List ℕ
passing_text m h i None = []
passing_text m h (Message taken t) (Some passes) = link_lines m h taken t ++ passing_lines m.participants m.instruments taken.from t passes (answer m h taken passes).replies
passing_text m h (Tick t) (Some passes) = []

-- The whole text, of a row and its input after a history.

abbrev pub answered_text : Market → History → TrailRow → Input → (cause count : ℕ) → List ℕ
answered_text m h r i cause count = row_lines m.participants r i (answer_input m h i).replies ++ verdict m i cause count (answer_input m h i).replies

abbrev pub why_text : Market → History → TrailRow → Input → (cause count : ℕ) → Option ℕ → List ℕ
why_text m h r i cause count passes = answered_text m h r i cause count ++ (passing_text m h i passes ++ codes "\n")

-- the text of a cause that is the first of its list that holds, and of the first moment at which it no longer does
pub record IsWhy (m : Market) (h : History) (r : TrailRow) (i : Input) (text : List ℕ) : Type 0 where
  pub cause : ℕ
  pub count : ℕ
  pub passes : Option ℕ
  pub named : cause ≡ place_at i (answer_input m h i).replies
  pub counted : count ≡ count_at i (answer_input m h i).replies
  pub first : 1 ≤ cause → IsRefusedFor m h i cause count
  pub right : IsPassing passes m h i
  pub printed : text ≡ why_text m h r i cause count passes

-- the same of a row, after the run of the inputs of the rows before it
pub record IsWhyOf (m : Market) (rs : List TrailRow) (r : TrailRow) (text : List ℕ) : Type 0 where
  pub earlier : List Input
  pub emitted : AreOf rs earlier
  pub input : Input
  pub emits : Emits r input
  pub why : IsWhy m (run m earlier).history r input text

-- what was written is the text of the row of a trail with this number, and no other byte
pub record EmitsWhy (m : Market) (rs : List TrailRow) (number : ℕ) (before after : Option (List ℕ)) : Type 0 where
  pub row : TrailRow
  pub there : slice_get rs (number - 1) ≡ Some row
  pub text : List ℕ
  pub why : IsWhyOf m (take (number - 1) rs) row text
  pub written : Appends before after text

-- no row has this number
abbrev pub IsNoRow : List TrailRow → ℕ → Type 0
IsNoRow rs number = (number ≡ 0) ⊎ (length rs < number)

-- the fact, unless a write failed
abbrev pub UnlessWriting : WhyFault → Type 0 → Type 0
UnlessWriting fault.Output fact = ⊤
UnlessWriting fault.Memory fact = fact
UnlessWriting fault.NoRow fact = fact
