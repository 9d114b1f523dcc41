use Rattle.std.specs.Prelude.{◌≡◌, ℕ, List, map, option_map}
use Rattle.fix_dictionary.specs.declared.messages.App.{App}
use Rattle.fix_dictionary.specs.declared.messages.App.TheVariants.{QuoteRequest}
use Rattle.fix_dictionary.specs.declared.messages.Party.{Party}
use Rattle.participants.specs.ParticipantFile.{ParticipantFile}
use Rattle.participants.specs.Relations.{find_participant, name_of, related}
use Rattle.venue_rules.specs.declared.facts.Fact.{Fact}
use Rattle.venue_rules.specs.declared.facts.Fact.TheVariants.{Entered, Traded, Removed, Held, Unheld, Asked, Quoted, Withdrawn, Closed}
use Rattle.venue_rules.specs.declared.facts.Entry.{Entry}
use Rattle.venue_rules.specs.declared.facts.OrderFact.{OrderFact}
use Rattle.venue_rules.specs.declared.facts.Trade.{Trade}
use Rattle.venue_rules.specs.declared.facts.HeldSide.{HeldSide}
use Rattle.venue_rules.specs.declared.facts.Room.{Room}
use Rattle.venue_rules.specs.declared.facts.RoomQuote.{RoomQuote}
use Rattle.venue_rules.specs.declared.replies.Reply.{Reply}
use Rattle.venue_rules.specs.declared.replies.ReplyBody.{ReplyBody}
use Rattle.venue_rules.specs.declared.replies.ReplyBody.TheVariants.{QuoteSent}
use Rattle.venue_rules.specs.Market.{Market}
use Rattle.venue_rules.specs.Run.{Input, Message, Outcome, Tick, run}

-- The same participants under other places and other names.

-- a new place for each place, and a new name for each name
pub record Renaming : Type 0 where
  pub place : ℕ → ℕ
  pub name : List ℕ → List ℕ

-- the second file has the participants of the first at their new places, under their new names, with the same pairs
-- related; different participants stay different
pub record IsRenamed (r : Renaming) (old_file new_file : ParticipantFile) : Type 0 where
  pub apart : (a b : ℕ) → r.place a ≡ r.place b → a ≡ b
  pub found : (name : List ℕ) → find_participant new_file (r.name name) ≡ option_map r.place (find_participant old_file name)
  pub named : (who : ℕ) → name_of new_file (r.place who) ≡ r.name (name_of old_file who)
  pub pairs : (a b : ℕ) → related new_file (r.place a) (r.place b) ≡ related old_file a b

abbrev pub renamed_order : Renaming → OrderFact → OrderFact
renamed_order r o = record o { who = r.place o.who }

abbrev pub renamed_entry : Renaming → Entry → Entry
renamed_entry r e = record e { order = renamed_order r e.order }

abbrev pub renamed_trade : Renaming → Trade → Trade
renamed_trade r t = record t { buyer = r.place t.buyer; seller = r.place t.seller }

abbrev pub renamed_held : Renaming → HeldSide → HeldSide
renamed_held r h = record h { order = renamed_order r h.order }

abbrev pub renamed_room : Renaming → Room → Room
renamed_room r x = record x { requester = r.place x.requester; recipients = map r.place x.recipients }

abbrev pub renamed_quote : Renaming → RoomQuote → RoomQuote
renamed_quote r q = record q { maker = r.place q.maker }

abbrev pub renamed_fact : Renaming → Fact → Fact
renamed_fact r (Entered e) = Entered (renamed_entry r e)
renamed_fact r (Traded t) = Traded (renamed_trade r t)
renamed_fact r (Removed x) = Removed (record x { who = r.place x.who })
renamed_fact r (Held h) = Held (renamed_held r h)
renamed_fact r (Unheld u) = Unheld (record u { who = r.place u.who })
renamed_fact r (Asked x) = Asked (renamed_room r x)
renamed_fact r (Quoted q) = Quoted (renamed_quote r q)
renamed_fact r (Withdrawn w) = Withdrawn w
renamed_fact r (Closed c) = Closed c

-- of all messages sent, a quote sent on alone names a participant
abbrev pub renamed_body : Renaming → ReplyBody → ReplyBody
renamed_body r (QuoteSent q) = QuoteSent (record q { maker = r.name q.maker })
renamed_body r body = body

abbrev pub renamed_reply : Renaming → Reply → Reply
renamed_reply r x = record { to = r.place x.to; what = renamed_body r x.what }

-- of all messages taken, a request alone names participants
abbrev pub renamed_app : Renaming → App → App
renamed_app r (QuoteRequest d) = QuoteRequest (record d { parties = map (λ (p : Party). record p { id = r.name p.id }) d.parties })
renamed_app r app = app

abbrev pub renamed_input : Renaming → Input → Input
renamed_input r (Message taken t) = Message (record taken { from = r.place taken.from; item = record taken.item { app = renamed_app r taken.item.app } }) t
renamed_input r (Tick t) = Tick t

abbrev pub renamed_outcome : Renaming → Outcome → Outcome
renamed_outcome r o = record { history = record { facts = map (renamed_fact r) o.history.facts; reports = o.history.reports }; replies = map (renamed_reply r) o.replies }

-- who a participant is, and how it is called, changes nothing but that: the same inputs of renamed participants have
-- the same answers, to the renamed ones (17 CFR 37.3(a)(3), 37.202(a))
abbrev pub NobodyIsPreferred : Type 0
NobodyIsPreferred =
    (m : Market) (r : Renaming) (new_file : ParticipantFile) (is : List Input) → IsRenamed r m.participants new_file → run (record { participants = new_file; instruments = m.instruments }) (map (renamed_input r) is) ≡ renamed_outcome r (run m is)
