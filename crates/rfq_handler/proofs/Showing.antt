use Rattle.std.proofs.Common.{◌≡◌, sym, ap, ◌∙◌, ℕ, Bool, true, false, List, [], ◌∷◌, ◌++◌, append-nil, Some}
use Rattle.fix_dictionary.specs.declared.messages.Quote.{Quote}
use Rattle.participants.specs.ParticipantFile.{ParticipantFile}
use Rattle.venue_rules.specs.declared.facts.Fact.{Fact}
use Rattle.venue_rules.specs.declared.facts.Room.{Room}
use Rattle.venue_rules.specs.declared.facts.RoomQuote.{RoomQuote}
use Rattle.venue_rules.specs.declared.replies.QuoteState.TheVariants as state
use Rattle.venue_rules.specs.declared.replies.SnapshotEntry.{SnapshotEntry}
use Rattle.venue_rules.specs.declared.replies.Reply.{Reply}
use Rattle.venue_rules.specs.Answer.{Sender}
use Rattle.venue_rules.specs.Book.{picture}
use Rattle.venue_rules.specs.Quotes.{quote_status}
use Rattle.rfq_handler.specs.Quoted.{quote_replies}
use Rattle.rfq_handler.specs.Sent.{prices_sent, quote_sent, rests, shown_unless}

-- the resting orders as a snapshot
pub rests-is : (book : List Fact) (x : ℕ) (es fs : List SnapshotEntry) → fs ≡ picture book x → es ≡ fs → es ≡ rests book x
unfolding rests
rests-is book x es fs e f = f ∙ e

-- the snapshot is sent or not

pub show-none : (quoted : Bool) (r : Room) (symbol : List ℕ) (es : List SnapshotEntry) (rs : List Reply) → quoted ≡ true → rs ≡ rs ++ shown_unless quoted r symbol es
show-none quoted r symbol es rs e = sym (ap (λ b. rs ++ shown_unless b r symbol es) e ∙ append-nil rs)

pub show-one : (quoted : Bool) (r : Room) (symbol : List ℕ) (es fs : List SnapshotEntry) (rs ss : List Reply) (x : Reply) → quoted ≡ false → es ≡ fs → x ≡ prices_sent r symbol es → ss ≡ rs ++ x ∷ [] → ss ≡ rs ++ shown_unless quoted r symbol fs
show-one quoted r symbol es fs rs ss x e f g h = h ∙ ap (λ y. rs ++ y ∷ []) (g ∙ ap (prices_sent r symbol) f) ∙ sym (ap (λ b. rs ++ shown_unless b r symbol fs) e)

-- all replies, by each of them
pub emitted-replies : (file : ParticipantFile) (book : List Fact) (s : Sender) (d : Quote) (quoted : Bool) (r : Room) (symbol : List ℕ) (q : RoomQuote) (sent : Reply) (first more replies : List Reply)
    → first ≡ quote_status s d (Some symbol) state.Accepted ∷ [] → more ≡ first ++ shown_unless quoted r symbol (rests book r.instrument) → sent ≡ quote_sent file r symbol q
    → replies ≡ more ++ sent ∷ []
    → replies ≡ quote_replies file book s d quoted r symbol q
unfolding quote_replies
emitted-replies file book s d quoted r symbol q sent first more replies is-first is-more is-sent emitted =
    emitted
    ∙ ap (λ x. x ++ sent ∷ []) (is-more ∙ ap (λ x. x ++ shown_unless quoted r symbol (rests book r.instrument)) is-first)
    ∙ ap (λ x. (quote_status s d (Some symbol) state.Accepted ∷ shown_unless quoted r symbol (rests book r.instrument)) ++ x ∷ []) is-sent
