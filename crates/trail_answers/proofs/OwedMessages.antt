-- What is printed of one participant is what it is owed.
use Rattle.std.proofs.Common.{◌≡◌, ℕ, ◌==◌, Bool, true, false, List, [], ◌∷◌, ◌++◌, map, Option, if◌then◌else◌, refl, sym, ap, ◌∙◌, subst, append_assoc}
use Rattle.std.specs.List.{flat_map}
use Rattle.std.specs.Io.KnownBytes.{Appends}
use Rattle.fix_dictionary.specs.declared.messages.App.{App}
use Rattle.participants.specs.ParticipantFile.{ParticipantFile}
use Rattle.venue_rules.specs.declared.replies.Reply.{Reply}
use Rattle.venue_rules.specs.declared.trail.TrailRow.{TrailRow}
use Rattle.venue_rules.specs.Facts.{History, no_history}
use Rattle.venue_rules.specs.Market.{Market}
use Rattle.venue_rules.specs.Messages.{message}
use Rattle.venue_rules.specs.Run.{Input, after, answer_input, replies_to, run_from}
use Rattle.venue_core.specs.Replay.{AreEmitted}
use Rattle.message_words.specs.declared.form.Form.{Form}
use Rattle.trail_answers.specs.Entries.{heading, reply_if, reply_text}
use Rattle.trail_answers.specs.Laws.{MessagesAreOwed, MessagesAreEmitted}
use Rattle.trail_answers.specs.Owed.{OwedMessage, EmitsOwed, owed_message, owed_message_text, owed_messages_from, owed_messages_of, messages, owed_to}
use Rattle.trail_answers.specs.Emitted.{EmitsAnswers, emitted_from, or_none}
use Rattle.trail_answers.specs.Sought.{Seen, seen_after, unseen}

abbrev to_messages : List Reply → List App
to_messages rs = map (λ (r : Reply). message r.what) rs

-- lists that are joined

messages_join : (xs ys : List OwedMessage) → messages (xs ++ ys) ≡ messages xs ++ messages ys
messages_join [] ys = refl
messages_join (x ∷ xs) ys = ap (λ (l : List App). x.message ∷ l) (messages_join xs ys)

to_messages_join : (xs ys : List Reply) → to_messages (xs ++ ys) ≡ to_messages xs ++ to_messages ys
to_messages_join [] ys = refl
to_messages_join (x ∷ xs) ys = ap (λ (l : List App). message x.what ∷ l) (to_messages_join xs ys)

kept_join : (who : ℕ) (xs ys : List Reply) → replies_to who (xs ++ ys) ≡ replies_to who xs ++ replies_to who ys
kept_join who [] ys = refl
kept_join who (x ∷ xs) ys = by (kept_join who xs ys) (x.to == who)
  where
    by : replies_to who (xs ++ ys) ≡ replies_to who xs ++ replies_to who ys → (b : Bool) → (if b then x ∷ replies_to who (xs ++ ys) else replies_to who (xs ++ ys)) ≡ (if b then x ∷ replies_to who xs else replies_to who xs) ++ replies_to who ys
    by rec true = ap (λ (l : List Reply). x ∷ l) rec
    by rec false = rec

texts_join : (f : OwedMessage → List ℕ) (xs ys : List OwedMessage) → flat_map f (xs ++ ys) ≡ flat_map f xs ++ flat_map f ys
texts_join f [] ys = refl
texts_join f (x ∷ xs) ys = ap (λ (l : List ℕ). f x ++ l) (texts_join f xs ys) ∙ sym (append_assoc (f x) (flat_map f xs) (flat_map f ys))

-- the messages owed at one row

row_messages : (r : TrailRow) (rs : List Reply) → messages (map (owed_message r) rs) ≡ to_messages rs
row_messages r [] = refl
row_messages r (x ∷ xs) = ap (λ (l : List App). message x.what ∷ l) (row_messages r xs)

row_texts : (form : Form) (file : ParticipantFile) (r : TrailRow) (rs : List Reply) → flat_map (reply_text form file r) rs ≡ flat_map (owed_message_text form file) (map (owed_message r) rs)
row_texts form file r [] = refl
row_texts form file r (x ∷ xs) = ap (λ (l : List ℕ). reply_text form file r x ++ l) (row_texts form file r xs)

-- and of all

owed_from : (m : Market) (who : ℕ) (h : History) (rs : List TrailRow) (is : List Input) → AreEmitted rs is → messages (owed_messages_from m who h rs is) ≡ to_messages (replies_to who (run_from m h is).replies)
owed_from m who h [] [] emitted = refl
owed_from m who h [] (i ∷ is) emitted = absurd emitted
owed_from m who h (r ∷ rs) [] emitted = absurd emitted
owed_from m who h (r ∷ rs) (i ∷ is) emitted =
    let a = answer_input m h i in
    let here = replies_to who a.replies in
    let rest = (run_from m (after h a) is).replies in
    messages_join (map (owed_message r) here) (owed_messages_from m who (after h a) rs is)
    ∙ (λ k. row_messages r here k ++ owed_from m who (after h a) rs is emitted.1 k)
    ∙ sym (ap to_messages (kept_join who a.replies rest) ∙ to_messages_join here (replies_to who rest))

pub owed_messages_owed : MessagesAreOwed
owed_messages_owed m who rs is emitted = owed_from m who no_history rs is emitted

-- the replies that are kept are those that are emitted
pub kept_texts : (form : Form) (file : ParticipantFile) (r : TrailRow) (who : ℕ) (rs : List Reply) → flat_map (reply_if form file r who) rs ≡ flat_map (reply_text form file r) (replies_to who rs)
kept_texts form file r who [] = refl
kept_texts form file r who (x ∷ xs) = by (kept_texts form file r who xs) (x.to == who)
  where
    by : flat_map (reply_if form file r who) xs ≡ flat_map (reply_text form file r) (replies_to who xs) → (b : Bool) → (if b then reply_text form file r x else []) ++ flat_map (reply_if form file r who) xs ≡ flat_map (reply_text form file r) (if b then x ∷ replies_to who xs else replies_to who xs)
    by rec true = ap (λ (l : List ℕ). reply_text form file r x ++ l) rec
    by rec false = rec

emitted_owed_messages : (form : Form) (m : Market) (who : ℕ) (known : Seen) (h : History) (rs : List TrailRow) (is : List Input)
    → emitted_from form m (owed_to who) known h rs is ≡ flat_map (owed_message_text form m.participants) (owed_messages_from m who h rs is)
emitted_owed_messages form m who known h [] is = refl
emitted_owed_messages form m who known h (r ∷ rs) [] = refl
emitted_owed_messages form m who known h (r ∷ rs) (i ∷ is) =
    let a = answer_input m h i in
    let here = replies_to who a.replies in
    (λ k. (kept_texts form m.participants r who a.replies ∙ row_texts form m.participants r here) k ++ emitted_owed_messages form m who (seen_after (owed_to who) known i a.replies) (after h a) rs is k)
    ∙ sym (texts_join (owed_message_text form m.participants) (map (owed_message r) here) (owed_messages_from m who (after h a) rs is))

pub owed_messages_emitted : MessagesAreEmitted
owed_messages_emitted form m who rs is = ap (λ (l : List ℕ). heading form ++ l) (emitted_owed_messages form m who (unseen (owed_to who)) no_history rs is)

-- the output for one participant is what it is owed
pub emits_owed : MessagesAreOwed → MessagesAreEmitted → (form : Form) (m : Market) (rs : List TrailRow) (who : ℕ) (before after : Option (List ℕ)) → EmitsAnswers form m (owed_to who) rs before after → EmitsOwed form m rs who before after
emits_owed law same form m rs who before after emitted = record {
  items = emitted.items;
  emitted = emitted.emitted;
  owed_messages = owed_messages_of m who rs emitted.items;
  owes = law m who rs emitted.items emitted.emitted.emitted;
  rows = refl;
  written = subst (λ (text : List ℕ). Appends before after (or_none form text)) (same form m who rs emitted.items) emitted.written;
}
