-- The turns of a day have what a participant sent and what it is owed, and say what is kept row by row.
use Rattle.std.proofs.Common.{◌≡◌, ℕ, ◌==◌, Bool, true, false, List, [], ◌∷◌, ◌++◌, map, Option, None, Some, if◌then◌else◌, refl, sym, ap, ◌∙◌, append_assoc}
use Rattle.std.specs.List.{flat_map}
use Rattle.fix_dictionary.specs.declared.messages.App.{App}
use Rattle.participants.specs.Relations.{name_of}
use Rattle.venue_rules.specs.declared.replies.Reply.{Reply}
use Rattle.venue_rules.specs.Facts.{History, no_history}
use Rattle.venue_rules.specs.Market.{Market}
use Rattle.venue_rules.specs.Messages.{message}
use Rattle.venue_rules.specs.Run.{Input, after, answer_input, replies_to, run_from}
use Rattle.participant_activity.specs.declared.form.Form.{Form}
use Rattle.participant_activity.specs.declared.occasion.Occasion.{Occasion}
use Rattle.participant_activity.specs.Emitted.{text_of_turns}
use Rattle.participant_activity.specs.Kept.{Activity, no_activity}
use Rattle.participant_activity.specs.Laws.{ActivityIsItsOwn, KeptIsOfTurns, TurnsAreOwed, TurnsAreSent}
use Rattle.participant_activity.specs.Noting.{activity_from, after_all, after_owed, after_sent, after_turn, occasion_of}
use Rattle.participant_activity.specs.Replayed.{after_input, after_inputs, after_replies, after_row}
use Rattle.participant_activity.specs.Turns.{Turn, messages_owed, messages_sent, moment_of, owed_at, sent, sent_by, sent_with, to_messages, turns_at, turns_by, turns_from, turns_of}

-- lists that are joined

sent_join : (xs ys : List Turn) → messages_sent (xs ++ ys) ≡ messages_sent xs ++ messages_sent ys
sent_join [] ys = refl
sent_join (x ∷ xs) ys = ap (λ (l : List (ℕ × App)). sent_with x.moment x.sent ++ l) (sent_join xs ys) ∙ sym (append_assoc (sent_with x.moment x.sent) (messages_sent xs) (messages_sent ys))

owed_join : (xs ys : List Turn) → messages_owed (xs ++ ys) ≡ messages_owed xs ++ messages_owed ys
owed_join [] ys = refl
owed_join (x ∷ xs) ys = ap (λ (l : List App). x.owed ++ l) (owed_join xs ys) ∙ sym (append_assoc x.owed (messages_owed xs) (messages_owed ys))

to_messages_join : (xs ys : List Reply) → to_messages (xs ++ ys) ≡ to_messages xs ++ to_messages ys
to_messages_join [] ys = refl
to_messages_join (x ∷ xs) ys = ap (λ (l : List App). message x.what ∷ l) (to_messages_join xs ys)

kept_join : (who : ℕ) (xs ys : List Reply) → replies_to who (xs ++ ys) ≡ replies_to who xs ++ replies_to who ys
kept_join who [] ys = refl
kept_join who (x ∷ xs) ys = by (kept_join who xs ys) (x.to == who)
  where
    by : replies_to who (xs ++ ys) ≡ replies_to who xs ++ replies_to who ys → (b : Bool) → (if b then x ∷ replies_to who (xs ++ ys) else replies_to who (xs ++ ys)) ≡ (if b then x ∷ replies_to who xs else replies_to who xs) ++ replies_to who ys
    by rec true = ap (λ (l : List Reply). x ∷ l) rec
    by rec false = rec

-- the turn of one row

sent_one : (t : ℕ) (s : Option App) (owed : List App) → messages_sent (turns_at t s owed) ≡ sent_with t s
sent_one t None [] = refl
sent_one t None (x ∷ xs) = refl
sent_one t (Some s) owed = refl

append_none : (xs : List App) → xs ++ [] ≡ xs
append_none [] = refl
append_none (x ∷ xs) = ap (λ (l : List App). x ∷ l) (append_none xs)

owed_one : (t : ℕ) (s : Option App) (owed : List App) → messages_owed (turns_at t s owed) ≡ owed
owed_one t None [] = refl
owed_one t None (x ∷ xs) = append_none (x ∷ xs)
owed_one t (Some s) owed = append_none owed

-- and of all

sent_from : (m : Market) (who : ℕ) (h : History) (is : List Input) → messages_sent (turns_from m who h is) ≡ sent who is
sent_from m who h [] = refl
sent_from m who h (i ∷ is) =
    let a = answer_input m h i in
    let t = moment_of i in
    let s = sent_by who i in
    let owed = owed_at who a.replies in
    let rest = turns_from m who (after h a) is in
    sent_join (turns_at t s owed) rest ∙ (λ k. sent_one t s owed k ++ sent_from m who (after h a) is k)

pub turns_are_sent : TurnsAreSent
turns_are_sent m who is = sent_from m who no_history is

owed_from : (m : Market) (who : ℕ) (h : History) (is : List Input) → messages_owed (turns_from m who h is) ≡ to_messages (replies_to who (run_from m h is).replies)
owed_from m who h [] = refl
owed_from m who h (i ∷ is) =
    let a = answer_input m h i in
    let t = moment_of i in
    let s = sent_by who i in
    let owed = owed_at who a.replies in
    let rest = (run_from m (after h a) is).replies in
    owed_join (turns_at t s owed) (turns_from m who (after h a) is)
    ∙ ((λ k. owed_one t s owed k ++ owed_from m who (after h a) is k)
    ∙ sym (ap to_messages (kept_join who a.replies rest) ∙ to_messages_join (replies_to who a.replies) (replies_to who rest)))

pub turns_are_owed : TurnsAreOwed
turns_are_owed m who is = owed_from m who no_history is

-- What is kept.

-- the replies that are kept are those that are owed
replies_all : (a : Activity) (who t : ℕ) (o : Occasion) (rs : List Reply) → after_replies a who t o rs ≡ after_all a t o (owed_at who rs)
replies_all a who t o [] = refl
replies_all a who t o (r ∷ rs) = by (λ x. replies_all x who t o rs) (r.to == who)
  where
    by : ((x : Activity) → after_replies x who t o rs ≡ after_all x t o (owed_at who rs)) → (b : Bool) → after_replies (if b then after_owed a t o (message r.what) else a) who t o rs ≡ after_all a t o (to_messages (if b then r ∷ replies_to who rs else replies_to who rs))
    by rec true = rec (after_owed a t o (message r.what))
    by rec false = rec a

-- a row at which a participant neither sends nor is owed anything changes nothing
turn_one : (a : Activity) (t : ℕ) (s : Option App) (owed : List App) (rest : List Turn) → activity_from a (turns_at t s owed ++ rest) ≡ activity_from (after_all (after_sent a t s) t (occasion_of s) owed) rest
turn_one a t None [] rest = refl
turn_one a t None (x ∷ xs) rest = refl
turn_one a t (Some s) owed rest = refl

kept_from : (m : Market) (who : ℕ) (h : History) (a : Activity) (is : List Input) → after_inputs m who h a is ≡ activity_from a (turns_from m who h is)
kept_from m who h a [] = refl
kept_from m who h a (i ∷ is) =
    let answer = answer_input m h i in
    let t = moment_of i in
    let s = sent_by who i in
    let o = occasion_of s in
    let owed = owed_at who answer.replies in
    let next = after_input a who i answer.replies in
    kept_from m who (after h answer) next is
    ∙ (ap (λ (x : Activity). activity_from x (turns_from m who (after h answer) is)) (replies_all (after_sent a t s) who t o answer.replies)
    ∙ sym (turn_one a t s owed (turns_from m who (after h answer) is)))

pub kept_is_of_turns : KeptIsOfTurns
kept_is_of_turns m who is = kept_from m who no_history no_activity is

pub activity_is_its_own : ActivityIsItsOwn
activity_is_its_own form m n who other is js name turns = λ k. text_of_turns form (name k) (turns k)
