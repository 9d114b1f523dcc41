use Rattle.std.proofs.Common.{◌≡◌, sym, ap, ◌∙◌, subst, List, [], ◌∷◌, ◌++◌, append_assoc, append-nil}
use Rattle.venue_rules.specs.declared.replies.Reply.{Reply}
use Rattle.venue_rules.specs.Answer.{Answer}
use Rattle.venue_rules.specs.Facts.{History, no_history}
use Rattle.venue_rules.specs.Market.{Market}
use Rattle.venue_rules.specs.Run.{Input, Outcome, after, answer_input, run, run_from}
use Rattle.venue_core.specs.State.{VenueFacts, State}
use Rattle.venue_core.specs.VenueFacts.{IsAfter, IsAnswer, IsHistory, IsStanding}
use Rattle.venue_core.specs.Taking.{IsSame, Stands, Takes, TakesAll}

-- a run with a further input: the run, and then its answer
abbrev one_more : Market → Outcome → Input → Outcome
one_more m o i = record { history = after o.history (answer_input m o.history i); replies = o.replies ++ (answer_input m o.history i).replies }

abbrev behind : List Reply → Outcome → Outcome
behind rs o = record { history = o.history; replies = rs ++ o.replies }

behind-more : (m : Market) (rs : List Reply) (o : Outcome) (i : Input) → behind rs (one_more m o i) ≡ one_more m (behind rs o) i
behind-more m rs o i = ap (λ replies. let p : Outcome = record { history = after o.history (answer_input m o.history i); replies = replies } in p) (sym (append_assoc rs o.replies (answer_input m o.history i).replies))

run-more : (m : Market) (h : History) (is : List Input) (i : Input) → run_from m h (is ++ i ∷ []) ≡ one_more m (run_from m h is) i
run-more m h [] i = ap (λ replies. let p : Outcome = record { history = after h (answer_input m h i); replies = replies } in p) (append-nil (answer_input m h i).replies)
run-more m h (j ∷ is) i = ap (behind (answer_input m h j).replies) (run-more m (after h (answer_input m h j)) is i) ∙ behind-more m (answer_input m h j).replies (run_from m (after h (answer_input m h j)) is) i

-- the answer taken is that of the rules, in this market
taken-answer : (m : Market) (h : History) (i : Input) (s s' : State) (a : Answer) → s.market ≡ m → IsHistory s h → Takes s i a s' → a ≡ answer_input m h i
taken-answer m h i s s' a e stands takes = takes.answers h stands ∙ ap (λ (n : Market). answer_input n h i) e

taken-history : (m : Market) (h : History) (i : Input) (s s' : State) (a : Answer) → s.market ≡ m → IsHistory s h → Takes s i a s' → IsHistory s' (after h (answer_input m h i))
taken-history m h i s s' a e stands takes = subst (λ (b : Answer). IsHistory s' (after h b)) (taken-answer m h i s s' a e stands takes) (takes.goes h stands)

pub applied : (i : Input) (s between s' : State) (a : Answer) → IsSame s between → IsAnswer s i a → s'.market ≡ between.market → IsAfter between a s' → Takes s i a s'
applied i s between s' a same answers market goes = record {
  market = market ∙ same.market;
  answers = answers;
  goes = λ h stands. goes h (subst (λ (p : VenueFacts). IsStanding p h) (sym same.day) stands);
}

pub stands-on : (m : Market) (is : List Input) (i : Input) (s s' : State) (a : Answer) → Stands m is s → Takes s i a s' → Stands m (is ++ i ∷ []) s'
stands-on m is i s s' a st takes = record {
  market = takes.market ∙ st.market;
  history = subst (λ (o : Outcome). IsHistory s' o.history) (sym (run-more m no_history is i)) (taken-history m (run m is).history i s s' a st.market st.history takes);
}

pub replies-on : (m : Market) (is : List Input) (i : Input) (s s' : State) (a : Answer) → Stands m is s → Takes s i a s' → (run m (is ++ i ∷ [])).replies ≡ (run m is).replies ++ a.replies
replies-on m is i s s' a st takes =
    ap (λ (o : Outcome). o.replies) (run-more m no_history is i)
    ∙ ap (λ (b : Answer). (run m is).replies ++ b.replies) (sym (taken-answer m (run m is).history i s s' a st.market st.history takes))

-- from a history on, inputs lead where the rules' run leads, with its replies
record Led (m : Market) (h : History) (is : List Input) (s' : State) (emitted : List Reply) : Type 0 where
  pub market : s'.market ≡ m
  pub history : IsHistory s' (run_from m h is).history
  pub replies : emitted ≡ (run_from m h is).replies

led : (m : Market) (h : History) (is : List Input) (s s' : State) (replies : List Reply) → s.market ≡ m → IsHistory s h → TakesAll s is replies s' → Led m h is s' replies
led m h [] s s' replies e stands same = record {
  market = same.0.market ∙ e;
  history = subst (λ (p : VenueFacts). IsStanding p h) (sym same.0.day) stands;
  replies = same.1;
}
led m h (i ∷ is) s s' replies e stands t =
    let answer = taken-answer m h i s t.between t.first e stands t.takes in
    let rest = led m (after h (answer_input m h i)) is t.between s' t.more (t.takes.market ∙ e) (taken-history m h i s t.between t.first e stands t.takes) t.rest in
    record {
      market = rest.market;
      history = rest.history;
      replies = t.all ∙ ap (λ (b : Answer). b.replies ++ t.more) answer ∙ ap (λ rs. (answer_input m h i).replies ++ rs) rest.replies;
    }

pub day-run : (m : Market) (is : List Input) (s s' : State) (replies : List Reply) → s.market ≡ m → IsHistory s no_history → TakesAll s is replies s' → Stands m is s' × (replies ≡ (run m is).replies)
day-run m is s s' replies e stands t =
    let l = led m no_history is s s' replies e stands t in
    (record { market = l.market; history = l.history }, l.replies)
