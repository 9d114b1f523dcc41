use Rattle.std.proofs.Common.{◌≡◌, refl, sym, ap, subst, inl, inr, ◌⊎◌, List, [], ◌∷◌, ◌++◌, append_assoc}
use Rattle.venue_rules.specs.declared.facts.Fact.{Fact}
use Rattle.venue_rules.specs.declared.replies.Reply.{Reply}
use Rattle.venue_rules.specs.Market.{Market}
use Rattle.venue_rules.specs.Answer.{Answer}
use Rattle.venue_rules.specs.Facts.{History, no_history}
use Rattle.venue_rules.specs.Run.{Input, answer_input, after, run_from, run}
use Rattle.venue_rules.proofs.Members.{In, In-append_cases, In-append_left, In-append_right}
use Rattle.venue_rules.proofs.EveryReport.{added, run_facts}
use Rattle.market_laws.proofs.Sources.{FactFrom, EachFrom-in}
use Rattle.market_laws.proofs.SourcesEach.{input-From}

-- The input that added a fact, and what it did.

-- the facts so far are among all facts, and the answer's replies among all replies
pub record AddedBy (m : Market) (h : History) (is : List Input) (f : Fact) : Type 0 where
  pub earlier : List Input
  pub input : Input
  pub later : List Input
  pub split : is ≡ earlier ++ (input ∷ later)
  pub here : In f (answer_input m (run_from m h earlier).history input).facts
  pub facts_before : (g : Fact) → In g (run_from m h earlier).history.facts → In g (h.facts ++ added m h is)
  pub facts_then : (g : Fact) → In g (answer_input m (run_from m h earlier).history input).facts → In g (h.facts ++ added m h is)
  pub replies_then : (r : Reply) → In r (answer_input m (run_from m h earlier).history input).replies → In r (run_from m h is).replies

added_by : (m : Market) (h : History) (is : List Input) (f : Fact) → In f (added m h is) → AddedBy m h is f
added_by m h [] f k = absurd k
added_by m h (i ∷ is) f k = either (In-append_cases a.facts (added m (after h a) is) f k) (added_by m (after h a) is f)
  where
    a : Answer
    a = answer_input m h i

    either : In f a.facts ⊎ In f (added m (after h a) is) → (In f (added m (after h a) is) → AddedBy m (after h a) is f) → AddedBy m h (i ∷ is) f
    either (inl here) rest = record {
      earlier = [];
      input = i;
      later = is;
      split = refl;
      here = here;
      facts_before = λ g j. In-append_left h.facts (a.facts ++ added m (after h a) is) g j;
      facts_then = λ g j. In-append_right h.facts (a.facts ++ added m (after h a) is) g (In-append_left a.facts (added m (after h a) is) g j);
      replies_then = λ r j. In-append_left a.replies (run_from m (after h a) is).replies r j;
    }
    either (inr there) rest =
        let k : AddedBy m (after h a) is f = rest there in
        let moved : (g : Fact) → In g ((h.facts ++ a.facts) ++ added m (after h a) is) → In g (h.facts ++ (a.facts ++ added m (after h a) is)) = λ g j. subst (λ fs. In g fs) (append_assoc h.facts a.facts (added m (after h a) is)) j in
        record {
          earlier = i ∷ k.earlier;
          input = k.input;
          later = k.later;
          split = ap (λ xs. i ∷ xs) k.split;
          here = k.here;
          facts_before = λ g j. moved g (k.facts_before g j);
          facts_then = λ g j. moved g (k.facts_then g j);
          replies_then = λ r j. In-append_right a.replies (run_from m (after h a) is).replies r (k.replies_then r j);
        }

-- over a whole list of inputs
pub added_in : (m : Market) (is : List Input) (f : Fact) → In f (run m is).history.facts → AddedBy m no_history is f
added_in m is f k = added_by m no_history is f (subst (λ fs. In f fs) (run_facts m no_history is) k)

pub all_facts : (m : Market) (is : List Input) (g : Fact) → In g (added m no_history is) → In g (run m is).history.facts
all_facts m is g j = subst (λ fs. In g fs) (sym (run_facts m no_history is)) j

-- the fact's circumstances in that answer
pub added_from : (m : Market) (is : List Input) (f : Fact) (k : AddedBy m no_history is f) →
    FactFrom m (run m k.earlier).history k.input (answer_input m (run m k.earlier).history k.input).facts (answer_input m (run m k.earlier).history k.input).replies f
added_from m is f k =
    let a : Answer = answer_input m (run m k.earlier).history k.input in
    EachFrom-in m (run m k.earlier).history k.input a.facts a.replies a.facts f (input-From m (run m k.earlier).history k.input) k.here

-- the input that added a reply

pub record RepliedBy (m : Market) (h : History) (is : List Input) (r : Reply) : Type 0 where
  pub earlier : List Input
  pub input : Input
  pub here : In r (answer_input m (run_from m h earlier).history input).replies
  pub facts_then : (g : Fact) → In g (answer_input m (run_from m h earlier).history input).facts → In g (h.facts ++ added m h is)

pub replied_by : (m : Market) (h : History) (is : List Input) (r : Reply) → In r (run_from m h is).replies → RepliedBy m h is r
replied_by m h [] r k = absurd k
replied_by m h (i ∷ is) r k = either (In-append_cases a.replies (run_from m (after h a) is).replies r k) (replied_by m (after h a) is r)
  where
    a : Answer
    a = answer_input m h i

    either : In r a.replies ⊎ In r (run_from m (after h a) is).replies → (In r (run_from m (after h a) is).replies → RepliedBy m (after h a) is r) → RepliedBy m h (i ∷ is) r
    either (inl here) rest = record {
      earlier = [];
      input = i;
      here = here;
      facts_then = λ g j. In-append_right h.facts (a.facts ++ added m (after h a) is) g (In-append_left a.facts (added m (after h a) is) g j);
    }
    either (inr there) rest =
        let k : RepliedBy m (after h a) is r = rest there in
        record {
          earlier = i ∷ k.earlier;
          input = k.input;
          here = k.here;
          facts_then = λ g j. subst (λ fs. In g fs) (append_assoc h.facts a.facts (added m (after h a) is)) (k.facts_then g j);
        }
