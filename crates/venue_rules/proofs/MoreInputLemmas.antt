use Rattle.std.proofs.Common.{◌≡◌, refl, sym, ap, ◌∙◌, ℕ, suc, ◌+◌, Bool, true, false, ◌&&◌, List, [], ◌∷◌, ◌++◌, length, map, arith, append_assoc, append-nil}
use Rattle.std.specs.List.{enumerate_from}
use Rattle.std.proofs.lemmas.List.{map-append}
use Rattle.std.proofs.lemmas.List.Elements.{filter-append}
use Rattle.std.specs.Prelude.{◌==◌}
use Rattle.venue_rules.specs.declared.replies.Reply.{Reply}
use Rattle.venue_rules.specs.Market.{Market}
use Rattle.venue_rules.specs.Messages.{message}
use Rattle.venue_rules.specs.Facts.{History, no_history}
use Rattle.venue_rules.specs.Run.{Input, after, answer_input, is_timely_from, is_timely_input, replies_to, row, run, run_from}
use Rattle.venue_rules.specs.MoreInputs.{HistoriesJoin, HistoryGoesOn, OwedGoesOn, OwedJoins, RepliesGoOn, RepliesJoin, RowsGoOn, RowsJoin, TimelyGoesOn, TimelyJoins, said_to}

-- Further inputs, by induction on those before.

from_history : (m : Market) (h : History) (is js : List Input) → (run_from m h (is ++ js)).history ≡ (run_from m (run_from m h is).history js).history
from_history m h [] js = refl
from_history m h (i ∷ is) js = from_history m (after h (answer_input m h i)) is js

from_replies : (m : Market) (h : History) (is js : List Input) → (run_from m h (is ++ js)).replies ≡ (run_from m h is).replies ++ (run_from m (run_from m h is).history js).replies
from_replies m h [] js = refl
from_replies m h (i ∷ is) js =
    let a : List Reply = (answer_input m h i).replies in
    let k : History = after h (answer_input m h i) in
    ap (λ rs. a ++ rs) (from_replies m k is js) ∙ sym (append_assoc a (run_from m k is).replies (run_from m (run_from m k is).history js).replies)

and_assoc : (a b c : Bool) → (a && (b && c)) ≡ ((a && b) && c)
and_assoc true b c = refl
and_assoc false b c = refl

from_timely : (m : Market) (h : History) (is js : List Input) → is_timely_from m h (is ++ js) ≡ (is_timely_from m h is && is_timely_from m (run_from m h is).history js)
from_timely m h [] js = refl
from_timely m h (i ∷ is) js =
    let k : History = after h (answer_input m h i) in
    ap (λ b. is_timely_input h i && b) (from_timely m k is js) ∙ and_assoc (is_timely_input h i) (is_timely_from m k is) (is_timely_from m (run_from m k is).history js)

from_rows : (n : ℕ) (is js : List Input) → map (λ p. row p.0 p.1) (enumerate_from n (is ++ js)) ≡ map (λ p. row p.0 p.1) (enumerate_from n is) ++ map (λ p. row p.0 p.1) (enumerate_from (length is + n) js)
from_rows n [] js = ap (λ k. map (λ p. row p.0 p.1) (enumerate_from k js)) none
  where
    none : n ≡ 0 + n
    none = omega arith
from_rows n (i ∷ is) js = ap (λ rs. row n i ∷ rs) (from_rows (n + 1) is js ∙ ap (λ k. map (λ p. row p.0 p.1) (enumerate_from (n + 1) is) ++ map (λ p. row p.0 p.1) (enumerate_from k js)) (moved (length is)))
  where
    moved : (l : ℕ) → l + (n + 1) ≡ suc l + n
    moved l = omega arith

said_both : (who : ℕ) (rs more : List Reply) → said_to who (rs ++ more) ≡ said_to who rs ++ said_to who more
said_both who rs more = ap (map (λ (r : Reply). message r.what)) (filter-append (λ (r : Reply). r.to == who) rs more) ∙ map-append (λ (r : Reply). message r.what) (replies_to who rs) (replies_to who more)

pub histories_join : HistoriesJoin
histories_join m is js = from_history m no_history is js

pub replies_join : RepliesJoin
replies_join m is js = from_replies m no_history is js

pub owed_joins : OwedJoins
owed_joins m is js who = ap (said_to who) (replies_join m is js) ∙ said_both who (run m is).replies (run_from m (run m is).history js).replies

pub timely_joins : TimelyJoins
timely_joins m is js = from_timely m no_history is js

pub rows_join : RowsJoin
rows_join is js = from_rows 1 is js

-- one input is a list of one

pub history_goes_on : HistoryGoesOn
history_goes_on m is i = histories_join m is (i ∷ [])

pub replies_go_on : RepliesGoOn
replies_go_on m is i = replies_join m is (i ∷ []) ∙ ap (λ rs. (run m is).replies ++ rs) (append-nil (answer_input m (run m is).history i).replies)

pub owed_goes_on : OwedGoesOn
owed_goes_on m is i who = ap (said_to who) (replies_go_on m is i) ∙ said_both who (run m is).replies (answer_input m (run m is).history i).replies

and_true : (b : Bool) → (b && true) ≡ b
and_true true = refl
and_true false = refl

pub timely_goes_on : TimelyGoesOn
timely_goes_on m is i = timely_joins m is (i ∷ []) ∙ ap (λ b. is_timely_from m no_history is && b) (and_true (is_timely_input (run m is).history i))

pub rows_go_on : RowsGoOn
rows_go_on is i = rows_join is (i ∷ [])
