use Rattle.std.specs.Prelude.{Bool, List, ◌++◌, if◌then◌else◌}
use Rattle.venue_rules.specs.declared.facts.Fact.{Fact}
use Rattle.venue_rules.specs.declared.replies.Reply.{Reply}
use Rattle.venue_rules.specs.Answer.{Answer}

-- an answer in its parts: the facts of the held sides and of the book, which of them come first, and the replies
pub record Parts : Type 0 where
  pub delay_first : Bool
  pub delay : List Fact
  pub book : List Fact
  pub replies : List Reply

-- the answer with these parts
abbrev pub answer_of : Parts → Answer
answer_of p = record { facts = if p.delay_first then p.delay ++ p.book else p.book ++ p.delay; replies = p.replies }

-- the answer with the book's facts alone
abbrev pub book_answer_of : Parts → Answer
book_answer_of p = record { facts = p.book; replies = p.replies }
