use Rattle.std.proofs.lemmas.Result.{on_ok_weaker}
use Rattle.trail_answers.proofs.sought.note_row.Goals as goal

pub returns : goal.returns
returns c = λ t. on_ok_weaker c.note_talk.result (λ e k. record { life = c.in_ok-note_life.ensures t k; talk = e k }) (c.note_talk.ensures t)
