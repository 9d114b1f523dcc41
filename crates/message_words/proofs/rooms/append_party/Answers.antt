use Rattle.std.proofs.Common.{◌∙◌}
use Rattle.std.proofs.lemmas.Result.{on_ok_weaker}
use Rattle.message_words.specs.Words.{party_words}
use Rattle.message_words.proofs.rooms.append_party.Goals as goal

pub returns : goal.returns
unfolding party_words
returns c = on_ok_weaker c.append_parts.result (λ e. e ∙ simp (c.bytes.ensures, c.as_slice.ensures.value, c.get.ensures.value, c.small_number.ensures, c.get-2.ensures.value, c.bytes-2.ensures)) c.append_parts.ensures
