use Rattle.std.proofs.Common.{◌≡◌, ℕ, ◌+◌, List, ◌++◌, take, IfSome, option_map, subst, arith}
use Rattle.venue_main.proofs.Counts.{short_is_whole}
use Rattle.venue_main.proofs.files.text_of.Goals as goal

pub returns-clause-whole : goal.returns-clause-whole
returns-clause-whole g c =
    let known = g.R.Read.remaining c.take.result.inner in
    let text = c.read_to_end.new.buf.items in
    let all : IfSome (option_map (take (1048576 + 1)) known) (λ bytes. text ≡ c.new-text.result.items ++ bytes) =
    subst (λ (n : ℕ). IfSome (option_map (take n) known) (λ bytes. text ≡ c.new-text.result.items ++ bytes)) c.take.ensures.limit c.in-Ok.ensures.bytes in
    let read = subst (λ (before : List ℕ). IfSome (option_map (take (1048576 + 1)) known) (λ bytes. text ≡ before ++ bytes)) c.new-text.ensures.items all in
    rw (← c.take.ensures.inner) (short_is_whole known 1048576 text read (omega (arith, c.if-len-gt-MAX_FILE_SIZE.false, c.len.ensures, c.read_to_end.new.buf.ok.0)))
