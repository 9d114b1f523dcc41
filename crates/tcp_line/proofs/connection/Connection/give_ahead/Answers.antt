use Rattle.std.proofs.Common.{◌≡◌, ◌≤◌, ◌++◌, ◌==◌, ◌∙◌, length, take, take-append-drop, length-take-le, ap, sym, arith}
use borrow.Rule.Slice.PartMut.{post_of}
use Rattle.std.proofs.lemmas.List.{take_at}
use Rattle.std.specs.Io.Buffered.{reader_buffer, reader_capacity}
use Rattle.tcp_line.proofs.Links.{given_ahead}
use Rattle.tcp_line.proofs.connection.Connection.give_ahead.Goals as goal

pub returns-clause-coming : goal.returns-clause-coming
returns-clause-coming g c =
    let old = c.self.inside.input in
    let new = c.consume.new.self in
    let count = c.min-count.result in
    let copied : c.copy_from_slice.new.self ≡ take count (reader_buffer old) = c.copy_from_slice.ensures.after ∙ ap (take count) c.buffer-ahead.ensures in
    let fits : count ≤ length (reader_buffer old) = omega (arith, c.min-count.ensures, ap length c.buffer-ahead.ensures) in
    let long = ap length copied ∙ length-take-le count (reader_buffer old) fits in
    rw (← c.self.view_is, c.consume.ensures.inner, c.consume.ensures.capacity)
    (given_ahead (reader_capacity old == 0) (g.I.Read.remaining old.inner) (reader_buffer old) (reader_buffer new) (take count (c.copy_from_slice.new.self ++ post_of 0 count c.args.buffer.now))
    (rw (take_at c.copy_from_slice.new.self _ count long, copied, c.consume.ensures.buffer) (sym (take-append-drop count (reader_buffer old)))))
