use Rattle.std.proofs.Common.{◌≡◌, List, None, ap, sym, ◌∙◌}
use Rattle.fix_fields.specs.Fields.{Entry}
use Rattle.fix_fields.specs.Views.{entries}
use Rattle.fix_validation.specs.declared.table.Row.{Row}
use Rattle.fix_validation.specs.Tables.{header_rows, rows_of}
use Rattle.fix_validation.specs.Positions.{LocatedFields, located, places, start}
use Rattle.fix_validation.specs.GroupFaults.{located_fault}
use Rattle.fix_validation.specs.GroupHolding.{Clean}
use Rattle.fix_decoder.proofs.PlaceLemmas.{clean}
use Rattle.fix_decoder.proofs.reading.read_grouped.Goals as goal

clean_of : (rows h1 h2 r1 r2 : List Row) (ps qs : List LocatedFields) (fields : List Entry) → h1 ≡ header_rows → r1 ≡ rows → h2 ≡ header_rows → r2 ≡ rows
    → ps ≡ located h1 r1 start fields → qs ≡ ps → located_fault h2 r2 qs fields ≡ None → Clean header_rows rows ps
clean_of rows h1 h2 r1 r2 ps qs fields a b c d p q f =
    let position : ps ≡ located header_rows rows start fields = rw (a, b) at p in
    let none : located_fault header_rows rows (located header_rows rows start fields) fields ≡ None = rw (c, d, q, position) at f in
    rw position (clean header_rows rows fields none)

pub grouped_message-requires-clause-clean : goal.grouped_message-requires-clause-clean
grouped_message-requires-clause-clean c =
    clean_of (rows_of c.args.kind 0) c.header.result.now c.header-2.result.now c.rows_of.result.now c.rows_of-2.result.now (places c.deref-in-None.result.now) (places c.deref.result.now) (entries c.args.fields.now)
    c.header.ensures (c.rows_of.ensures.grouped c.requires) c.header-2.ensures (c.rows_of-2.ensures.grouped c.requires)
    (ap places c.deref-in-None.ensures ∙ (rw c.in-Ok.is at c.located.ensures)) (ap places (c.deref.ensures ∙ sym c.deref-in-None.ensures)) (sym c.located_fault.ensures ∙ c.in-None.is)
