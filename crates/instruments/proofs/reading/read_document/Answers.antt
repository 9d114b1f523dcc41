use Rattle.std.proofs.Common.{◌≡◌, sym, ap, ◌∙◌, subst, codes, length, nat_le, Ok, IfOk, IfErr}
use Rattle.std.specs.List.{list_all}
use Rattle.toml.specs.View.{view}
use Rattle.instruments.specs.Symbols.{is_symbol}
use Rattle.instruments.specs.Rows.{is_instrument, most_instruments}
use Rattle.config_format.specs.Document.{text_at}
use Rattle.instruments.specs.Reading.{Refuses, instruments, row_of, rows}
use Rattle.config_format.proofs.ListLemmas.{all-seen, map-seen}
use Rattle.instruments.proofs.SoundLemmas.{Sound, rows-read, sound}
use Rattle.instruments.proofs.reading.read_document.Goals as goal

pub rows_in-requires : goal.rows_in-requires
rows_in-requires c =
    let s : Sound (view c.args.file.now) = sound (view c.args.file.now) (sym c.is_missing.ensures ∙ c.if-is_missing.false) (sym c.has_bad_value.ensures ∙ c.if-has_bad_value.false) (sym c.has_too_many.ensures ∙ c.if-has_too_many.false) in
    all-seen (λ e. is_symbol (text_at (codes "symbol") e)) c.entries.result.now (instruments (view c.args.file.now)) c.entries.ensures s.symbols

pub rows_of-requires-clause-some : goal.rows_of-requires-clause-some
rows_of-requires-clause-some c =
    let s : Sound (view c.args.file.now) = sound (view c.args.file.now) (sym c.is_missing.ensures ∙ c.if-is_missing.false) (sym c.has_bad_value.ensures ∙ c.if-has_bad_value.false) (sym c.has_too_many.ensures ∙ c.if-has_too_many.false) in
    let found : c.in-Ok.rows.items ≡ rows (view c.args.file.now) = c.in-Ok.ensures ∙ map-seen row_of c.entries.result.now (instruments (view c.args.file.now)) c.entries.ensures in
    ap (λ xs. nat_le 1 (length xs)) found ∙ s.some

pub rows_of-requires-clause-few : goal.rows_of-requires-clause-few
rows_of-requires-clause-few c =
    let s : Sound (view c.args.file.now) = sound (view c.args.file.now) (sym c.is_missing.ensures ∙ c.if-is_missing.false) (sym c.has_bad_value.ensures ∙ c.if-has_bad_value.false) (sym c.has_too_many.ensures ∙ c.if-has_too_many.false) in
    let found : c.in-Ok.rows.items ≡ rows (view c.args.file.now) = c.in-Ok.ensures ∙ map-seen row_of c.entries.result.now (instruments (view c.args.file.now)) c.entries.ensures in
    ap (λ xs. nat_le (length xs) most_instruments) found ∙ s.few

pub rows_of-requires-clause-all : goal.rows_of-requires-clause-all
rows_of-requires-clause-all c =
    let s : Sound (view c.args.file.now) = sound (view c.args.file.now) (sym c.is_missing.ensures ∙ c.if-is_missing.false) (sym c.has_bad_value.ensures ∙ c.if-has_bad_value.false) (sym c.has_too_many.ensures ∙ c.if-has_too_many.false) in
    let found : c.in-Ok.rows.items ≡ rows (view c.args.file.now) = c.in-Ok.ensures ∙ map-seen row_of c.entries.result.now (instruments (view c.args.file.now)) c.entries.ensures in
    ap (list_all is_instrument) found ∙ s.all

pub returns-clause-rows : goal.returns-clause-rows
returns-clause-rows c =
    let s : Sound (view c.args.file.now) = sound (view c.args.file.now) (sym c.is_missing.ensures ∙ c.if-is_missing.false) (sym c.has_bad_value.ensures ∙ c.if-has_bad_value.false) (sym c.has_too_many.ensures ∙ c.if-has_too_many.false) in
    let found : c.in-Ok.rows.items ≡ rows (view c.args.file.now) = c.in-Ok.ensures ∙ map-seen row_of c.entries.result.now (instruments (view c.args.file.now)) c.entries.ensures in
    let read = rows-read (view c.args.file.now) c.in-Ok.rows.items s found in
    subst (λ x. IfOk c.rows_of.result (λ file. x ≡ Ok file)) read c.rows_of.ensures.rows

pub returns-clause-fault : goal.returns-clause-fault
returns-clause-fault c =
    let s : Sound (view c.args.file.now) = sound (view c.args.file.now) (sym c.is_missing.ensures ∙ c.if-is_missing.false) (sym c.has_bad_value.ensures ∙ c.if-has_bad_value.false) (sym c.has_too_many.ensures ∙ c.if-has_too_many.false) in
    let found : c.in-Ok.rows.items ≡ rows (view c.args.file.now) = c.in-Ok.ensures ∙ map-seen row_of c.entries.result.now (instruments (view c.args.file.now)) c.entries.ensures in
    let read = rows-read (view c.args.file.now) c.in-Ok.rows.items s found in
    subst (λ x. IfErr c.rows_of.result (Refuses x)) read c.rows_of.ensures.fault
