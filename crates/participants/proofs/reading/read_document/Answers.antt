use Rattle.std.proofs.Common.{◌≡◌, sym, ap, ◌∙◌, subst, length, nat_le, codes, Ok, IfOk, IfErr}
use Rattle.std.specs.List.{list_all}
use Rattle.std.proofs.lemmas.List.{length-map}
use Rattle.std.proofs.lemmas.List.Folds.{list_all-map}
use Rattle.toml.specs.View.{view}
use Rattle.participants.specs.Names.{is_name}
use Rattle.config_format.specs.Document.{text_at}
use Rattle.participants.specs.Reading.{Refuses, is_apart, named, named_pairs, names, participants, related_pairs}
use Rattle.config_format.proofs.ListLemmas.{all-seen, map-seen}
use Rattle.participants.proofs.SoundLemmas.{Sound, rows-read, sound}
use Rattle.participants.proofs.reading.read_document.Goals as goal

pub names_in-requires : goal.names_in-requires
names_in-requires c =
    let s : Sound (view c.args.file.now) = sound (view c.args.file.now) (sym c.is_missing.ensures ∙ c.if-is_missing.false) (sym c.has_bad_value.ensures ∙ c.if-has_bad_value.false) (sym c.has_too_many.ensures ∙ c.if-has_too_many.false) in
    all-seen (λ e. is_name (text_at (codes "name") e)) c.entries.result.now (participants (view c.args.file.now)) c.entries.ensures s.all

pub pairs_in-requires-clause-first : goal.pairs_in-requires-clause-first
pairs_in-requires-clause-first c =
    let s : Sound (view c.args.file.now) = sound (view c.args.file.now) (sym c.is_missing.ensures ∙ c.if-is_missing.false) (sym c.has_bad_value.ensures ∙ c.if-has_bad_value.false) (sym c.has_too_many.ensures ∙ c.if-has_too_many.false) in
    all-seen (λ e. is_name (named e).0) c.entries-2.result.now (related_pairs (view c.args.file.now)) c.entries-2.ensures s.first

pub pairs_in-requires-clause-second : goal.pairs_in-requires-clause-second
pairs_in-requires-clause-second c =
    let s : Sound (view c.args.file.now) = sound (view c.args.file.now) (sym c.is_missing.ensures ∙ c.if-is_missing.false) (sym c.has_bad_value.ensures ∙ c.if-has_bad_value.false) (sym c.has_too_many.ensures ∙ c.if-has_too_many.false) in
    all-seen (λ e. is_name (named e).1) c.entries-2.result.now (related_pairs (view c.args.file.now)) c.entries-2.ensures s.second

pub rows_of-requires-clause-some : goal.rows_of-requires-clause-some
rows_of-requires-clause-some c =
    let s : Sound (view c.args.file.now) = sound (view c.args.file.now) (sym c.is_missing.ensures ∙ c.if-is_missing.false) (sym c.has_bad_value.ensures ∙ c.if-has_bad_value.false) (sym c.has_too_many.ensures ∙ c.if-has_too_many.false) in
    let ns : c.in-Ok-names_in.names.items ≡ names (view c.args.file.now) = c.in-Ok-names_in.ensures ∙ map-seen (text_at (codes "name")) c.entries.result.now (participants (view c.args.file.now)) c.entries.ensures in
    ap (nat_le 1) (ap length ns ∙ length-map (participants (view c.args.file.now)) (text_at (codes "name"))) ∙ s.some

pub rows_of-requires-clause-all : goal.rows_of-requires-clause-all
rows_of-requires-clause-all c =
    let s : Sound (view c.args.file.now) = sound (view c.args.file.now) (sym c.is_missing.ensures ∙ c.if-is_missing.false) (sym c.has_bad_value.ensures ∙ c.if-has_bad_value.false) (sym c.has_too_many.ensures ∙ c.if-has_too_many.false) in
    let ns : c.in-Ok-names_in.names.items ≡ names (view c.args.file.now) = c.in-Ok-names_in.ensures ∙ map-seen (text_at (codes "name")) c.entries.result.now (participants (view c.args.file.now)) c.entries.ensures in
    ap (list_all is_name) ns ∙ (list_all-map is_name (text_at (codes "name")) (participants (view c.args.file.now)) ∙ s.all)

pub rows_of-requires-clause-apart : goal.rows_of-requires-clause-apart
rows_of-requires-clause-apart c =
    let s : Sound (view c.args.file.now) = sound (view c.args.file.now) (sym c.is_missing.ensures ∙ c.if-is_missing.false) (sym c.has_bad_value.ensures ∙ c.if-has_bad_value.false) (sym c.has_too_many.ensures ∙ c.if-has_too_many.false) in
    let ps : c.deref.result.now ≡ named_pairs (view c.args.file.now) = c.deref.ensures.value ∙ (c.in-Ok-pairs_in.ensures ∙ map-seen named c.entries-2.result.now (related_pairs (view c.args.file.now)) c.entries-2.ensures) in
    ap (list_all is_apart) ps ∙ s.apart

pub returns-clause-rows : goal.returns-clause-rows
returns-clause-rows c =
    let s : Sound (view c.args.file.now) = sound (view c.args.file.now) (sym c.is_missing.ensures ∙ c.if-is_missing.false) (sym c.has_bad_value.ensures ∙ c.if-has_bad_value.false) (sym c.has_too_many.ensures ∙ c.if-has_too_many.false) in
    let ns : c.in-Ok-names_in.names.items ≡ names (view c.args.file.now) = c.in-Ok-names_in.ensures ∙ map-seen (text_at (codes "name")) c.entries.result.now (participants (view c.args.file.now)) c.entries.ensures in
    let ps : c.deref.result.now ≡ named_pairs (view c.args.file.now) = c.deref.ensures.value ∙ (c.in-Ok-pairs_in.ensures ∙ map-seen named c.entries-2.result.now (related_pairs (view c.args.file.now)) c.entries-2.ensures) in
    let read = rows-read (view c.args.file.now) c.in-Ok.venue c.in-Ok-names_in.names.items c.deref.result.now s (c.in-Ok.ensures ∙ c.text_at.ensures) ns ps in
    subst (λ x. IfOk c.rows_of.result (λ rows. x ≡ Ok rows)) read c.rows_of.ensures.rows

pub returns-clause-fault : goal.returns-clause-fault
returns-clause-fault c =
    let s : Sound (view c.args.file.now) = sound (view c.args.file.now) (sym c.is_missing.ensures ∙ c.if-is_missing.false) (sym c.has_bad_value.ensures ∙ c.if-has_bad_value.false) (sym c.has_too_many.ensures ∙ c.if-has_too_many.false) in
    let ns : c.in-Ok-names_in.names.items ≡ names (view c.args.file.now) = c.in-Ok-names_in.ensures ∙ map-seen (text_at (codes "name")) c.entries.result.now (participants (view c.args.file.now)) c.entries.ensures in
    let ps : c.deref.result.now ≡ named_pairs (view c.args.file.now) = c.deref.ensures.value ∙ (c.in-Ok-pairs_in.ensures ∙ map-seen named c.entries-2.result.now (related_pairs (view c.args.file.now)) c.entries-2.ensures) in
    let read = rows-read (view c.args.file.now) c.in-Ok.venue c.in-Ok-names_in.names.items c.deref.result.now s (c.in-Ok.ensures ∙ c.text_at.ensures) ns ps in
    subst (λ x. IfErr c.rows_of.result (Refuses x)) read c.rows_of.ensures.fault
