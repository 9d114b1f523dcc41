use Rattle.std.proofs.Common.{◌≡◌, sym, ap, ◌∙◌, map, option_map, length, ◌==◌}
use Rattle.std.proofs.lemmas.List.{length-map}
use Rattle.toml.specs.Data.{get}
use Rattle.toml.specs.View.{array_view, view}
use Rattle.config_format.proofs.DocumentLemmas.{is_without_entry-array}
use Rattle.config_format.proofs.document.is_without_entry.Goals as goal

pub returns : goal.returns
returns c =
    let list : length c.as_slice.result.now ≡ length (map view c.in-Some.list.now.items) = ap length c.as_slice.ensures.value ∙ sym (length-map c.in-Some.list.now.items view) in
    c.is_empty.ensures ∙ (ap (λ n. n == 0) list
    ∙ sym (is_without_entry-array (get c.args.key.now (view c.args.file.now)) c.in-Some.list.now.items (ap (option_map (λ list. array_view list.now)) (sym c.in-Some.is) ∙ c.list_at.ensures)))
