use Rattle.std.proofs.Common.{◌≡◌, ℕ, List, IfOk, map, ap, ◌∙◌}
use Rattle.frame_explanation.specs.declared.frames.Found.{Found}
use Rattle.frame_explanation.specs.declared.log_items.Heard.{Heard}
use Rattle.venue_rules.specs.Market.{Market}
use Rattle.frame_explanation.specs.Explanation.{Hears, IsOf}
use Rattle.frame_explanation.specs.Frames.{found_in}
use Rattle.frame_explanation.specs.Listing.{items, seen}
use Rattle.frame_explanation.proofs.Outcomes.{so_if}
use Rattle.frame_explanation.proofs.explaining.heard_of.Goals as goal

pub returns : goal.returns
returns c =
    let names = c.args.names.now in
    let log = c.args.log.now in
    let market : Market = record { participants = c.args.participants; instruments = c.args.instruments } in
    let listed = c.in_ok-listed.listed.items in
    let lists : map seen listed ≡ items names log (found_in log) = c.in_ok-listed.ensures ∙ ap (λ (l : List Found). items names log l) (c.deref.ensures.value ∙ c.in_ok-found.ensures) in
    so_if c.answered.result (λ heard. Hears market listed heard.items) (λ heard. IsOf market names log heard.items)
    (λ heard h. record { listed = listed; lists = lists; hears = h }) c.answered.ensures
