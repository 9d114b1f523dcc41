use Rattle.std.proofs.Common.{◌<◌, ℕ, subst, refl, set, length, IfSome, Option}
use Rattle.day_events.specs.Bests.{OthersStay}
use Rattle.day_events.proofs.Pricing.{adds_none, adds_one}
use Rattle.day_events.proofs.best.push_changes.Goals as goal

pub returns-in-None : goal.returns-in-None
returns-in-None c =
    let n = length c.args.venue.now.market.instruments in
    λ h is before stay. adds_none c.args.row.now before h.facts n c.args.tops.now.items c.args.bests.now.items (subst (λ (r : Option ℕ). OthersStay r n before h.facts) c.in-None.is stay)

pub returns-in_ok-push_changed-in-Some : goal.returns-in_ok-push_changed-in-Some
returns-in_ok-push_changed-in-Some c =
    let n = length c.args.venue.now.market.instruments in
    let place = c.in-Some.place in
    let now = c.top_of-now.result in
    let ts = c.args.tops.now.items in
    let low : place < n = subst (λ (r : Option ℕ). IfSome r (λ (x : ℕ). x < n)) c.in-Some.is c.requires.within in
    λ h is before stay.
    adds_one c.args.row.now before h.facts n place ts (set ts place now) c.args.bests.now.items c.push_changed.new.bests.items c.index.result.now now low (subst (λ (r : Option ℕ). OthersStay r n before h.facts) c.in-Some.is stay) c.index.ensures (c.top_of-now.ensures h is) refl c.in_ok-push_changed-in-Some.ensures
