use Rattle.std.proofs.Common.{ℕ, List, ◌<◌, ◌≤◌, ◌++◌, ◌∙◌, ap, length, map, subst}
use Rattle.instruments.specs.declared.instruments.Instrument.{Instrument}
use Rattle.venue_rules.specs.declared.replies.SnapshotEntry.{SnapshotEntry}
use Rattle.instrument_charts.specs.Rests.{rest_of, rests}
use Rattle.instrument_charts.proofs.Walks.{books_on, books_out}
use Rattle.instrument_charts.proofs.rests.rests_of.Goals as goal

pub loop-instrument-preserved : goal.loop-instrument-preserved
loop-instrument-preserved c = λ h is.
    let n = length c.args.venue.now.market.instruments in
    let same = c.len-instrument-end.ensures.count ∙ ap (λ (l : List Instrument). length l) c.instruments.ensures in
    books_on h.facts c.loop-instrument.instrument n c.loop-instrument.rests.items c.push_book.new.rests.items (rests h.facts n)
    (subst (λ (k : ℕ). c.loop-instrument.instrument < k) same c.loop-instrument-test.true)
    (c.in_ok-push_book.ensures ∙ ap (λ (l : List SnapshotEntry). c.loop-instrument.rests.items ++ map (rest_of c.loop-instrument.instrument) l) (c.deref.ensures.value ∙ c.in_ok-book.ensures h is))
    (c.loop-instrument.invariant h is)

pub returns : goal.returns
returns c = λ h is.
    let n = length c.args.venue.now.market.instruments in
    let same = c.len-instrument-end.ensures.count ∙ ap (λ (l : List Instrument). length l) c.instruments.ensures in
    books_out h.facts c.loop-instrument.instrument n c.loop-instrument.rests.items (rests h.facts n)
    (subst (λ (k : ℕ). k ≤ c.loop-instrument.instrument) same c.loop-instrument-test.false)
    (c.loop-instrument.invariant h is)
