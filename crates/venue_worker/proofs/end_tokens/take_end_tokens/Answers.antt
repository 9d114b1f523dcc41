use Rattle.std.proofs.Common.{◌<◌, length, arith, refl, ◌∙◌, length-set}
use Rattle.venue_worker.proofs.Lists.{at_read, still_old}
use Rattle.venue_worker.proofs.Running.{tokens_set, one_token_taken, one_token_untaken, none_polled, one_polled, polled_by, one_awaited}
use Rattle.venue_worker.proofs.end_tokens.take_end_tokens.Goals as goal

pub loop-k-preserved : goal.loop-k-preserved
loop-k-preserved c =
    let v = c.loop-k.invariant in
    let xs = c.loop-k.takes.items in
    let k = c.loop-k.k in
    let low : k < length xs = omega (arith, c.loop-k-test.true, c.len-count.ensures, c.args.takes.now.ok.0, v.count) in
    let here = at_read xs k c.index_mut.result.now low c.index_mut.ensures.value in
    let e = c.take_end_token.ensures in
    record {
      own = tokens_set c.args.board.now xs k c.index_mut.result.now c.take_end_token.new.take here e.end.0 e.end.1 v.own;
      count = length-set xs k c.take_end_token.new.take ∙ v.count;
      tokens_taken = one_token_taken xs k c.index_mut.result.now c.take_end_token.new.take here c.if-not-take_end_token.ensures.taken v.tokens_taken;
      polled = one_polled c.args.takes.now.items xs k c.index_mut.result.now c.take_end_token.new.take (v.still k (omega arith)) here (polled_by c.take_end_token.result c.index_mut.result.now c.take_end_token.new.take ((v.tokens_taken k c.index_mut.result.now here).1 (omega arith)) e.looked e.taken e.there e.absent) v.polled;
      still = still_old c.args.takes.now.items xs k c.take_end_token.new.take v.still;
    }

pub returns-then-not-take_end_token : goal.returns-then-not-take_end_token
returns-then-not-take_end_token c =
    let v = c.loop-k.invariant in
    let xs = c.loop-k.takes.items in
    let k = c.loop-k.k in
    let low : k < length xs = omega (arith, c.loop-k-test.true, c.len-count.ensures, c.args.takes.now.ok.0, v.count) in
    let here = at_read xs k c.index_mut.result.now low c.index_mut.ensures.value in
    let e = c.take_end_token.ensures in
    let long = length-set xs k c.take_end_token.new.take in
    let same = c.if-not-take_end_token.ensures.taken in
    record {
      own = tokens_set c.args.board.now xs k c.index_mut.result.now c.take_end_token.new.take here e.end.0 e.end.1 v.own;
      count = long ∙ v.count;
      within = omega (arith, long, low);
      tokens_taken = one_token_untaken xs k c.index_mut.result.now c.take_end_token.new.take here (omega (arith, same)) v.tokens_taken;
      polled = one_polled c.args.takes.now.items xs k c.index_mut.result.now c.take_end_token.new.take (v.still k (omega arith)) here (polled_by c.take_end_token.result c.index_mut.result.now c.take_end_token.new.take ((v.tokens_taken k c.index_mut.result.now here).1 (omega arith)) e.looked e.taken e.there e.absent) v.polled;
      awaited = λ few. one_awaited c.args.takes.now.items xs k c.index_mut.result.now c.take_end_token.new.take (v.still k (omega arith)) here e.looked (omega (arith, same)) (c.if-not-take_end_token.ensures.absent refl) v.tokens_taken;
    }

pub loop-k-init : goal.loop-k-init
loop-k-init c = record { own = c.requires.own; count = refl; tokens_taken = c.requires.tokens_taken; polled = none_polled c.args.takes.now.items; still = λ j high. refl }

pub returns-clause-awaited : goal.returns-clause-awaited
returns-clause-awaited c few = absurd (omega (arith, few, c.len-count.ensures, c.loop-k-test.false, c.args.takes.now.ok.0, c.loop-k.invariant.count))
