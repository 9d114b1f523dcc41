use Rattle.trade_history.proofs.ByNumber.{found-one-more, rises-one}
use Rattle.trade_history.proofs.quoted.QuotedRooms.add.Goals as goal

pub invariant_of-self : goal.invariant_of-self
invariant_of-self c =
    let f = c.args.fact in
    let ks = c.self.inside.read.items in
    record {
      rising = rw c.put.ensures (rises-one f ks c.self.invariant.rising);
      same = λ n. rw (c.put.ensures, c.add.ensures) (found-one-more n f ks c.self.inside.past c.self.invariant.rising (c.self.invariant.same n));
    }
