use Rattle.std.proofs.Common.{◌∙◌, ap}
use Rattle.trade_history.specs.Quoted.{found}
use Rattle.trade_history.proofs.quoted.QuotedRooms.find.Goals as goal

pub find-requires : goal.find-requires
find-requires c = rw c.deref.ensures.value c.self.invariant.rising

pub returns : goal.returns
returns c = rw (← c.self.view_is) (c.find.ensures ∙ ap (found c.args.number) c.deref.ensures.value ∙ c.self.invariant.same c.args.number)
