use Rattle.std.specs.Prelude.{List, [], ◌∷◌, None}
use Rattle.instruments.specs.declared.instruments.Instrument.{Instrument}
use Rattle.instruments.specs.Listing.{symbol_of}
use Rattle.venue_rules.specs.declared.facts.HeldSide.{HeldSide}
use Rattle.venue_rules.specs.declared.refusals.OrderRefusal.{OrderRefusal}
use Rattle.venue_rules.specs.Market.{Market}
use Rattle.venue_rules.specs.Facts.{History}
use Rattle.venue_rules.specs.Answer.{Answer, answers, first_of, numbered}
use Rattle.venue_rules.specs.Crosses.{due_refusals}
use Rattle.venue_rules.specs.Orders.{accepted, refusal_report}

-- the entry of a held side at its due moment, or its refusal
abbrev pub entered_when_due : Market → History → HeldSide → Answer
entered_when_due m h k = first_of (due_refusals m h k) (accepted m h k.order k.due)

-- the report that refuses it then
abbrev pub side_turned_away : List Instrument → History → HeldSide → OrderRefusal → Answer
side_turned_away file h k cause = answers (numbered h.reports (refusal_report None (symbol_of file k.order.instrument) k.order.side k.order.id k.order.who cause ∷ []))
