-- Whether a link (583) alone is why an order would trade with a linked one too early: the rules are asked for the
-- answer to the same order without it.
--
--         ClOrdLinkID (583) L1 alone links it with such an order: without it this cause would not hold
use Rattle.std.specs.Prelude.{ℕ, List, [], ◌∷◌, Option, Some, None, codes, if◌then◌else◌}
use Rattle.fix_dictionary.specs.declared.messages.App.{App}
use Rattle.fix_dictionary.specs.declared.messages.App.TheVariants.{NewOrderSingle}
use Rattle.fix_dictionary.specs.declared.messages.NewOrderSingle.{NewOrderSingle as Order}
use Rattle.message_words.specs.Parts.{Part, parts_text, words_alone}
use Rattle.venue_rules.specs.declared.trail.Taken.{Taken}
use Rattle.venue_rules.specs.Answers.{answer}
use Rattle.venue_rules.specs.Facts.{History}
use Rattle.venue_rules.specs.Market.{Market}
use Rattle.refusal_causes.specs.Places.{waits}

abbrev pub order_without_link : Order → Order
order_without_link d = record d { link_id = None }

-- the order as its sender would have sent it without a link
abbrev pub without_link : Taken → Order → Taken
without_link taken d = record { from = taken.from; item = record { era = taken.item.era; number = taken.item.number; app = NewOrderSingle (order_without_link d) } }

abbrev pub link_parts : List ℕ → List Part
link_parts link = (codes "\n    ClOrdLinkID (583) ", Some link) ∷ words_alone (codes " alone links it with such an order: without it this cause would not hold") ∷ []

abbrev pub link_line : Market → History → Taken → Order → List ℕ → ℕ → List ℕ
link_line m h taken d link t =
    if waits (NewOrderSingle (order_without_link d)) (answer m h (without_link taken d) t).replies then [] else parts_text (link_parts link)

abbrev pub link_of : Market → History → Taken → Order → Option (List ℕ) → ℕ → List ℕ
link_of m h taken d None t = []
link_of m h taken d (Some link) t = link_line m h taken d link t

abbrev pub link_by : Market → History → Taken → App → ℕ → List ℕ
link_by m h taken (NewOrderSingle d) t = link_of m h taken d d.link_id t
link_by m h taken _ t = []

abbrev pub link_lines : Market → History → Taken → ℕ → List ℕ
link_lines m h taken t = link_by m h taken taken.item.app t
