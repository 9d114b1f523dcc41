use Rattle.std.proofs.Common.{◌≡◌, refl, ap, ◌∙◌, ℕ, Bool, true, ◌||◌, List, filter}
use Rattle.venue_rules.specs.declared.facts.Entry.{Entry}
use Rattle.venue_rules.specs.declared.facts.Fact.{Fact}
use Rattle.venue_rules.specs.declared.facts.Fact.TheVariants.{Entered, Removed}
use Rattle.venue_rules.specs.declared.facts.Removal.{Removal}
use Rattle.venue_rules.specs.Facts.{History, is_order_id_used}
use Rattle.price_book.specs.BookFacts.{is_book_fact}
use Rattle.cross_delay.specs.DelayFacts.{delay_facts}
use Rattle.venue_request.specs.declared.counts.Counts.{Counts}
use Rattle.order_handler.specs.Reads.{IsRead, is_used}

-- readings of a history are those of its parts

abbrev pub UsedInParts : Type 0
UsedInParts = (of_book : Fact → Bool) → ((e : Entry) → of_book (Entered e) ≡ true) → ((r : Removal) → of_book (Removed r) ≡ true) → (fs : List Fact) (who : ℕ) (id : List ℕ) → is_order_id_used fs who id ≡ (is_order_id_used (filter of_book fs) who id || is_order_id_used (delay_facts fs) who id)

pub used-in : UsedInParts → (h : History) (book delay : List Fact) (c : Counts) → IsRead h book delay c → (who : ℕ) (id : List ℕ) → is_order_id_used h.facts who id ≡ is_used book delay who id
used-in law h book delay c x who id =
    law is_book_fact (λ e. refl) (λ r. refl) h.facts who id
    ∙ ap (λ (fs : List Fact). is_order_id_used fs who id || is_order_id_used (delay_facts h.facts) who id) x.of_book
    ∙ ap (λ (fs : List Fact). is_order_id_used book who id || is_order_id_used fs who id) x.of_delay
