-- The messages of more replies.
use Rattle.std.proofs.Common.{◌≡◌, ℕ, eqb, List, ◌++◌, map, ap, ◌∙◌}
use Rattle.std.proofs.lemmas.List.{map-append}
use Rattle.std.proofs.lemmas.List.Elements.{filter-append}
use Rattle.fix_dictionary.specs.declared.messages.App.{App}
use Rattle.venue_rules.specs.declared.replies.Reply.{Reply}
use Rattle.venue_rules.specs.Messages.{message}
use Rattle.venue_rules.specs.Run.{replies_to}
use Rattle.venue_rules.specs.MoreInputs.{said_to}
use Rattle.outbound_queue.specs.Owed.{outgoing}
use Rattle.outbound_queue.specs.declared.outgoing.Outgoing.TheVariants.{Message}

pub messages_more : (who : ℕ) (xs ys : List Reply) → said_to who (xs ++ ys) ≡ said_to who xs ++ said_to who ys
messages_more who xs ys = ap (map (λ (r : Reply). message r.what)) (filter-append (λ (r : Reply). eqb r.to who) xs ys) ∙ map-append (λ (r : Reply). message r.what) (replies_to who xs) (replies_to who ys)

pub outgoing_more : (xs ys : List App) → outgoing (xs ++ ys) ≡ outgoing xs ++ outgoing ys
outgoing_more xs ys = map-append Message xs ys
