use Rattle.std.proofs.Common.{◌≡◌, ◌∙◌, ap, sym, ◌+◌, ◌||◌, ◌++◌, List, length, nat_eq, arith}
use Rattle.std.specs.List.{list_any}
use Rattle.std.specs.Option.{option_or}
use Rattle.client_ids.specs.ClientIds.{is_of}
use Rattle.venue_rules.specs.declared.facts.Fact.{Fact}
use Rattle.rfq_room.specs.declared.room_index.FlagKind.TheVariants as flag
use Rattle.rfq_room.specs.declared.room_index.IdKind.TheVariants as named
use Rattle.rfq_room.specs.Flags.{is_set}
use Rattle.rfq_room.specs.LastQuotes.{last_in}
use Rattle.rfq_room.specs.Flagged.{AreThere, count_of, is_flagged, last_number, name_in, names_in, number_in}
use Rattle.rfq_room.proofs.Flagging.{any-added, count-added, last-added, there-same}
use Rattle.rfq_room.proofs.room_index.RoomIndex.add.Goals as goal

pub add_flags-requires-clause-there : goal.add_flags-requires-clause-there
add_flags-requires-clause-there c =
    let old : List Fact = c.self.inside.past in
    let there : AreThere old c.args.facts.now.items = rw (← c.self.view_is) at c.requires.there in
    there-same flag.Traded old c.args.facts.now.items c.deref.result.now (length c.self.inside.traded.flags) c.self.invariant.traded_count c.deref.ensures.value there

pub add_flags-requires-2-clause-there : goal.add_flags-requires-2-clause-there
add_flags-requires-2-clause-there c =
    let old : List Fact = c.self.inside.past in
    let there : AreThere old c.args.facts.now.items = rw (← c.self.view_is) at c.requires.there in
    there-same flag.Withdrawn old c.args.facts.now.items c.deref-2.result.now (length c.self.inside.withdrawn.flags) c.self.invariant.withdrawn_count c.deref-2.ensures.value there

pub add_flags-requires-3-clause-there : goal.add_flags-requires-3-clause-there
add_flags-requires-3-clause-there c =
    let old : List Fact = c.self.inside.past in
    let there : AreThere old c.args.facts.now.items = rw (← c.self.view_is) at c.requires.there in
    there-same flag.Quoted old c.args.facts.now.items c.deref-3.result.now (length c.self.inside.quoted.flags) c.self.invariant.quoted_count c.deref-3.ensures.value there

pub invariant_of-self : goal.invariant_of-self
invariant_of-self c =
    let old : List Fact = c.self.inside.past in
    let added : List Fact = c.args.facts.now.items in
    let facts : c.append.new.self ≡ old ++ added = c.append.ensures in
    record {
      traded = λ n. c.add_flags.ensures.flags n ∙ ap (λ fs. is_flagged flag.Traded fs n || is_set c.self.inside.traded.flags n) c.deref.ensures.value ∙ ap (λ b. is_flagged flag.Traded added n || b) (c.self.invariant.traded n) ∙ any-added (nat_eq n) (number_in flag.Traded) old added ∙ ap (λ fs. is_flagged flag.Traded fs n) (sym facts);
      traded_count = c.add_flags.ensures.count ∙ ap (λ fs. length c.self.inside.traded.flags + count_of flag.Traded fs) c.deref.ensures.value ∙ ap (λ n. n + count_of flag.Traded added) c.self.invariant.traded_count ∙ sym (ap (count_of flag.Traded) facts ∙ count-added flag.Traded old added);
      withdrawn = λ n. c.add_flags-2.ensures.flags n ∙ ap (λ fs. is_flagged flag.Withdrawn fs n || is_set c.self.inside.withdrawn.flags n) c.deref-2.ensures.value ∙ ap (λ b. is_flagged flag.Withdrawn added n || b) (c.self.invariant.withdrawn n) ∙ any-added (nat_eq n) (number_in flag.Withdrawn) old added ∙ ap (λ fs. is_flagged flag.Withdrawn fs n) (sym facts);
      withdrawn_count = c.add_flags-2.ensures.count ∙ ap (λ fs. length c.self.inside.withdrawn.flags + count_of flag.Withdrawn fs) c.deref-2.ensures.value ∙ ap (λ n. n + count_of flag.Withdrawn added) c.self.invariant.withdrawn_count ∙ sym (ap (count_of flag.Withdrawn) facts ∙ count-added flag.Withdrawn old added);
      quoted = λ n. c.add_flags-3.ensures.flags n ∙ ap (λ fs. is_flagged flag.Quoted fs n || is_set c.self.inside.quoted.flags n) c.deref-3.ensures.value ∙ ap (λ b. is_flagged flag.Quoted added n || b) (c.self.invariant.quoted n) ∙ any-added (nat_eq n) (number_in flag.Quoted) old added ∙ ap (λ fs. is_flagged flag.Quoted fs n) (sym facts);
      quoted_count = c.add_flags-3.ensures.count ∙ ap (λ fs. length c.self.inside.quoted.flags + count_of flag.Quoted fs) c.deref-3.ensures.value ∙ ap (λ n. n + count_of flag.Quoted added) c.self.invariant.quoted_count ∙ sym (ap (count_of flag.Quoted) facts ∙ count-added flag.Quoted old added);
      lasts = λ room maker. c.add_lasts.ensures.entries room maker ∙ ap (λ fs. option_or (last_number fs room maker) (last_in c.self.inside.lasts.entries room maker)) c.deref-4.ensures.value ∙ ap (option_or (last_number added room maker)) (c.self.invariant.lasts room maker) ∙ last-added old added room maker ∙ ap (λ fs. last_number fs room maker) (sym facts);
      requests = λ who id. c.add_names.ensures.names who id ∙ ap (λ fs. list_any (is_of who id) (names_in named.Requests fs) || list_any (is_of who id) c.self.inside.requests.names) c.deref-5.ensures.value ∙ ap (λ b. list_any (is_of who id) (names_in named.Requests added) || b) (c.self.invariant.requests who id) ∙ any-added (is_of who id) (name_in named.Requests) old added ∙ ap (λ fs. list_any (is_of who id) (names_in named.Requests fs)) (sym facts);
      quotes = λ who id. c.add_names-2.ensures.names who id ∙ ap (λ fs. list_any (is_of who id) (names_in named.Quotes fs) || list_any (is_of who id) c.self.inside.quotes.names) c.deref-6.ensures.value ∙ ap (λ b. list_any (is_of who id) (names_in named.Quotes added) || b) (c.self.invariant.quotes who id) ∙ any-added (is_of who id) (name_in named.Quotes) old added ∙ ap (λ fs. list_any (is_of who id) (names_in named.Quotes fs)) (sym facts);
      traded_headroom = omega (arith, c.add_flags.ensures.headroom, ap length c.deref.ensures.value, c.self.invariant.traded_headroom);
      withdrawn_headroom = omega (arith, c.add_flags-2.ensures.headroom, ap length c.deref-2.ensures.value, c.self.invariant.withdrawn_headroom);
      quoted_headroom = omega (arith, c.add_flags-3.ensures.headroom, ap length c.deref-3.ensures.value, c.self.invariant.quoted_headroom);
      lasts_headroom = omega (arith, c.add_lasts.ensures.headroom, ap length c.deref-4.ensures.value, c.self.invariant.lasts_headroom);
      requests_headroom = omega (arith, c.add_names.ensures.headroom, ap length c.deref-5.ensures.value, c.self.invariant.requests_headroom);
      quotes_headroom = omega (arith, c.add_names-2.ensures.headroom, ap length c.deref-6.ensures.value, c.self.invariant.quotes_headroom);
    }
