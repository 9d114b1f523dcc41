-- The facts of a request for quotes, a quote or a refusal in which its table found no fault.
use Rattle.std.proofs.Common.{◌≡◌, ℕ, ◌≤◌, true, List, [], ◌∷◌, ◌++◌, refl, sym, subst, arith, length, map, Option, Some, None}
use Rattle.std.specs.List.{AllByRecursion}
use Rattle.fix_fields.specs.Fields.{value_of}
use Rattle.fix_validation.specs.Table.{takes}
use Rattle.fix_validation.specs.declared.table.Form.TheVariants.{Integer}
use Rattle.fix_validation.specs.Tables.{header_rows, asked_rows, party_rows, instrument_rows, quote_request_rows, quote_rows, quote_request_reject_rows}
use Rattle.fix_validation.specs.declared.table.Row.{Row}
use Rattle.fix_dictionary.specs.declared.kinds.MessageType.TheVariants as types
use Rattle.fix_dictionary.specs.declared.messages.Party.{Party}
use Rattle.fix_dictionary.specs.Values.{FitsParties}
use Rattle.fix_decoder.specs.Messages.{party, counted_parties, parties_in}
use Rattle.fix_validation.specs.Positions.{LocatedFields, is_count, first_tag, part, begins, instances, first_begin, first_or_none, sole}
use Rattle.fix_validation.specs.Holding.{RowHolds, Holds}
use Rattle.fix_validation.specs.GroupHolding.{members, Clean, EachHolds}
use Rattle.fix_decoder.proofs.HoldLemmas.{HasOwnForms}
use Rattle.fix_decoder.proofs.TableLemmas.{own_forms, own_part}
use Rattle.fix_decoder.proofs.PlaceLemmas.{flat_holds, each_holds, count_range, counted, sole_holds}
use Rattle.fix_decoder.proofs.GroupRanges.{mapped_length}

parties_number : (rows : List Row) (q : ℕ) (ps : List LocatedFields) → Clean header_rows rows ps → is_count 453 rows ≡ true → first_tag 453 rows ≡ 448
    → (o : Option (List ℕ)) → value_of 453 (part q ps) ≡ o → RowHolds (takes 453 (Integer 1 64)) o → FitsParties (length (counted_parties o (map party (instances 448 q ps))))
parties_number rows q ps c count first None e h = omega arith
parties_number rows q ps c count first (Some bytes) e h =
    let range = counted header_rows rows ps c 453 q 1 64 count bytes e h in
    let bound : length (begins 448 q ps) ≤ 64 = rw first at range.1 in
    omega (arith, bound, mapped_length party 448 q ps)

request_forms : HasOwnForms (header_rows ++ quote_request_rows) quote_request_rows
request_forms = own_part (header_rows ++ quote_request_rows) header_rows quote_request_rows (own_forms types.QuoteRequest 0)

pub request_holds : (ps : List LocatedFields) → Clean header_rows quote_request_rows ps → Holds (members 0 quote_request_rows) (part 0 ps)
request_holds ps c = flat_holds header_rows quote_request_rows ps c request_forms

first_asked : (ps : List LocatedFields) (qs : List ℕ) → AllByRecursion (λ (q : ℕ). Holds asked_rows (part q ps)) qs → 1 ≤ length qs → Holds asked_rows (part (first_or_none qs) ps)
first_asked ps [] h some = absurd (omega (arith, some))
first_asked ps (q ∷ qs) h some = h.0

pub asked_holds : (ps : List LocatedFields) → Clean header_rows quote_request_rows ps → Holds asked_rows (part (first_begin 55 ps) ps)
asked_holds ps c =
    first_asked ps (begins 55 0 ps) (each_holds header_rows quote_request_rows ps c request_forms 146 refl 0)
    (count_range header_rows quote_request_rows ps c 146 0 1 1 refl _ refl (request_holds ps c).1.0).0

pub asked_parties : (ps : List LocatedFields) → Clean header_rows quote_request_rows ps → (q : ℕ) → EachHolds party_rows 448 q ps
asked_parties ps c q = each_holds header_rows quote_request_rows ps c request_forms 453 refl q

pub asked_number : (ps : List LocatedFields) → Clean header_rows quote_request_rows ps → (list : List Party) → list ≡ parties_in (first_begin 55 ps) ps → FitsParties (length list)
asked_number ps c list e =
    subst (λ (l : List Party). FitsParties (length l)) (sym e)
    (parties_number quote_request_rows (first_begin 55 ps) ps c refl refl (value_of 453 (part (first_begin 55 ps) ps)) refl (asked_holds ps c).1.1.1.0)

quote_forms : HasOwnForms (header_rows ++ quote_rows) quote_rows
quote_forms = own_part (header_rows ++ quote_rows) header_rows quote_rows (own_forms types.Quote 0)

pub quote_holds : (ps : List LocatedFields) → Clean header_rows quote_rows ps → Holds (members 0 quote_rows) (part 0 ps)
quote_holds ps c = flat_holds header_rows quote_rows ps c quote_forms

pub quote_parties : (ps : List LocatedFields) → Clean header_rows quote_rows ps → EachHolds party_rows 448 0 ps
quote_parties ps c = each_holds header_rows quote_rows ps c quote_forms 453 refl 0

pub quote_number : (ps : List LocatedFields) → Clean header_rows quote_rows ps → (list : List Party) → list ≡ parties_in 0 ps → FitsParties (length list)
quote_number ps c list e =
    subst (λ (l : List Party). FitsParties (length l)) (sym e) (parties_number quote_rows 0 ps c refl refl (value_of 453 (part 0 ps)) refl (quote_holds ps c).1.1.1.0)

reject_forms : HasOwnForms (header_rows ++ quote_request_reject_rows) quote_request_reject_rows
reject_forms = own_part (header_rows ++ quote_request_reject_rows) header_rows quote_request_reject_rows (own_forms types.QuoteRequestReject 0)

pub reject_holds : (ps : List LocatedFields) → Clean header_rows quote_request_reject_rows ps → Holds (members 0 quote_request_reject_rows) (part 0 ps)
reject_holds ps c = flat_holds header_rows quote_request_reject_rows ps c reject_forms

pub reject_instrument : (ps : List LocatedFields) → Clean header_rows quote_request_reject_rows ps → Holds instrument_rows (sole 55 ps)
reject_instrument ps c =
    sole_holds instrument_rows 55 ps (each_holds header_rows quote_request_reject_rows ps c reject_forms 146 refl 0)
    (count_range header_rows quote_request_reject_rows ps c 146 0 1 1 refl _ refl (reject_holds ps c).1.1.0).0
