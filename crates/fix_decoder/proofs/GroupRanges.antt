-- The numbers of instances of a message with groups in which its table found no fault.
use Rattle.std.proofs.Common.{◌≡◌, ℕ, List, ◌++◌, refl, sym, ap, subst, ◌∙◌, length, map}
use Rattle.std.proofs.lemmas.List.{length-map}
use Rattle.fix_fields.specs.Fields.{Entry}
use Rattle.fix_validation.specs.Tables.{header_rows, entry_type_rows, instrument_rows, market_data_entry_rows, market_data_request_rows, market_data_snapshot_rows}
use Rattle.fix_dictionary.specs.declared.kinds.MessageType.TheVariants as types
use Rattle.fix_dictionary.specs.declared.messages.MarketDataEntry.{MarketDataEntry}
use Rattle.fix_dictionary.specs.Values.{FitsEntryTypes, FitsEntries}
use Rattle.fix_decoder.specs.Messages.{entry_type, market_data_entry}
use Rattle.fix_validation.specs.Positions.{LocatedFields, part, begins, instances, sole}
use Rattle.fix_validation.specs.Holding.{Holds}
use Rattle.fix_validation.specs.GroupHolding.{members, Clean, EachHolds}
use Rattle.fix_decoder.proofs.HoldLemmas.{HasOwnForms}
use Rattle.fix_decoder.proofs.TableLemmas.{own_forms, own_part}
use Rattle.fix_decoder.proofs.PlaceLemmas.{flat_holds, each_holds, count_range, sole_holds}

pub mapped_length : {X : Type 0} (f : List Entry → X) (first around : ℕ) (ps : List LocatedFields) → length (map f (instances first around ps)) ≡ length (begins first around ps)
mapped_length f first around ps = length-map (instances first around ps) f ∙ length-map (begins first around ps) (λ (q : ℕ). part q ps)

snapshot_forms : HasOwnForms (header_rows ++ market_data_snapshot_rows) market_data_snapshot_rows
snapshot_forms = own_part (header_rows ++ market_data_snapshot_rows) header_rows market_data_snapshot_rows (own_forms types.MarketDataSnapshot 0)

pub snapshot_holds : (ps : List LocatedFields) → Clean header_rows market_data_snapshot_rows ps → Holds (members 0 market_data_snapshot_rows) (part 0 ps)
snapshot_holds ps c = flat_holds header_rows market_data_snapshot_rows ps c snapshot_forms

pub entries_hold : (ps : List LocatedFields) → Clean header_rows market_data_snapshot_rows ps → EachHolds market_data_entry_rows 269 0 ps
entries_hold ps c = each_holds header_rows market_data_snapshot_rows ps c snapshot_forms 268 refl 0

pub entries_number : (ps : List LocatedFields) → Clean header_rows market_data_snapshot_rows ps → (list : List MarketDataEntry) → list ≡ map market_data_entry (instances 269 0 ps) → FitsEntries (length list)
entries_number ps c list e =
    subst FitsEntries (sym (ap (λ (l : List MarketDataEntry). length l) e ∙ mapped_length market_data_entry 269 0 ps))
    (count_range header_rows market_data_snapshot_rows ps c 268 0 1 400 refl _ refl (snapshot_holds ps c).1.1.0)

request_forms : HasOwnForms (header_rows ++ market_data_request_rows) market_data_request_rows
request_forms = own_part (header_rows ++ market_data_request_rows) header_rows market_data_request_rows (own_forms types.MarketDataRequest 0)

pub request_holds : (ps : List LocatedFields) → Clean header_rows market_data_request_rows ps → Holds (members 0 market_data_request_rows) (part 0 ps)
request_holds ps c = flat_holds header_rows market_data_request_rows ps c request_forms

pub types_hold : (ps : List LocatedFields) → Clean header_rows market_data_request_rows ps → EachHolds entry_type_rows 269 0 ps
types_hold ps c = each_holds header_rows market_data_request_rows ps c request_forms 267 refl 0

pub types_number : (ps : List LocatedFields) → Clean header_rows market_data_request_rows ps → (list : List ℕ) → list ≡ map entry_type (instances 269 0 ps) → FitsEntryTypes (length list)
types_number ps c list e =
    subst FitsEntryTypes (sym (ap (λ (l : List ℕ). length l) e ∙ mapped_length entry_type 269 0 ps))
    (count_range header_rows market_data_request_rows ps c 267 0 1 64 refl _ refl (request_holds ps c).1.1.1.0)

pub instrument_holds : (ps : List LocatedFields) → Clean header_rows market_data_request_rows ps → Holds instrument_rows (sole 55 ps)
instrument_holds ps c =
    sole_holds instrument_rows 55 ps (each_holds header_rows market_data_request_rows ps c request_forms 146 refl 0)
    (count_range header_rows market_data_request_rows ps c 146 0 1 1 refl _ refl (request_holds ps c).1.1.1.1.0).0
