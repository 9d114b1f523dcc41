use Rattle.std.proofs.Common.{ℕ, ◌/◌, ◌%◌, ◌++◌, ◌==◌, ℤ, List, [], ◌∷◌, length, map, flat_map, Option, Some, None, codes, decimal, if◌then◌else◌}
use Rattle.fix_fields.specs.Forms.{price_text}
use Rattle.sef_moment.specs.Utc.{two_digits, three_digits}
use Rattle.fix_dictionary.specs.declared.messages.App.{App}
use Rattle.fix_dictionary.specs.declared.messages.App.TheVariants.{QuoteRequest, Quote, QuoteRequestReject, MarketDataSnapshot}
use Rattle.fix_dictionary.specs.declared.messages.MarketDataEntry.{MarketDataEntry}
use Rattle.fix_dictionary.specs.declared.messages.Party.{Party}
use Rattle.fix_dictionary.specs.Text.{app_text, side_text}

-- Texts of messages that the venue sends, with `|` for the separator; those with groups are spelled here.

abbrev pub field : List ℕ → List ℕ → List ℕ
field tag value = tag ++ 61 ∷ value ++ 124 ∷ []

abbrev pub if_there : {X : Type 0} → (X → List ℕ) → Option X → List ℕ
if_there spell None = []
if_there spell (Some x) = spell x

abbrev pub text_field : List ℕ → Option (List ℕ) → List ℕ
text_field tag = if_there (field tag)

abbrev pub number_field : List ℕ → Option ℕ → List ℕ
number_field tag = if_there (λ n. field tag (decimal n))

abbrev pub char_field : List ℕ → ℕ → List ℕ
char_field tag c = field tag (c ∷ [])

abbrev pub price_field : List ℕ → Option ℤ → List ℕ
price_field tag = if_there (λ p. field tag (price_text p))

-- a moment of 3 March 2025, the day of the examples
abbrev pub moment_text : ℕ → List ℕ
moment_text t =
    let s = t / 1000 in
    codes "20250303-" ++ two_digits (s / 3600 % 24) ++ codes ":" ++ two_digits (s / 60 % 60) ++ codes ":" ++ two_digits (s % 60) ++ codes "." ++ three_digits (t % 1000)

abbrev pub entry_text : MarketDataEntry → List ℕ
entry_text e = char_field (codes "269") e.entry_type ++ price_field (codes "270") e.price ++ number_field (codes "271") e.size ++ text_field (codes "278") e.order_id

abbrev pub party_text : Party → List ℕ
party_text p = field (codes "448") p.id ++ char_field (codes "447") p.source ++ field (codes "452") (decimal p.role)

abbrev pub parties_text : List Party → List ℕ
parties_text [] = []
parties_text (p ∷ ps) = field (codes "453") (decimal (length (p ∷ ps))) ++ flat_map party_text (p ∷ ps)

abbrev pub with_bars : List ℕ → List ℕ
with_bars text = map (λ c. if c == 1 then 124 else c) text

abbrev pub spelled : App → List ℕ
spelled (MarketDataSnapshot r) = codes "35=W|" ++ field (codes "262") r.request_id ++ field (codes "55") r.symbol ++ field (codes "268") (decimal (length r.entries)) ++ flat_map entry_text r.entries
spelled (QuoteRequest r) = codes "35=R|" ++ field (codes "131") r.request_id ++ codes "146=1|" ++ field (codes "55") r.symbol ++ if_there (λ s. field (codes "54") (side_text s)) r.side ++ field (codes "38") (decimal r.quantity) ++ parties_text r.parties
spelled (QuoteRequestReject r) = codes "35=AG|" ++ field (codes "131") r.request_id ++ field (codes "658") (decimal r.reject_reason) ++ codes "146=1|" ++ field (codes "55") r.symbol ++ text_field (codes "58") r.text
spelled (Quote r) =
    codes "35=S|" ++ field (codes "117") r.quote_id ++ field (codes "131") r.request_id ++ if_there (char_field (codes "537")) r.quote_type ++ parties_text r.parties ++ field (codes "55") r.symbol ++ price_field (codes "132") r.bid_price ++ price_field (codes "133") r.offer_price
    ++ number_field (codes "134") r.bid_size ++ number_field (codes "135") r.offer_size ++ if_there (λ t. field (codes "62") (moment_text t)) r.valid_until
spelled a = with_bars (app_text a)
