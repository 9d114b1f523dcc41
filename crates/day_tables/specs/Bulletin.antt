-- The daily bulletin: of each instrument that traded the prices, volumes and numbers of its trades (17 CFR 37.901,
-- 16.01).
use Rattle.std.specs.Prelude.{ℕ, ℤ, ◌+◌, ◌==◌, Bool, true, false, ◌&&◌, List, [], ◌∷◌, ◌++◌, length, decimal, count_by, sum_by, int_lt, is_none, is_some, Option, Some, None, if◌then◌else◌}
use Rattle.instruments.specs.declared.instruments.Instrument.{Instrument}
use Rattle.instruments.specs.Listing.{symbol_of, tick_of}
use Rattle.page_text.specs.Parts.{Part}
use Rattle.venue_rules.specs.declared.trail.TradeFact.{TradeFact}
use Rattle.day_tables.specs.declared.template.TheConstants.{BULLETIN, BULLETIN_END, NO_BULLETIN, TRADED}
use Rattle.day_tables.specs.declared.bulletin.Place.{Place}
use Rattle.day_tables.specs.declared.bulletin.Place.TheVariants.{Anywhere, Book, Request}
use Rattle.day_tables.specs.declared.bulletin.Span.{Span}
use Rattle.day_tables.specs.Parts.{each_from, framed, plain_part}
use Rattle.day_tables.specs.Values.{grouped, price_in}

-- Prices.

abbrev pub greater : ℤ → ℤ → ℤ
greater a b = if int_lt a b then b else a

abbrev pub lesser : ℤ → ℤ → ℤ
lesser a b = if int_lt b a then b else a

-- the first, highest, lowest and last of a price and those after it
abbrev pub joined : ℤ → Option Span → Span
joined p None = record { first = p; high = p; low = p; last = p }
joined p (Some s) = record { first = p; high = greater p s.high; low = lesser p s.low; last = s.last }

abbrev pub spanned : ℕ → TradeFact → Option Span → Option Span
spanned x t later = if t.instrument == x then Some (joined t.price later) else later

-- of the trades of an instrument; none where it did not trade
abbrev pub span_of : ℕ → List TradeFact → Option Span
span_of x [] = None
span_of x (t ∷ ts) = spanned x t (span_of x ts)

-- Volumes and numbers, in all, in the book and in requests.

abbrev pub is_at : Place → Option ℕ → Bool
is_at Anywhere room = true
is_at Book room = is_none room
is_at Request room = is_some room

-- of this instrument, or of any, and made there
abbrev pub is_of : Option ℕ → Place → TradeFact → Bool
is_of None p t = is_at p t.room
is_of (Some x) p t = t.instrument == x && is_at p t.room

abbrev pub number : Option ℕ → Place → List TradeFact → ℕ
number x p ts = count_by (is_of x p) ts

abbrev pub moved : Option ℕ → Place → TradeFact → ℕ
moved x p t = if is_of x p t then t.quantity else 0

abbrev pub quantity : Option ℕ → Place → List TradeFact → ℕ
quantity x p ts = sum_by (moved x p) ts

-- The parts.

abbrev pub traded_part : List Instrument → List TradeFact → ℕ → Span → Part
traded_part file ts x s = record {
  template = TRADED.now;
  values = decimal x ∷ symbol_of file x
      ∷ price_in (tick_of file x) s.first ∷ price_in (tick_of file x) s.high ∷ price_in (tick_of file x) s.low ∷ price_in (tick_of file x) s.last
      ∷ grouped (quantity (Some x) Anywhere ts) ∷ grouped (quantity (Some x) Book ts) ∷ grouped (quantity (Some x) Request ts)
      ∷ grouped (number (Some x) Anywhere ts) ∷ grouped (number (Some x) Book ts) ∷ grouped (number (Some x) Request ts) ∷ [];
}

abbrev pub span_parts : List Instrument → List TradeFact → ℕ → Option Span → List Part
span_parts file ts x None = []
span_parts file ts x (Some s) = traded_part file ts x s ∷ []

abbrev pub traded_parts : List Instrument → List TradeFact → ℕ → List Part
traded_parts file ts x = span_parts file ts x (span_of x ts)

abbrev pub some_parts : List Instrument → List TradeFact → List Part
some_parts file ts = framed (plain_part BULLETIN.now) (each_from (traded_parts file ts) 0 (length file)) (plain_part BULLETIN_END.now)

abbrev pub bulletin_parts : List Instrument → List TradeFact → List Part
bulletin_parts file [] = plain_part NO_BULLETIN.now ∷ []
bulletin_parts file (t ∷ ts) = some_parts file (t ∷ ts)
