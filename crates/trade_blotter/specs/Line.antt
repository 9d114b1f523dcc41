-- The line of a trade: its number, whether it was made in the book or in a room, what was traded, between whom; and of
-- a room the recipients, the first quote, and the orders resting in the book that were shown with it (17 CFR
-- 37.9(a)(3)).
use Rattle.std.specs.Prelude.{ℕ, List, [], ◌∷◌, ◌++◌, Option, Some, None, codes, decimal, drop, length, take, ◌-◌}
use Rattle.std.specs.List.{flat_map}
use Rattle.fix_fields.specs.Forms.{price_text}
use Rattle.instruments.specs.Listing.{symbol_of}
use Rattle.participants.specs.ParticipantFile.{ParticipantFile}
use Rattle.participants.specs.Relations.{name_of}
use Rattle.venue_rules.specs.Facts.{History}
use Rattle.venue_rules.specs.Market.{Market}
use Rattle.venue_rules.specs.Readings.{room_fact, trade_facts}
use Rattle.venue_rules.specs.declared.trail.RoomFact.{RoomFact}
use Rattle.venue_rules.specs.declared.trail.ShownOrder.{ShownOrder}
use Rattle.venue_rules.specs.declared.trail.TradeFact.{TradeFact}

-- the texts of some things, each behind a comma
abbrev pub each_listed : {A : Type 0} → (A → List ℕ) → List A → List ℕ
each_listed text things = flat_map (λ other. 44 ∷ text other) things

-- the texts of some things with a comma between them, or none
abbrev pub listed : {A : Type 0} → (A → List ℕ) → List A → List ℕ
listed text [] = codes "none"
listed text (first ∷ others) = text first ++ each_listed text others

-- an order and its leaves quantity: O2x30
abbrev pub shown_text : ShownOrder → List ℕ
shown_text o = codes "O" ++ (decimal o.order ++ (codes "x" ++ decimal o.left))

-- what is between a tag of two digits and the byte that ends its field
abbrev pub value_in : List ℕ → List ℕ
value_in field = take (length field - 4) (drop 3 field)

-- symbol, quantity, price and both parties
abbrev pub deal : Market → TradeFact → List ℕ
deal m t = symbol_of m.instruments t.instrument ++ (codes " " ++ (decimal t.quantity ++ (codes " @ " ++ (price_text t.price
    ++ (codes " buyer " ++ (name_of m.participants t.buyer ++ (codes " seller " ++ name_of m.participants t.seller)))))))

-- the recipients, the first quote, and the orders shown with it; every room with a trade had a quote
abbrev pub room_text : ParticipantFile → Option RoomFact → List ℕ
room_text file None = []
room_text file (Some r) = codes " asked " ++ (listed (name_of file) r.asked ++ (codes " first Q" ++ (decimal r.first ++ (codes " shown " ++ listed shown_text r.shown))))

abbrev pub place_text : ParticipantFile → ℕ → Option RoomFact → List ℕ
place_text file room emitted = codes " room R" ++ (decimal room ++ room_text file emitted)

abbrev pub book_line : Market → TradeFact → List ℕ
book_line m t = codes "T" ++ (decimal t.number ++ (codes " book " ++ (deal m t ++ codes "\n")))

abbrev pub room_line : Market → TradeFact → ℕ → Option RoomFact → List ℕ
room_line m t room emitted = codes "T" ++ (decimal t.number ++ (codes " rfq " ++ (deal m t ++ (place_text m.participants room emitted ++ codes "\n"))))

-- in the book, or in the room with this number and what is read back of it
abbrev pub line_in : Market → TradeFact → Option ℕ → Option RoomFact → List ℕ
line_in m t None emitted = book_line m t
line_in m t (Some room) emitted = room_line m t room emitted

abbrev pub line : Market → TradeFact → Option RoomFact → List ℕ
line m t emitted = line_in m t t.room emitted

-- what is read back of a trade's room
abbrev pub room_emitted : History → Option ℕ → Option RoomFact
room_emitted h None = None
room_emitted h (Some room) = room_fact h.facts room

-- the line of a trade of a history
unfoldable pub trade_line : Market → History → TradeFact → List ℕ
trade_line m h t = line m t (room_emitted h t.room)

-- the lines of all its trades, in order
abbrev pub trade_lines : Market → History → List ℕ
trade_lines m h = flat_map (trade_line m h) (trade_facts h.facts)
