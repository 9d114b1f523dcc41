-- What a message is, in a few words, from its text: its type, and the identifier of what it is about.
use Rattle.std.specs.Prelude.{ℕ, List, [], Option, Some, None, bytes_eq, if◌then◌else◌, codes}
use Rattle.fix_pieces.specs.Pieces.{first_value}

abbrev pub value_or : List ℕ → Option (List ℕ) → List ℕ
value_or other None = other
value_or other (Some value) = value

-- the value of a field of the text
abbrev pub field : (prefix text : List ℕ) → List ℕ
field prefix text = value_or [] (first_value prefix text)

-- the order's number (37), or the identifier (11) of an order that has none
abbrev pub order_named : List ℕ → List ℕ
order_named text = if bytes_eq (field (codes "37=") text) (codes "NONE") then field (codes "11=") text else field (codes "37=") text

abbrev pub kind_words : List ℕ → List ℕ
kind_words kind =
    if bytes_eq kind (codes "8") then codes "an execution report on " else
    (if bytes_eq kind (codes "9") then codes "an order cancel reject on " else
    (if bytes_eq kind (codes "R") then codes "a quote request, " else
    (if bytes_eq kind (codes "S") then codes "a quote, " else
    (if bytes_eq kind (codes "AI") then codes "a quote status report on " else
    (if bytes_eq kind (codes "AG") then codes "a quote request reject on " else
    (if bytes_eq kind (codes "W") then codes "a market data snapshot for " else
    (if bytes_eq kind (codes "Y") then codes "a market data request reject on " else
    (if bytes_eq kind (codes "j") then codes "a business message reject of number " else
    codes "a message of type "))))))))

-- the identifier: 37 or 11 of an order, 117 of a quote, 131 of a request for quotes, 262 of one for prices, 45 of a
-- message
abbrev pub named_of : (kind text : List ℕ) → List ℕ
named_of kind text =
    if bytes_eq kind (codes "8") then order_named text else
    (if bytes_eq kind (codes "9") then order_named text else
    (if bytes_eq kind (codes "R") then field (codes "131=") text else
    (if bytes_eq kind (codes "S") then field (codes "117=") text else
    (if bytes_eq kind (codes "AI") then field (codes "117=") text else
    (if bytes_eq kind (codes "AG") then field (codes "131=") text else
    (if bytes_eq kind (codes "W") then field (codes "262=") text else
    (if bytes_eq kind (codes "Y") then field (codes "262=") text else
    (if bytes_eq kind (codes "j") then field (codes "45=") text else
    kind))))))))
