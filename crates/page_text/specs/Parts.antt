-- Parts of a template, filled with values. A template is text with places, as `<td id="T$trade;">`: from `$` to `;` is
-- the name of a place, which says what stands there. Its places are filled in order; one for which no value is left
-- stays empty, and so does one within a tag, outside quotes.
use Rattle.std.specs.Prelude.{ℕ, List, [], ◌∷◌, ◌++◌, ◌==◌, drop, if◌then◌else◌}
use Rattle.page_text.specs.declared.spot.Spot.{Spot}
use Rattle.page_text.specs.declared.spot.Spot.TheVariants.{Text, Tag, Quoted}
use Rattle.page_text.specs.declared.spot.Reading.{Reading}
use Rattle.page_text.specs.declared.spot.Reading.TheVariants.{Own, Name}
use Rattle.page_text.specs.Spots.{after, step}
use Rattle.page_text.specs.Escapes.{escaped_all}

-- where the template's own text goes on
abbrev pub spot_of : Reading → Spot
spot_of (Own s) = s
spot_of (Name s) = s

-- what the byte of the template after this one belongs to
abbrev pub next : Reading → ℕ → Reading
next (Own s) b = if b == 36 then Name s else Own (step s b)
next (Name s) b = if b == 59 then Own s else Name s

-- the first value, escaped: in the text or in a quoted value, and nowhere else
abbrev pub shown : Spot → List (List ℕ) → List ℕ
shown s [] = []
shown Text (v ∷ vs) = escaped_all v
shown Tag (v ∷ vs) = []
shown Quoted (v ∷ vs) = escaped_all v

-- what the page has for a byte of the template
abbrev pub emitted : Reading → ℕ → List (List ℕ) → List ℕ
emitted (Own s) b vs = if b == 36 then shown s vs else b ∷ []
emitted (Name s) b vs = []

-- the values for the places after this byte
abbrev pub left : Reading → ℕ → List (List ℕ) → List (List ℕ)
left (Own s) b vs = if b == 36 then drop 1 vs else vs
left (Name s) b vs = vs

-- a template with values in its places
abbrev pub filled : Reading → List ℕ → List (List ℕ) → List ℕ
filled r [] vs = []
filled r (b ∷ bs) vs = emitted r b vs ++ filled (next r b) bs (left r b vs)

pub record Part : Type 0 where
  pub template : List ℕ
  pub values : List (List ℕ)

-- a page, and then a part
abbrev pub with_part : List ℕ → Part → List ℕ
with_part page p = page ++ filled (Own (after Text page)) p.template p.values

-- a page, and then some parts
abbrev pub with_parts : List ℕ → List Part → List ℕ
with_parts page [] = page
with_parts page (p ∷ ps) = with_parts (with_part page p) ps

-- the page of some parts
abbrev pub page_of : List Part → List ℕ
page_of ps = with_parts [] ps
