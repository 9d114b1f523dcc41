-- Where the bytes of a text of HTML stand, and its tags. So does the tokenizer of the HTML standard read a text whose
-- attributes are double-quoted and that has no comment: `<` begins a tag, `>` ends it, `"` begins and ends a value.
use Rattle.std.specs.Prelude.{ℕ, List, [], ◌∷◌, ◌++◌, ◌==◌, if◌then◌else◌}
use Rattle.page_text.specs.declared.spot.Spot.{Spot}
use Rattle.page_text.specs.declared.spot.Spot.TheVariants.{Text, Tag, Quoted}

-- where the byte after this one stands
abbrev pub step : Spot → ℕ → Spot
step Text b = if b == 60 then Tag else Text
step Tag b = if b == 62 then Text else (if b == 34 then Quoted else Tag)
step Quoted b = if b == 34 then Tag else Quoted

-- where the byte after a text stands
abbrev pub after : Spot → List ℕ → Spot
after s [] = s
after s (b ∷ bs) = after (step s b) bs

-- what a byte adds to the tags: all in a tag; of the text between tags the `<`, of a quoted value the `"`
abbrev pub of_tag : Spot → ℕ → List ℕ
of_tag Text b = if b == 60 then b ∷ [] else []
of_tag Tag b = b ∷ []
of_tag Quoted b = if b == 34 then b ∷ [] else []

-- the tags of a text, one behind the other, without what stands in quotes: <tr id=""><td class="">
abbrev pub tags : Spot → List ℕ → List ℕ
tags s [] = []
tags s (b ∷ bs) = of_tag s b ++ tags (step s b) bs
