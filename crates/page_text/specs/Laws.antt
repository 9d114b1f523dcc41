-- Laws of every page, whatever its parts and their values are.
use Rattle.std.specs.Prelude.{◌≡◌, ◌<◌, ℕ, List, [], ◌∷◌, ◌++◌, All, codes, map}
use Rattle.page_text.specs.declared.spot.Spot.TheVariants.{Text}
use Rattle.page_text.specs.Escapes.{escaped_all}
use Rattle.page_text.specs.ReadBack.{Plain, read_back}
use Rattle.page_text.specs.Spots.{tags}
use Rattle.page_text.specs.Parts.{Part, page_of, with_parts}

-- a part whose places stay empty
abbrev pub empty_part : Part → Part
empty_part p = record { template = p.template; values = [] }

-- The tags of a page are those of its template: the same as of the page whose places are empty.
abbrev pub ValuesLeaveTagsAlone : Type 0
ValuesLeaveTagsAlone = (ps : List Part) → tags Text (page_of ps) ≡ tags Text (page_of (map empty_part ps))

-- A value is read back as it is: two values that differ have two texts.
abbrev pub ValuesAreReadBack : Type 0
ValuesAreReadBack = (v : List ℕ) → All (λ b. b < 256) v → read_back Plain (escaped_all v) ≡ v

-- Parts that are added behind others are added to the page of these.
abbrev pub PartsFollowParts : Type 0
PartsFollowParts = (page : List ℕ) (ps qs : List Part) → with_parts page (ps ++ qs) ≡ with_parts (with_parts page ps) qs

-- Small parts, whose page is written by hand.
abbrev pub worked_parts : List Part
worked_parts =
    record { template = codes "<p title=\"$title;\">$text;</p>"; values = codes "<b>\"" ∷ (codes "<script>&'" ++ 1 ∷ 255 ∷ codes "~") ∷ [] }
    ∷ record { template = codes "<p $tag;class=\"$class;\""; values = codes "onclick=x " ∷ [] }
    ∷ record { template = codes "></p><i>$text;</i>"; values = codes "last" ∷ codes "more" ∷ [] }
    ∷ []
