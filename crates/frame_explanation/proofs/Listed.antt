-- What is listed, one part of a log after another.
use Rattle.std.proofs.Common.{◌≡◌, ℕ, ◌+◌, ◌<◌, List, [], ◌∷◌, ◌++◌, length, get_or, drop, refl, sym, ap, ◌∙◌, append_assoc, append-nil, Bool}
use Rattle.participants.specs.ParticipantFile.{ParticipantFile}
use Rattle.frame_explanation.specs.declared.frames.Found.{Found}
use Rattle.frame_explanation.specs.Frames.{extent, plus}
use Rattle.frame_explanation.specs.Listing.{Item, State, begin_items, between, body_of, came_item, came_items, found_after, found_items, is_new, items_from, moment_in, part_after, part_items, sender_in}
use Rattle.frame_explanation.proofs.Appends.{two}

-- one more part is listed
pub listed-more : (names : ParticipantFile) (log : List ℕ) (s s' : State) (n place : ℕ) (text body : List ℕ) (f : Found) (rest : List Found) (old new whole : List Item)
    → place ≡ plus f.at 1 → text ≡ between f.at (plus f.at (extent f.look)) log → body ≡ body_of log f.at f.look
    → new ≡ old ++ part_items names s (plus n 1) place text body → s' ≡ part_after names s body
    → old ++ items_from names log s n (f ∷ rest) ≡ whole → new ++ items_from names log s' (plus n 1) rest ≡ whole
listed-more names log s s' n place text body f rest old new whole p t b is after before =
    ap (λ (l : List Item). l ++ items_from names log s' (plus n 1) rest) is
    ∙ append_assoc old (part_items names s (plus n 1) place text body) (items_from names log s' (plus n 1) rest)
    ∙ ap (λ (l : List Item). old ++ l) same
    ∙ before where
      same : part_items names s (plus n 1) place text body ++ items_from names log s' (plus n 1) rest ≡ found_items names log s (plus n 1) f ++ items_from names log (found_after names log s f) (plus n 1) rest
      same = rw (after, p, t, b) refl

-- a frame of a participant, with what is assumed before it
pub came : (names : ParticipantFile) (s : State) (connects : Bool) (number place who moment : ℕ) (text body : List ℕ) (old mid new : List Item)
    → who ≡ sender_in names body s.who → moment ≡ moment_in body s.moment → connects ≡ is_new s.begun who body
    → mid ≡ old ++ begin_items names s.begun who moment body → new ≡ mid ++ came_item connects who moment number place text body ∷ []
    → new ≡ old ++ came_items names s number place text body
came names s connects number place who moment text body old mid new w m c p q =
    let who' = sender_in names body s.who in
    let moment' = moment_in body s.moment in
    two old (begin_items names s.begun who' moment' body) (came_item (is_new s.begun who' body) who' moment' number place text body ∷ []) mid new
    (p ∙ ap (λ (x : ℕ). old ++ begin_items names s.begun x moment body) w ∙ ap (λ (x : ℕ). old ++ begin_items names s.begun who' x body) m)
    (q ∙ ap (λ (b : Bool). mid ++ came_item b who moment number place text body ∷ []) c
    ∙ ap (λ (x : ℕ). mid ++ came_item (is_new s.begun x body) x moment number place text body ∷ []) w
    ∙ ap (λ (x : ℕ). mid ++ came_item (is_new s.begun who' body) who' x number place text body ∷ []) m)

-- the same where the body was read from elsewhere
pub came_read : (names : ParticipantFile) (s : State) (connects : Bool) (number place who moment : ℕ) (text body read : List ℕ) (old mid new : List Item)
    → read ≡ body → who ≡ sender_in names read s.who → moment ≡ moment_in read s.moment → connects ≡ is_new s.begun who read
    → mid ≡ old ++ begin_items names s.begun who moment read → new ≡ mid ++ came_item connects who moment number place text body ∷ []
    → new ≡ old ++ came_items names s number place text body
came_read names s connects number place who moment text body read old mid new e w m c p q =
    came names s connects number place who moment text body old mid new
    (w ∙ ap (λ (b : List ℕ). sender_in names b s.who) e)
    (m ∙ ap (λ (b : List ℕ). moment_in b s.moment) e)
    (c ∙ ap (λ (b : List ℕ). is_new s.begun who b) e)
    (p ∙ ap (λ (b : List ℕ). old ++ begin_items names s.begun who moment b) e)
    q
