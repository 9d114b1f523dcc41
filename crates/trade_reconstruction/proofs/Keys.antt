-- What is sought has the key by which it is looked up.
use Rattle.std.proofs.Common.{◌≡◌, refl, sym, ap, subst, ◌∙◌, ℕ, ◌==◌, Bool, true, false, ◌&&◌, not, List, [], ◌∷◌, ◌++◌, filter, find, nat_lt, eq-eqb, eqb-true, if◌then◌else◌}
use Rattle.std.specs.Prelude.{bytes_eq, codes}
use Rattle.std.specs.List.{flat_map}
use Rattle.std.proofs.lemmas.Bool.{true≢false, false_from_ne_true}
use Rattle.std.proofs.lemmas.Slice.Eq.{bytes_eq-Decides}
use Rattle.participants.specs.ParticipantFile.{ParticipantFile}
use Rattle.participants.specs.Relations.{name_of}
use Rattle.venue_rules.specs.declared.trail.TrailRow.{TrailRow}
use Rattle.venue_rules.specs.Facts.{History}
use Rattle.venue_rules.specs.Market.{Market}
use Rattle.trade_reconstruction.specs.declared.evidence_event.Asked.{Asked}
use Rattle.trade_reconstruction.specs.declared.evidence_event.EventKind.{EventKind}
use Rattle.trade_reconstruction.specs.declared.evidence_event.EventKind.TheVariants as said
use Rattle.trade_reconstruction.specs.declared.evidence_event.EvidenceEvent.{EvidenceEvent}
use Rattle.trade_reconstruction.specs.declared.finding.Query.{Query}
use Rattle.trade_reconstruction.specs.declared.finding.Query.TheVariants.{Request, Order, Fill, OtherFill, FillAt, Hit, HeldSide, Entry}
use Rattle.trade_reconstruction.specs.declared.key.Key.TheVariants.{First}
use Rattle.trade_reconstruction.specs.declared.quote_note.Ended.{Ended}
use Rattle.trade_reconstruction.specs.declared.quote_note.HitAt.{HitAt}
use Rattle.trade_reconstruction.specs.Indexed.{first_said, has_key, is_keyed, name_key, second_said}
use Rattle.trade_reconstruction.specs.Lines.{answered_said, answered_word, asked_lines, asked_said, asked_word, enters_said, fills_at_said, fills_other_said, fills_said, hit_line, hit_said, hit_word, hits_said, holds_said, is_asked, is_asked_said, is_entry_said, is_sought, is_to, key_of, other_line, others, pair_line, pictured_line, quote_line, recipient_in, recipients_of, request_line, row_text, shown_line, three_if, three_line, words_lines}
use Rattle.trade_reconstruction.specs.Unrelated.{three_of}
use Rattle.trade_reconstruction.specs.QuoteNotes.{fate_at, fate_note, fate_of, fate_said}
use Rattle.trade_reconstruction.proofs.Holds.{and_parts}
use Rattle.trade_reconstruction.proofs.Index.{find_same, flat_same}

same_name : (to who : ℕ) (x id : List ℕ) → (to == who && bytes_eq x id) ≡ true → (name_key to x == name_key who id) ≡ true
same_name to who x id e =
    let parts = and_parts (to == who) (bytes_eq x id) e in
    let who_is = eqb-true to who parts.0 in
    let id_is = (bytes_eq-Decides x id).0 parts.1 in
    eq-eqb (name_key to x) (name_key who id) (λ j. name_key (who_is j) (id_is j))

asked_key : (room : ℕ) (to : ℕ) (s : EventKind) → is_asked_said room s ≡ true → is_keyed room (first_said to s) ≡ true
asked_key room to (said.Asked x) e = e
asked_key room to (said.SnapshotSent x) e = absurd (true≢false (sym e))
asked_key room to (said.Shown x) e = absurd (true≢false (sym e))
asked_key room to (said.Quoted x) e = absurd (true≢false (sym e))
asked_key room to (said.Hit x) e = absurd (true≢false (sym e))
asked_key room to (said.Entered x) e = absurd (true≢false (sym e))
asked_key room to (said.Held x) e = absurd (true≢false (sym e))
asked_key room to (said.Filled x) e = absurd (true≢false (sym e))
asked_key room to (said.RestedBefore x) e = absurd (true≢false (sym e))
asked_key room to (said.RestedCount x) e = absurd (true≢false (sym e))

enters_key : (order : ℕ) (to : ℕ) (s : EventKind) → enters_said order s ≡ true → is_keyed order (first_said to s) ≡ true
enters_key order to (said.Asked x) e = absurd (true≢false (sym e))
enters_key order to (said.SnapshotSent x) e = absurd (true≢false (sym e))
enters_key order to (said.Shown x) e = absurd (true≢false (sym e))
enters_key order to (said.Quoted x) e = absurd (true≢false (sym e))
enters_key order to (said.Hit x) e = absurd (true≢false (sym e))
enters_key order to (said.Entered x) e = e
enters_key order to (said.Held x) e = absurd (true≢false (sym e))
enters_key order to (said.Filled x) e = absurd (true≢false (sym e))
enters_key order to (said.RestedBefore x) e = absurd (true≢false (sym e))
enters_key order to (said.RestedCount x) e = absurd (true≢false (sym e))

fills_key : (trade : ℕ) (to : ℕ) (s : EventKind) → fills_said trade s ≡ true → is_keyed trade (first_said to s) ≡ true
fills_key trade to (said.Asked x) e = absurd (true≢false (sym e))
fills_key trade to (said.SnapshotSent x) e = absurd (true≢false (sym e))
fills_key trade to (said.Shown x) e = absurd (true≢false (sym e))
fills_key trade to (said.Quoted x) e = absurd (true≢false (sym e))
fills_key trade to (said.Hit x) e = absurd (true≢false (sym e))
fills_key trade to (said.Entered x) e = absurd (true≢false (sym e))
fills_key trade to (said.Held x) e = absurd (true≢false (sym e))
fills_key trade to (said.Filled x) e = e
fills_key trade to (said.RestedBefore x) e = absurd (true≢false (sym e))
fills_key trade to (said.RestedCount x) e = absurd (true≢false (sym e))

fills_other_key : (trade order : ℕ) (to : ℕ) (s : EventKind) → fills_other_said trade order s ≡ true → is_keyed trade (first_said to s) ≡ true
fills_other_key trade order to (said.Asked x) e = absurd (true≢false (sym e))
fills_other_key trade order to (said.SnapshotSent x) e = absurd (true≢false (sym e))
fills_other_key trade order to (said.Shown x) e = absurd (true≢false (sym e))
fills_other_key trade order to (said.Quoted x) e = absurd (true≢false (sym e))
fills_other_key trade order to (said.Hit x) e = absurd (true≢false (sym e))
fills_other_key trade order to (said.Entered x) e = absurd (true≢false (sym e))
fills_other_key trade order to (said.Held x) e = absurd (true≢false (sym e))
fills_other_key trade order to (said.Filled x) e = (and_parts (x.trade == trade) (not (x.order == order)) e).0
fills_other_key trade order to (said.RestedBefore x) e = absurd (true≢false (sym e))
fills_other_key trade order to (said.RestedCount x) e = absurd (true≢false (sym e))

fills_at_key : (order row at : ℕ) (to : ℕ) (s : EventKind) → fills_at_said order row at s ≡ true → is_keyed order (second_said to s) ≡ true
fills_at_key order row at to (said.Asked x) e = absurd (true≢false (sym e))
fills_at_key order row at to (said.SnapshotSent x) e = absurd (true≢false (sym e))
fills_at_key order row at to (said.Shown x) e = absurd (true≢false (sym e))
fills_at_key order row at to (said.Quoted x) e = absurd (true≢false (sym e))
fills_at_key order row at to (said.Hit x) e = absurd (true≢false (sym e))
fills_at_key order row at to (said.Entered x) e = absurd (true≢false (sym e))
fills_at_key order row at to (said.Held x) e = absurd (true≢false (sym e))
fills_at_key order row at to (said.Filled x) e = (and_parts (x.order == order) (at == row) e).0
fills_at_key order row at to (said.RestedBefore x) e = absurd (true≢false (sym e))
fills_at_key order row at to (said.RestedCount x) e = absurd (true≢false (sym e))

hits_key : (trade : ℕ) (to : ℕ) (s : EventKind) → hits_said trade s ≡ true → is_keyed trade (second_said to s) ≡ true
hits_key trade to (said.Asked x) e = absurd (true≢false (sym e))
hits_key trade to (said.SnapshotSent x) e = absurd (true≢false (sym e))
hits_key trade to (said.Shown x) e = absurd (true≢false (sym e))
hits_key trade to (said.Quoted x) e = absurd (true≢false (sym e))
hits_key trade to (said.Hit x) e = e
hits_key trade to (said.Entered x) e = absurd (true≢false (sym e))
hits_key trade to (said.Held x) e = absurd (true≢false (sym e))
hits_key trade to (said.Filled x) e = absurd (true≢false (sym e))
hits_key trade to (said.RestedBefore x) e = absurd (true≢false (sym e))
hits_key trade to (said.RestedCount x) e = absurd (true≢false (sym e))

holds_key : (who : ℕ) (id : List ℕ) (to : ℕ) (s : EventKind) → holds_said who id to s ≡ true → is_keyed (name_key who id) (first_said to s) ≡ true
holds_key who id to (said.Asked x) e = absurd (true≢false (sym e))
holds_key who id to (said.SnapshotSent x) e = absurd (true≢false (sym e))
holds_key who id to (said.Shown x) e = absurd (true≢false (sym e))
holds_key who id to (said.Quoted x) e = absurd (true≢false (sym e))
holds_key who id to (said.Hit x) e = absurd (true≢false (sym e))
holds_key who id to (said.Entered x) e = absurd (true≢false (sym e))
holds_key who id to (said.Held x) e = same_name to who x.id id e
holds_key who id to (said.Filled x) e = absurd (true≢false (sym e))
holds_key who id to (said.RestedBefore x) e = absurd (true≢false (sym e))
holds_key who id to (said.RestedCount x) e = absurd (true≢false (sym e))

entry_key : (who : ℕ) (id : List ℕ) (to : ℕ) (s : EventKind) → is_entry_said who id to s ≡ true → is_keyed (name_key who id) (second_said to s) ≡ true
entry_key who id to (said.Asked x) e = absurd (true≢false (sym e))
entry_key who id to (said.SnapshotSent x) e = absurd (true≢false (sym e))
entry_key who id to (said.Shown x) e = absurd (true≢false (sym e))
entry_key who id to (said.Quoted x) e = absurd (true≢false (sym e))
entry_key who id to (said.Hit x) e = absurd (true≢false (sym e))
entry_key who id to (said.Entered x) e = same_name to who x.id id e
entry_key who id to (said.Held x) e = absurd (true≢false (sym e))
entry_key who id to (said.Filled x) e = absurd (true≢false (sym e))
entry_key who id to (said.RestedBefore x) e = absurd (true≢false (sym e))
entry_key who id to (said.RestedCount x) e = absurd (true≢false (sym e))

pub sought_key : (q : Query) (w : EvidenceEvent) → is_sought q w ≡ true → has_key (key_of q) w ≡ true
sought_key (Request room) w e = asked_key room w.to w.said e
sought_key (Order order) w e = enters_key order w.to w.said e
sought_key (Fill trade) w e = fills_key trade w.to w.said e
sought_key (OtherFill trade order) w e = fills_other_key trade order w.to w.said e
sought_key (FillAt order row) w e = fills_at_key order row w.row w.to w.said e
sought_key (Hit trade) w e = hits_key trade w.to w.said e
sought_key (HeldSide who id) w e = holds_key who id w.to w.said e
sought_key (Entry who id) w e = entry_key who id w.to w.said e

-- among events of which those with its key are the same, the same is found
pub found_by_key : (q : Query) (xs ys : List EvidenceEvent) → filter (has_key (key_of q)) xs ≡ filter (has_key (key_of q)) ys → find (is_sought q) xs ≡ find (is_sought q) ys
found_by_key q xs ys e = find_same (is_sought q) (has_key (key_of q)) (sought_key q) xs ys e

-- In a room.

abbrev in_room : ℕ → EvidenceEvent → Bool
in_room room w = has_key (First room) w

not_asked : (room : ℕ) (w : EvidenceEvent) → in_room room w ≡ false → is_asked room w ≡ false
not_asked room w e = false_from_ne_true (is_asked room w) (λ t. true≢false (sym (asked_key room w.to w.said t) ∙ e))

not_recipient : (room : ℕ) (w : EvidenceEvent) → in_room room w ≡ false → recipient_in room w ≡ []
not_recipient room w e = ap (λ (b : Bool). if b then w.to ∷ [] else []) (not_asked room w e)

recipients_same : (room : ℕ) (xs ys : List EvidenceEvent) → filter (in_room room) xs ≡ filter (in_room room) ys → recipients_of room xs ≡ recipients_of room ys
recipients_same room xs ys e = flat_same (recipient_in room) (in_room room) (not_recipient room) xs ys e

pub three_same : (file : ParticipantFile) (w : EvidenceEvent) (a : Asked) (xs ys : List EvidenceEvent) → filter (in_room a.room) xs ≡ filter (in_room a.room) ys → three_line file xs w a ≡ three_line file ys w a
three_same file w a xs ys e = ap (λ (rs : List ℕ). three_if file a.requester (three_of file a.requester rs) w.row) (recipients_same a.room xs ys e)

not_other : (file : ParticipantFile) (room who row : ℕ) (w : EvidenceEvent) → in_room room w ≡ false → other_line file room who row w ≡ []
not_other file room who row w e = ap (λ (b : Bool). if b && nat_lt w.to who then pair_line file who w.to row else []) (not_asked room w e)

others_same : (file : ParticipantFile) (room who row : ℕ) (xs ys : List EvidenceEvent) → filter (in_room room) xs ≡ filter (in_room room) ys → others file xs room who row ≡ others file ys room who row
others_same file room who row xs ys e = flat_same (other_line file room who row) (in_room room) (not_other file room who row) xs ys e

asked_agree : (file : ParticipantFile) (a : Asked) (xs ys : List EvidenceEvent) → filter (in_room a.room) xs ≡ filter (in_room a.room) ys → (w : EvidenceEvent) (s : EventKind) → asked_said file xs a w s ≡ asked_said file ys a w s
asked_agree file a xs ys e w (said.Asked b) = by (b.room == a.room) refl
  where
    by : (c : Bool) → (b.room == a.room) ≡ c → (if b.room == a.room then asked_lines file xs w b else []) ≡ (if b.room == a.room then asked_lines file ys w b else [])
    by true t =
        let here : a.room ≡ b.room = sym (eqb-true b.room a.room t) in
        ap (λ (l : List ℕ). if b.room == a.room then codes "asked " ++ (name_of file w.to ++ (row_text w.row ++ (pair_line file w.to b.requester w.row ++ l))) else []) (others_same file b.room w.to w.row xs ys (subst (λ (n : ℕ). filter (in_room n) xs ≡ filter (in_room n) ys) here e))
    by false t = ap (λ (d : Bool). if d then asked_lines file xs w b else []) t ∙ sym (ap (λ (d : Bool). if d then asked_lines file ys w b else []) t)
asked_agree file a xs ys e w (said.SnapshotSent x) = refl
asked_agree file a xs ys e w (said.Shown x) = refl
asked_agree file a xs ys e w (said.Quoted x) = refl
asked_agree file a xs ys e w (said.Hit x) = refl
asked_agree file a xs ys e w (said.Entered x) = refl
asked_agree file a xs ys e w (said.Held x) = refl
asked_agree file a xs ys e w (said.Filled x) = refl
asked_agree file a xs ys e w (said.RestedBefore x) = refl
asked_agree file a xs ys e w (said.RestedCount x) = refl

not_asked_word : (file : ParticipantFile) (words : List EvidenceEvent) (a : Asked) (w : EvidenceEvent) (s : EventKind) → is_keyed a.room (first_said w.to s) ≡ false → asked_said file words a w s ≡ []
not_asked_word file words a w (said.Asked b) e = ap (λ (c : Bool). if c then asked_lines file words w b else []) e
not_asked_word file words a w (said.SnapshotSent x) e = refl
not_asked_word file words a w (said.Shown x) e = refl
not_asked_word file words a w (said.Quoted x) e = refl
not_asked_word file words a w (said.Hit x) e = refl
not_asked_word file words a w (said.Entered x) e = refl
not_asked_word file words a w (said.Held x) e = refl
not_asked_word file words a w (said.Filled x) e = refl
not_asked_word file words a w (said.RestedBefore x) e = refl
not_asked_word file words a w (said.RestedCount x) e = refl

flat_agree : {X Y : Type 0} (f g : X → List Y) → ((x : X) → f x ≡ g x) → (xs : List X) → flat_map f xs ≡ flat_map g xs
flat_agree f g h [] = refl
flat_agree f g h (x ∷ xs) = (λ j. h x j ++ flat_agree f g h xs j)

pub asked_same : (file : ParticipantFile) (a : Asked) (xs ys : List EvidenceEvent) → filter (in_room a.room) xs ≡ filter (in_room a.room) ys → flat_map (asked_word file xs a) xs ≡ flat_map (asked_word file ys a) ys
unfolding asked_word
asked_same file a xs ys e =
    flat_agree (asked_word file xs a) (asked_word file ys a) (λ w. asked_agree file a xs ys e w w.said) xs
    ∙ flat_same (asked_word file ys a) (in_room a.room) (λ w. not_asked_word file ys a w w.said) xs ys e

not_hit_word : (rs : List TrailRow) (file : ParticipantFile) (a : Asked) (w : EvidenceEvent) (s : EventKind) → is_keyed a.room (first_said w.to s) ≡ false → hit_said rs file a w s ≡ []
not_hit_word rs file a w (said.Asked x) e = refl
not_hit_word rs file a w (said.SnapshotSent x) e = refl
not_hit_word rs file a w (said.Shown x) e = refl
not_hit_word rs file a w (said.Quoted x) e = refl
not_hit_word rs file a w (said.Hit x) e = ap (λ (c : Bool). if c && w.to == a.requester then hit_line rs file w x else []) e
not_hit_word rs file a w (said.Entered x) e = refl
not_hit_word rs file a w (said.Held x) e = refl
not_hit_word rs file a w (said.Filled x) e = refl
not_hit_word rs file a w (said.RestedBefore x) e = refl
not_hit_word rs file a w (said.RestedCount x) e = refl

pub hits_same : (rs : List TrailRow) (file : ParticipantFile) (a : Asked) (xs ys : List EvidenceEvent) → filter (in_room a.room) xs ≡ filter (in_room a.room) ys → flat_map (hit_word rs file a) xs ≡ flat_map (hit_word rs file a) ys
unfolding hit_word
hits_same rs file a xs ys e = flat_same (hit_word rs file a) (in_room a.room) (λ w. not_hit_word rs file a w w.said) xs ys e

-- To the requester, on its request.

abbrev to_requester : Asked → EvidenceEvent → Bool
to_requester a w = has_key (First (name_key a.requester a.request)) w

not_to : (a : Asked) (to : ℕ) (request : List ℕ) → (name_key to request == name_key a.requester a.request) ≡ false → is_to a to request ≡ false
not_to a to request e = false_from_ne_true (is_to a to request) (λ t. true≢false (sym (same_name to a.requester request a.request t) ∙ e))

not_answered : (rs : List TrailRow) (file : ParticipantFile) (a : Asked) (w : EvidenceEvent) (s : EventKind) → is_keyed (name_key a.requester a.request) (first_said w.to s) ≡ false → answered_said rs file a w s ≡ []
not_answered rs file a w (said.Asked x) e = refl
not_answered rs file a w (said.SnapshotSent x) e = ap (λ (c : Bool). if c then pictured_line w x else []) (not_to a w.to x.request e)
not_answered rs file a w (said.Shown x) e = ap (λ (c : Bool). if c then shown_line w x else []) (not_to a w.to x.request e)
not_answered rs file a w (said.Quoted x) e = ap (λ (c : Bool). if c then quote_line rs file w x else []) (not_to a w.to x.request e)
not_answered rs file a w (said.Hit x) e = refl
not_answered rs file a w (said.Entered x) e = refl
not_answered rs file a w (said.Held x) e = refl
not_answered rs file a w (said.Filled x) e = refl
not_answered rs file a w (said.RestedBefore x) e = refl
not_answered rs file a w (said.RestedCount x) e = refl

pub answered_same : (rs : List TrailRow) (file : ParticipantFile) (a : Asked) (xs ys : List EvidenceEvent) → filter (to_requester a) xs ≡ filter (to_requester a) ys → flat_map (answered_word rs file a) xs ≡ flat_map (answered_word rs file a) ys
unfolding answered_word
answered_same rs file a xs ys e = flat_same (answered_word rs file a) (to_requester a) (λ w. not_answered rs file a w w.said) xs ys e

not_fate : (m : Market) (h : History) (x : HitAt) (a : Asked) (ended : List Ended) (to : ℕ) (s : EventKind) → is_keyed (name_key a.requester a.request) (first_said to s) ≡ false → fate_said m h x a ended to s ≡ []
not_fate m h x a ended to (said.Asked q) e = refl
not_fate m h x a ended to (said.SnapshotSent q) e = refl
not_fate m h x a ended to (said.Shown q) e = refl
not_fate m h x a ended to (said.Quoted q) e = ap (λ (c : Bool). if c then fate_note x a ended q (fate_at m h a x.moment q.quote) else []) (not_to a to q.request e)
not_fate m h x a ended to (said.Hit q) e = refl
not_fate m h x a ended to (said.Entered q) e = refl
not_fate m h x a ended to (said.Held q) e = refl
not_fate m h x a ended to (said.Filled q) e = refl
not_fate m h x a ended to (said.RestedBefore q) e = refl
not_fate m h x a ended to (said.RestedCount q) e = refl

pub fates_same : (m : Market) (h : History) (x : HitAt) (a : Asked) (ended : List Ended) (xs ys : List EvidenceEvent) → filter (to_requester a) xs ≡ filter (to_requester a) ys → flat_map (fate_of m h x a ended) xs ≡ flat_map (fate_of m h x a ended) ys
fates_same m h x a ended xs ys e = flat_same (fate_of m h x a ended) (to_requester a) (λ w. not_fate m h x a ended w.to w.said) xs ys e

-- the lines of a request, out of the events in its room and of those to the requester
pub words_same : (rs : List TrailRow) (file : ParticipantFile) (w : EvidenceEvent) (a : Asked) (xs ys words : List EvidenceEvent) → filter (in_room a.room) xs ≡ filter (in_room a.room) words → filter (to_requester a) ys ≡ filter (to_requester a) words
    → request_line rs file w a ++ (three_line file xs w a ++ (flat_map (asked_word file xs a) xs ++ (flat_map (answered_word rs file a) ys ++ flat_map (hit_word rs file a) xs)))
    ≡ request_line rs file w a ++ (three_line file words w a ++ words_lines rs file words a)
words_same rs file w a xs ys words in_it to_it =
    (λ j. request_line rs file w a ++ (three_same file w a xs words in_it j ++ (asked_same file a xs words in_it j ++ (answered_same rs file a ys words to_it j ++ hits_same rs file a xs words in_it j))))
