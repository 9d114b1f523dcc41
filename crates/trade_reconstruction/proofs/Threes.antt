-- Three unrelated recipients are found where there are three.
use Rattle.std.proofs.Common.{◌≡◌, refl, sym, ap, ◌∙◌, ℕ, Bool, true, false, cond, ◌||◌, List, [], ◌∷◌, ◌++◌, map, filter, find, Some, Contains}
use Rattle.std.specs.List.{list_any}
use Rattle.std.proofs.lemmas.Bool.{true≢false}
use Rattle.participants.specs.ParticipantFile.{ParticipantFile}
use Rattle.participants.specs.Relations.{are_unrelated, three_unrelated}
use Rattle.trade_reconstruction.specs.declared.evidence_event.EvidenceEvent.{EvidenceEvent}
use Rattle.trade_reconstruction.specs.declared.unrelated.Three.{Three}
use Rattle.trade_reconstruction.specs.Lines.{is_asked, recipients_of}
use Rattle.trade_reconstruction.specs.Unrelated.{has_second, has_third, three_of, with_first, with_second, with_third}
use Rattle.venue_rules.proofs.Members.{Contains-from_In, In-find}

some_found : (p : ℕ → Bool) (x : ℕ) (xs : List ℕ) (b : Bool) → (list_any p xs ≡ true → (y : ℕ) × (find p xs ≡ Some y)) → (b || list_any p xs) ≡ true → (y : ℕ) × (cond b (Some x) (find p xs) ≡ Some y)
some_found p x xs true rest e = (x, refl)
some_found p x xs false rest e = rest e

-- where one passes, one is found
any_found : (p : ℕ → Bool) (xs : List ℕ) → list_any p xs ≡ true → (y : ℕ) × (find p xs ≡ Some y)
any_found p [] e = absurd (true≢false (sym e))
any_found p (x ∷ xs) e = some_found p x xs (p x) (any_found p xs) e

-- three that are found
pub record FoundThree (file : ParticipantFile) (requester : ℕ) (rs : List ℕ) : Type 0 where
  pub three : Three
  pub is : three_of file requester rs ≡ Some three
  pub first : Contains rs three.first
  pub second : Contains rs three.second
  pub third : Contains rs three.third
  pub apart : are_unrelated file requester three.first three.second three.third ≡ true

pub three_found : (file : ParticipantFile) (requester : ℕ) (rs : List ℕ) → three_unrelated file requester rs ≡ true → FoundThree file requester rs
three_found file requester rs there_are =
    let first : ℕ → Bool = λ a. has_second file requester a rs in
    let a = any_found first rs there_are in
    let of_a = In-find first rs a.0 a.1 in
    let second : ℕ → Bool = λ b. has_third file requester a.0 b rs in
    let b = any_found second rs of_a.1 in
    let of_b = In-find second rs b.0 b.1 in
    let third : ℕ → Bool = are_unrelated file requester a.0 b.0 in
    let c = any_found third rs of_b.1 in
    let of_c = In-find third rs c.0 c.1 in
    record {
      three = record { first = a.0; second = b.0; third = c.0 };
      is = ap (with_first file requester rs) a.1 ∙ (ap (with_second file requester a.0 rs) b.1 ∙ ap (with_third a.0 b.0) c.1);
      first = Contains-from_In rs a.0 of_a.0;
      second = Contains-from_In rs b.0 of_b.0;
      third = Contains-from_In rs c.0 of_c.0;
      apart = of_c.1;
    }

one_recipient : (w : EvidenceEvent) (rs : List ℕ) (ws : List EvidenceEvent) (b : Bool) → rs ≡ map (λ (x : EvidenceEvent). x.to) ws → cond b (w.to ∷ []) [] ++ rs ≡ map (λ (x : EvidenceEvent). x.to) (cond b (w ∷ ws) ws)
one_recipient w rs ws true e = ap (λ l. w.to ∷ l) e
one_recipient w rs ws false e = e

-- the recipients in the events of a room
pub recipients_are : (room : ℕ) (ws : List EvidenceEvent) → recipients_of room ws ≡ map (λ (w : EvidenceEvent). w.to) (filter (is_asked room) ws)
recipients_are room [] = refl
recipients_are room (w ∷ ws) = one_recipient w (recipients_of room ws) (filter (is_asked room) ws) (is_asked room w) (recipients_are room ws)
