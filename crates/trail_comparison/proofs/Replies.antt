-- Replies that are sent alike.
use Rattle.std.proofs.Common.{◌≡◌, ◌≢◌, ℕ, suc, Bool, true, false, ◌&&◌, List, [], ◌∷◌, length, drop, bytes_eq, refl, ap, ◌∙◌}
use Rattle.std.proofs.lemmas.Bool.Decides.{Decides-and}
use Rattle.std.proofs.lemmas.Slice.Eq.{bytes_eq-Decides}
use Rattle.fix_dictionary.specs.Text.{app_text}
use Rattle.participants.specs.ParticipantFile.{ParticipantFile}
use Rattle.participants.specs.Relations.{name_of}
use Rattle.venue_rules.specs.declared.replies.Reply.{Reply}
use Rattle.venue_rules.specs.Messages.{message}
use Rattle.trail_comparison.specs.Laws.{SameIsSentAlike}
use Rattle.trail_comparison.specs.Sent.{Sent, are_same, is_same, sent, sent_all}

-- lists of other lengths are not
pub apart : (one other : ParticipantFile) (rs ss : List Reply) → length rs ≢ length ss → are_same one other rs ss ≡ false
apart one other [] [] other_lengths = absurd (other_lengths refl)
apart one other [] (s ∷ ss) other_lengths = refl
apart one other (r ∷ rs) [] other_lengths = refl
apart one other (r ∷ rs) (s ∷ ss) other_lengths = by (is_same one other r s) (apart one other rs ss (λ same. other_lengths (ap suc same)))
  where
    by : (b : Bool) → are_same one other rs ss ≡ false → (b && are_same one other rs ss) ≡ false
    by true rest = rest
    by false rest = refl

-- what was compared so far is the same, and here is a difference
pub differs_here : (one other : ParticipantFile) (rs ss : List Reply) (k : ℕ) (r s : Reply) → drop k rs ≡ r ∷ drop (suc k) rs → drop k ss ≡ s ∷ drop (suc k) ss
    → is_same one other r s ≡ false → are_same one other (drop k rs) (drop k ss) ≡ false
differs_here one other rs ss k r s at at_too differs =
    (λ x. are_same one other (at x) (at_too x)) ∙ ap (λ (b : Bool). b && are_same one other (drop (suc k) rs) (drop (suc k) ss)) differs

pub same_here : (one other : ParticipantFile) (rs ss : List Reply) (k : ℕ) (r s : Reply) → drop k rs ≡ r ∷ drop (suc k) rs → drop k ss ≡ s ∷ drop (suc k) ss
    → is_same one other r s ≡ true → are_same one other (drop k rs) (drop k ss) ≡ are_same one other (drop (suc k) rs) (drop (suc k) ss)
same_here one other rs ss k r s at at_too same =
    (λ x. are_same one other (at x) (at_too x)) ∙ ap (λ (b : Bool). b && are_same one other (drop (suc k) rs) (drop (suc k) ss)) same

first_and_rest : {A : Type 0} (x y : A) (xs ys : List A) → x ∷ xs ≡ y ∷ ys → (x ≡ y) × (xs ≡ ys)
first_and_rest x y xs ys same = (cc, cc)

pub sent_alike : SameIsSentAlike
sent_alike one other [] [] = ((λ _. refl), (λ _. refl))
sent_alike one other [] (s ∷ ss) = ((λ e. absurd (cc)), (λ e. absurd (cc)))
sent_alike one other (r ∷ rs) [] = ((λ e. absurd (cc)), (λ e. absurd (cc)))
sent_alike one other (r ∷ rs) (s ∷ ss) =
    let names = bytes_eq-Decides (name_of one r.to) (name_of other s.to) in
    let texts = bytes_eq-Decides (app_text (message r.what)) (app_text (message s.what)) in
    let here = Decides-and (bytes_eq (name_of one r.to) (name_of other s.to)) (bytes_eq (app_text (message r.what)) (app_text (message s.what))) names texts in
    let all = Decides-and (is_same one other r s) (are_same one other rs ss) here (sent_alike one other rs ss) in (
      (λ is. let parts = all.0 is in (λ x. record { to = parts.0.0 x; text = parts.0.1 x } ∷ parts.1 x)),
      (λ same. let parts = first_and_rest (sent one r) (sent other s) (sent_all one rs) (sent_all other ss) same in
          all.1 ((ap (λ (a : Sent). a.to) parts.0, ap (λ (a : Sent). a.text) parts.0), parts.1)),
    )
