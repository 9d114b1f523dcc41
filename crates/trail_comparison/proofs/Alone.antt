-- The trades of a run that the other has not, one after another.
use Rattle.std.proofs.Common.{◌≡◌, ℕ, suc, ◌+◌, ◌<◌, Bool, true, false, ◌||◌, ◌&&◌, refl, if◌then◌else◌, List, [], ◌∷◌, ◌++◌, length, drop, get_or, sym, ap, ◌∙◌, add-one, append_assoc, length-append, arith}
use Rattle.std.proofs.Math.Seq.{drop-cons}
use Rattle.std.proofs.lemmas.Grind.{flat_map-append}
use Rattle.std.specs.List.{list_any}
use Rattle.venue_rules.specs.declared.trail.TradeFact.{TradeFact}
use Rattle.venue_rules.specs.Market.{Market}
use Rattle.trail_comparison.specs.Trades.{alone_at, alone_from, is_alone, is_in_room, trade_line, trade_lines}

front : (ts : List TradeFact) (i : ℕ) (t : TradeFact) → i < length ts → t ≡ get_or ts i t → drop i ts ≡ t ∷ drop (i + 1) ts
front ts i t low at = rw add-one (drop-cons ts i t low ∙ ap (λ (x : TradeFact). x ∷ drop (suc i) ts) (sym at))

pub one_more_text : (label : List ℕ) (m : Market) (all others : List TradeFact) (i : ℕ) (t : TradeFact) (text new whole : List ℕ) → i < length all → t ≡ get_or all i t
    → new ≡ text ++ trade_lines label m (alone_at all others i t) → text ++ trade_lines label m (alone_from all others i (drop i all)) ≡ whole
    → new ++ trade_lines label m (alone_from all others (i + 1) (drop (i + 1) all)) ≡ whole
one_more_text label m all others i t text new whole low at pushed so_far =
    let here = alone_at all others i t in
    let later = alone_from all others (i + 1) (drop (i + 1) all) in
    ap (λ (l : List ℕ). l ++ trade_lines label m later) pushed
    ∙ append_assoc text (trade_lines label m here) (trade_lines label m later)
    ∙ ap (λ (l : List ℕ). text ++ l) (sym (flat_map-append (trade_line label m) here later))
    ∙ ap (λ (l : List TradeFact). text ++ trade_lines label m (alone_from all others i l)) (sym (front all i t low at))
    ∙ so_far

pub one_more_count : (all others : List TradeFact) (i : ℕ) (t : TradeFact) (count more whole : ℕ) → i < length all → t ≡ get_or all i t → more ≡ length (alone_at all others i t)
    → count + length (alone_from all others i (drop i all)) ≡ whole → (count + more) + length (alone_from all others (i + 1) (drop (i + 1) all)) ≡ whole
one_more_count all others i t count more whole low at counted so_far =
    let here = alone_at all others i t in
    let later = alone_from all others (i + 1) (drop (i + 1) all) in
    let both : length (alone_from all others i (drop i all)) ≡ length here + length later = ap (λ (l : List TradeFact). length (alone_from all others i l)) (front all i t low at) ∙ length-append here later in
    omega (arith, counted, so_far, both)

room_at : (found in_room listed : Bool) (t : TradeFact) (later : List TradeFact) → is_in_room t ≡ in_room
    → ((found || (in_room && listed)) || list_any is_in_room later) ≡ (found || list_any is_in_room ((if listed then t ∷ [] else []) ++ later))
room_at true in_room listed t later e = refl
room_at false true true t later e = sym (ap (λ (b : Bool). b || list_any is_in_room later) e)
room_at false true false t later e = refl
room_at false false true t later e = sym (ap (λ (b : Bool). b || list_any is_in_room later) e)
room_at false false false t later e = refl

pub one_more_room : (all others : List TradeFact) (i : ℕ) (t : TradeFact) (found next whole : Bool) → i < length all → t ≡ get_or all i t
    → next ≡ (found || (is_in_room t && is_alone all others i t)) → (found || list_any is_in_room (alone_from all others i (drop i all))) ≡ whole
    → (next || list_any is_in_room (alone_from all others (i + 1) (drop (i + 1) all))) ≡ whole
one_more_room all others i t found next whole low at stepped so_far =
    let later = alone_from all others (i + 1) (drop (i + 1) all) in
    ap (λ (b : Bool). b || list_any is_in_room later) stepped
    ∙ room_at found (is_in_room t) (is_alone all others i t) t later refl
    ∙ ap (λ (l : List TradeFact). found || list_any is_in_room (alone_from all others i l)) (sym (front all i t low at))
    ∙ so_far

pub or_none : (found whole : Bool) → (found || false) ≡ whole → found ≡ whole
or_none true whole e = e
or_none false whole e = e
