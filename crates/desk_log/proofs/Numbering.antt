-- The frames of a log, one after another.
use Rattle.std.proofs.Common.{◌≡◌, ℕ, suc, ◌+◌, ◌<◌, List, ◌∷◌, ◌++◌, length, drop, get_or, sym, ap, ◌∙◌, add-one, append_assoc}
use Rattle.std.proofs.Math.Seq.{drop-cons}
use Rattle.desk_log.specs.declared.frames.Span.{Span}
use Rattle.desk_log.specs.declared.numbered.Numbered.{Numbered}
use Rattle.desk_log.specs.declared.numbered.Place.{Place}
use Rattle.desk_log.specs.Numbered.{body_at, latest_behind, number_between, numbered_from, numbered_if}

span_here : (bodies : List Span) (i : ℕ) (s : Span) → i < length bodies → s ≡ get_or bodies i s → drop i bodies ≡ s ∷ drop (i + 1) bodies
span_here bodies i s low at = rw add-one (drop-cons bodies i s low ∙ ap (λ (x : Span). x ∷ drop (suc i) bodies) (sym at))

-- one body more
pub numbered_more : (from to log : List ℕ) (bodies : List Span) (i : ℕ) (s : Span) (era later : Place) (found new all : List Numbered) → i < length bodies → s ≡ get_or bodies i s
    → new ≡ found ++ numbered_if era (number_between from to (body_at log s)) (body_at log s) s
    → later ≡ latest_behind era (number_between from to (body_at log s)) (body_at log s)
    → found ++ numbered_from from to log era (drop i bodies) ≡ all
    → new ++ numbered_from from to log later (drop (i + 1) bodies) ≡ all
numbered_more from to log bodies i s era later found new all low at pushed behind so_far =
    let body = body_at log s in
    let these = numbered_if era (number_between from to body) body s in
    ap (λ (l : List Numbered). l ++ numbered_from from to log later (drop (i + 1) bodies)) pushed
    ∙ ap (λ (e : Place). (found ++ these) ++ numbered_from from to log e (drop (i + 1) bodies)) behind
    ∙ append_assoc found these (numbered_from from to log (latest_behind era (number_between from to body) body) (drop (i + 1) bodies))
    ∙ ap (λ (l : List Span). found ++ numbered_from from to log era l) (sym (span_here bodies i s low at))
    ∙ so_far
