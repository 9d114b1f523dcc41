-- The first frame of some bytes: it is unique, and how it changes when bytes are skipped, taken or appended.
use Rattle.std.proofs.Common.{ℕ, ◌+◌, List, ◌++◌, Option, Some, None, take, drop, refl, sym, ◌∙◌, ap, subst}
use Rattle.std.specs.Prelude.{slice_range, IfSome}
use Rattle.std.proofs.lemmas.List.{drop-append-le, drop-drop}
use Rattle.fix_frame.specs.Buffered.{Buffered}
use Rattle.fix_frame.specs.Stream.{Begins, IsOpen, IsClosed, Passes, IsNext, HasNext, HasOneNext, NextStays, FirstThenRest, NoneThenEnd}
use Rattle.fix_frame.specs.Look.{IsLook}
use Rattle.fix_frame.specs.Cutter.{Cuts, GivesNext}
use Rattle.fix_frame.specs.declared.cutter.Cut.{Cut}
use Rattle.fix_frame.specs.declared.cutter.Cut.TheVariants as cut
use Rattle.fix_frame.specs.declared.look.Look.{Look}
use Rattle.fix_frame.specs.declared.look.Look.TheVariants.{Frame, Unfinished, Nothing}
use Rattle.fix_frame.proofs.Cutting.{part_of_front}
use Rattle.fix_frame.proofs.Reading.{first_one, Begins-one, Begins-push, Passes-push, Passes-join, Passes-none}
use Rattle.fix_frame.proofs.Starts.{IsOpen-from_closed, begins_from_look}
use Rattle.fix_frame.proofs.Total.{First, first_open, seen}

next_at : (s : List ℕ) (f : First s) (l : Look) → IsLook (drop f.place s) l → (found : Option (List ℕ × List ℕ)) × IsNext s found
next_at s f Nothing look = absurd (look f.can)
next_at s f Unfinished look = (None, (f.place, f.passes, look.0, look.1))
next_at s f (Frame start end) look =
    let rest : List ℕ = drop f.place s in
    (Some (slice_range rest start end, drop (end + 7) rest), (f.place, f.passes, begins_from_look rest start end look))

pub next_some : HasNext
next_some s =
    let f = first_open s in
    next_at s f (seen (drop f.place s)).0 (seen (drop f.place s)).1

pub next_one : HasOneNext
next_one s None None h g = refl
next_one s None (Some y) h g =
    let closed : IsClosed (drop g.0 s) = (y.0, y.1, g.2) in
    let same = first_one s g.0 h.0 g.1 (IsOpen-from_closed (drop g.0 s) closed) h.1 h.2 in
    absurd (h.3 (subst (λ k. IsClosed (drop k s)) same closed))
next_one s (Some x) None h g =
    let closed : IsClosed (drop h.0 s) = (x.0, x.1, h.2) in
    let same = first_one s h.0 g.0 h.1 (IsOpen-from_closed (drop h.0 s) closed) g.1 g.2 in
    absurd (g.3 (subst (λ k. IsClosed (drop k s)) same closed))
next_one s (Some x) (Some y) h g =
    let same = first_one s h.0 g.0 h.1 (IsOpen-from_closed (drop h.0 s) (x.0, x.1, h.2)) g.1 (IsOpen-from_closed (drop g.0 s) (y.0, y.1, g.2)) in
    let there : Begins (drop h.0 s) y.0 y.1 = subst (λ k. Begins (drop k s) y.0 y.1) (sym same) g.2 in
    let one = Begins-one (drop h.0 s) x.0 x.1 y.0 y.1 h.2 there in
    ap (λ b. Some (b, x.1)) one.0 ∙ ap (λ r. Some (y.0, r)) one.1

pub next_stays : NextStays
next_stays s more body after h =
    let here : Begins (drop h.0 (s ++ more)) body (after ++ more) = subst (λ x. Begins x body (after ++ more)) (sym (drop-append-le h.0 s more h.1.within)) (Begins-push (drop h.0 s) body after more h.2) in
    (h.0, Passes-push h.0 s more h.1, here)

pub first_then_rest : FirstThenRest
first_then_rest s body after bodies h g = (g.0, (h.0, after, h.1, h.2, g.1), g.2, g.3)

pub none_then_end : NoneThenEnd
none_then_end s h = (drop h.0 s, (h.0, h.1, refl), h.2, h.3)

skipped : (s : List ℕ) (p : ℕ) (found : Option (List ℕ × List ℕ)) → Passes p s → IsNext (drop p s) found → IsNext s found
skipped s p None passes h =
    let place = drop-drop h.0 p s in
    (p + h.0, Passes-join p h.0 s passes h.1, subst IsOpen place h.2, λ closed. h.3 (subst IsClosed (sym place) closed))
skipped s p (Some x) passes h = (p + h.0, Passes-join p h.0 s passes h.1, subst (λ r. Begins r x.0 x.1) (drop-drop h.0 p s) h.2)

pub gives_next : (c : Cut) (old new : Buffered) → Cuts c old new → GivesNext c old new
gives_next (cut.Skipped p) old new h = λ found later.
    let passes : Passes h.0 old.unread = subst (λ k. Passes k old.unread) (sym h.1.0) h.1.2 in
    skipped old.unread h.0 found passes (subst (λ r. IsNext r found) h.2.unread later)
gives_next (cut.Frame body) old new h =
    let is = part_of_front old.unread h.0 body.start body.end h.1.1 h.1.2 in
    let found : IsNext old.unread (Some (slice_range old.unread body.start body.end, drop h.0 old.unread)) = (0, Passes-none old.unread, h.1.4) in
    let given : IsNext old.unread (Some (slice_range (take h.0 old.unread) body.start body.end, new.unread)) =
    subst (λ b. IsNext old.unread (Some (b, new.unread))) (sym is) (subst (λ r. IsNext old.unread (Some (slice_range old.unread body.start body.end, r))) (sym h.2.unread) found) in
    subst (λ t. IfSome t (λ taken. IsNext old.unread (Some (slice_range taken body.start body.end, new.unread)))) (sym h.2.taken) given
gives_next cut.Open old new h = ((0, Passes-none old.unread, h.1.1, h.1.2), h.2.unread ∙ ap (λ k. drop k old.unread) h.1.0)
