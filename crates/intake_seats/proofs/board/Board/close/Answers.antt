use Rattle.std.proofs.Common.{◌≡◌, length, None, arith, ap, sym, ◌∙◌}
use Rattle.std.proofs.lemmas.List.Elements.{All-pop}
use Rattle.std.specs.Prelude.{Some, slice_get}
use Rattle.std.specs.Slots.{slots_items, slots_counts}
use Rattle.intake_seats.specs.Ends.{with_handers, with_takers}
use Rattle.intake_seats.specs.Steps.{spent}
use Rattle.intake_seats.proofs.Closing.{all_at, takes_more, all_left}
use Rattle.intake_seats.proofs.board.Board.close.Goals as goal

pub into_seat-whole-requires : goal.into_seat-whole-requires
into_seat-whole-requires g c =
    let all = all_at (λ t. (t.board ≡ c.args.self) × (t.in_hand ≡ None)) c.args.takes.items (λ k t e. let r = c.requires.takes.1 k t e in (r.0, r.2)) in
    (All-pop (λ t. (t.board ≡ c.args.self) × (t.in_hand ≡ None)) _ _ (Some c.in-Some.last) c.in-Some.ensures.items all).1.1

pub join_takes-requires-clause-whole : goal.join_takes-requires-clause-whole
join_takes-requires-clause-whole g c =
    let all = all_at (λ t. (t.board ≡ c.args.self) × (t.in_hand ≡ None)) c.args.takes.items (λ k t e. let r = c.requires.takes.1 k t e in (r.0, r.2)) in
    let last = (All-pop (λ t. (t.board ≡ c.args.self) × (t.in_hand ≡ None)) _ _ (Some c.in-Some.last) c.in-Some.ensures.items all).1 in
    (c.into_seat-whole.ensures.0 ∙ last.0, ap (λ m. m.1) c.into_seat-whole.ensures.1)

pub join_takes-requires-clause-takes : goal.join_takes-requires-clause-takes
join_takes-requires-clause-takes g c =
    let all = all_at (λ t. (t.board ≡ c.args.self) × (t.in_hand ≡ None)) c.args.takes.items (λ k t e. let r = c.requires.takes.1 k t e in (r.0, r.2)) in
    (All-pop (λ t. (t.board ≡ c.args.self) × (t.in_hand ≡ None)) _ _ (Some c.in-Some.last) c.in-Some.ensures.items all).0

pub join_hands-requires-clause-whole : goal.join_hands-requires-clause-whole
join_hands-requires-clause-whole g c =
    let all = all_at (λ t. (t.board ≡ c.args.self) × (t.in_hand ≡ None)) c.args.takes.items (λ k t e. let r = c.requires.takes.1 k t e in (r.0, r.2)) in
    let last = (All-pop (λ t. (t.board ≡ c.args.self) × (t.in_hand ≡ None)) _ _ (Some c.in-Some.last) c.in-Some.ensures.items all).1 in
    (c.join_takes.ensures.whole.0 ∙ c.into_seat-whole.ensures.0 ∙ last.0, ap (λ m. m.1) c.join_takes.ensures.whole.1)

pub join_hands-requires-clause-hands : goal.join_hands-requires-clause-hands
join_hands-requires-clause-hands g c = all_at (λ h. h.board ≡ c.args.self) c.args.hands.items (λ k h e. (c.requires.hands.1 k h e).0)

pub close_with-requires : goal.close_with-requires
close_with-requires g c =
    let all = all_at (λ t. (t.board ≡ c.args.self) × (t.in_hand ≡ None)) c.args.takes.items (λ k t e. let r = c.requires.takes.1 k t e in (r.0, r.2)) in
    let last = (All-pop (λ t. (t.board ≡ c.args.self) × (t.in_hand ≡ None)) _ _ (Some c.in-Some.last) c.in-Some.ensures.items all).1 in
    c.join_hands.ensures.whole.0 ∙ c.join_takes.ensures.whole.0 ∙ c.into_seat-whole.ensures.0 ∙ last.0 ∙ sym c.self.view_is

pub returns-clause-left : goal.returns-clause-left
returns-clause-left g c =
    let hands = c.args.hands.items in
    let rest = c.pop.new.self.items in
    let slots = c.close_with.result.slots in
    let whole = ap (λ m. m.0) c.join_hands.ensures.whole.1 ∙ ap (λ m. with_handers hands m.0) c.join_takes.ensures.whole.1 ∙ ap (λ m. with_handers hands (with_takers rest m.0)) c.into_seat-whole.ensures.1
    ∙ ap (with_handers hands) (takes_more rest c.in-Some.last spent ∙ ap (λ l. with_takers l spent) (sym c.in-Some.ensures.items)) in (
      omega (arith, c.empty_slots.new.left.ok.0, ap length c.empty_slots.ensures, (slots_counts slots).0, c.close_with.ensures.counts.1, c.self.invariant.0, c.self.invariant.1, ap (λ b. b.words) c.self.view_is),
      λ k h t x h_at t_at x_at. all_left _ _ _ _ (slots_items slots) c.args.self hands c.args.takes.items c.close_with.ensures.values.2 whole c.requires.hands c.requires.takes k h t x h_at t_at
          (ap (λ l. slice_get l k) (sym c.empty_slots.ensures) ∙ x_at),
    )
