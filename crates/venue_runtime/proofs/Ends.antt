-- The ends of the seats that the threads gave back are those of their boards.
use Rattle.std.proofs.Common.{◌≡◌, ℕ, ◌<◌, List, [], map, length, sym, ap, ◌∙◌, subst, arith}
use Rattle.std.specs.Prelude.{Some, None, slice_get}
use Rattle.std.proofs.lemmas.List.{length-map}
use Rattle.std.proofs.lemmas.Option.{slice_get_within}
use Rattle.atomic_table.specs.Seated.{TableId}
use Rattle.fix_dictionary.specs.declared.messages.Item.{Item}
use Rattle.fix_session.specs.Reader.{Reader}
use Rattle.gateway.specs.Served.{Served, HasServed, AreServed}
use Rattle.gateway.specs.Thread.{Thread}
use Rattle.intake_seats.specs.Ends.{AreHands, AreTakes, IsSameHander, IsSameTaker}
use Rattle.intake_seats.specs.Given.{HandEnd, TakeEnd}
use Rattle.outbound_queue.specs.declared.outgoing.Outgoing.{Outgoing}
use Rattle.venue_runtime.proofs.Lists.{at_map, at_both, get_within, long_both, slice_map}

hands_end : (board : TableId) (turns : ℕ) (r : Reader) (starts finished : List Served) → AreServed turns starts finished → AreHands board (map (λ (s : Served). s.thread.hand) starts) → AreHands board (map (λ (f : Served). f.thread.hand) finished)
hands_end board turns r starts finished served hands = (
  length-map finished _ ∙ served.count ∙ sym (length-map starts _) ∙ hands.0,
  (λ k h at.
      let found = at_map (λ (f : Served). f.thread.hand) finished k h at in
      let within = slice_get_within finished k found.0 found.1 in
      let from = get_within starts k (omega (arith, within, served.count)) in
      let kept : IsSameHander from.0.thread.hand found.0.thread.hand = ((served.each k from.0 found.0 from.1 found.1).led.loops r).hand in
      let own = hands.1 k from.0.thread.hand (slice_map (λ (s : Served). s.thread.hand) starts k from.0 from.1) in
      subst (λ (e : HandEnd Item). (e.board ≡ board) × (e.number ≡ k)) found.2 (kept.0 ∙ own.0, kept.1 ∙ own.1)),
)

takes_end : (board : TableId) (turns : ℕ) (r : Reader) (starts finished : List Served) → AreServed turns starts finished → AreTakes board (map (λ (s : Served). s.thread.take) starts) → AreTakes board (map (λ (f : Served). f.thread.take) finished)
takes_end board turns r starts finished served takes = (
  length-map finished _ ∙ served.count ∙ sym (length-map starts _) ∙ takes.0,
  (λ k h at.
      let found = at_map (λ (f : Served). f.thread.take) finished k h at in
      let within = slice_get_within finished k found.0 found.1 in
      let from = get_within starts k (omega (arith, within, served.count)) in
      let has = served.each k from.0 found.0 from.1 found.1 in
      let kept : IsSameTaker from.0.thread.take found.0.thread.take = (has.led.loops r).take in
      let own = takes.1 k from.0.thread.take (slice_map (λ (s : Served). s.thread.take) starts k from.0 from.1) in
      subst (λ (e : TakeEnd Outgoing). (e.board ≡ board) × (e.number ≡ k) × (e.in_hand ≡ None)) found.2 (kept.0 ∙ own.0, kept.1 ∙ own.1, has.free)),
)

-- the same of what is to be closed, which shows the same threads
pub hands_closed : {E : Type 0} (board : TableId) (turns : ℕ) (r : Reader) (starts finished : List Served) (hands : List (HandEnd Item)) (ended : List E) (thread : E → Thread) (hand : E → HandEnd Item) →
    ((e : E) → (thread e).hand ≡ hand e) → map thread ended ≡ map (λ (f : Served). f.thread) finished → AreServed turns starts finished → map (λ (s : Served). s.thread.hand) starts ≡ hands → AreHands board hands → AreHands board (map hand ended)
hands_closed {E} board turns r starts finished hands ended thread hand shows same served are own =
    let closed = hands_end board turns r starts finished served (subst (λ (hs : List (HandEnd Item)). AreHands board hs) (sym are) own) in (
      length-map ended hand ∙ long_both thread (λ (f : Served). f.thread) ended finished same ∙ sym (length-map finished (λ (f : Served). f.thread.hand)) ∙ closed.0,
      (λ k h at.
          let found = at_map hand ended k h at in
          let end = at_both thread (λ (f : Served). f.thread) ended finished k found.0 same found.1 in
          let is : end.0.thread.hand ≡ h = ap (λ (t : Thread). t.hand) end.2 ∙ shows found.0 ∙ found.2 in
          subst (λ (e : HandEnd Item). (e.board ≡ board) × (e.number ≡ k)) is (closed.1 k end.0.thread.hand (slice_map (λ (f : Served). f.thread.hand) finished k end.0 end.1))),
    )

pub takes_closed : {E : Type 0} (board : TableId) (turns : ℕ) (r : Reader) (starts finished : List Served) (takes : List (TakeEnd Outgoing)) (ended : List E) (thread : E → Thread) (take : E → TakeEnd Outgoing) →
    ((e : E) → (thread e).take ≡ take e) → map thread ended ≡ map (λ (f : Served). f.thread) finished → AreServed turns starts finished → map (λ (s : Served). s.thread.take) starts ≡ takes → AreTakes board takes → AreTakes board (map take ended)
takes_closed {E} board turns r starts finished takes ended thread take shows same served are own =
    let closed = takes_end board turns r starts finished served (subst (λ (hs : List (TakeEnd Outgoing)). AreTakes board hs) (sym are) own) in (
      length-map ended take ∙ long_both thread (λ (f : Served). f.thread) ended finished same ∙ sym (length-map finished (λ (f : Served). f.thread.take)) ∙ closed.0,
      (λ k h at.
          let found = at_map take ended k h at in
          let end = at_both thread (λ (f : Served). f.thread) ended finished k found.0 same found.1 in
          let is : end.0.thread.take ≡ h = ap (λ (t : Thread). t.take) end.2 ∙ shows found.0 ∙ found.2 in
          subst (λ (e : TakeEnd Outgoing). (e.board ≡ board) × (e.number ≡ k) × (e.in_hand ≡ None)) is (closed.1 k end.0.thread.take (slice_map (λ (f : Served). f.thread.take) finished k end.0 end.1))),
    )
