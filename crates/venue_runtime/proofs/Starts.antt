-- The starts of threads.
use Rattle.std.proofs.Common.{◌≡◌, ◌⊎◌, inl, inr, ℕ, ◌+◌, ◌<◌, List, [], ◌∷◌, ◌++◌, map, length, refl, ap, sym, ◌∙◌, subst, arith, length-append}
use Rattle.std.specs.Prelude.{Bool, Some, None, slice_get, slice_index_or}
use Rattle.atomic_table.specs.Seated.{TableId}
use Rattle.std.specs.List.{All}
use Rattle.fix_dictionary.specs.declared.messages.Item.{Item}
use Rattle.fix_session.specs.State.{Seen, begun}
use Rattle.gateway.specs.Served.{Served, IsReady}
use Rattle.intake_seats.specs.Ends.{AreHands, AreTakes}
use Rattle.intake_seats.specs.Given.{HandEnd, TakeEnd}
use Rattle.participants.specs.ParticipantFile.{ParticipantFile}
use Rattle.outbound_queue.specs.declared.outgoing.Outgoing.{Outgoing}
use Rattle.venue_runtime.specs.Making.{AreMade}
use Rattle.venue_runtime.specs.Starting.{AreNewSessions, AreStarts, SessionIo, ids_at}
use Rattle.venue_runtime.proofs.Lists.{at_snoc, get_within, index_get, slice_map}

pub sessions_more : (restarted : Bool) (file : ParticipantFile) (i : ℕ) (xs xs' : List Seen) (s : Seen) → xs' ≡ xs ++ s ∷ [] → s.state ≡ begun restarted (ids_at file i) → AreNewSessions restarted file i xs → AreNewSessions restarted file (i + 1) xs'
sessions_more restarted file i xs xs' s more is all = record {
  long = ap (λ (zs : List Seen). length zs) more ∙ length-append xs (s ∷ []) ∙ ap (λ n. n + 1) all.long;
  each = λ k x at. go k x (at_snoc xs s x k (ap (λ (zs : List Seen). slice_get zs k) (sym more) ∙ at));
}
  where
    go : (k : ℕ) (x : Seen) → ((slice_get xs k ≡ Some x) ⊎ ((k ≡ length xs) × (x ≡ s))) → x.state ≡ begun restarted (ids_at file k)
    go k x (inl t) = all.each k x t
    go k x (inr t) = ap (λ (z : Seen). z.state) t.1 ∙ is ∙ ap (λ n. begun restarted (ids_at file n)) (sym (t.0 ∙ all.long))

-- each session has its ends of the three boards, and nothing in hand
pub ready : (intake replies board : TableId) (sessions : List Seen) (lines : List SessionIo) (hands : List (HandEnd Item)) (takes : List (TakeEnd Outgoing)) (end_tokens : List (HandEnd Unit)) (starts : List Served) →
    AreStarts sessions lines hands takes end_tokens starts → AreHands intake hands → AreTakes replies takes → AreHands board end_tokens → All (λ (s : Served). IsReady intake replies board s) starts
ready intake replies board sessions lines hands takes end_tokens starts are own_hands own_takes own_end_tokens = λ k d below.
    let here = get_within starts k below in
    let s = here.0 in
    let hand = own_hands.1 k s.thread.hand (ap (λ (zs : List (HandEnd Item)). slice_get zs k) (sym are.hands_are) ∙ slice_map (λ (s : Served). s.thread.hand) starts k s here.1) in
    let take = own_takes.1 k s.thread.take (ap (λ (zs : List (TakeEnd Outgoing)). slice_get zs k) (sym are.takes_are) ∙ slice_map (λ (s : Served). s.thread.take) starts k s here.1) in
    let cut_token = own_end_tokens.1 k s.end (ap (λ (zs : List (HandEnd Unit)). slice_get zs k) (sym are.end_tokens) ∙ slice_map (λ (s : Served). s.end) starts k s here.1) in
    subst (λ (z : Served). IsReady intake replies board z) (sym (index_get starts k d s here.1)) (hand.0, take.0, cut_token.0, take.2)

pub made_ready : (restarted : Bool) (file : ParticipantFile) (lines : List SessionIo) (intake : TableId) (takes : List (TakeEnd Item)) (replies : TableId) (hands : List (HandEnd Outgoing)) (ends : TableId) (end_tokens : List (TakeEnd Unit)) (starts : List Served) →
    AreMade restarted file lines intake takes replies hands ends end_tokens starts → All (λ (s : Served). IsReady intake replies ends s) starts
made_ready restarted file lines intake takes replies hands ends end_tokens starts made =
    ready intake replies ends made.sessions lines made.session_hands made.session_takes made.session_ends starts made.begin made.intake_hands.0 made.reply_takes.0 made.end_hands
