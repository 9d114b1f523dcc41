-- The state of a venue that ran and was closed.
use Rattle.std.proofs.Common.{◌≡◌, ℕ, ◌+◌, ◌<◌, List, [], ◌∷◌, ◌++◌, map, length, Bool, true, false, refl, ap, sym, ◌∙◌, subst, arith}
use Rattle.std.specs.Prelude.{Option, Some, None, Ok, Err, IfOk, is_err, slice_get}
use Rattle.std.specs.Option.{option_to_list}
use Rattle.std.specs.declared.result.Result.{Result}
use Rattle.std.proofs.lemmas.List.{length-map}
use Rattle.std.proofs.lemmas.Option.{slice_get_within}
use Rattle.fix_dictionary.specs.declared.messages.App.{App}
use Rattle.fix_dictionary.specs.declared.messages.Item.{Item}
use Rattle.fix_session.specs.Sent.{numbered}
use Rattle.fix_session.specs.State.{State, Seen, begun}
use Rattle.fix_session.specs.declared.comp_ids.CompIds.{CompIds}
use Rattle.gateway.specs.Closing.{IsTakenWhole, Reached}
use Rattle.gateway.specs.Said.{Said}
use Rattle.gateway.specs.Served.{Served, AreServed}
use Rattle.gateway.specs.Thread.{Thread}
use Rattle.gateway.specs.Whole.{HasLed, IsNew}
use Rattle.intake_seats.specs.Ends.{AreHands, AreTakes, AreUnusedHands, AreUnusedTakes}
use Rattle.intake_seats.specs.Given.{HandEnd, TakeEnd}
use Rattle.participants.specs.ParticipantFile.{ParticipantFile}
use Rattle.atomic_table.specs.Seated.{TableId}
use Rattle.venue_core.specs.State.{State as VenueState, VenueFacts, standing}
use Rattle.venue_core.specs.VenueFacts.{IsStanding}
use Rattle.venue_rules.specs.Kept.{IsLastOf}
use Rattle.venue_rules.specs.Lawful.{EveryRunIsLawful}
use Rattle.venue_rules.specs.Market.{Market}
use Rattle.venue_rules.specs.Run.{Input, rows, run, is_timely_from}
use Rattle.venue_rules.specs.declared.trail.EventFault.{EventFault}
use Rattle.venue_rules.specs.declared.trail.TrailRow.{TrailRow}
use Rattle.venue_worker.specs.InputHistory.{IsAccount, owed_to}
use Rattle.outbound_queue.specs.Taken.{items_from}
use Rattle.venue_worker.specs.Inputs.{Each, IsSeated}
use Rattle.venue_engine.specs.Queued.{AreEmpty}
use Rattle.venue_worker.specs.Queued.{IsOwed}
use Rattle.venue_worker.specs.Turns.{GoesOn, BehindIsOwedMuch, IsMomentOf, IsStop}
use Rattle.venue_worker.specs.Work.{Work}
use Rattle.outbound_queue.specs.declared.outgoing.Outgoing.{Outgoing}
use Rattle.outbound_queue.specs.declared.queue.Queue.{Queue}
use Rattle.venue_runtime.specs.Starting.{AreNewSessions, AreStarts, SessionIo, ids_at, outside}
use Rattle.venue_runtime.specs.Making.{AreMade}
use Rattle.venue_runtime.specs.Working.{HasWorked, HasWorkedAnew}
use Rattle.venue_runtime.specs.Closing.{Side, IsServed, Closing, IsSide, AreCounted, HasClosed, closing}
use Rattle.venue_runtime.proofs.Lists.{at_map, at_both, get_within, long_both, slice_map}

same_at : {A : Type 0} (xs : List A) (k : ℕ) (x y : A) → slice_get xs k ≡ Some x → slice_get xs k ≡ Some y → x ≡ y
same_at xs k x y at at' = let both : Some x ≡ Some y = sym at ∙ at' in cc

-- a new session at unused seats
new_thread : (restarted : Bool) (ids : CompIds) (start : Thread) → start.session ≡ begun restarted ids → start.hand.given ≡ [] → start.take.taken ≡ [] → IsNew start
new_thread restarted ids start is given taken = record {
  session =
      is ∙ ap (λ (b : Bool). begun b ids) (sym (ap (λ (s : State). s.line.restarted) is))
      ∙ ap (λ (i : CompIds). begun start.session.line.restarted i) (sym (ap (λ (s : State). s.ids) is));
  given = given;
  collected = taken;
}

pub record IsBegun (restarted : Bool) (ids : CompIds) (line : SessionIo) (s : Served) : Type 0 where
  pub new : IsNew s.thread
  pub restarted_is : s.thread.session.line.restarted ≡ restarted
  pub names : s.thread.session.ids ≡ ids
  pub bare : s.thread.kept ≡ None
  pub line_is : outside s.thread.said s.emitted s.passed ≡ line

-- each thread began with a new session at unused seats
pub begun_at : (restarted : Bool) (file : ParticipantFile) (count : ℕ) (sessions : List Seen) (lines : List SessionIo) (hands : List (HandEnd Item)) (takes : List (TakeEnd Outgoing)) (end_tokens : List (HandEnd Unit)) (starts : List Served) →
    AreNewSessions restarted file count sessions → AreUnusedHands hands → AreUnusedTakes takes → AreStarts sessions lines hands takes end_tokens starts →
    (k : ℕ) (line : SessionIo) → slice_get lines k ≡ Some line → (s : Served) × (slice_get starts k ≡ Some s) × IsBegun restarted (ids_at file k) line s
begun_at restarted file count sessions lines hands takes end_tokens starts news idle_hands idle_takes are k line at =
    let found = at_map (λ (s : Served). outside s.thread.said s.emitted s.passed) starts k line (ap (λ (zs : List SessionIo). slice_get zs k) are.outsides ∙ at) in
    let s = found.0 in
    let from = at_both (λ (s : Served). s.thread.session) (λ (x : Seen). x.state) starts sessions k s are.states found.1 in
    let state : s.thread.session ≡ begun restarted (ids_at file k) = sym from.2 ∙ news.each k from.0 from.1 in
    let hand = idle_hands k s.thread.hand (ap (λ (zs : List (HandEnd Item)). slice_get zs k) (sym are.hands_are) ∙ slice_map (λ (s : Served). s.thread.hand) starts k s found.1) in
    let take = idle_takes k s.thread.take (ap (λ (zs : List (TakeEnd Outgoing)). slice_get zs k) (sym are.takes_are) ∙ slice_map (λ (s : Served). s.thread.take) starts k s found.1) in
    (s, found.1, record { new = new_thread restarted (ids_at file k) s.thread state hand.0 take.0; restarted_is = ap (λ (st : State). st.line.restarted) state; names = ap (λ (st : State). st.ids) state; bare = are.kept k s found.1; line_is = found.2 })

-- what the closing says of the messages taken, and of the replies that reached each session
abbrev pub ClosesTaken : {E : Type 0} → (E → Thread) → List E → List (TakeEnd Item) → List (Option Item) → Type 0
ClosesTaken {E} thread ended takes left = (turns k : ℕ) (start : Thread) (passed passed' : List Bool) (emitted emitted' : List ℕ) (e : E) (t : TakeEnd Item) (x : Option Item)
    → slice_get ended k ≡ Some e → slice_get takes k ≡ Some t → slice_get left k ≡ Some x
    → (led : HasLed turns start (thread e) passed passed' emitted emitted') → IsNew start → IsTakenWhole start led.turn_records (thread e).session t.taken x

abbrev pub ClosesReached : {E : Type 0} → (E → Thread) → List E → List (HandEnd Outgoing) → List Queue → List (Option Outgoing) → Type 0
ClosesReached {E} thread ended hands queues left = (turns k : ℕ) (start : Thread) (passed passed' : List Bool) (emitted emitted' : List ℕ) (owed : List App) (e : E) (h : HandEnd Outgoing) (q : Queue) (x : Option Outgoing)
    → slice_get ended k ≡ Some e → slice_get hands k ≡ Some h → slice_get queues k ≡ Some q → slice_get left k ≡ Some x
    → HasLed turns start (thread e) passed passed' emitted emitted' → IsNew start → IsOwed owed h.given q.waiting.items q.is_cut
    → Reached owed (numbered (thread e).session) (option_to_list x) q.waiting.items q.is_cut

-- one participant's part
served_at : {E : Type 0} (turns k : ℕ) (restarted : Bool) (ids : CompIds) (line : SessionIo) (items : List Item) (owed : List App) (side : Side) (s f : Served) (e : E) (thread : E → Thread) (t : TakeEnd Item) (h : HandEnd Outgoing)
    (ended : List E) (takes : List (TakeEnd Item)) (hands : List (HandEnd Outgoing)) (queues : List Queue) (left : List (Option Item)) (replies_left : List (Option Outgoing)) →
    IsBegun restarted ids line s → HasLed turns s.thread f.thread s.passed f.passed s.emitted f.emitted → f.thread ≡ thread e →
    (thread e).session ≡ side.session → (thread e).said ≡ side.said → t.taken ≡ items → IsOwed owed h.given side.queue.waiting.items side.queue.is_cut → (side.queue.is_cut ≡ true → 64000 < length owed) →
    slice_get ended k ≡ Some e → slice_get takes k ≡ Some t → slice_get hands k ≡ Some h → slice_get queues k ≡ Some side.queue → slice_get left k ≡ Some side.left → slice_get replies_left k ≡ Some side.reply_left →
    ClosesTaken thread ended takes left → ClosesReached thread ended hands queues replies_left → IsServed turns restarted ids line items owed side
served_at {E} turns k restarted ids line items owed side s f e thread t h ended takes hands queues left replies_left begins led same session said taken out cut at_e at_t at_h at_q at_x at_y closes_taken closes_reached =
    let own : HasLed turns s.thread (thread e) s.passed f.passed s.emitted f.emitted = subst (λ (end : Thread). HasLed turns s.thread end s.passed f.passed s.emitted f.emitted) same led in
    subst (λ (o : SessionIo). IsServed turns restarted ids o items owed side) begins.line_is
    (record {
      start = s.thread;
      finish = thread e;
      passed = f.passed;
      emitted = f.emitted;
      led = own;
      begins = begins.new;
      restarted_is = begins.restarted_is;
      names = begins.names;
      bare = begins.bare;
      said = refl;
      session_is = session;
      said_is = said;
      whole =
          subst (λ (xs : List Item). IsTakenWhole s.thread own.turn_records side.session xs side.left) taken
          (subst (λ (st : State). IsTakenWhole s.thread own.turn_records st t.taken side.left) session
          (closes_taken turns k s.thread s.passed f.passed s.emitted f.emitted e t side.left at_e at_t at_x own begins.new));
      reached =
          subst (λ (st : State). Reached owed (numbered st) (option_to_list side.reply_left) side.queue.waiting.items side.queue.is_cut) session
          (closes_reached turns k s.thread s.passed f.passed s.emitted f.emitted owed e h side.queue side.reply_left at_e at_h at_q at_y own begins.new out);
      cut = cut;
    })

beyond : (a b c : ℕ) → a + b < c → a < c
beyond a b c below = omega (arith, below)

-- one that was cut in a worker's turns was owed more than 64,000 replies
cut_much : (P : ℕ → Type 0) (m : Market) (before : List Input) (w w' : Work) (goes : GoesOn P before [] w w') (j : ℕ) (q : Queue) (h : HandEnd Outgoing) → BehindIsOwedMuch → w.ledger.market ≡ m → AreEmpty w.ledger.queues → j < length w.ledger.queues →
    slice_get w'.ledger.queues j ≡ Some q → slice_get w'.hands j ≡ Some h → q.is_cut ≡ true → 64000 < length (owed_to m before goes.more j)
cut_much P m before w w' goes j q h law market empty below at_q at_h is_cut =
    let first = get_within w.ledger.queues j below in
    let was = goes.cut j first.0 q h first.1 at_q at_h (empty j first.0 first.1).1 is_cut in
    let much = law w.ledger.market before goes.more j (h.given ++ q.waiting.items) was in
    subst (λ (n : Market). 64000 < length (owed_to n before goes.more j)) market
    (beyond 64000 (length was.given) (length (owed_to w.ledger.market before goes.more j)) much)

-- the facts of all parts, in order
pub record Facts (E : Type 0) (turns : ℕ) (m : Market) (kept : List TrailRow) (restarted : Bool) (lines : List SessionIo) (emitted emitted' : List ℕ) (ran : Result Unit EventFault) (c : Closing)
    (intake replies ends : TableId) (takes : List (TakeEnd Item)) (hands : List (HandEnd Outgoing)) (end_tokens : List (TakeEnd Unit)) (starts finished : List Served) (ended : List E) (thread : E → Thread)
    (opened : VenueFacts) (refused refused' : ℕ) (venue : VenueState) (worker_takes : List (TakeEnd Item)) (worker_hands : List (HandEnd Outgoing)) : Type 0 where
  pub made : AreMade restarted m.participants lines intake takes replies hands ends end_tokens starts
  pub served : AreServed turns starts finished
  pub shown : map thread ended ≡ map (λ (f : Served). f.thread) finished
  pub worked : HasWorkedAnew turns emitted emitted' ran m opened kept refused intake takes replies hands venue c.rows c.is_clean refused' c.queues worker_takes worker_hands
  pub stands : standing venue.day ≡ c.stands
  pub sessions_are : c.sessions ≡ map (λ (e : E). (thread e).session) ended
  pub said_are : c.said ≡ map (λ (e : E). (thread e).said) ended
  pub long_left : length c.left ≡ intake.words
  pub long_replies : length c.replies_left ≡ replies.words
  pub closes_taken : ClosesTaken thread ended worker_takes c.left
  pub closes_reached : ClosesReached thread ended worker_hands c.queues c.replies_left
  pub lawful : EveryRunIsLawful
  pub much : BehindIsOwedMuch

pub closes : {E : Type 0} (turns : ℕ) (m : Market) (kept : List TrailRow) (restarted : Bool) (lines : List SessionIo) (emitted emitted' : List ℕ) (ran : Result Unit EventFault) (c : Closing)
    (intake replies ends : TableId) (takes : List (TakeEnd Item)) (hands : List (HandEnd Outgoing)) (end_tokens : List (TakeEnd Unit)) (starts finished : List Served) (ended : List E) (thread : E → Thread)
    (opened : VenueFacts) (refused refused' : ℕ) (venue : VenueState) (worker_takes : List (TakeEnd Item)) (worker_hands : List (HandEnd Outgoing)) →
    Facts E turns m kept restarted lines emitted emitted' ran c intake replies ends takes hands end_tokens starts finished ended thread opened refused refused' venue worker_takes worker_hands → HasClosed turns m kept restarted lines emitted emitted' c
closes {E} turns m kept restarted lines emitted emitted' ran c intake replies ends takes hands end_tokens starts finished ended thread opened refused refused' venue worker_takes worker_hands facts =
    let made = facts.made in
    let w = facts.worked.worker in
    let anew = facts.worked.begins in
    let before = anew.before in
    let after = facts.worked.worked.after in
    let turned = facts.worked.worked.run in
    let parts = facts.worked.worked.parts in
    let goes = turned.moves.goes before [] anew.account in
    let account = goes.account in
    let since = goes.more in
    let same : after.ledger.market ≡ m = turned.moves.same.market ∙ anew.market in
    let long_takes : length w.takes ≡ length lines = ap (λ (zs : List (TakeEnd Item)). length zs) anew.takes_are ∙ made.intake_takes.0.0 ∙ made.intake_seats in
    let long_hands : length hands ≡ length lines = made.reply_hands.0.0 ∙ made.reply_seats in
    let long_starts : length starts ≡ length lines =
    sym (length-map starts (λ (s : Served). outside s.thread.said s.emitted s.passed)) ∙ ap (λ (zs : List SessionIo). length zs) made.begin.outsides in
    let long_ended : length ended ≡ length lines = long_both thread (λ (f : Served). f.thread) ended finished facts.shown ∙ facts.served.count ∙ long_starts in
    let long_queues : length w.ledger.queues ≡ length lines = anew.count ∙ long_hands in
    record {
      before = before;
      since = since;
      began = anew.kept_is;
      recorded = λ clean. parts.rows_are ∙ account.rows (sym parts.clean ∙ clean);
      stands =
          subst (λ (n : Market). IsStanding c.stands (run n (before ++ since)).history) same
          (subst (λ (p : VenueFacts). IsStanding p (run after.ledger.market (before ++ since)).history) (sym parts.stands ∙ facts.stands) account.history);
      timely = subst (λ (n : Market). is_timely_from n (run n before).history since ≡ true) same account.timely;
      seated = subst (λ (n : ℕ). Each (IsSeated n) since) (turned.moves.takes ∙ long_takes) account.seated;
      moments = turned.moments;
      clock = turned.clock;
      number = anew.number;
      last = w.ledger.last;
      last_is = anew.last_is;
      answered = goes.each;
      rising = (after.ledger.last, account.risen);
      lawful = facts.lawful m (before ++ since);
      counted = record {
        sessions = ap (λ (zs : List State). length zs) facts.sessions_are ∙ length-map ended (λ (e : E). (thread e).session) ∙ long_ended;
        said = ap (λ (zs : List (List Said)). length zs) facts.said_are ∙ length-map ended (λ (e : E). (thread e).said) ∙ long_ended;
        left = facts.long_left ∙ made.intake_seats;
        replies_left = facts.long_replies ∙ made.reply_seats;
        queues = ap (λ (qs : List Queue). length qs) parts.queues_are ∙ turned.moves.queues ∙ long_queues;
      };
      each = λ k line side at is.
          let begins = begun_at restarted m.participants (length lines) made.sessions lines made.session_hands made.session_takes made.session_ends starts made.news made.intake_hands.1 made.reply_takes.1 made.begin k line at in
          let below : k < length lines = slice_get_within lines k line at in
          let f = get_within finished k (omega (arith, below, facts.served.count, long_starts)) in
          let e = at_both (λ (f : Served). f.thread) thread finished ended k f.0 (sym facts.shown) f.1 in
          let has = facts.served.each k begins.0 f.0 begins.1 f.1 in
          let session = same_at c.sessions k (thread e.0).session side.session (ap (λ (zs : List State). slice_get zs k) facts.sessions_are ∙ slice_map (λ (e : E). (thread e).session) ended k e.0 e.1) is.session in
          let said = same_at c.said k (thread e.0).said side.said (ap (λ (zs : List (List Said)). slice_get zs k) facts.said_are ∙ slice_map (λ (e : E). (thread e).said) ended k e.0 e.1) is.said in
          let t = get_within after.takes k (omega (arith, below, turned.moves.takes, long_takes)) in
          let long_after : length w.hands ≡ length hands = ap (λ (zs : List (HandEnd Outgoing)). length zs) anew.hands_are in
          let h = get_within after.hands k (omega (arith, below, turned.moves.hands, long_after, long_hands)) in
          let at_q : slice_get after.ledger.queues k ≡ Some side.queue = ap (λ (qs : List Queue). slice_get qs k) (sym parts.queues_are) ∙ is.queue in
          served_at turns k restarted (ids_at m.participants k) line (items_from k since) (owed_to m before since k) side begins.0 f.0 e.0 thread t.0 h.0 ended worker_takes worker_hands c.queues c.left c.replies_left
          begins.2 has.led (sym e.2) session said (account.taken k t.0 t.1)
          (subst (λ (n : Market). IsOwed (owed_to n before since k) h.0.given side.queue.waiting.items side.queue.is_cut) same (account.owed k side.queue h.0 at_q h.1))
          (cut_much (IsMomentOf w.ledger.last turned.moments) m before w after goes k side.queue h.0 facts.much anew.market anew.empty (omega (arith, below, long_queues)) at_q h.1)
          e.1 (ap (λ (zs : List (TakeEnd Item)). slice_get zs k) parts.takes_are ∙ t.1) (ap (λ (zs : List (HandEnd Outgoing)). slice_get zs k) parts.hands_are ∙ h.1)
          is.queue is.left is.reply_left facts.closes_taken facts.closes_reached;
    }

-- the closed venue is of the same market
pub same_market : (turns : ℕ) (emitted emitted' : List ℕ) (ran : Result Unit EventFault) (m : Market) (opened : VenueFacts) (kept : List TrailRow) (refused : ℕ) (intake : TableId) (takes : List (TakeEnd Item)) (replies : TableId) (hands : List (HandEnd Outgoing))
    (venue : VenueState) (written : List TrailRow) (is_clean : Bool) (refused' : ℕ) (queues : List Queue) (takes' : List (TakeEnd Item)) (hands' : List (HandEnd Outgoing)) →
    HasWorkedAnew turns emitted emitted' ran m opened kept refused intake takes replies hands venue written is_clean refused' queues takes' hands' → venue.market ≡ m
same_market turns emitted emitted' ran m opened kept refused intake takes replies hands venue written is_clean refused' queues takes' hands' has = has.worked.parts.market ∙ has.worked.run.moves.same.market ∙ has.begins.market

-- where the worker's turns ended well, the keeper refused nothing
as_before : (ran : Result Unit EventFault) (had has : ℕ) → is_err ran ≡ false → IsStop ran had has → has ≡ had
as_before (Ok u) had has well stop = stop
as_before (Err f) had has well stop = absurd (cc)

pub none_refused : (turns : ℕ) (emitted emitted' : List ℕ) (ran : Result Unit EventFault) (m : Market) (opened : VenueFacts) (kept : List TrailRow) (refused : ℕ) (intake : TableId) (takes : List (TakeEnd Item)) (replies : TableId) (hands : List (HandEnd Outgoing))
    (venue : VenueState) (written : List TrailRow) (is_clean : Bool) (refused' : ℕ) (queues : List Queue) (takes' : List (TakeEnd Item)) (hands' : List (HandEnd Outgoing)) →
    is_err ran ≡ false → HasWorkedAnew turns emitted emitted' ran m opened kept refused intake takes replies hands venue written is_clean refused' queues takes' hands' → refused' ≡ refused
none_refused turns emitted emitted' ran m opened kept refused intake takes replies hands venue written is_clean refused' queues takes' hands' well has =
    has.worked.parts.refusals ∙ as_before ran has.worker.ledger.refused has.worked.after.ledger.refused well has.worked.run.stop ∙ has.begins.refusals

-- a property of a run that ended well, where it did
pub where_ok : {X : Type 0} (ran : Result Unit EventFault) → is_err ran ≡ false → IfOk ran (λ u. X) → X
where_ok (Ok u) well x = x
where_ok (Err f) well x = absurd (cc)

-- the worker's ends that come back are those of its boards
pub ends_left : (turns : ℕ) (emitted emitted' : List ℕ) (ran : Result Unit EventFault) (w : Work) (venue : VenueState) (written : List TrailRow) (is_clean : Bool) (refused : ℕ) (queues : List Queue) (takes : List (TakeEnd Item)) (hands : List (HandEnd Outgoing)) (intake replies : TableId) →
    w.intake ≡ intake → w.replies ≡ replies → HasWorked turns emitted emitted' ran w venue written is_clean refused queues takes hands → AreTakes intake takes × AreHands replies hands
ends_left turns emitted emitted' ran w venue written is_clean refused queues takes hands intake replies own_intake own_replies worked =
    let account = worked.kept.account in
    let moves = worked.run.moves in (
      subst (λ (ts : List (TakeEnd Item)). AreTakes intake ts) (sym worked.parts.takes_are) (subst (λ (b : TableId). AreTakes b worked.after.takes) (moves.intake ∙ own_intake) account.takes),
      subst (λ (hs : List (HandEnd Outgoing)). AreHands replies hs) (sym worked.parts.hands_are) (subst (λ (b : TableId). AreHands b worked.after.hands) (moves.replies ∙ own_replies) account.hands),
    )

-- the same is closed where its parts are the same
pub same_closing : (turns : ℕ) (m : Market) (kept : List TrailRow) (restarted : Bool) (lines : List SessionIo) (emitted emitted' : List ℕ) (sessions : List State) (said : List (List Said)) (left : List (Option Item)) (replies_left : List (Option Outgoing))
    (queues queues' : List Queue) (stands stands' : VenueFacts) (written written' : List TrailRow) (is_clean is_clean' : Bool) →
    queues' ≡ queues → stands' ≡ stands → written' ≡ written → is_clean' ≡ is_clean →
    HasClosed turns m kept restarted lines emitted emitted' (closing sessions said left replies_left queues stands written is_clean) → HasClosed turns m kept restarted lines emitted emitted' (closing sessions said left replies_left queues' stands' written' is_clean')
same_closing turns m kept restarted lines emitted emitted' sessions said left replies_left queues queues' stands stands' written written' is_clean is_clean' same_queues same_stands same_rows same_clean has =
    subst (λ (qs : List Queue). HasClosed turns m kept restarted lines emitted emitted' (closing sessions said left replies_left qs stands' written' is_clean')) (sym same_queues)
    (subst (λ (s : VenueFacts). HasClosed turns m kept restarted lines emitted emitted' (closing sessions said left replies_left queues s written' is_clean')) (sym same_stands)
    (subst (λ (rs : List TrailRow). HasClosed turns m kept restarted lines emitted emitted' (closing sessions said left replies_left queues stands rs is_clean')) (sym same_rows)
    (subst (λ (b : Bool). HasClosed turns m kept restarted lines emitted emitted' (closing sessions said left replies_left queues stands written b)) (sym same_clean) has)))
