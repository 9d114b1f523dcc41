use Rattle.std.proofs.Common.{◌≡◌, Bool, ℕ, List, map, length, refl, ap, sym, ◌∙◌, subst}
use Rattle.std.specs.Prelude.{Option}
use Rattle.std.proofs.lemmas.Simd.{map-map}
use Rattle.atomic_table.specs.Seated.{TableId}
use Rattle.fix_dictionary.specs.declared.messages.Item.{Item}
use Rattle.fix_session.specs.State.{Seen, State}
use Rattle.gateway.specs.Said.{Said}
use Rattle.gateway.specs.Served.{Served}
use Rattle.gateway.specs.Thread.{Thread, at_start}
use Rattle.gateway.specs.declared.looping.Ended.{Ended}
use Rattle.intake_seats.specs.Ends.{AreHands, AreTakes}
use Rattle.intake_seats.specs.Given.{HandEnd, TakeEnd}
use Rattle.participants.specs.ParticipantFile.{ParticipantFile}
use Rattle.venue_core.specs.State.{State as VenueState, VenueFacts, standing}
use Rattle.venue_rules.specs.Market.{Market}
use Rattle.venue_rules.specs.declared.trail.TrailRow.{TrailRow}
use Rattle.outbound_queue.specs.declared.outgoing.Outgoing.{Outgoing}
use Rattle.outbound_queue.specs.declared.queue.Queue.{Queue}
use Rattle.venue_runtime.specs.Closing.{Closing, closing}
use Rattle.venue_runtime.specs.Making.{AreMade}
use Rattle.venue_runtime.specs.Starting.{SessionIo, outside}
use Rattle.venue_runtime.specs.Working.{HasWorkedAnew}
use Rattle.venue_runtime.proofs.Closing.{Facts, closes, ends_left, none_refused, same_closing, same_market, where_ok}
use Rattle.venue_runtime.proofs.Ends.{hands_closed, takes_closed}
use Rattle.venue_runtime.proofs.Starts.{made_ready}
use Rattle.venue_runtime.proofs.running.run_venue.Goals as goal

pub make-requires : goal.make-requires
make-requires g c = record { lines = c.requires.lines ∙ ap (λ (f : ParticipantFile). length f.names) (sym c.participants.ensures) }

pub new-requires : goal.new-requires
new-requires g c =
    let made = c.in-Ok.ensures in
    record {
      clean = c.requires.clean;
      history = c.requires.history;
      items = c.requires.items;
      takes = made.intake_takes;
      hands = made.reply_hands;
      participants = made.intake_takes.0.0 ∙ made.intake_seats ∙ sym (made.reply_hands.0.0 ∙ made.reply_seats);
    }

pub run_threads-requires-clause-own : goal.run_threads-requires-clause-own
run_threads-requires-clause-own g c κs within = made_ready _ _ _ _ _ _ _ _ _ _ c.in-Ok.ensures

pub run_threads-requires-clause-end_tokens : goal.run_threads-requires-clause-end_tokens
run_threads-requires-clause-end_tokens g c κs within = c.in-Ok.ensures.end_takes

pub close_venue-requires : goal.close_venue-requires
close_venue-requires g c =
    let made = c.in-Ok.ensures in
    let began = c.in-Ok-new.ensures in
    let served = c.in_ok-finished.ensures.served in
    let starts = c.in-Ok.made.starts.items in
    let finished = c.in_ok-finished.finished.items in
    let ended = c.in-Ok-ended_of.ended.items in
    let thread = λ (e : Ended g.row.L.Denot). at_start e.session e.hand e.take (g.L.Line.said e.line) in
    let worked = where_ok _ (sym c.is_err.ensures.value ∙ c.if-is_err.false) c.in_ok-finished.ensures.worked in
    let left = ends_left _ _ _ _ _ _ _ _ _ _ _ _ _ _ began.seats.0 began.seats.2 worked in
    let hands =
    hands_closed c.in-Ok.made.intake c.args.turns c.one_reader.ensures.some starts finished made.session_hands ended thread (λ (e : Ended g.row.L.Denot). e.hand) (λ e. refl) c.in-Ok-ended_of.ensures served made.begin.hands_are made.intake_hands.0 in
    let takes =
    takes_closed c.in-Ok.made.replies c.args.turns c.one_reader.ensures.some starts finished made.session_takes ended thread (λ (e : Ended g.row.L.Denot). e.take) (λ e. refl) c.in-Ok-ended_of.ensures served made.begin.takes_are made.reply_takes.0 in
    record {
      intake = (hands, left.0);
      replies = (left.1, takes);
    }

pub returns-in-Ok-close_venue : goal.returns-in-Ok-close_venue
returns-in-Ok-close_venue g c =
    let m = c.args.venue.market in
    let rows = λ (k : g.row.K.Denot). g.K.Keep.rows k in
    let lines = map (λ (o : g.row.L.Denot × g.row.C.Denot × g.row.G.Denot). outside (g.L.Line.said o.0) (g.C.Clock.answered o.1) (g.G.Gate.passed o.2)) c.args.lines.items in
    let emitted = g.W.Clock.answered c.args.clock in
    let emitted' = g.W.Clock.answered c.in_ok-finished.clock_after in
    let thread = λ (e : Ended g.row.L.Denot). at_start e.session e.hand e.take (g.L.Line.said e.line) in
    let made = c.in-Ok.made in
    let ended = c.in-Ok-ended_of.ended.items in
    let ran = c.in_ok-finished.worked.ran in
    let parts = c.in_ok-finished.worked.parts in
    let began = c.in-Ok-new.ensures in
    let well = sym c.is_err.ensures.value ∙ c.if-is_err.false in
    let worked : HasWorkedAnew c.args.turns emitted emitted' ran m (standing c.args.venue.day) (rows c.args.keeper) (g.K.Keep.refused c.args.keeper) made.intake made.takes.items made.replies made.hands.items parts.venue (rows parts.keeper) (g.K.Keep.is_clean parts.keeper) (g.K.Keep.refused parts.keeper) parts.queues.items parts.takes.items parts.hands.items = record {
      worker = c.in-Ok-new.worker;
      begins = record {
        market = began.venue.0;
        stands_is = began.venue.1;
        refusals = began.keeper.3;
        number = began.last.0;
        last_is = began.last.1;
        intake_is = began.seats.0;
        takes_are = began.seats.1;
        replies_is = began.seats.2;
        hands_are = began.seats.3;
        count = began.queues.0;
        empty = began.queues.1;
        before = began.account.0;
        kept_is = began.account.1;
        account = began.account.2;
      };
      worked = where_ok _ well c.in_ok-finished.ensures.worked;
    } in
    let closed = c.in-Ok-close_venue.closed in
    let done = c.in-Ok-close_venue.ensures in
    let close = closing (map (λ (s : Seen). s.state) closed.sessions.items) (map (λ (l : g.row.L.Denot). g.L.Line.said l) closed.lines.items) closed.left.items closed.replies_left.items parts.queues.items (standing parts.venue.day) (rows parts.keeper) (g.K.Keep.is_clean parts.keeper) in
    let facts : Facts (Ended g.row.L.Denot) c.args.turns m (rows c.args.keeper) (g.K.Keep.outlives c.args.keeper) lines emitted emitted' ran close made.intake made.replies made.ends made.takes.items made.hands.items made.end_tokens.items made.starts.items c.in_ok-finished.finished.items ended thread
    (standing c.args.venue.day) (g.K.Keep.refused c.args.keeper) (g.K.Keep.refused parts.keeper) parts.venue parts.takes.items parts.hands.items = record {
      made =
          subst (λ (b : Bool). AreMade b m.participants lines made.intake made.takes.items made.replies made.hands.items made.ends made.end_tokens.items made.starts.items) c.outlives-restarted.ensures
          (subst (λ (f : ParticipantFile). AreMade c.outlives-restarted.result f lines made.intake made.takes.items made.replies made.hands.items made.ends made.end_tokens.items made.starts.items) c.participants.ensures c.in-Ok.ensures);
      served = c.in_ok-finished.ensures.served;
      shown = c.in-Ok-ended_of.ensures;
      worked = worked;
      stands = refl;
      sessions_are = ap (λ (zs : List Seen). map (λ (s : Seen). s.state) zs) done.sessions ∙ map-map (λ (s : Seen). s.state) (λ (e : Ended g.row.L.Denot). e.session) ended;
      said_are = ap (λ (zs : List g.row.L.Denot). map (λ (l : g.row.L.Denot). g.L.Line.said l) zs) done.lines ∙ map-map (λ (l : g.row.L.Denot). g.L.Line.said l) (λ (e : Ended g.row.L.Denot). e.line) ended;
      long_left = done.count.0;
      long_replies = done.count.1;
      closes_taken = done.taken;
      closes_reached = done.reached;
      lawful = c.every_run_is_lawful.ensures;
      much = c.behind_is_owed_much.ensures;
    } in
    record {
      closed =
          same_closing _ _ _ _ _ _ _ _ _ _ _ _ _ _ _ _ _ _ _ (ap (λ q. q.items) done.kept.2) (ap (λ (v : VenueState). standing v.day) done.kept.0) (ap rows done.kept.1) (ap (λ (k : g.row.K.Denot). g.K.Keep.is_clean k) done.kept.1)
          (closes _ _ _ _ _ _ _ _ _ _ _ _ _ _ _ _ _ _ _ _ _ _ _ _ _ facts);
      market = ap (λ (v : VenueState). v.market) done.kept.0 ∙ same_market _ _ _ _ _ _ _ _ _ _ _ _ _ _ _ _ _ _ _ worked;
      unrefused = ap (λ (k : g.row.K.Denot). g.K.Keep.refused k) done.kept.1 ∙ none_refused _ _ _ _ _ _ _ _ _ _ _ _ _ _ _ _ _ _ _ well worked;
    }
