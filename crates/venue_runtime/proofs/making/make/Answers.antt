use Rattle.std.proofs.Common.{◌≡◌, ◌≤◌, ℕ, map, length, sym, ◌∙◌, subst}
use Rattle.std.proofs.lemmas.List.{length-map}
use Rattle.venue_runtime.specs.Starting.{AreNewSessions, outside}
use Rattle.venue_runtime.proofs.Count.{counted}
use Rattle.venue_runtime.proofs.making.make.Goals as goal

pub new-requires : goal.new-requires
new-requires g c =
    let some = counted c.args.participants.now c.len-count.ensures.rule in
    let same = sym c.len-count.ensures.count in
    record { seats = (subst (λ (n : ℕ). 1 ≤ n) same some.0, subst (λ (n : ℕ). n ≤ 32) same some.1) }

pub new-requires-2 : goal.new-requires-2
new-requires-2 g c =
    let some = counted c.args.participants.now c.len-count.ensures.rule in
    let same = sym c.len-count.ensures.count in
    record { seats = (subst (λ (n : ℕ). 1 ≤ n) same some.0, subst (λ (n : ℕ). n ≤ 32) same some.1) }

pub new-requires-3 : goal.new-requires-3
new-requires-3 g c =
    let some = counted c.args.participants.now c.len-count.ensures.rule in
    let same = sym c.len-count.ensures.count in
    record { seats = (subst (λ (n : ℕ). 1 ≤ n) same some.0, subst (λ (n : ℕ). n ≤ 32) same some.1) }

pub starts_of-requires : goal.starts_of-requires
starts_of-requires g c =
    let all = c.len-count.ensures.count ∙ sym c.in_ok-sessions.ensures.long in
    record {
      lines = c.requires.lines ∙ sym c.in_ok-sessions.ensures.long;
      hands = c.in_ok-intake.ensures.own.0.0 ∙ c.in_ok-intake.ensures.board ∙ all;
      takes = c.in_ok-replies.ensures.own.1.0 ∙ c.in_ok-replies.ensures.board ∙ all;
      ends = c.in_ok-ends.ensures.own.0.0 ∙ c.in_ok-ends.ensures.board ∙ all;
    }

pub returns : goal.returns
returns g c =
    let lines = map (λ (o : g.row.L.Denot × g.row.C.Denot × g.row.G.Denot). outside (g.L.Line.said o.0) (g.C.Clock.answered o.1) (g.G.Gate.passed o.2)) c.args.lines.items in
    let intake = c.in_ok-intake in
    let replies = c.in_ok-replies in
    let ends = c.in_ok-ends in
    let file = c.args.participants.now in
    let long : length file.names ≡ length lines = sym c.requires.lines ∙ sym (length-map c.args.lines.items _) in
    record {
      sessions = c.in_ok-sessions.sessions.items;
      session_hands = intake.session_hands.items;
      session_takes = replies.session_takes.items;
      session_ends = ends.session_ends.items;
      news = subst (λ (n : ℕ). AreNewSessions c.args.restarted file n c.in_ok-sessions.sessions.items) long c.in_ok-sessions.ensures;
      begin = c.in_ok-starts.ensures;
      intake_seats = intake.ensures.board ∙ c.len-count.ensures.count ∙ long;
      intake_hands = (intake.ensures.own.0, intake.ensures.unused.0);
      intake_takes = (intake.ensures.own.1, intake.ensures.unused.1);
      reply_seats = replies.ensures.board ∙ c.len-count.ensures.count ∙ long;
      reply_hands = (replies.ensures.own.0, replies.ensures.unused.0);
      reply_takes = (replies.ensures.own.1, replies.ensures.unused.1);
      end_hands = ends.ensures.own.0;
      end_takes = (ends.ensures.own.1, λ k e at. (ends.ensures.unused.1 k e at).0);
    }
