-- Frames spelled in a whole run of a session's thread.
use Rattle.std.proofs.Common.{◌≡◌, ℕ, List, [], ◌++◌, ◌∙◌, ap, sym, subst, None}
use Rattle.fix_session.specs.Chain.{accepted}
use Rattle.fix_session.specs.Reader.{Reader}
use Rattle.fix_session.specs.Sent.{numbered}
use Rattle.gateway.specs.Thread.{Thread, ThreadState, standing, runs, TurnRecord, events_of}
use Rattle.gateway.specs.Calls.{heard_of, without_cuts}
use Rattle.gateway.specs.Whole.{IsNew, Spells}
use Rattle.gateway.specs.Faults.{TookAll}
use Rattle.gateway.specs.Offered.{AreFirstParts, connections, no_bytes}
use Rattle.gateway.specs.Said.{faults_in}
use Rattle.gateway.proofs.Faults.{took_all}
use Rattle.gateway.proofs.Offered.{offered}
use Rattle.gateway.proofs.Ties.{TakenThenReady, RepliesInOrder, given_then_ready, numbered_is_collected}

pub spells : (r : Reader) → TakenThenReady r → RepliesInOrder r →
    (turn_records : List TurnRecord) (start last : Thread) → standing last ≡ runs r (events_of turn_records) (standing start) → IsNew start → Spells r start turn_records last
spells r in_order sent turn_records start last moved new =
    record {
      accepted =
          subst (λ (s : ThreadState). s.given ++ s.session.ready ≡ accepted (heard_of r start.session (events_of turn_records))) (sym moved)
          (given_then_ready r in_order (events_of turn_records) (standing start) new.session new.given);
      numbered =
          subst (λ (s : ThreadState). numbered s.session ≡ without_cuts s.collected) (sym moved)
          (numbered_is_collected r sent (events_of turn_records) (standing start) new.session new.given new.collected);
    }

pub with_kept : (last end : Thread) → end ≡ record last { kept = None } → last ≡ record end { kept = last.kept }
with_kept last end is = sym (ap (λ (t : Thread). record t { kept = last.kept }) is)

pub spells_without_kept : (r : Reader) (start : Thread) (turn_records : List TurnRecord) (last end : Thread) → end ≡ record last { kept = None } → Spells r start turn_records last → Spells r start turn_records end
spells_without_kept r start turn_records last end is spelled =
    subst (λ (t : Thread). Spells r start turn_records t) (sym is) (record { accepted = spelled.accepted; numbered = spelled.numbered })

pub took : (r : Reader) (turn_records : List TurnRecord) (start last end : Thread) → standing last ≡ runs r (events_of turn_records) (standing start) → end ≡ record last { kept = None } →
    faults_in end.said ≡ faults_in start.said → TookAll (events_of turn_records)
took r turn_records start last end moved is same =
    took_all r (events_of turn_records) (standing start)
    (ap (λ (s : ThreadState). faults_in s.said) (sym moved) ∙ ap (λ (t : Thread). faults_in t.said) (sym is) ∙ same)

pub offered_there : (r : Reader) (turn_records : List TurnRecord) (start last end : Thread) → standing last ≡ runs r (events_of turn_records) (standing start) → end ≡ record last { kept = None } →
    start.session.wire ≡ [] → AreFirstParts (connections r (events_of turn_records) (standing start)) end.session.wire
offered_there r turn_records start last end moved is empty =
    subst (λ (wire : List ℕ). AreFirstParts (connections r (events_of turn_records) (standing start)) wire)
    (ap (λ (s : ThreadState). s.session.wire) (sym moved) ∙ ap (λ (t : Thread). t.session.wire) (sym is))
    (offered r (events_of turn_records) (standing start) (record { over = []; now = no_bytes }) (record { over = tt; now = sym empty }))
