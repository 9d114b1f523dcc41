-- When a new era begins, and its effect on a step.
use Rattle.std.proofs.Common.{◌≡◌, ℕ, ◌+◌, ◌<◌, ◌≤◌, List, [], ◌++◌, length, max, Bool, true, false, not, Option, Some, None, refl, sym, ap, ◌∙◌, subst, cond, arith, append-nil}
use Rattle.std.specs.Prelude.{◌&&◌, ◌==◌, nat_lt}
use Rattle.std.proofs.lemmas.Bool.{and_parts}
use Rattle.std.proofs.lemmas.Bool.Decides.{nat_tests}
use Rattle.fix_dictionary.specs.declared.messages.Item.{Item}
use Rattle.fix_session.specs.declared.frame.Frame.{Frame}
use Rattle.fix_session.specs.declared.plan.Step.{Step}
use Rattle.fix_session.specs.declared.plan.Step.TheVariants.{Did, Dropped}
use Rattle.fix_session.specs.declared.plan.Why.TheVariants as why
use Rattle.fix_session.specs.declared.frame.Content.{Content}
use Rattle.fix_session.specs.declared.frame.Content.TheVariants.{Logon}
use Rattle.fix_session.specs.Body.{frame_in, kind_in}
use Rattle.fix_session.specs.Chain.{begins_anew, era_asked, is_one, is_unspent, last_era}
use Rattle.fix_session.specs.Eras.{IsReset, EraBegins, NoEraBegins}
use Rattle.fix_session.specs.Machine.{step, heard_frame, item_of}
use Rattle.fix_session.specs.Reader.{Reader, settled}
use Rattle.fix_session.specs.Sent.{written}
use Rattle.fix_session.specs.State.{State, era_of}
use Rattle.fix_session.specs.Table.{last_number}
use Rattle.fix_session.proofs.Rows.{is_anew, anew_item}
use Rattle.fix_session.proofs.Steps.{step_heard}

some_true : (b : Bool) (x : Option ℕ) (heartbeat : ℕ) → cond b x None ≡ Some heartbeat → b ≡ true
some_true true x heartbeat is = refl
some_true false x heartbeat is = cc

false_of : (b : Bool) → not b ≡ true → b ≡ false
false_of true is = cc
false_of false is = refl

false_unless : (b : Bool) → (b ≡ true → ⊥) → b ≡ false
false_unless true never = absurd (never refl)
false_unless false never = refl

number_is : (number : Option ℕ) → is_one number ≡ true → number ≡ Some 1
number_is None is = cc
number_is (Some n) is = let e : n ≡ 1 = grind (arith, nat_tests) in ap (λ (k : ℕ). Some k) e

content_is : (content : Content) (heartbeat : ℕ) → begins_anew content ≡ Some heartbeat → content ≡ Logon heartbeat (Some true)
content_is (Logon h None) heartbeat is = cc
content_is (Logon h (Some false)) heartbeat is = cc
content_is (Logon h (Some true)) heartbeat is = cc
content_is content heartbeat is = cc

unspent_parts : (next_incoming entries : ℕ) → is_unspent next_incoming entries ≡ true → (next_incoming ≡ 1) × (entries ≡ 0)
unspent_parts next_incoming entries is =
    let parts = and_parts (next_incoming == 1) (entries == 0) is in
    let d : next_incoming ≡ 1 = grind (arith, nat_tests) in
    let e : entries ≡ 0 = grind (arith, nat_tests) in
    (d, e)

pub asked : (f : Frame) (next_incoming entries heartbeat : ℕ) → era_asked f next_incoming entries ≡ Some heartbeat → IsReset f heartbeat × ((next_incoming ≡ 1) × (entries ≡ 0) → ⊥)
asked f next_incoming entries heartbeat is =
    let all = some_true (f.comp_ids_right && (not f.possible_duplicate && (is_one f.number && not (is_unspent next_incoming entries)))) (begins_anew f.content) heartbeat is in
    let one = and_parts f.comp_ids_right (not f.possible_duplicate && (is_one f.number && not (is_unspent next_incoming entries))) all in
    let two = and_parts (not f.possible_duplicate) (is_one f.number && not (is_unspent next_incoming entries)) one.1 in
    let three = and_parts (is_one f.number) (not (is_unspent next_incoming entries)) two.1 in
    let spent : is_unspent next_incoming entries ≡ false = false_of (is_unspent next_incoming entries) three.1 in (
      record {
        spelled = content_is f.content heartbeat (is_anew _ f.content heartbeat is);
        first = number_is f.number three.0;
        from_peer = one.0;
        emitted_once = false_of f.possible_duplicate two.0;
      },
      λ none.
          let here : is_unspent next_incoming entries ≡ true = rw (none.0, none.1) refl in
          cc,
    )

pub asks : (f : Frame) (next_incoming entries heartbeat : ℕ) → IsReset f heartbeat → ((next_incoming ≡ 1) × (entries ≡ 0) → ⊥) → era_asked f next_incoming entries ≡ Some heartbeat
asks f next_incoming entries heartbeat reset some =
    let spent : is_unspent next_incoming entries ≡ false = false_unless (is_unspent next_incoming entries) (λ is. some (unspent_parts next_incoming entries is)) in
    rw (reset.spelled, reset.first, reset.from_peer, reset.emitted_once, spent) refl

more_eras : (s : State) → length s.past < 999 → nat_lt (era_of s.past) last_era ≡ true
more_eras s few = grind (arith, nat_tests)

no_more_eras : (s : State) → 999 ≤ length s.past → nat_lt (era_of s.past) last_era ≡ false
no_more_eras s many = grind (arith, nat_tests)

not_spent : (entries : ℕ) → entries ≤ last_number → nat_lt last_number (entries + 0) ≡ false
not_spent entries few = grind (arith, nat_tests)

heard_begins : (s : State) (t : ℕ) (rest kind : List ℕ) (f : Frame) (heartbeat : ℕ) → era_asked f s.line.next_incoming (length s.entries) ≡ Some heartbeat → length s.past < 999
    → EraBegins s (heard_frame s t rest kind f).0 (heard_frame s t rest kind f).1 t kind f heartbeat
unfolding written
heard_begins s t rest kind f heartbeat asks few =
    let none : item_of (era_of s.past) f.content Did ≡ [] = anew_item (era_of s.past) f.content Did heartbeat (is_anew _ f.content heartbeat asks) in
    let same : s.ready ++ item_of (era_of s.past) f.content Did ≡ s.ready = ap (λ (l : List Item). s.ready ++ l) none ∙ append-nil s.ready in
    rw (asks, more_eras s few)
    (record { answered = refl; past = refl; entries = refl; next_incoming = refl; heartbeat_is = refl; outstanding_request = refl; test_request_sent_at = refl; logged_on = refl; ready = same; wire = refl })

heard_ends : (s : State) (t : ℕ) (rest kind : List ℕ) (f : Frame) (heartbeat : ℕ) → era_asked f s.line.next_incoming (length s.entries) ≡ Some heartbeat → 999 ≤ length s.past → length s.entries ≤ last_number
    → NoEraBegins s (heard_frame s t rest kind f).0 (heard_frame s t rest kind f).1
unfolding written
heard_ends s t rest kind f heartbeat asks many few =
    let none : item_of (era_of s.past) f.content (Dropped why.Reset) ≡ [] = anew_item (era_of s.past) f.content (Dropped why.Reset) heartbeat (is_anew _ f.content heartbeat asks) in
    let same : s.ready ++ item_of (era_of s.past) f.content (Dropped why.Reset) ≡ s.ready = ap (λ (l : List Item). s.ready ++ l) none ∙ append-nil s.ready in
    rw (asks, no_more_eras s many, not_spent (length s.entries) few)
    (record { answered = refl; up = refl; past = refl; entries = append-nil s.entries; next_incoming = refl; ready = same; wire = append-nil s.wire })

pub begins : (r : Reader) (s : State) (t heartbeat : ℕ) (found : List ℕ × List ℕ) → s.line.up ≡ true → (r.front s.unread).found ≡ Some found → era_asked (frame_in r s.ids found.0) s.line.next_incoming (length s.entries) ≡ Some heartbeat → length s.past < 999
    → EraBegins s (step r s t).0 (step r s t).1 (max s.line.moment t) (kind_in found.0) (frame_in r s.ids found.0) heartbeat
begins r s t heartbeat found up is asks few =
    subst (λ (p : State × Step). EraBegins s p.0 p.1 (max s.line.moment t) (kind_in found.0) (frame_in r s.ids found.0) heartbeat) (sym (step_heard r s t found up is))
    (heard_begins s (max s.line.moment t) (settled r found.1) (kind_in found.0) (frame_in r s.ids found.0) heartbeat asks few)

pub ends : (r : Reader) (s : State) (t heartbeat : ℕ) (found : List ℕ × List ℕ) → s.line.up ≡ true → (r.front s.unread).found ≡ Some found → era_asked (frame_in r s.ids found.0) s.line.next_incoming (length s.entries) ≡ Some heartbeat → 999 ≤ length s.past → length s.entries ≤ last_number
    → NoEraBegins s (step r s t).0 (step r s t).1
ends r s t heartbeat found up is asks many few =
    subst (λ (p : State × Step). NoEraBegins s p.0 p.1) (sym (step_heard r s t found up is))
    (heard_ends s (max s.line.moment t) (settled r found.1) (kind_in found.0) (frame_in r s.ids found.0) heartbeat asks many few)
