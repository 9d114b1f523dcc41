-- A step follows the state machine, by the contracts of its calls.
use Rattle.std.proofs.Common.{◌≡◌, ◌≤◌, ◌+◌, ◌-◌, arith, Bool, ℕ, List, ◌++◌, length, drop, true, false, Option, Some, None, refl, max, sym, ap, ◌∙◌, subst}
use Rattle.std.proofs.lemmas.List.{drop_at, length-append}
use Rattle.std.specs.Prelude.{IfSome, slice_range}
use Rattle.fix_dictionary.specs.declared.messages.Item.{Item}
use Rattle.resend_store.specs.declared.entry.Entry.{Entry}
use Rattle.fix_session.specs.Body.{kind_in, frame_in}
use Rattle.fix_session.specs.Reader.{Reader, TakesBody, settled}
use Rattle.fix_session.specs.Sent.{written, past_after, entries_in, marks}
use Rattle.fix_session.specs.State.{State, era_of}
use Rattle.fix_session.specs.declared.session_state.SessionState.{SessionState}
use Rattle.fix_session.specs.declared.plan.Plan.{Plan}
use Rattle.fix_session.specs.declared.plan.AdminReplies.{AdminReplies}
use Rattle.fix_session.specs.declared.plan.Step.TheVariants.{Idle}
use Rattle.fix_session.specs.Table.{before, count}
use Rattle.fix_session.specs.Machine.{step, moved, plan_in, line_after, item_of}
use Rattle.fix_session.proofs.Steps.{step_heard, step_down, step_idle}

pub made_down : (r : Reader) (s : State) (t now : ℕ) → s.line.up ≡ false → now ≡ max s.line.moment t → (moved s now, Idle) ≡ step r s t
made_down r s t now down at = ap (λ m. (moved s m, Idle)) at ∙ sym (step_down r s t down)

pub made_idle : (r : Reader) (s : State) (t now : ℕ) (unread : List ℕ) → (r.front s.unread).found ≡ None → unread ≡ s.unread → now ≡ max s.line.moment t → (moved (record s { unread = unread }) now, Idle) ≡ step r s t
made_idle r s t now unread none same at = rw same (ap (λ m. (moved s m, Idle)) at ∙ sym (step_idle r s t none))

-- the frame in front, by what was taken
pub found_of : (unread rest bytes : List ℕ) (start end : ℕ) (taken : Option (List ℕ)) → IfSome taken (TakesBody unread start end rest) → taken ≡ Some bytes
    → (r : Reader) → (r.front unread).found ≡ Some (slice_range bytes start end, rest)
found_of unread rest bytes start end taken takes is r = (subst (λ (t : Option (List ℕ)). IfSome t (TakesBody unread start end rest)) is takes).found r

pub made_heard : (r : Reader) (s : State) (t now len : ℕ) (body rest : List ℕ) (plan : Plan) (line : SessionState) (unread : List ℕ) (past0 past : List (List Entry)) (entries0 entries : List Entry) (ready0 ready item : List Item) (wire since : List ℕ)
    → s.line.up ≡ true → now ≡ max s.line.moment t → (r.front s.unread).found ≡ Some (body, rest)
    → past0 ≡ s.past → entries0 ≡ s.entries → ready0 ≡ s.ready
    → plan ≡ plan_in s.line (era_of s.past) s.entries (frame_in r s.ids body)
    → wire ≡ s.wire ++ written s.ids s.entries now (kind_in body) (frame_in r s.ids body).content plan
    → item ≡ item_of (era_of s.past) (frame_in r s.ids body).content plan.answer
    → len ≡ length s.wire → since ≡ drop len wire → line ≡ line_after s.line now plan since → unread ≡ settled r rest
    → past ≡ past_after plan.begins past0 entries0 → entries ≡ entries_in plan.begins entries0 ++ marks plan.admin_replies → ready ≡ ready0 ++ item
    → (record s { line = line; unread = unread; past = past; entries = entries; ready = ready; wire = wire }, plan.answer) ≡ step r s t
made_heard r s t now len body rest plan line unread past0 past entries0 entries ready0 ready item wire since up at found past0_is entries0_is ready0_is plan_is wire_is item_is len_is since_is line_is unread_is past_is entries_is ready_is =
    let written_is : since ≡ written s.ids s.entries now (kind_in body) (frame_in r s.ids body).content plan =
    since_is ∙ ap (λ n. drop n wire) len_is ∙ ap (drop (length s.wire)) wire_is ∙ drop_at s.wire _ (length s.wire) refl in
    rw (line_is, written_is, unread_is, past_is, entries_is, ready_is, past0_is, entries0_is, ready0_is, wire_is, item_is, plan_is, at) (sym (step_heard r s t (body, rest) up found))

pub unchanged : (s : State) (unread : List ℕ) (past : List (List Entry)) (entries : List Entry) (ready : List Item) (wire : List ℕ)
    → unread ≡ s.unread → past ≡ s.past → entries ≡ s.entries → ready ≡ s.ready → wire ≡ s.wire
    → record s { unread = unread; past = past; entries = entries; ready = ready; wire = wire } ≡ s
unchanged s unread past entries ready wire unread_is past_is entries_is ready_is wire_is = rw (unread_is, past_is, entries_is, ready_is, wire_is) refl

-- a list is no longer than the list it was extended to
pub longer : (old more new : List ℕ) → new ≡ old ++ more → length old ≤ length new
longer old more new is = omega (arith, ap length is, length-append old more)

-- the numbers that a plan needs, by the next number
pub numbers_same : (begins : Bool) (admin_replies : AdminReplies) (len n : ℕ) → n ≡ len + 1 → before begins (n - 1) + count admin_replies ≤ 999999999 → before begins len + count admin_replies ≤ 999999999
numbers_same begins admin_replies len n is few = subst (λ k. before begins k + count admin_replies ≤ 999999999) (let e : n - 1 ≡ len = omega arith in e) few
