-- The bytes queued on the first participant's wire are those given.
use Rattle.std.proofs.Common.{◌≡◌, ◌-◌, ◌||◌, ℕ, suc, zero, List, [], ◌∷◌, ◌++◌, length, max, Bool, false, if◌then◌else◌, Option, Some, None, option_to_list, refl, sym, ap, ◌∙◌, subst, append-nil, append_assoc, slice_get}
use Rattle.std.proofs.Math.Dec.{eqb-suc-zero}
use Rattle.fix_dictionary.specs.declared.messages.App.{App}
use Rattle.fix_dictionary.specs.declared.messages.Item.{Item}
use Rattle.fix_session.specs.Reader.{Reader}
use Rattle.fix_session.specs.Runs as session
use Rattle.fix_session.specs.Sent.{numbered}
use Rattle.fix_session.specs.State.{State}
use Rattle.participants.specs.Relations.{name_of}
use Rattle.venue_rules.specs.Market.{Market}
use Rattle.venue_rules.specs.Run.{owed}
use Rattle.venue_world.specs.declared.world_event.WorldEvent.{WorldEvent}
use Rattle.venue_world.specs.declared.world_event.WorldEvent.TheVariants.{Alone, Takes, VenueTicks}
use Rattle.venue_world.specs.declared.world_event.SessionEvent.{SessionEvent}
use Rattle.venue_world.specs.declared.world_event.SessionEvent.TheVariants.{Pieces, Steps, Ticks, Breaks, Resumes, Hands, Delivers, Collects, Cuts, Writes}
use Rattle.outbound_queue.specs.declared.outgoing.Outgoing.{Outgoing}
use Rattle.outbound_queue.specs.declared.outgoing.Outgoing.TheVariants.{Message as Reply, Cut}
use Rattle.venue_world.specs.Headline.{calls_by, calls_from, calls_in, given_by, given_from, history_of, items_of, was_cut, wire_of}
use Rattle.outbound_queue.specs.Owed.{outgoing}
use Rattle.venue_world.specs.Side.{Side, pops, sends}
use Rattle.venue_world.specs.Wires.{WiresLoseNothing, in_acts, leaves, left, queued}
use Rattle.venue_world.specs.World.{WorldState, after_act, after_all, fresh_world, ids_of}
use Rattle.once_session.specs.Acts.{IsAnswered, Leads, MayCome, OfFirst}
use Rattle.once_session.specs.Stream.{cuts_behind, opened, opening, run_of}
use Rattle.once_session.proofs.Going.{after-append}
use Rattle.once_session.proofs.Uncut.{KeepsItsWord, one-uncut, uncut-append, opening-uncut}

-- Calls one after another.

run-append : (r : Reader) (a b : List session.Event) (h : session.History) → session.run r (a ++ b) h ≡ session.run r b (session.run r a h)
run-append r [] b h = refl
run-append r (e ∷ a) b h = run-append r a b (session.happens r h e)

left-append : (r : Reader) (h : session.History) (a b : List session.Event) → left r h (a ++ b) ≡ left r h a ++ left r (session.run r a h) b
left-append r h [] b = refl
left-append r h (e ∷ a) b =
    ap (λ (l : List ℕ). leaves h e ++ l) (left-append r (session.happens r h e) a b)
    ∙ sym (append_assoc (leaves h e) (left r (session.happens r h e) a) (left r (session.run r a (session.happens r h e)) b))

calls-append : (r : Reader) (w : WorldState) (a b : List WorldEvent) → calls_from r 0 w (a ++ b) ≡ calls_from r 0 w a ++ calls_from r 0 (after_all r w a) b
calls-append r w [] b = refl
calls-append r w (x ∷ a) b =
    ap (λ (l : List session.Event). calls_by 0 w x ++ l) (calls-append r (after_act r w x) a b)
    ∙ sym (append_assoc (calls_by 0 w x) (calls_from r 0 (after_act r w x) a) (calls_from r 0 (after_all r (after_act r w x) a) b))

-- Nothing leaves the wire before anything is read.

abbrev Other : ℕ → WorldState → Bool → Type 0
Other k w b = (if b then calls_in Cuts (slice_get w.sides 0) else []) ≡ []

others-call-nothing : (k : ℕ) (w : WorldState) → calls_by 0 w (Alone (suc k) Cuts) ≡ []
others-call-nothing k w = subst (Other k w) (sym (eqb-suc-zero k)) refl

cuts-call-nothing : (r : Reader) (w : WorldState) (k : ℕ) → calls_from r 0 w (cuts_behind k) ≡ []
cuts-call-nothing r w zero = refl
cuts-call-nothing r w (suc k) =
    calls-append r w (cuts_behind k) (Alone (suc k) Cuts ∷ [])
    ∙ ap (λ (l : List session.Event). l ++ calls_from r 0 (after_all r w (cuts_behind k)) (Alone (suc k) Cuts ∷ [])) (cuts-call-nothing r w k)
    ∙ append-nil (calls_by 0 (after_all r w (cuts_behind k)) (Alone (suc k) Cuts))
    ∙ others-call-nothing k (after_all r w (cuts_behind k))

up-leaves : (r : Reader) (h : session.History) (t : ℕ) (side : Option Side) → h.session.wire ≡ [] → left r h (calls_in (Resumes t) side) ≡ []
up-leaves r h t None bare = refl
up-leaves r h t (Some s) bare = append-nil h.session.wire ∙ bare

opening-leaves : (r : Reader) (w : WorldState) (h : session.History) (k t : ℕ) → h.session.wire ≡ [] → left r h (calls_from r 0 w (cuts_behind k ++ Alone 0 (Resumes t) ∷ [])) ≡ []
opening-leaves r w h k t bare =
    let there : WorldState = after_all r w (cuts_behind k) in
    let up = calls_in (Resumes t) (slice_get there.sides 0) in
    let all : calls_from r 0 w (cuts_behind k ++ Alone 0 (Resumes t) ∷ []) ≡ up =
    calls-append r w (cuts_behind k) (Alone 0 (Resumes t) ∷ [])
    ∙ ap (λ (l : List session.Event). l ++ calls_from r 0 there (Alone 0 (Resumes t) ∷ [])) (cuts-call-nothing r w k)
    ∙ append-nil up in
    ap (left r h) all ∙ up-leaves r h t (slice_get there.sides 0) bare

-- What leaves it in a possible act is what the act gives.

pops-leave : (r : Reader) (h : session.History) (seat : Option Item) → left r h (pops seat) ≡ []
pops-leave r h None = refl
pops-leave r h (Some x) = refl

sends-leave : (r : Reader) (h : session.History) (t : ℕ) (reply : Option Outgoing) → (reply ≡ Some Cut → ⊥) → left r h (sends t reply) ≡ []
sends-leave r h t None uncut = refl
sends-leave r h t (Some (Reply app)) uncut = refl
sends-leave r h t (Some Cut) uncut = absurd (uncut refl)

-- the session is that of the side, and no sentinel waits for it
record IsOf (h : session.History) (side : Option Side) : Type 0 where
  pub same : (s : Side) → side ≡ Some s → h.session ≡ s.session
  pub uncut : (s : Side) → side ≡ Some s → s.reply ≡ Some Cut → ⊥

abbrev gives : SessionEvent → Option Side → List ℕ
gives Writes side = wire_of side
gives x side = []

does-leave : (r : Reader) (t : ℕ) (w : WorldState) (h : session.History) (x : SessionEvent) (side : Option Side) → MayCome r t w (Alone 0 x) → IsOf h side → left r h (calls_in x side) ≡ gives x side
does-leave r t w h (Pieces bytes) None may of = refl
does-leave r t w h (Steps u) None may of = refl
does-leave r t w h (Ticks u) None may of = refl
does-leave r t w h Breaks None may of = refl
does-leave r t w h (Resumes u) None may of = refl
does-leave r t w h Hands None may of = refl
does-leave r t w h Delivers None may of = refl
does-leave r t w h (Collects u) None may of = refl
does-leave r t w h Cuts None may of = refl
does-leave r t w h Writes None may of = refl
does-leave r t w h (Pieces bytes) (Some s) may of = refl
does-leave r t w h (Steps u) (Some s) may of = refl
does-leave r t w h (Ticks u) (Some s) may of = absurd may
does-leave r t w h Breaks (Some s) may of = absurd may
does-leave r t w h (Resumes u) (Some s) may of = absurd may
does-leave r t w h Hands (Some s) may of = pops-leave r h s.seat
does-leave r t w h Delivers (Some s) may of = refl
does-leave r t w h (Collects u) (Some s) may of = sends-leave r h (max s.moment u) s.reply (of.uncut s refl)
does-leave r t w h Cuts (Some s) may of = absurd may
does-leave r t w h Writes (Some s) may of = append-nil h.session.wire ∙ ap (λ (x : State). x.wire) (of.same s refl)

given-is : (w : WorldState) (x : SessionEvent) → given_by 0 w (Alone 0 x) ≡ gives x (slice_get w.sides 0)
given-is w (Pieces bytes) = refl
given-is w (Steps u) = refl
given-is w (Ticks u) = refl
given-is w Breaks = refl
given-is w (Resumes u) = refl
given-is w Hands = refl
given-is w Delivers = refl
given-is w (Collects u) = refl
given-is w Cuts = refl
given-is w Writes = refl

one-leaves : (r : Reader) (t : ℕ) (w : WorldState) (h : session.History) (a : WorldEvent) → MayCome r t w a → IsOf h (slice_get w.sides 0) → left r h (calls_by 0 w a) ≡ given_by 0 w a
one-leaves r t w h (Alone zero x) may of = does-leave r t w h x (slice_get w.sides 0) may of ∙ sym (given-is w x)
one-leaves r t w h (Alone (suc k) x) may of = absurd may
one-leaves r t w h (Takes k u) may of = refl
one-leaves r t w h (VenueTicks u) may of = absurd may

-- In any state, by the headline.

abbrev behind : List Outgoing → List Outgoing
behind [] = []
behind (x ∷ rest) = rest

no-cut_token : (sent all : List App) (queue : List Outgoing) → outgoing sent ++ Cut ∷ queue ≡ outgoing all → ⊥
no-cut_token [] [] queue e = cc
no-cut_token [] (y ∷ all) queue e = cc
no-cut_token (x ∷ sent) [] queue e = cc
no-cut_token (x ∷ sent) (y ∷ all) queue e = no-cut_token sent all queue (ap behind e)

stands-so : KeepsItsWord → (r : Reader) (m : Market) (acts : List WorldEvent) → was_cut 0 acts ≡ false → IsOf (history_of r m 0 acts) (slice_get (after_all r (fresh_world m) acts).sides 0)
stands-so law r m acts uncut = record {
  same = λ s e. (law r m acts).its_session 0 s e;
  uncut = λ s e cut_token. no-cut_token (numbered s.session) (owed m 0 (items_of r m acts)) s.queue
      (ap (λ (reply : Option Outgoing). outgoing (numbered s.session) ++ (option_to_list reply ++ s.queue)) (sym cut_token) ∙ (law r m acts).owed_all 0 s e uncut);
}

history-more : (r : Reader) (m : Market) (before : List WorldEvent) (a : WorldEvent)
    → session.run r (calls_by 0 (after_all r (fresh_world m) before) a) (history_of r m 0 before) ≡ history_of r m 0 (before ++ a ∷ [])
history-more r m before a =
    let ids = ids_of m.participants (name_of m.participants 0) in
    let w : WorldState = after_all r (fresh_world m) before in
    sym (run-append r (calls_from r 0 (fresh_world m) before) (calls_by 0 w a) (session.begin false ids))
    ∙ ap (λ (l : List session.Event). session.run r (calls_from r 0 (fresh_world m) before ++ l) (session.begin false ids)) (sym (append-nil (calls_by 0 w a)))
    ∙ ap (λ (l : List session.Event). session.run r l (session.begin false ids)) (sym (calls-append r (fresh_world m) before (a ∷ [])))

acts-leave : KeepsItsWord → (r : Reader) (m : Market) (t : ℕ) (before acts : List WorldEvent) → was_cut 0 before ≡ false → Leads r t (after_all r (fresh_world m) before) acts
    → left r (history_of r m 0 before) (calls_from r 0 (after_all r (fresh_world m) before) acts) ≡ given_from r 0 (after_all r (fresh_world m) before) acts
acts-leave law r m t before [] uncut leads = refl
acts-leave law r m t before (a ∷ acts) uncut leads =
    let w : WorldState = after_all r (fresh_world m) before in
    let h : session.History = history_of r m 0 before in
    let w' : WorldState = after_act r w a in
    let joined : after_all r (fresh_world m) (before ++ a ∷ []) ≡ w' = after-append r (fresh_world m) before (a ∷ []) in
    let later : left r (history_of r m 0 (before ++ a ∷ [])) (calls_from r 0 w' acts) ≡ given_from r 0 w' acts =
    subst (λ (x : WorldState). left r (history_of r m 0 (before ++ a ∷ [])) (calls_from r 0 x acts) ≡ given_from r 0 x acts) joined
    (acts-leave law r m t (before ++ a ∷ []) acts (uncut-append before (a ∷ []) uncut (ap (λ (b : Bool). b || false) (one-uncut r t w a leads.0)))
    (subst (λ (x : WorldState). Leads r t x acts) (sym joined) leads.1)) in
    left-append r h (calls_by 0 w a) (calls_from r 0 w' acts)
    ∙ ap (λ (x : session.History). left r h (calls_by 0 w a) ++ left r x (calls_from r 0 w' acts)) (history-more r m before a)
    ∙ ap (λ (l : List ℕ). l ++ left r (history_of r m 0 (before ++ a ∷ [])) (calls_from r 0 w' acts)) (one-leaves r t w h a leads.0 (stands-so law r m before uncut))
    ∙ ap (λ (l : List ℕ). given_by 0 w a ++ l) later

run-leaves : KeepsItsWord → (r : Reader) (m : Market) (t : ℕ) (acts : List WorldEvent) → Leads r t (opened r m t) acts → in_acts left r m 0 (run_of m t acts) ≡ given_from r 0 (opened r m t) acts
run-leaves law r m t acts leads =
    let k : ℕ = length m.participants.names - 1 in
    let up = opening (length m.participants.names) t in
    let h : session.History = session.begin false (ids_of m.participants (name_of m.participants 0)) in
    let first = calls_from r 0 (fresh_world m) up in
    let rest = calls_from r 0 (opened r m t) acts in
    ap (left r h) (calls-append r (fresh_world m) up acts)
    ∙ left-append r h first rest
    ∙ ap (λ (l : List ℕ). l ++ left r (session.run r first h) rest) (opening-leaves r (fresh_world m) h k t refl)
    ∙ acts-leave law r m t up acts (opening-uncut m t) leads

-- all queued bytes were given, where none waits
pub all-queued : KeepsItsWord → (r : Reader) (m : Market) (t : ℕ) (acts : List WorldEvent) (sides : List Side) → Leads r t (opened r m t) acts
    → OfFirst IsAnswered sides → WiresLoseNothing sides r m (run_of m t acts) → in_acts queued r m 0 (run_of m t acts) ≡ given_from r 0 (opened r m t) acts
all-queued law r m t acts [] leads answered lose = absurd answered
all-queued law r m t acts (s ∷ sides) leads answered lose =
    let gone = in_acts left r m 0 (run_of m t acts) in
    sym (lose 0 s refl) ∙ ap (λ (l : List ℕ). gone ++ l) answered.all_written ∙ append-nil gone ∙ run-leaves law r m t acts leads
