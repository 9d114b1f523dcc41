-- A text that begins with the type (35) of another message is that of no cross.
use Rattle.std.proofs.Common.{◌≡◌, ◌≢◌, ℕ, ◌==◌, Bool, true, false, ◌&&◌, not, List, [], ◌∷◌, ◌++◌, Some, None, refl, sym, ap, ◌∙◌, arith, decimal, bytes_eq, eqb-true, eq-eqb, append_assoc, if◌then◌else◌, nat_le, length}
use Rattle.std.specs.Prelude.{codes}
use Rattle.std.specs.Fmt.{digits}
use Rattle.std.proofs.lemmas.Fmt.{decimal_injective}
use Rattle.std.proofs.lemmas.Slice.Eq.{bytes_eq-Decides}
use Rattle.fix_fields.specs.Cut.{Lacks}
use Rattle.fix_fields.specs.Fields.{AreFields, Entry, IsField, field_text, fields_text, value_of}
use Rattle.fix_fields.proofs.CutLemmas.{same_cut}
use Rattle.fix_fields.proofs.TagLemmas.{Lacks-tag}
use Rattle.fix_validation.specs.Stated.{bytes_at}
use Rattle.fix_dictionary.specs.declared.kinds.MessageType.{MessageType}
use Rattle.fix_dictionary.specs.declared.kinds.MessageType.TheVariants as types
use Rattle.fix_dictionary.specs.declared.messages.App.{App}
use Rattle.fix_dictionary.specs.declared.messages.App.TheVariants as app
use Rattle.fix_dictionary.specs.declared.messages.Body.TheVariants as body
use Rattle.fix_dictionary.specs.declared.messages.NewOrderCross.{NewOrderCross}
use Rattle.fix_dictionary.specs.Kinds.{type_of}
use Rattle.fix_decoder.specs.Applications.{plain_header}
use Rattle.fix_decoder.specs.Messages.{body_in, message_in}
use Rattle.venue_core.specs.Replay.{Emits, IsTextOf}
use Rattle.venue_rules.specs.declared.trail.TrailRow.{TrailRow}
use Rattle.venue_rules.specs.Run.{Input, Message, Tick}
use Rattle.day_events.specs.Days.{taken_in}
use Rattle.cross_sections.specs.Crosses.{begins_otherwise, terms_in, terms_of}

-- the type

skip : (b : Bool) (t rest : MessageType) → (t ≡ types.NewOrderCross → ⊥) → (if b then t else rest) ≡ types.NewOrderCross → rest ≡ types.NewOrderCross
skip true t rest other e = absurd (other e)
skip false t rest other e = e

skip_own : (b : Bool) (rest : MessageType) → b ≡ false → (if b then types.NewOrderCross else rest) ≡ types.NewOrderCross → rest ≡ types.NewOrderCross
skip_own true rest h e = absurd (clash h)
  where
    clash : true ≡ false → ⊥
    clash x = cc
skip_own false rest h e = e

no_type : types.Unsupported ≡ types.NewOrderCross → ⊥
no_type e = cc

no_Heartbeat : types.Heartbeat ≡ types.NewOrderCross → ⊥
no_Heartbeat e = cc

no_TestRequest : types.TestRequest ≡ types.NewOrderCross → ⊥
no_TestRequest e = cc

no_ResendRequest : types.ResendRequest ≡ types.NewOrderCross → ⊥
no_ResendRequest e = cc

no_Reject : types.Reject ≡ types.NewOrderCross → ⊥
no_Reject e = cc

no_SequenceReset : types.SequenceReset ≡ types.NewOrderCross → ⊥
no_SequenceReset e = cc

no_Logout : types.Logout ≡ types.NewOrderCross → ⊥
no_Logout e = cc

no_Logon : types.Logon ≡ types.NewOrderCross → ⊥
no_Logon e = cc

no_QuoteRequest : types.QuoteRequest ≡ types.NewOrderCross → ⊥
no_QuoteRequest e = cc

no_Quote : types.Quote ≡ types.NewOrderCross → ⊥
no_Quote e = cc

no_QuoteRequestReject : types.QuoteRequestReject ≡ types.NewOrderCross → ⊥
no_QuoteRequestReject e = cc

no_QuoteCancel : types.QuoteCancel ≡ types.NewOrderCross → ⊥
no_QuoteCancel e = cc

no_QuoteResponse : types.QuoteResponse ≡ types.NewOrderCross → ⊥
no_QuoteResponse e = cc

no_QuoteStatusReport : types.QuoteStatusReport ≡ types.NewOrderCross → ⊥
no_QuoteStatusReport e = cc

no_NewOrderSingle : types.NewOrderSingle ≡ types.NewOrderCross → ⊥
no_NewOrderSingle e = cc

no_OrderCancelRequest : types.OrderCancelRequest ≡ types.NewOrderCross → ⊥
no_OrderCancelRequest e = cc

no_OrderCancelReplaceRequest : types.OrderCancelReplaceRequest ≡ types.NewOrderCross → ⊥
no_OrderCancelReplaceRequest e = cc

no_ExecutionReport : types.ExecutionReport ≡ types.NewOrderCross → ⊥
no_ExecutionReport e = cc

no_OrderCancelReject : types.OrderCancelReject ≡ types.NewOrderCross → ⊥
no_OrderCancelReject e = cc

no_MarketDataRequest : types.MarketDataRequest ≡ types.NewOrderCross → ⊥
no_MarketDataRequest e = cc

no_MarketDataSnapshot : types.MarketDataSnapshot ≡ types.NewOrderCross → ⊥
no_MarketDataSnapshot e = cc

no_MarketDataRequestReject : types.MarketDataRequestReject ≡ types.NewOrderCross → ⊥
no_MarketDataRequestReject e = cc

no_BusinessMessageReject : types.BusinessMessageReject ≡ types.NewOrderCross → ⊥
no_BusinessMessageReject e = cc

other_type : (v : List ℕ) → bytes_eq v (codes "s") ≡ false → type_of v ≡ types.NewOrderCross → ⊥
other_type v h e0 =
    let e1 = skip (bytes_eq v (codes "0")) types.Heartbeat _ no_Heartbeat e0 in
    let e2 = skip (bytes_eq v (codes "1")) types.TestRequest _ no_TestRequest e1 in
    let e3 = skip (bytes_eq v (codes "2")) types.ResendRequest _ no_ResendRequest e2 in
    let e4 = skip (bytes_eq v (codes "3")) types.Reject _ no_Reject e3 in
    let e5 = skip (bytes_eq v (codes "4")) types.SequenceReset _ no_SequenceReset e4 in
    let e6 = skip (bytes_eq v (codes "5")) types.Logout _ no_Logout e5 in
    let e7 = skip (bytes_eq v (codes "A")) types.Logon _ no_Logon e6 in
    let e8 = skip (bytes_eq v (codes "R")) types.QuoteRequest _ no_QuoteRequest e7 in
    let e9 = skip (bytes_eq v (codes "S")) types.Quote _ no_Quote e8 in
    let e10 = skip (bytes_eq v (codes "AG")) types.QuoteRequestReject _ no_QuoteRequestReject e9 in
    let e11 = skip (bytes_eq v (codes "Z")) types.QuoteCancel _ no_QuoteCancel e10 in
    let e12 = skip (bytes_eq v (codes "AJ")) types.QuoteResponse _ no_QuoteResponse e11 in
    let e13 = skip (bytes_eq v (codes "AI")) types.QuoteStatusReport _ no_QuoteStatusReport e12 in
    let e14 = skip (bytes_eq v (codes "D")) types.NewOrderSingle _ no_NewOrderSingle e13 in
    let e15 = skip (bytes_eq v (codes "F")) types.OrderCancelRequest _ no_OrderCancelRequest e14 in
    let e16 = skip (bytes_eq v (codes "G")) types.OrderCancelReplaceRequest _ no_OrderCancelReplaceRequest e15 in
    let e17 = skip_own (bytes_eq v (codes "s")) _ h e16 in
    let e18 = skip (bytes_eq v (codes "8")) types.ExecutionReport _ no_ExecutionReport e17 in
    let e19 = skip (bytes_eq v (codes "9")) types.OrderCancelReject _ no_OrderCancelReject e18 in
    let e20 = skip (bytes_eq v (codes "V")) types.MarketDataRequest _ no_MarketDataRequest e19 in
    let e21 = skip (bytes_eq v (codes "W")) types.MarketDataSnapshot _ no_MarketDataSnapshot e20 in
    let e22 = skip (bytes_eq v (codes "Y")) types.MarketDataRequestReject _ no_MarketDataRequestReject e21 in
    let e23 = skip (bytes_eq v (codes "j")) types.BusinessMessageReject _ no_BusinessMessageReject e22 in
    no_type e23

-- the body

other_body : (t : MessageType) → (t ≡ types.NewOrderCross → ⊥) → (fields : List Entry) (d : NewOrderCross) → body.App (app.NewOrderCross d) ≡ body_in t fields → ⊥
other_body types.Heartbeat other fields d e = cc
other_body types.TestRequest other fields d e = cc
other_body types.ResendRequest other fields d e = cc
other_body types.Reject other fields d e = cc
other_body types.SequenceReset other fields d e = cc
other_body types.Logout other fields d e = cc
other_body types.Logon other fields d e = cc
other_body types.QuoteRequest other fields d e = cc
other_body types.Quote other fields d e = cc
other_body types.QuoteRequestReject other fields d e = cc
other_body types.QuoteCancel other fields d e = cc
other_body types.QuoteResponse other fields d e = cc
other_body types.QuoteStatusReport other fields d e = cc
other_body types.NewOrderSingle other fields d e = cc
other_body types.OrderCancelRequest other fields d e = cc
other_body types.OrderCancelReplaceRequest other fields d e = cc
other_body types.NewOrderCross other fields d e = other refl
other_body types.ExecutionReport other fields d e = cc
other_body types.OrderCancelReject other fields d e = cc
other_body types.MarketDataRequest other fields d e = cc
other_body types.MarketDataSnapshot other fields d e = cc
other_body types.MarketDataRequestReject other fields d e = cc
other_body types.BusinessMessageReject other fields d e = cc
other_body types.Unsupported other fields d e = cc

-- the text

both : (p q : Bool) → (p && q) ≡ true → (p ≡ true) × (q ≡ true)
both true q h = (refl, h)
both false q h = absurd (clash h)
  where
    clash : false ≡ true → ⊥
    clash x = cc

negated : (p : Bool) → not p ≡ true → p ≡ true → ⊥
negated true h k = cc
negated false h k = cc

regrouped : (tag : ℕ) (value rest : List ℕ) → field_text tag value ++ rest ≡ decimal tag ++ 61 ∷ (value ++ 1 ∷ rest)
regrouped tag value rest =
    append_assoc (decimal tag) (61 ∷ (value ++ 1 ∷ [])) rest
    ∙ ap (λ (l : List ℕ). decimal tag ++ 61 ∷ l) (append_assoc value (1 ∷ []) rest)

-- 35, as a text has it
as_written : decimal 35 ≡ 51 ∷ 53 ∷ []
unfolding digits
as_written = refl

-- the first field of the text, where it begins with 35=
first_field : (d e : ℕ) (rest : List ℕ) (f : Entry) (fs : List Entry) → IsField f → 51 ∷ 53 ∷ 61 ∷ d ∷ e ∷ rest ≡ fields_text (f ∷ fs) → (f.0 ≡ 35) × (d ∷ e ∷ rest ≡ f.1 ++ 1 ∷ fields_text fs)
first_field d e rest f fs field is =
    let text : 51 ∷ 53 ∷ 61 ∷ d ∷ e ∷ rest ≡ decimal f.0 ++ 61 ∷ (f.1 ++ 1 ∷ fields_text fs) = is ∙ regrouped f.0 f.1 (fields_text fs) in
    let lacks : Lacks 61 (51 ∷ 53 ∷ []) = (λ x. omega (arith, x), (λ x. omega (arith, x), tt)) in
    let cut = same_cut 61 (51 ∷ 53 ∷ []) (d ∷ e ∷ rest) (decimal f.0) (f.1 ++ 1 ∷ fields_text fs) lacks (Lacks-tag f.0 field.0) text in
    let number : decimal 35 ≡ decimal f.0 = as_written ∙ cut.0 in
    (sym (decimal_injective 35 f.0 (omega arith) (omega (arith, field.0.high)) number), cut.1)

type_there : (f : Entry) (fs : List Entry) → f.0 ≡ 35 → bytes_at 35 (plain_header ++ (f ∷ fs)) ≡ f.1
type_there f fs h = rw (eq-eqb f.0 35 h) refl

-- a cross names its type
its_type : (v : List ℕ) (d e : ℕ) (rest more : List ℕ) → d ∷ e ∷ rest ≡ v ++ 1 ∷ more → bytes_eq v (codes "s") ≡ true → (d ≡ 115) × (e ≡ 1)
its_type v d e rest more is same =
    let named : v ≡ codes "s" = (bytes_eq-Decides v (codes "s")).0 same in
    begins d e rest more (is ∙ ap (λ (w : List ℕ). w ++ 1 ∷ more) named)
  where
    begins : (d e : ℕ) (rest more : List ℕ) → d ∷ e ∷ rest ≡ 115 ∷ 1 ∷ more → (d ≡ 115) × (e ≡ 1)
    begins d e rest more h = (cc, cc)

by_test : (b : Bool) → (b ≡ true → ⊥) → b ≡ false
by_test true h = absurd (h refl)
by_test false h = refl

of_another : (d e : ℕ) (rest : List ℕ) → ((d ≡ 115) × (e ≡ 1) → ⊥) → (fields : List Entry) → AreFields fields → 51 ∷ 53 ∷ 61 ∷ d ∷ e ∷ rest ≡ fields_text fields → (c : NewOrderCross)
    → body.App (app.NewOrderCross c) ≡ (message_in (plain_header ++ fields)).body → ⊥
of_another d e rest other [] are is c spells = absurd cc
of_another d e rest other (f ∷ fs) are is c spells =
    let first = first_field d e rest f fs are.0 is in
    let unnamed : bytes_eq f.1 (codes "s") ≡ false = by_test (bytes_eq f.1 (codes "s")) (λ same. other (its_type f.1 d e rest (fields_text fs) first.1 same)) in
    let there : bytes_at 35 (plain_header ++ (f ∷ fs)) ≡ f.1 = type_there f fs first.0 in
    other_body (type_of f.1) (other_type f.1 unnamed) (plain_header ++ (f ∷ fs)) c (spells ∙ ap (λ (v : List ℕ). body_in (type_of v) (plain_header ++ (f ∷ fs))) there)

no_terms : (a : App) (first : List ℕ) → ((c : NewOrderCross) → a ≡ app.NewOrderCross c → ⊥) → terms_in first a ≡ None
no_terms (app.QuoteRequest x) first other = refl
no_terms (app.Quote x) first other = refl
no_terms (app.QuoteCancel x) first other = refl
no_terms (app.QuoteResponse x) first other = refl
no_terms (app.QuoteStatusReport x) first other = refl
no_terms (app.QuoteRequestReject x) first other = refl
no_terms (app.NewOrderSingle x) first other = refl
no_terms (app.OrderCancelRequest x) first other = refl
no_terms (app.OrderCancelReplaceRequest x) first other = refl
no_terms (app.NewOrderCross x) first other = absurd (other x refl)
no_terms (app.ExecutionReport x) first other = refl
no_terms (app.OrderCancelReject x) first other = refl
no_terms (app.MarketDataRequest x) first other = refl
no_terms (app.MarketDataSnapshot x) first other = refl
no_terms (app.MarketDataRequestReject x) first other = refl
no_terms (app.BusinessMessageReject x) first other = refl
no_terms (app.Unsupported x) first other = refl

never : false ≡ true → ⊥
never h = cc

pub no_cross : (text : List ℕ) → begins_otherwise text ≡ true → (a : App) → IsTextOf a text → (first : List ℕ) → terms_in first a ≡ None
no_cross (x ∷ y ∷ z ∷ d ∷ e ∷ rest) h a is first =
    let one = both (x == 51) (y == 53 && (z == 61 && not (d == 115 && e == 1))) h in
    let two = both (y == 53) (z == 61 && not (d == 115 && e == 1)) one.1 in
    let three = both (z == 61) (not (d == 115 && e == 1)) two.1 in
    let begins : 51 ∷ 53 ∷ 61 ∷ d ∷ e ∷ rest ≡ x ∷ y ∷ z ∷ d ∷ e ∷ rest = λ j. sym (eqb-true x 51 one.0) j ∷ sym (eqb-true y 53 two.0) j ∷ sym (eqb-true z 61 three.0) j ∷ d ∷ e ∷ rest in
    no_terms a first (λ c same. of_another d e rest (λ both_are. negated (d == 115 && e == 1) three.1 (rw (eq-eqb d 115 both_are.0, eq-eqb e 1 both_are.1) refl)) is.0 is.1 (begins ∙ is.2) c (sym (ap body.App same) ∙ is.3.1))
no_cross [] h a is first = absurd (never h)
no_cross (x ∷ []) h a is first = absurd (never h)
no_cross (x ∷ y ∷ []) h a is first = absurd (never h)
no_cross (x ∷ y ∷ z ∷ []) h a is first = absurd (never h)
no_cross (x ∷ y ∷ z ∷ d ∷ []) h a is first = absurd (never h)

pub none_there : (r : TrailRow) (i : Input) (first : List ℕ) → begins_otherwise r.text ≡ true → Emits r i → None ≡ terms_of first (taken_in i)
none_there r (Message taken t) first h emits = sym (no_cross r.text h taken.item.app emits.4 first)
none_there r (Tick t) first h emits = refl
