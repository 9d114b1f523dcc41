use Rattle.std.proofs.Common.{◌≡◌, ◌∙◌, ◌++◌, ℕ, List, [], Bool, true, false, ap, sym, append-nil, if◌then◌else◌}
use Rattle.std.proofs.lemmas.Result.{on_ok_weaker}
use Rattle.fix_dictionary.specs.declared.messages.App.TheVariants.{NewOrderSingle}
use Rattle.message_words.specs.Parts.{parts_text}
use Rattle.venue_rules.specs.Answers.{answer}
use Rattle.venue_rules.specs.declared.trail.Taken.{Taken}
use Rattle.refusal_causes.specs.Linking.{link_parts}
use Rattle.refusal_causes.specs.Places.{waits}
use Rattle.refusal_causes.proofs.linking.append_link_line.Goals as goal

abbrev chosen : Bool → List ℕ → List ℕ
chosen b line = if b then [] else line

pub returns-then-waits-clause-text : goal.returns-then-waits-clause-text
returns-then-waits-clause-text c = λ h is.
    let a = c.args in
    let m = a.venue.now.market in
    let same = c.in_ok-other.ensures in
    let asked = c.in_ok-waits.ensures.emitted h is ∙ ap (λ (t : Taken). waits t.item.app (answer m h t a.moment).replies) same in
    sym (append-nil a.text.now.items) ∙ ap (λ (b : Bool). a.text.now.items ++ chosen b (parts_text (link_parts a.link.now))) (sym c.if-waits.true ∙ asked)

pub returns-clause-text : goal.returns-clause-text
returns-clause-text c = λ h is.
    let a = c.args in
    let m = a.venue.now.market in
    let same = c.in_ok-other.ensures in
    let asked = c.in_ok-waits.ensures.emitted h is ∙ ap (λ (t : Taken). waits t.item.app (answer m h t a.moment).replies) same in
    on_ok_weaker c.append_link_parts.result (λ q. q ∙ ap (λ (b : Bool). a.text.now.items ++ chosen b (parts_text (link_parts a.link.now))) (sym c.if-waits.false ∙ asked)) c.append_link_parts.ensures
