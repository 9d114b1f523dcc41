use Rattle.std.proofs.Common.{◌∙◌, ap, ◌||◌, sym}
use Rattle.std.specs.List.{list_any}
use Rattle.std.specs.HashSet.{keys}
use Rattle.std.proofs.lemmas.List.Folds.{list_any-append}
use Rattle.client_ids.specs.declared.client_id.ClientId.{ClientId}
use Rattle.client_ids.specs.ClientIds.{is_of}
use Rattle.client_ids.proofs.used.UsedIds.reserve.Goals as goal

pub invariant_of-self-2 : goal.invariant_of-self-2
invariant_of-self-2 c = record {
  few = c.self.invariant.few;
  short = λ who id e. c.reserve.ensures.keys.2 (record { who = who; id = id }) ∙ c.self.invariant.short who id e;
  others = λ who id e. c.reserve-2.ensures.keys.2 (record { who = who; id = id }) ∙ c.self.invariant.others who id e;
}

pub returns-clause-names : goal.returns-clause-names
returns-clause-names c = λ who id.
    let q : ClientId = record { who = who; id = id } in
    rw (← c.self.view_is) (
    list_any-append (is_of who id) _ _ ∙ ap (λ b. b || list_any (is_of who id) (keys c.reserve-2.new.self)) (c.reserve.ensures.keys.2 q)
    ∙ ap (λ b. list_any (is_of who id) (keys c.self.inside.short) || b) (c.reserve-2.ensures.keys.2 q) ∙ sym (list_any-append (is_of who id) _ _)
    )
