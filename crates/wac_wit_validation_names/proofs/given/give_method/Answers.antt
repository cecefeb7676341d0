use Rattle.std.proofs.Common.{◌∙◌, ap, subst}
use Rattle.std.proofs.lemmas.Result.{IfOk-weaker}
use Rattle.indexmap.specs.IndexMap.{get_by_text}
use Rattle.wac_model.specs.Text.{Text}
use Rattle.wac_wit_scopes.specs.WitSources.{ident_text}
use Rattle.wac_wit_validation_types.specs.Functions.{method_name}
use Rattle.wac_wit_validation_names.specs.GivenNames.{IsGivenAt}
use Rattle.wac_wit_validation_names.proofs.given.give_method.Goals as goal

pub returns-then-not-is_enabled-clause-gives : goal.returns-then-not-is_enabled-clause-gives
returns-then-not-is_enabled-clause-gives c = λ is of on there. let no = (c.is_enabled.ensures of on).1 there in absurd (cc)

pub returns-clause-gives : goal.returns-clause-gives
returns-clause-gives c = IfOk-weaker c.give.result _ _ (λ b h is of on there. subst (λ (k : Text). IsGivenAt (get_by_text c.give.new.given) k c.args.place)
    (c.in_ok-key.ensures ∙ ap (λ (r : Text). method_name c.args.method.now.kind r (ident_text c.args.method.now.name)) c.deref.ensures) (h is)) c.give.ensures.gives
