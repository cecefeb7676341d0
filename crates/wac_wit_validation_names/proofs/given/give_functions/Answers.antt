use Rattle.std.proofs.Common.{◌≡◌, ◌∙◌, List, Some, Vec, Global, ap, slice_get, subst, sym}
use Rattle.std.proofs.lemmas.Option.{same_Some}
use Rattle.std.proofs.lemmas.Result.{IfOk-weaker}
use Rattle.indexmap.specs.IndexMap.{get_by_text}
use Rattle.wac_model.specs.Text.{Text}
use Rattle.wac_wit_syntax.specs.declared.tree.Method.{Method}
use Rattle.wac_wit_scopes.specs.WitSources.{ident_text}
use Rattle.wac_wit_validation_names.specs.GivenNames.{GivesMethod}
use Rattle.wac_wit_validation_names.proofs.given.give_functions.Goals as goal

pub returns-in-Some-clause-gives : goal.returns-in-Some-clause-gives
returns-in-Some-clause-gives c = IfOk-weaker c.give_methods.result _ _ (λ b h is of on ms at resource named j m slot.
    let same : c.in-Resource.methods ≡ ms = let both = sym c.in-Resource.is ∙ at in cc in
    let list = c.deref.ensures.value ∙ ap (λ (v : Vec Method Global). v.items) same in
    let becomes = same_Some (ident_text c.in-Some.resource.now) resource (sym c.in-Some.ensures ∙ named) in
    subst (λ (r : Text). GivesMethod of (get_by_text c.give_methods.new.given) r c.args.place j m) becomes
    (h is of on j m (subst (λ (l : List Method). slice_get l j ≡ Some m) (sym list) slot))) c.give_methods.ensures.gives
