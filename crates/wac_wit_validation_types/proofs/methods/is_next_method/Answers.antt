use Rattle.std.proofs.Common.{refl, sym, ap, subst, ◌∙◌}
use Rattle.wac_model.specs.Text.{Text}
use Rattle.wac_wit_validation_types.specs.Exports.{IsFuncItem, named_items}
use Rattle.wac_wit_validation_types.specs.Functions.{IsMethodOf, method_name}
use Rattle.wac_wit_validation_types.specs.Interfaces.{a_method}
use Rattle.wac_wit_validation_types.specs.Reading.{TypesAreNamed}
use Rattle.wac_wit_scopes.specs.WitSources.{ident_text}
use Rattle.wac_wit_validation_types.proofs.MarkFacts.{func_exported, has_func_at, marks_one}
use Rattle.wac_wit_validation_types.proofs.NameFacts.{item_at_index}
use Rattle.wac_wit_validation_types.proofs.methods.is_next_method.Goals as goal

pub returns-then-is_method_name-clause-marks : goal.returns-then-is_method_name-clause-marks
returns-then-is_method_name-clause-marks c = λ same own s gives.
    let names = c.args.names.now in
    let m = c.args.method.now in
    let r = ident_text c.args.resource.now in
    let n = method_name m.kind r (ident_text m.name) in
    let i = c.args.progress.now.next_method in
    let text = sym c.deref.ensures ∙ c.if-is_method_name.ensures refl ∙ ap (λ (t : Text). method_name m.kind t (ident_text m.name)) c.deref-2.ensures in
    marks_one s names c.args.progress.now c.mark.new.self i c.mark.ensures.even c.mark.ensures.marked
    (func_exported s names.types.now (named_items names) i n c.in-Some.item.now (IsMethodOf s m r)
    (item_at_index names i c.in-Some.name.now c.in-Some.item.now n c.in-Some.ensures.entry text)
    (subst (λ (t : Text). TypesAreNamed s names.types.now i (named_items names) → IsFuncItem names.types.now c.in-Some.item.now (IsMethodOf s m t)) own (c.is_method_item.ensures.behind same s)) (λ f is. a_method (gives f is)))

pub returns-then-is_method_name-clause-covers : goal.returns-then-is_method_name-clause-covers
returns-then-is_method_name-clause-covers c = λ same.
    let names = c.args.names.now in
    let m = c.args.method.now in
    let n = method_name m.kind (ident_text c.args.resource.now) (ident_text m.name) in
    let text = sym c.deref.ensures ∙ c.if-is_method_name.ensures refl ∙ ap (λ (t : Text). method_name m.kind t (ident_text m.name)) c.deref-2.ensures in
    let i = c.args.progress.now.next_method in
    has_func_at names.types.now (λ f. Unit {0}) (named_items names) i n c.in-Some.item.now (item_at_index names i c.in-Some.name.now c.in-Some.item.now n c.in-Some.ensures.entry text) (c.is_method_item.ensures.func same)
