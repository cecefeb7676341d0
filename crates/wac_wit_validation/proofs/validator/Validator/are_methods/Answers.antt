use Rattle.std.proofs.Common.{◌≡◌, List, Vec, refl, sym, ap, subst, ◌∙◌}
use Rattle.std.specs.declared.alloc.Global.{Global}
use Rattle.wac_model.specs.Text.{Text}
use Rattle.wac_wit_syntax.specs.declared.tree.Method.{Method}
use Rattle.wac_wit_syntax.specs.declared.tree.TypeDef.TheVariants as def
use Rattle.wac_wit_validation_types.specs.Exports.{HasMethods, OffersMethods, named_items}
use Rattle.wac_wit_validation_types.specs.Denoted.{type_name}
use Rattle.wac_wit_validation_types.specs.Functions.{of_resource}
use Rattle.wac_wit_scopes.specs.WitSources.{ident_text}
use Rattle.wac_wit_validation.proofs.validator.Validator.are_methods.Goals as goal

same_methods : (ms ns : Vec Method Global) → def.Resource ms ≡ def.Resource ns → ms ≡ ns
same_methods ms ns e = cc

pub returns-then-is_own_resource-clause-marks : goal.returns-then-is_own_resource-clause-marks
returns-then-is_own_resource-clause-marks c = λ same s knows renames among there.
    let ms = c.in-Resource-Resource.methods in
    let t = c.args.item.now in
    let name = c.in-Some.name.now in
    let is : type_name s t ≡ ident_text name = renames (ident_text t.name) (ident_text name) c.in-Some.ensures in
    let offers : OffersMethods s (type_name s t) ms.items = λ m inside shown f is. of_resource t ms m among there c.in-Resource-Resource.is-0 inside shown is in
    c.are_resource_methods.ensures.marks same (c.if-is_own_resource.ensures refl) s knows (subst (λ (l : List Method). OffersMethods s (ident_text name) l) (sym c.deref.ensures.value) (subst (λ (n : Text). OffersMethods s n ms.items) is offers))

pub returns-then-is_own_resource-clause-covers : goal.returns-then-is_own_resource-clause-covers
returns-then-is_own_resource-clause-covers c = λ same s knows renames ms is.
    let t = c.args.item.now in
    let name = c.in-Some.name.now in
    let one = same_methods c.in-Resource-Resource.methods ms (sym c.in-Resource-Resource.is-0 ∙ is) in
    let named : type_name s t ≡ ident_text name = renames (ident_text t.name) (ident_text name) c.in-Some.ensures in
    subst (λ (n : Text). HasMethods s.sources (named_items c.args.names.now) n ms.items) (sym named)
    (subst (λ (l : List Method). HasMethods s.sources (named_items c.args.names.now) (ident_text name) l) (c.deref.ensures.value ∙ ap (λ (v : Vec Method Global). v.items) one) (c.are_resource_methods.ensures.covers same s.sources knows))
