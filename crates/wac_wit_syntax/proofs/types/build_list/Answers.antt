-- A list, with a length or without.
use Rattle.std.proofs.Common.{◌≡◌, Some, None, ap, sym, ◌∙◌, subst}
use Rattle.wac_wit_syntax.specs.TypeParts.{IsTypeMade}
use Rattle.wac_wit_syntax.specs.declared.tree.TypeExpr.TheVariants as ty
use Rattle.wac_wit_syntax.specs.declared.types.Parts.{Parts}
use Rattle.wac_wit_syntax.specs.declared.types.TypeWord.TheVariants as word
use Rattle.wac_wit_syntax.proofs.TypesMade.{made_fixed, made_list}
use Rattle.wac_wit_syntax.proofs.types.build_list.Goals as goal

pub returns-in-Some-clause-made : goal.returns-in-Some-clause-made
returns-in-Some-clause-made c =
    let p = c.args.parts.now in
    let e : p.length ≡ Some c.in-Some.length = sym (ap (λ (x : Parts). x.length) c.in_ok-element.ensures.parts) ∙ c.in-Some.is in
    subst (λ n. IsTypeMade word.List p.types.items p.lacks_first n c.args.span (ty.FixedList c.in_ok-element.element c.in-Some.length c.args.span)) (sym e) (made_fixed p.types.items _ p.lacks_first c.in-Some.length c.in_ok-element.element c.args.span c.in_ok-element.ensures.last)

pub returns-in-None-clause-made : goal.returns-in-None-clause-made
returns-in-None-clause-made c =
    let p = c.args.parts.now in
    let e : p.length ≡ None = sym (ap (λ (x : Parts). x.length) c.in_ok-element.ensures.parts) ∙ c.in-None.is in
    subst (λ n. IsTypeMade word.List p.types.items p.lacks_first n c.args.span (ty.List c.in_ok-element.element)) (sym e) (made_list p.types.items _ p.lacks_first c.in_ok-element.element c.args.span c.in_ok-element.ensures.last)
