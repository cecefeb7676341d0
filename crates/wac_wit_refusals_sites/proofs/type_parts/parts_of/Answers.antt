use Rattle.std.specs.Borrow.{Bor}
use Rattle.wac_wit_refusals_sites.specs.TypeSites.{IsWritten, a_definition, an_alias}
use Rattle.wac_wit_syntax.specs.declared.tree.TypeDef.TheVariants as def
use Rattle.wac_wit_syntax.specs.declared.tree.TypeExpr.{TypeExpr}
use Rattle.wac_wit_refusals_sites.proofs.TypeFacts.{none_among}
use Rattle.wac_wit_refusals_sites.proofs.type_parts.parts_of.Goals as goal

pub returns : goal.returns
returns c =
    let s = a_definition (def.Alias c.args.ty.now) in
    c.in_ok-push_type.ensures s (an_alias c.args.ty.now) (none_among (λ (e : Bor TypeExpr). IsWritten s e.now) c.new-types.result.items c.new-types.ensures.items)
