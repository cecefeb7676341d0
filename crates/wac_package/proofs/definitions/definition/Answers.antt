use Rattle.std.proofs.Common.{◌≡◌, ◌∙◌, ap, sym, length}
use Rattle.std.proofs.lemmas.List.{length-map}
use Rattle.wac_component.specs.Content.{world_content}
use Rattle.wac_component.specs.declared.items.ItemKind.TheVariants.{«Type» as OfType}
use Rattle.wac_component.specs.declared.items.Type.TheVariants.{World as TypeWorld}
use Rattle.wac_package.proofs.Defined.{definition_of, one_entry}
use Rattle.wac_package.proofs.definitions.definition.Goals as goal

pub returns : goal.returns
returns c =
    let content = world_content c.index.result.now in
    let kind : c.args.kind.now ≡ OfType (TypeWorld c.in-World.id) = c.in-Type.is ∙ ap OfType c.in-World.is in
    let one : length content.exports ≡ 1 = simp length-map (sym c.len.ensures.len ∙ c.if-len-ne1.false) in
    definition_of c.args.types.now c.args.kind.now c.export_at.result.1.now _ content c.export_at.result.0.now kind c.index.ensures.entry (one_entry content.exports _ one c.export_at.ensures) (c.in_ok-is_interface_name.ensures.0 c.if-not-branch.false) _ c.defined_type.ensures
