use Rattle.std.proofs.Common.{List, Some, refl, subst, ap, ◌∙◌}
use Rattle.wac_component.specs.Content.{interface_content}
use Rattle.wac_wit_syntax.specs.declared.tree.InterfaceItem.{InterfaceItem}
use Rattle.wac_wit_validation_types.specs.Exports.{AreExportsOf}
use Rattle.wac_wit_scopes.specs.Scopes.{scope_syntax}
use Rattle.wac_wit_validation_types.specs.Denoted.{interface_setting}
use Rattle.wac_wit_validation.specs.OriginClauses.{TellsOrigins}
use Rattle.wac_wit_scopes.specs.WitSources.{interface_identifier, package_id}
use Rattle.wac_wit_validation.proofs.FoundFacts.{found_if}
use Rattle.wac_wit_validation.proofs.OriginFacts.{validated}
use Rattle.wac_wit_validation.proofs.validator.Validator.is_found.Goals as goal

pub returns : goal.returns
returns c =
    let v = c.args.self.now in
    let f = c.args.found.now in
    let w = c.in-Some.scope.now in
    let d = c.in-Some.decl.now in
    let e = interface_content c.index-entry.result.now in
    found_if c.tells_origins.result v f c.tells_origins.ensures (λ tells of knows.
    validated of v f w d e knows c.in-Some.ensures.scope c.in-Some.ensures.item ((c.is_there.ensures of knows).0 c.if-not-is_there.false) (c.contains.ensures.0 c.if-not-contains.false).0 c.index-entry.ensures.entry
    (c.if-not-is_identifier_of.ensures refl ∙ ap (λ n. Some (interface_identifier (package_id w.package.now) n)) c.deref.ensures) c.index-entry.ensures.tree
    (subst (λ (is : List InterfaceItem). AreExportsOf (interface_setting of (scope_syntax w) is) v.types.now e.exports) c.deref-2.ensures.value (c.in_ok-is_interface.ensures c.if-not-branch.false of knows w c.in-Some.ensures.scope))
    (subst (λ (is : List InterfaceItem). TellsOrigins v (interface_setting of (scope_syntax w) is) e) c.deref-3.ensures.value (tells of knows w c.in-Some.ensures.scope)))
