use Rattle.std.proofs.Common.{Some, None, refl, ap}
use Rattle.wac_component.specs.Tree.{value_tree}
use Rattle.wac_component.specs.declared.items.ValueType.{ValueType}
use Rattle.wac_wit_validation_types.specs.Functions.{returns, returns_nothing}
use Rattle.wac_wit_validation_types.proofs.names.NamedTypes.is_constructed.Goals as goal

pub returns-in-Some-Some : goal.returns-in-Some-Some
returns-in-Some-Some c is s h = rw (c.in-Some-Some.is-0, c.in-Some-Some.is-1) (Some (value_tree c.args.self.now.types.now c.in-Some-Some.of), returns (c.is_value.ensures is s h), refl)

pub returns-in-None-Some : goal.returns-in-None-Some
returns-in-None-Some c is s h =
    let at = c.in-None-Some in
    rw (at.is-0, at.is-1) (None, returns_nothing, ap (λ (v : ValueType). Some (value_tree c.args.self.now.types.now v)) (c.is_own_handle.ensures is))
