use Rattle.std.proofs.Common.{sym, subst}
use Rattle.wac_model.specs.ValueTree.{ValueTree}
use Rattle.wac_wit_validation_types.specs.Denoted.{IsDefined, value_type}
use Rattle.wac_wit_validation_types.proofs.Contents.{type_meaning-value}
use Rattle.wac_wit_validation_types.proofs.names.NamedTypes.is_compound.Goals as goal

pub returns-in-Some : goal.returns-in-Some
returns-in-Some c is s h m of =
    let item = c.args.item.now in
    type_meaning-value (IsDefined s item) c.args.self.now.types.now c.args.of.now c.in-Value.of m c.in-Value.is of
    (subst (λ (v : ValueTree). IsDefined s item (value_type v)) (sym c.in-Some.ensures) (c.is_content.ensures is s h))
