use Rattle.std.proofs.Common.{List, refl, subst}
use Rattle.wac_wit_syntax.specs.declared.tree.WorldItem.{WorldItem}
use Rattle.wac_wit_validation.specs.WorldChecking.{AreNamingItems}
use Rattle.wac_wit_validation.proofs.LayerFacts.{IsLayerOf-own}
use Rattle.wac_wit_validation.proofs.validator.Validator.own_layer.Goals as goal

pub returns : goal.returns
returns c = λ of w at.
    let items = subst (λ (is : List WorldItem). AreNamingItems of is c.in_ok-items.items.items) c.deref.ensures.value (c.in_ok-items.ensures of at.at.knows) in
    IsLayerOf-own of c.args.self.now c.args.text.now w (record { place = c.args.text.now.place; items = c.in_ok-items.items; names = c.in_ok-names.names }) refl items c.in_ok-names.ensures at
