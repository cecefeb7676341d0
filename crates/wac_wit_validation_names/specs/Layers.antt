-- Layers under new names.
use Rattle.std.specs.Prelude.{◌≡◌}
use Rattle.wac_wit_validation_types.specs.Reading.{IsComposed}
use Rattle.wac_wit_validation_names.specs.declared.layers.Layer.{Layer}
use Rattle.wac_wit_validation_types.specs.declared.new_names.NewNames.{NewNames}

-- a layer of the same world, of which what names become is something else once more
pub record IsRenamedLayer (old : Layer) (by : NewNames) (new : Layer) : Type 0 where
  pub place : new.place ≡ old.place
  pub items : new.items.items ≡ old.items.items
  pub names : IsComposed old.names by new.names
