use Rattle.std.proofs.Common.{refl}
use Rattle.wac_wit_validation.proofs.validator.Validator.tells_world.Goals as goal

pub returns : goal.returns
returns c = λ is. record {
  layers = c.in_ok-tells_layers.ensures c.if-not-branch.false;
  roots = c.if-not-have_roots.ensures refl;
  owners = c.have_owners.ensures is;
}
