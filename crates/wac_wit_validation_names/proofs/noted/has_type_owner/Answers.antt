use Rattle.wac_component.specs.Content.{named, use_content}
use Rattle.wac_wit_validation_names.proofs.NotedFacts.{no_owner, owner_here}
use Rattle.wac_wit_validation_names.proofs.noted.has_type_owner.Goals as goal

pub returns-in-Resource : goal.returns-in-Resource
returns-in-Resource c = λ is. owner_here c.args.types.now (named use_content c.args.uses.now.entries) c.args.name.now c.args.ty.now c.in-Resource.id c.in-Resource.is (c.is_owner.ensures is)

pub returns-in_default : goal.returns-in_default
returns-in_default c = λ is. no_owner c.args.types.now (named use_content c.args.uses.now.entries) c.args.name.now c.args.ty.now c.in_default.not-Resource
