use Rattle.std.proofs.Common.{subst, sym}
use Rattle.wac_component.specs.Content.{named, use_content}
use Rattle.wac_component.specs.declared.items.ItemKind.{ItemKind}
use Rattle.wac_wit_validation_names.specs.Noted.{HasOwner}
use Rattle.wac_wit_validation_names.proofs.noted.has_owner.Goals as goal

pub returns-in-Type : goal.returns-in-Type
returns-in-Type c = λ is. subst (λ (k : ItemKind). HasOwner c.args.types.now (named use_content c.args.uses.now.entries) c.args.name.now k) (sym c.in-Type.is) (c.has_type_owner.ensures is)
