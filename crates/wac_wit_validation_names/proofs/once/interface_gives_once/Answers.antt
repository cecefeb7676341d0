use Rattle.std.proofs.Common.{List, subst}
use Rattle.std.proofs.lemmas.Result.{IfOk-weaker}
use Rattle.wac_wit_syntax.specs.declared.tree.InterfaceItem.{InterfaceItem}
use Rattle.wac_wit_validation_names.specs.Once.{InsideGivesOnce}
use Rattle.wac_wit_validation_names.proofs.once.interface_gives_once.Goals as goal

pub returns-then-not-is_enabled : goal.returns-then-not-is_enabled
returns-then-not-is_enabled c = λ is of on there. let no = (c.is_enabled.ensures of on).1 there in absurd (cc)

pub returns : goal.returns
returns c = IfOk-weaker c.gives_once.result _ _ (λ b h is of on there. subst (λ (l : List InterfaceItem). InsideGivesOnce of l) c.deref.ensures.value (h is of on)) c.gives_once.ensures
