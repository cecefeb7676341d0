use Rattle.std.proofs.Common.{◌∙◌, ap}
use Rattle.std.specs.Prelude.{Box, Option}
use Rattle.std.specs.declared.alloc.Global.{Global}
use Rattle.wac_wit_syntax.specs.declared.tree.TypeExpr.{TypeExpr}
use Rattle.wac_wit_syntax.specs.declared.tree.TypeExpr.TheVariants as ty
use Rattle.wac_wit_refusals_types.specs.Constructors.{at_ok}
use Rattle.wac_wit_refusals_types.proofs.constructors.has_ok_there.Goals as goal

pub returns-in-Result : goal.returns-in-Result
returns-in-Result c = λ m h. let w = c.is_ok_there.ensures h in at_ok w.0 c.in-Result.field-1 (c.in-Result.is ∙ ap (λ (o : Option (Box TypeExpr Global)). ty.Result o c.in-Result.field-1) w.1) w.2
