use Rattle.std.proofs.Common.{sym, subst}
use Rattle.std.proofs.lemmas.Result.{IfOk-weaker}
use Rattle.indexmap.specs.IndexMap.{get_by_text}
use Rattle.wac_wit_validation_names.specs.Once.{GivesInner}
use Rattle.wac_wit_validation_names.proofs.once.give_inner.Goals as goal

pub returns-in-Type-clause-gives : goal.returns-in-Type-clause-gives
returns-in-Type-clause-gives c = IfOk-weaker c.give_type.result _ _ (λ b h is of on. subst (GivesInner of (get_by_text c.give_type.new.given) c.args.place) (sym c.in-Type.is) (h is of on)) c.give_type.ensures.gives

pub returns-in-Use-clause-gives : goal.returns-in-Use-clause-gives
returns-in-Use-clause-gives c = IfOk-weaker c.give_use.result _ _ (λ b h is of on. subst (GivesInner of (get_by_text c.give_use.new.given) c.args.place) (sym c.in-Use.is) (h is of on)) c.give_use.ensures.gives

pub returns-in-Func-clause-gives : goal.returns-in-Func-clause-gives
returns-in-Func-clause-gives c = IfOk-weaker c.give_func.result _ _ (λ b h is of on. subst (GivesInner of (get_by_text c.give_func.new.given) c.args.place) (sym c.in-Func.is) (h is of on)) c.give_func.ensures.gives
