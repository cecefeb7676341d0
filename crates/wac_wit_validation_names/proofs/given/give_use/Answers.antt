use Rattle.std.proofs.Common.{List, subst}
use Rattle.std.proofs.lemmas.Result.{IfOk-weaker}
use Rattle.indexmap.specs.IndexMap.{get_by_text}
use Rattle.wac_wit_syntax.specs.declared.tree.Rename.{Rename}
use Rattle.wac_wit_validation_names.specs.GivenNames.{GivesUsed}
use Rattle.wac_wit_validation_types.specs.Reading.{name_by}
use Rattle.wac_wit_validation_names.proofs.given.give_use.Goals as goal

pub returns-then-not-is_enabled-clause-gives : goal.returns-then-not-is_enabled-clause-gives
returns-then-not-is_enabled-clause-gives c = λ is of on there. let no = (c.is_enabled.ensures of on).1 there in absurd (cc)

pub returns-clause-gives : goal.returns-clause-gives
returns-clause-gives c = IfOk-weaker c.give_renames.result _ _ (λ b h is of on there. subst (λ (l : List Rename). GivesUsed (get_by_text c.give_renames.new.given) (name_by c.args.names) c.args.place l) c.deref.ensures.value (h is)) c.give_renames.ensures.gives
