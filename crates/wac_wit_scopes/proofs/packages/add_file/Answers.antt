use Rattle.std.proofs.Common.{nat_eq, refl, sym, subst, ◌∙◌}
use Rattle.std.proofs.lemmas.Option.{same_Some}
use Rattle.std.proofs.lemmas.Result.{IfOk-weaker, on_ok_weaker}
use Rattle.indexmap.specs.IndexMap.{get}
use Rattle.wac_wit_syntax.specs.declared.tree.PackageName.{PackageName}
use Rattle.wac_wit_scopes.specs.AllScopes.{HasGroup}
use Rattle.wac_wit_scopes.proofs.packages.add_file.Goals as goal

pub returns-in-Some-clause-named : goal.returns-in-Some-clause-named
returns-in-Some-clause-named c = on_ok_weaker c.add_group.result (λ adds of among groups. adds of (record { file = _; among = among; in_group = refl; names = c.in-Some.is }) groups) c.add_group.ensures.named

pub returns-in-Some-clause-has : goal.returns-in-Some-clause-has
returns-in-Some-clause-has c = IfOk-weaker c.add_group.result _ _ (λ b h is n named. subst (λ (m : PackageName). HasGroup (get nat_eq c.add_group.new.groups) c.args.group m) (same_Some _ _ (sym c.in-Some.is ∙ named)) (h is)) c.add_group.ensures.has

pub returns-in-Some-clause-clear : goal.returns-in-Some-clause-clear
returns-in-Some-clause-clear c = IfOk-weaker c.add_group.result _ _ (λ b h of among groups one. h of (record { file = _; among = among; in_group = refl; names = c.in-Some.is }) groups one) c.add_group.ensures.clear
