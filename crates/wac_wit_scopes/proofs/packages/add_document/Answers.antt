use Rattle.std.proofs.Common.{sym, subst, List, Contains}
use Rattle.std.proofs.lemmas.Result.{on_ok_weaker}
use Rattle.wac_wit_syntax.specs.declared.tree.NestedPackage.{NestedPackage}
use Rattle.wac_wit_scopes.proofs.ScopeFacts.{on_ok_both}
use Rattle.wac_wit_scopes.proofs.packages.add_document.Goals as goal

pub returns-clause-keeps : goal.returns-clause-keeps
returns-clause-keeps c = on_ok_weaker c.add_nested.result (λ keeps n h. keeps n (c.in_ok-add_own.ensures.keeps n h)) c.add_nested.ensures.keeps

pub returns-clause-knows : goal.returns-clause-knows
returns-clause-knows c = on_ok_both c.add_nested.result c.add_nested.ensures.keeps c.add_nested.ensures.knows (λ keeps knows. record {
  own = λ n is. keeps n (c.in_ok-add_own.ensures.knows n is);
  nested = λ p among. knows p (subst (λ (ps : List NestedPackage). Contains ps p) (sym c.deref.ensures.value) among);
})
