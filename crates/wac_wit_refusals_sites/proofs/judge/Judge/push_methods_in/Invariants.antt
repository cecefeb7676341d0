use Rattle.wac_wit_refusals_sites.specs.Judging.{Judges}
use Rattle.wac_wit_refusals_sites.specs.Sites.{BodySyntax}
use Rattle.wac_wit_refusals_sites.specs.TypeLists.{AreMethodsOf, IsResourceAt}
use Rattle.wac_wit_scopes.specs.WitSources.{WitSources}
use Rattle.wac_wit_refusals_sites.proofs.judge.Judge.push_methods_in.Given as goal

abbrev pub invariant-loop-part : goal.invariant-loop-part
invariant-loop-part l = (of : WitSources) (b : BodySyntax) → Judges of l.self → IsResourceAt of b l.placed l.methods → AreMethodsOf of b l.initial.all.items → AreMethodsOf of b l.all.items
