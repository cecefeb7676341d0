use Rattle.std.proofs.Common.{subst, sym}
use Rattle.std.proofs.lemmas.Result.{on_ok_weaker}
use Rattle.wac_wit_refusals_sites.specs.Leading.{ArePathsOf}
use Rattle.wac_wit_refusals_sites.proofs.judge.Judge.place_item.Goals as goal

pub returns : goal.returns
returns c = on_ok_weaker c.place_all.result (λ places of judges known. places of c.args.item.now known (subst (ArePathsOf of c.args.item.now) (sym c.deref.ensures.value) (c.in_ok-of.ensures of judges))) c.place_all.ensures
