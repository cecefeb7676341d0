use Rattle.std.proofs.Common.{ℕ, subst, sym}
use Rattle.std.proofs.lemmas.Result.{on_ok_weaker}
use Rattle.wac_wit_refusals_sites.specs.Leading.{AreKnownPaths}
use Rattle.wac_wit_refusals_sites.proofs.judge.Judge.place_scope.Goals as goal

pub returns-then-scope-file : goal.returns-then-scope-file
returns-then-scope-file c = on_ok_weaker c.place_items.result (λ places of judges known all. subst (λ (f : ℕ). AreKnownPaths of f c.place_items.new.paths.items) c.if-scope-file.true
    (places of judges known (subst (λ (f : ℕ). AreKnownPaths of f c.args.paths.now.items) (sym c.if-scope-file.true) all))) c.place_items.ensures
