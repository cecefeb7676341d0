use Rattle.indexmap.specs.IndexMap.{get_by_text}
use Rattle.wac_wit_scopes.specs.Naming.{IsKnownName}
use Rattle.wac_wit_scopes.proofs.ScopeFacts.{All-next, All-end}
use Rattle.wac_wit_scopes.proofs.packages.add_nested.Goals as goal

pub loop-nested-preserved : goal.loop-nested-preserved
loop-nested-preserved c =
    let keeps = c.in_ok-add_package.ensures.keeps in (
      λ n h. keeps n (c.loop-nested.invariant.0 n h),
      All-next c.args.packages.now c.loop-nested.nested-index (λ p. IsKnownName (get_by_text c.loop-nested.versions) p.name) (λ p. IsKnownName (get_by_text c.add_package.new.versions) p.name) c.nested-item.result
          c.loop-nested-test.true c.nested-item.is (λ p. keeps p.name) c.loop-nested.invariant.1 c.in_ok-add_package.ensures.knows,
    )

pub returns-clause-keeps : goal.returns-clause-keeps
returns-clause-keeps c = c.loop-nested.invariant.0

pub returns-clause-knows : goal.returns-clause-knows
returns-clause-knows c = All-end c.args.packages.now c.loop-nested.nested-index (λ p. IsKnownName (get_by_text c.loop-nested.versions) p.name) c.loop-nested-test.false c.loop-nested.invariant.1
