use Rattle.wac_wit_refusals_sites.specs.TypeSites.{HasTypeExpr}
use Rattle.wac_wit_refusals_sites.specs.declared.type_parts.WrittenType.{WrittenType}
use Rattle.wac_wit_refusals_sites.proofs.TypeFacts.{among_read, kept_push}
use Rattle.wac_wit_refusals_sites.proofs.type_parts.push_written.Goals as goal

pub loop-ty-preserved : goal.loop-ty-preserved
loop-ty-preserved c of b s has written all = kept_push (λ (e : WrittenType). HasTypeExpr of b e.name.now e.ty.now) c.loop-ty.all.items c.push.new.self.items _ c.in_ok-push.ensures.items (c.loop-ty.invariant of b s has written all)
    (record { typed = s; has = has; written = written c.ty-item.result (among_read c.args.types.now c.loop-ty.ty-index c.ty-item.result c.loop-ty-test.true c.ty-item.is) })

pub returns : goal.returns
returns c = c.loop-ty.invariant
