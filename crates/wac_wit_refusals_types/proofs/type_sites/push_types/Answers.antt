use Rattle.std.proofs.Common.{◌≡◌}
use Rattle.wac_wit_refusals_types.specs.BorrowSteps.{IsAmongTypes, put_before}
use Rattle.wac_wit_syntax.specs.declared.tree.TypeExpr.{TypeExpr}
use Rattle.wac_wit_refusals_types.proofs.BorrowFacts.{put_more}
use Rattle.wac_wit_refusals_sites.proofs.TypeFacts.{among_read}
use Rattle.wac_wit_refusals_types.proofs.type_sites.push_types.Goals as goal

pub loop-ty-init : goal.loop-ty-init
loop-ty-init c t among = put_before among

pub loop-ty-preserved : goal.loop-ty-preserved
loop-ty-preserved c =
    let ty = c.ty-item.result in
    let among = among_read c.args.types.now c.loop-ty.ty-index ty c.loop-ty-test.true c.ty-item.is in
    put_more _ _ _ c.args.placed.now (λ (e : TypeExpr). ty.now ≡ e) (IsAmongTypes c.args.types.now) c.loop-ty.invariant c.in_ok-push_site.ensures (λ e is. (ty, among, is))

pub returns : goal.returns
returns c = c.loop-ty.invariant
