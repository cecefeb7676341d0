use Rattle.wac_wit_refusals_sites.specs.Judging.{body_syntax}
use Rattle.wac_wit_refusals_sites.specs.TypeSites.{HasTypeExpr}
use Rattle.wac_wit_refusals_sites.specs.declared.type_parts.WrittenType.{WrittenType}
use Rattle.wac_wit_refusals_sites.proofs.TypeFacts.{none_among}
use Rattle.wac_wit_refusals_sites.proofs.judge.Judge.written_in.Goals as goal

pub returns : goal.returns
returns c of knows = c.in_ok-push_called.ensures of knows (c.in_ok-push_defined.ensures of knows (none_among (λ (e : WrittenType). HasTypeExpr of (body_syntax c.args.body.now) e.name.now e.ty.now) c.new-all.result.items c.new-all.ensures.items))
