use Rattle.std.proofs.Common.{subst, sym}
use Rattle.wac_wit_refusals_sites.specs.Judging.{body_syntax}
use Rattle.wac_wit_refusals_types.specs.NamesTwice.{TakesExportName}
use Rattle.wac_wit_refusals_types.specs.TypeSteps.{AreTaken}
use Rattle.wac_wit_refusals_sites.specs.declared.bodies.Body.{Body}
use Rattle.wac_wit_refusals_types.specs.declared.taken_names.TakenName.{TakenName}
use Rattle.wac_wit_refusals_sites.proofs.TypeFacts.{none_among, ok_value_then}
use Rattle.wac_wit_refusals_types.proofs.taken_names.export_names.Goals as goal

pub returns-in-Interface : goal.returns-in-Interface
returns-in-Interface c of knows = none_among (λ (n : TakenName). TakesExportName of (body_syntax c.args.body.now) n.item n.part n.name.now) c.new.result.items c.new.ensures.items

pub returns-in-World : goal.returns-in-World
returns-in-World c = ok_value_then _ _ c.world_export_names.result c.world_export_names.ensures (λ ns h of knows. subst (λ (x : Body). AreTaken (TakesExportName of (body_syntax x)) ns.items) (sym c.in-World.is) (h of knows))
