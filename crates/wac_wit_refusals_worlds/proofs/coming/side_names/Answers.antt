use Rattle.std.proofs.Common.{Bool, subst, sym}
use Rattle.wac_wit_refusals_worlds.specs.Brought.{TakesSideName}
use Rattle.wac_wit_refusals_types.specs.TypeSteps.{AreTaken}
use Rattle.wac_wit_refusals_sites.proofs.TypeFacts.{ok_value_then}
use Rattle.wac_wit_refusals_worlds.proofs.coming.side_names.Goals as goal

pub returns-then-exports : goal.returns-then-exports
returns-then-exports c = ok_value_then _ _ c.export_names.result c.export_names.ensures (λ ns h of knows. subst (λ (b : Bool). AreTaken (TakesSideName of b c.args.items.now) ns.items) (sym c.if-exports.true) (h of knows))

pub returns-else-exports : goal.returns-else-exports
returns-else-exports c = ok_value_then _ _ c.item_names.result c.item_names.ensures (λ ns h of knows. subst (λ (b : Bool). AreTaken (TakesSideName of b c.args.items.now) ns.items) (sym c.if-exports.false) (h of knows))
