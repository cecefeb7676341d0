use Rattle.std.proofs.Common.{refl}
use Rattle.wac_component.specs.Content.{interface_content}
use Rattle.wac_wit_validation_names.specs.Noted.{TellsFrom}
use Rattle.wac_wit_validation_types.proofs.MarkFacts.{AllBelow-contains, AllBelow-more, AllBelow-none}
use Rattle.wac_wit_validation_names.proofs.noted.tells_names.Goals as goal

pub loop-rename-init : goal.loop-rename-init
loop-rename-init c = AllBelow-none (TellsFrom c.args.types.now c.args.noted.now c.args.from.now) c.args.renames.now

pub loop-rename-preserved : goal.loop-rename-preserved
loop-rename-preserved c = AllBelow-more (TellsFrom c.args.types.now c.args.noted.now c.args.from.now) c.args.renames.now c.loop-rename.rename-index c.rename-item.result c.loop-rename-test.true c.rename-item.is c.loop-rename.invariant
    (interface_content c.index.result.now, c.index.ensures.entry, c.if-not-tells_name.ensures refl)

pub returns : goal.returns
returns c = λ is r among. AllBelow-contains (TellsFrom c.args.types.now c.args.noted.now c.args.from.now) c.args.renames.now c.loop-rename.rename-index r c.loop-rename-test.false c.loop-rename.invariant among
