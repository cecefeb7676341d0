use Rattle.std.proofs.Common.{rules}
use Rattle.wac_model.specs.ItemTree.{item}
use Rattle.wac_component.specs.Key.{module_key}
use Rattle.wac_component.specs.Tree.{item_tree}
use Rattle.wac_aggregator_errors.specs.Found.{IsCoreSearchBelow}
use Rattle.wac_aggregator_errors.proofs.Cores.{AreNotModules, others_searched}
use Rattle.wac_aggregator_errors.proofs.Reading.{of_entries}
use Rattle.wac_aggregator_errors.proofs.modules.module_clash.Goals as goal

pub returns-in-Module-Module : goal.returns-in-Module-Module
returns-in-Module-Module c =
    of_entries (λ a b. IsCoreSearchBelow (item_tree c.args.own.now a) (item_tree c.args.own.now b)) c.module_type_clash.result item (module_key c.in-Module-Module.x) (module_key c.in-Module-Module.y) c.args.existing c.args.new
    c.in-Module-Module.is-0 c.in-Module-Module.is-1 c.module_type_clash.ensures

pub returns-in_default : goal.returns-in_default
returns-in_default c =
    let others : AreNotModules (item_tree c.args.own.now c.args.existing) (item_tree c.args.own.now c.args.new) = search rules in
    others_searched (item_tree c.args.own.now c.args.existing) (item_tree c.args.own.now c.args.new) others
