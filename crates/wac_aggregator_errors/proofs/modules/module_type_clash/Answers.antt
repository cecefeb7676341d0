use Rattle.std.proofs.lemmas.Result.{IfOk-weaker}
use Rattle.wac_bounds.proofs.ValidLemmas.{exports_valid}
use Rattle.wac_core.specs.Content.{module_content}
use Rattle.wac_aggregator_errors.proofs.Cores.{modules_searched}
use Rattle.wac_aggregator_errors.proofs.modules.module_type_clash.Goals as goal

pub first_core_clash-requires : goal.first_core_clash-requires
first_core_clash-requires c = record { valid = exports_valid (module_content c.index.result.now) c.index.ensures.valid }

pub returns : goal.returns
returns c =
    IfOk-weaker c.first_core_clash.result _ _
    (modules_searched c.args.own.now c.args.existing c.args.new (module_content c.index.result.now) (module_content c.index-2.result.now) c.index.ensures.tree c.index-2.ensures.tree)
    c.first_core_clash.ensures
