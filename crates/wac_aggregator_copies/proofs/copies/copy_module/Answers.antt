use Rattle.std.proofs.Common.{Some, sym, ◌∙◌, ap}
use Rattle.wac_model.specs.CoreTree.{ModuleContent, module_of}
use Rattle.wac_component.specs.Key.{module_key}
use Rattle.wac_core.specs.Content.{core_module_of}
use Rattle.wac_aggregator_copies.proofs.Made.{made_module}
use Rattle.wac_aggregator_copies.proofs.copies.copy_module.Goals as goal

pub returns : goal.returns
returns c =
    let at = c.index.ensures.entry ∙ ap (λ (m : ModuleContent). Some (module_of m)) (sym c.in_ok-clone.ensures.cases) in
    made_module c.args.types.now c.args.own.now c.args.copies.now c.sound.ensures c.requires.state c.add_valid_module_type.new.types c.put_module.new.self c.args.id (module_key c.in_ok-copy.copy) (core_module_of c.in_ok-clone.field-0) c.requires.source at c.in_ok-copy.ensures.added (ap module_key c.in_ok-copy.ensures.id) (c.in_ok-put_module.ensures c.requires.new)
