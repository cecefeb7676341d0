use Rattle.std.proofs.Common.{◌≡◌, Some, refl, sym, ◌∙◌, ap}
use Rattle.wac_model.specs.CoreTree.{ModuleContent, module_of}
use Rattle.wac_component.specs.Key.{interface_sort, module_sort, module_key}
use Rattle.wac_core.specs.Content.{core_module_of}
use Rattle.wac_aggregator_taking.specs.Steps.{IsReachedFrom}
use Rattle.wac_aggregator_taking.proofs.Alike.{absent_of}
use Rattle.wac_aggregator_taking.proofs.Made.{module_made, module_has}
use Rattle.wac_aggregator_taking.proofs.Members.{TakesMembers-grown}
use Rattle.wac_aggregator_taking.proofs.StepAnswers.{made_grows}
use Rattle.wac_aggregator_taking.proofs.TakeLemmas.{Takes-none}
use Rattle.wac_aggregator_taking.proofs.entries.take_module.Goals as goal

pub returns-then-is_some-clause-taken : goal.returns-then-is_some-clause-taken
returns-then-is_some-clause-taken c = Takes-none c.args.types.now c.args.state.now _ _ (λ s. Unit {0}) c.requires.state tt

pub returns-clause-taken : goal.returns-clause-taken
returns-clause-taken c =
    let at = c.index.ensures.entry ∙ ap (λ (m : ModuleContent). Some (module_of m)) (sym c.in_ok-clone.ensures.cases) in
    let new = sym c.module.ensures ∙ absent_of module_key c.module.result (sym c.is_some.ensures ∙ c.if-is_some.false) in
    module_made c.args.types.now c.args.state.now c.sound.ensures c.requires.state c.args.id (core_module_of c.in_ok-clone.field-0) c.requires.source at (record c.args.state.now { types = c.add_valid_module_type.new.types; taken = c.put_module.new.self }) (module_key c.in_ok-own.own) refl c.in_ok-own.ensures.added (ap module_key c.in_ok-own.ensures.id) (c.in_ok-put_module.ensures new)

pub returns-clause-members : goal.returns-clause-members
returns-clause-members c = λ taken wit has all.
    let f = c.args.types.now in
    let a = c.args.state.now in
    let b = record a { types = c.add_valid_module_type.new.types; taken = c.put_module.new.self } in
    let k = module_key c.args.id in
    let at = c.index.ensures.entry ∙ ap (λ (m : ModuleContent). Some (module_of m)) (sym c.in_ok-clone.ensures.cases) in
    let new = sym c.module.ensures ∙ absent_of module_key c.module.result (sym c.is_some.ensures ∙ c.if-is_some.false) in
    let x = core_module_of c.in_ok-clone.field-0 in
    let h = module_made f a c.sound.ensures c.requires.state c.args.id x c.requires.source at b (module_key c.in_ok-own.own) refl c.in_ok-own.ensures.added (ap module_key c.in_ok-own.ensures.id) (c.in_ok-put_module.ensures new) in
    TakesMembers-grown f a b (IsReachedFrom f k) taken c.requires.state.kept h.run (made_grows f a b k c.sound.ensures c.requires.state c.requires.source (λ e. let no : module_sort ≡ interface_sort = e in cc) (module_has f a c.sound.ensures c.requires.state c.args.id x at) h) has
