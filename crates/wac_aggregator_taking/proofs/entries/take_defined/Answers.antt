use Rattle.std.proofs.Common.{◌≡◌, None, sym, ◌∙◌, ◌∷◌}
use Rattle.wac_component.specs.Key.{interface_sort, defined_sort, defined_key, next}
use Rattle.wac_aggregator_taking.specs.Steps.{IsReachedFrom}
use Rattle.wac_aggregator_taking.proofs.Alike.{IsNear-none, absent_of}
use Rattle.wac_aggregator_taking.proofs.Members.{TakesMembers-none}
use Rattle.wac_aggregator_taking.proofs.StepAnswers.{made_members, next_opens, defined_opens}
use Rattle.wac_aggregator_taking.proofs.StepLemmas.{put_next, next_none, on_ok}
use Rattle.wac_aggregator_taking.proofs.TakeLemmas.{Takes-none}
use Rattle.wac_aggregator_taking.proofs.entries.take_defined.Goals as goal

pub returns-then-is_some-clause-taken : goal.returns-then-is_some-clause-taken
returns-then-is_some-clause-taken c = Takes-none c.args.types.now c.args.state.now _ _ (λ s. Unit {0}) c.requires.state tt

pub returns-then-is_some-clause-members : goal.returns-then-is_some-clause-members
returns-then-is_some-clause-members c = λ taken wit has all. TakesMembers-none c.args.types.now c.args.state.now (IsReachedFrom c.args.types.now (defined_key c.args.id)) taken has

pub returns-then-is_some-clause-steps : goal.returns-then-is_some-clause-steps
returns-then-is_some-clause-steps c = next_none c.args.types.now c.args.state.now (defined_key c.args.id) None c.args.steps.now.items

pub returns-then-not-branch-clause-taken : goal.returns-then-not-branch-clause-taken
returns-then-not-branch-clause-taken c = Takes-none c.args.types.now c.args.state.now _ _ (λ s. Unit {0}) c.requires.state tt

pub returns-then-not-branch-clause-members : goal.returns-then-not-branch-clause-members
returns-then-not-branch-clause-members c = λ taken wit has all. TakesMembers-none c.args.types.now c.args.state.now (IsReachedFrom c.args.types.now (defined_key c.args.id)) taken has

pub returns-then-not-branch-clause-steps : goal.returns-then-not-branch-clause-steps
returns-then-not-branch-clause-steps c =
    let f = c.args.types.now in
    let a = c.args.state.now in
    let k = defined_key c.args.id in
    put_next f a k None None (k ∷ next f k) c.args.steps.now.items c.has_parts.new.steps.items (next_opens f k (defined_opens f c.args.id)) (IsNear-none a) (λ at all h. h) c.in_ok-has_parts.ensures.steps

pub make_defined-requires-clause-parts : goal.make_defined-requires-clause-parts
make_defined-requires-clause-parts c = c.in_ok-has_parts.ensures.has c.if-not-branch.false

pub make_defined-requires-clause-new : goal.make_defined-requires-clause-new
make_defined-requires-clause-new c = sym c.defined.ensures ∙ absent_of defined_key c.defined.result (sym c.is_some.ensures ∙ c.if-is_some.false)

pub returns-clause-members : goal.returns-clause-members
returns-clause-members c =
    made_members c.args.types.now c.args.state.now c.make_defined.new.state (defined_key c.args.id) c.make_defined.result c.sound.ensures c.requires.state c.requires.source (λ e. let no : defined_sort ≡ interface_sort = e in cc) (c.in_ok-has_parts.ensures.has c.if-not-branch.false) c.make_defined.ensures

pub returns-clause-steps : goal.returns-clause-steps
returns-clause-steps c =
    let f = c.args.types.now in
    let b = c.make_defined.new.state in
    let k = defined_key c.args.id in
    on_ok c.make_defined.result (put_next f b k None None (k ∷ next f k) c.args.steps.now.items c.has_parts.new.steps.items (next_opens f k (defined_opens f c.args.id)) (IsNear-none b) (λ at all h. h) c.in_ok-has_parts.ensures.steps)
