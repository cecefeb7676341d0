use Rattle.std.proofs.Common.{◌≡◌, sym, ◌∙◌}
use Rattle.wac_component.specs.Key.{interface_sort, func_sort, func_key}
use Rattle.wac_aggregator_memo.specs.Memo.{memo_of}
use Rattle.wac_aggregator_taking.proofs.Alike.{absent_of}
use Rattle.wac_aggregator_taking.proofs.Plain.{OnlyGrows-refl}
use Rattle.wac_aggregator_taking.proofs.StepAnswers.{made_grows, noted_by}
use Rattle.wac_aggregator_taking.proofs.TakeLemmas.{Takes-none}
use Rattle.wac_aggregator_taking.proofs.ready.is_func_ready.Goals as goal

pub returns-then-is_some-clause-taken : goal.returns-then-is_some-clause-taken
returns-then-is_some-clause-taken c = Takes-none c.args.types.now c.args.state.now _ _ (λ t. Unit {0}) c.requires.state tt

pub returns-then-is_some-clause-grows : goal.returns-then-is_some-clause-grows
returns-then-is_some-clause-grows c = OnlyGrows-refl c.args.types.now c.args.state.now

pub returns-then-not-has_func_parts-clause-taken : goal.returns-then-not-has_func_parts-clause-taken
returns-then-not-has_func_parts-clause-taken c = Takes-none c.args.types.now c.args.state.now _ _ (λ t. Unit {0}) c.requires.state tt

pub returns-then-not-has_func_parts-clause-grows : goal.returns-then-not-has_func_parts-clause-grows
returns-then-not-has_func_parts-clause-grows c = OnlyGrows-refl c.args.types.now c.args.state.now

pub make_func-requires-clause-parts : goal.make_func-requires-clause-parts
make_func-requires-clause-parts c = c.has_func_parts.ensures c.if-not-has_func_parts.false

pub make_func-requires-clause-new : goal.make_func-requires-clause-new
make_func-requires-clause-new c = sym c.func.ensures ∙ absent_of func_key c.func.result (sym c.is_some.ensures ∙ c.if-is_some.false)

pub returns-clause-grows : goal.returns-clause-grows
returns-clause-grows c = made_grows c.args.types.now c.args.state.now c.make_func.new.state (func_key c.args.id) c.sound.ensures c.requires.state c.requires.source (λ e. let no : func_sort ≡ interface_sort = e in cc) (c.has_func_parts.ensures c.if-not-has_func_parts.false) c.in_ok-make_func.ensures.taken

pub returns-then-is_some-clause-noted : goal.returns-then-is_some-clause-noted
returns-then-is_some-clause-noted c = λ yes. noted_by func_key c.func.result (memo_of c.args.state.now.taken (func_key c.args.id)) c.func.ensures (sym c.is_some.ensures ∙ c.if-is_some.true)

pub returns-clause-noted : goal.returns-clause-noted
returns-clause-noted c = λ yes. c.in_ok-make_func.ensures.noted
