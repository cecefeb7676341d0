use Rattle.std.proofs.Common.{sym, ◌∙◌, Bor}
use Rattle.wac_core.specs.Content.{core_func_content}
use Rattle.wac_core.specs.declared.values.CoreFuncType.{CoreFuncType}
use Rattle.wac_core.proofs.TypeLemmas.{func_decides}
use Rattle.wac_core_checker.proofs.ExternLemmas.{differ_turned}
use Rattle.wac_core_checker.proofs.externs.same_funcs.Goals as goal

pub returns-then-eq : goal.returns-then-eq
returns-then-eq c = (func_decides c.args.a.now c.args.b.now).0 (sym c.eq.ensures ∙ c.if-eq.true)

pub func_fault-requires : goal.func_fault-requires
func_fault-requires c =
    differ_turned (λ (r : Bor CoreFuncType). core_func_content r.now) c.args.check c.args.a c.args.b c.expected_found.result.0 c.expected_found.result.1 c.expected_found.ensures.expected c.expected_found.ensures.found
    (λ same. let equal = (func_decides c.args.a.now c.args.b.now).1 same in absurd (cc (equal, c.eq.ensures, c.if-eq.false)))
