use Rattle.std.proofs.Common.{◌≡◌, rules, refl}
use Rattle.wac_core.proofs.TypeLemmas.{ref_exact, was_true}
use Rattle.wac_core_checker.proofs.fields.tables_fit.Goals as goal

pub returns : goal.returns
returns c =
    let same_element : c.args.a.element_type ≡ c.args.b.element_type = ref_exact c.args.a.element_type c.args.b.element_type (was_true _ c.ne.result c.ne.ensures c.if-ne.false) in
    let same_table64 : c.args.a.table64 ≡ c.args.b.table64 = search rules in
    let same_shared : c.args.a.shared ≡ c.args.b.shared = search rules in
    (rw (same_element, same_table64, same_shared) refl, c.limits_fit.ensures.0 c.if-not-limits_fit.false)
