use Rattle.std.proofs.Common.{◌≡◌, rules, refl}
use Rattle.wac_core.proofs.TypeLemmas.{type_exact, was_true}
use Rattle.wac_core_checker.proofs.fields.globals_fit.Goals as goal

pub returns : goal.returns
returns c =
    let same_type : c.args.a.val_type ≡ c.args.b.val_type = type_exact c.args.a.val_type c.args.b.val_type (was_true _ c.ne.result c.ne.ensures c.if-ne.false) in
    let same_mutable : c.args.a.mutable ≡ c.args.b.mutable = search rules in
    let same_shared : c.args.a.shared ≡ c.args.b.shared = search rules in
    rw (same_type, same_mutable, same_shared) refl
