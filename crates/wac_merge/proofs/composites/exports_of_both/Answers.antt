use Rattle.std.proofs.Common.{◌∷◌, [], ◌++◌, sym, subst, IfOk, IfSome}
use Rattle.std.proofs.lemmas.Result.{IfErr-weaker}
use Rattle.wac_component.specs.Key.{AllStand, interface_key}
use Rattle.wac_merge.specs.Built.{AreBuilt}
use Rattle.wac_merge.specs.Items.{extern_keys, extern_list}
use Rattle.wac_merge.specs.Reads.{exports_at}
use Rattle.wac_merge.proofs.BuiltLemmas.{FromBuilt-from, LacksOnly-from}
use Rattle.wac_merge.proofs.MadeLemmas.{exports_follow}
use Rattle.wac_merge.proofs.ReadLemmas.{exports_at_stand}
use Rattle.wac_merge.proofs.composites.exports_of_both.Goals as goal

pub bound_externs-requires-clause-left : goal.bound_externs-requires-clause-left
bound_externs-requires-clause-left c = subst (λ l. AllStand c.args.types.now (extern_keys l)) (sym c.exports_of-first.ensures) (exports_at_stand c.args.types.now (interface_key c.args.x) c.requires.sound c.requires.left)

pub bound_externs-requires-clause-right : goal.bound_externs-requires-clause-right
bound_externs-requires-clause-right c = subst (λ l. AllStand c.args.types.now (extern_keys l)) (sym c.exports_of-second.ensures) (exports_at_stand c.args.types.now (interface_key c.args.y) c.requires.sound c.requires.right)

pub returns-clause-built : goal.returns-clause-built
returns-clause-built c =
    FromBuilt-from (interface_key c.args.x ∷ interface_key c.args.y ∷ []) (extern_keys (exports_at c.args.types.now (interface_key c.args.x)) ++ extern_keys (exports_at c.args.types.now (interface_key c.args.y))) c.args.types.now
    (λ b o. IfOk c.bound_externs.result (λ r. IfSome r (λ m. AreBuilt b c.args.types.now o (exports_at c.args.types.now (interface_key c.args.x)) (exports_at c.args.types.now (interface_key c.args.y)) (extern_list m))))
    (λ b sound was stand. exports_follow c.args.types.now b (interface_key c.args.x) (interface_key c.args.y) sound was stand)
    (rw (c.exports_of-first.ensures, c.exports_of-second.ensures) at c.bound_externs.ensures.built)

pub returns-clause-lacks : goal.returns-clause-lacks
returns-clause-lacks c =
    IfErr-weaker c.bound_externs.result _ _
    (LacksOnly-from c.args.types.now (interface_key c.args.x ∷ interface_key c.args.y ∷ []) (extern_keys (exports_at c.args.types.now (interface_key c.args.x)) ++ extern_keys (exports_at c.args.types.now (interface_key c.args.y)))
    (λ b sound was stand. exports_follow c.args.types.now b (interface_key c.args.x) (interface_key c.args.y) sound was stand))
    (rw (c.exports_of-first.ensures, c.exports_of-second.ensures) at c.bound_externs.ensures.lacks)
