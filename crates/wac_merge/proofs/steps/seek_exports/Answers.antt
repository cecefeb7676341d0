use Rattle.std.proofs.Common.{◌∷◌, [], ◌++◌, sym, subst}
use Rattle.wac_component.specs.Key.{AllStand, interface_key}
use Rattle.wac_merge.specs.Items.{extern_keys}
use Rattle.wac_merge.specs.Reads.{exports_at}
use Rattle.wac_merge.proofs.BuiltLemmas.{LacksOnly-from}
use Rattle.wac_merge.proofs.MadeLemmas.{exports_follow}
use Rattle.wac_merge.proofs.ReadLemmas.{exports_at_stand}
use Rattle.wac_merge.proofs.steps.seek_exports.Goals as goal

pub seek_in-requires-clause-left : goal.seek_in-requires-clause-left
seek_in-requires-clause-left c = subst (λ l. AllStand c.args.types.now (extern_keys l)) (sym c.exports_of-first.ensures) (exports_at_stand c.args.types.now (interface_key c.args.x) c.requires.sound c.requires.left)

pub seek_in-requires-clause-right : goal.seek_in-requires-clause-right
seek_in-requires-clause-right c = subst (λ l. AllStand c.args.types.now (extern_keys l)) (sym c.exports_of-second.ensures) (exports_at_stand c.args.types.now (interface_key c.args.y) c.requires.sound c.requires.right)

pub returns-in-Err-clause-lacks : goal.returns-in-Err-clause-lacks
returns-in-Err-clause-lacks c =
    LacksOnly-from c.args.types.now (interface_key c.args.x ∷ interface_key c.args.y ∷ []) (extern_keys (exports_at c.args.types.now (interface_key c.args.x)) ++ extern_keys (exports_at c.args.types.now (interface_key c.args.y)))
    (λ b sound was stand. exports_follow c.args.types.now b (interface_key c.args.x) (interface_key c.args.y) sound was stand) c.in-Err.untold (rw (c.exports_of-first.ensures, c.exports_of-second.ensures) at c.in-Err.ensures.lacks)
