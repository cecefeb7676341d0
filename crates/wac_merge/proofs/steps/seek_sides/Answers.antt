use Rattle.std.proofs.Common.{◌∷◌, [], ◌++◌, sym, subst}
use Rattle.wac_component.specs.Key.{AllStand, world_key}
use Rattle.wac_merge.specs.Items.{extern_keys}
use Rattle.wac_merge.specs.Reads.{met_at, joined_at}
use Rattle.wac_merge.proofs.BuiltLemmas.{LacksOnly-from}
use Rattle.wac_merge.proofs.MadeLemmas.{met_follow, joined_follow, met_stand, joined_stand}
use Rattle.wac_merge.proofs.steps.seek_sides.Goals as goal

pub seek_in-requires-clause-left : goal.seek_in-requires-clause-left
seek_in-requires-clause-left c = subst (λ l. AllStand c.args.types.now (extern_keys l)) (sym c.met_side-first.ensures) (met_stand c.args.bound c.args.types.now (world_key c.args.x) c.requires.sound c.requires.left)

pub seek_in-requires-clause-right : goal.seek_in-requires-clause-right
seek_in-requires-clause-right c = subst (λ l. AllStand c.args.types.now (extern_keys l)) (sym c.met_side-second.ensures) (met_stand c.args.bound c.args.types.now (world_key c.args.y) c.requires.sound c.requires.right)

pub returns-in-Err-clause-lacks : goal.returns-in-Err-clause-lacks
returns-in-Err-clause-lacks c =
    LacksOnly-from c.args.types.now (world_key c.args.x ∷ world_key c.args.y ∷ []) (extern_keys (met_at c.args.bound c.args.types.now (world_key c.args.x)) ++ extern_keys (met_at c.args.bound c.args.types.now (world_key c.args.y)))
    (λ b sound was stand. met_follow c.args.bound c.args.types.now b (world_key c.args.x) (world_key c.args.y) sound was stand) c.in-Err.untold (rw (c.met_side-first.ensures, c.met_side-second.ensures) at c.in-Err.ensures.lacks)

pub seek_in-requires-2-clause-left : goal.seek_in-requires-2-clause-left
seek_in-requires-2-clause-left c = subst (λ l. AllStand c.args.types.now (extern_keys l)) (sym c.joined_side-first.ensures) (joined_stand c.args.bound c.args.types.now (world_key c.args.x) c.requires.sound c.requires.left)

pub seek_in-requires-2-clause-right : goal.seek_in-requires-2-clause-right
seek_in-requires-2-clause-right c = subst (λ l. AllStand c.args.types.now (extern_keys l)) (sym c.joined_side-second.ensures) (joined_stand c.args.bound c.args.types.now (world_key c.args.y) c.requires.sound c.requires.right)

pub returns-in-Err-seek_in-clause-lacks : goal.returns-in-Err-seek_in-clause-lacks
returns-in-Err-seek_in-clause-lacks c =
    LacksOnly-from c.args.types.now (world_key c.args.x ∷ world_key c.args.y ∷ []) (extern_keys (joined_at c.args.bound c.args.types.now (world_key c.args.x)) ++ extern_keys (joined_at c.args.bound c.args.types.now (world_key c.args.y)))
    (λ b sound was stand. joined_follow c.args.bound c.args.types.now b (world_key c.args.x) (world_key c.args.y) sound was stand) c.in-Err-seek_in.untold (rw (c.joined_side-first.ensures, c.joined_side-second.ensures) at c.in-Err-seek_in.ensures.lacks)
