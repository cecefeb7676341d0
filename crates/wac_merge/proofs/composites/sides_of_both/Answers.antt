use Rattle.std.proofs.Common.{◌∷◌, [], ◌++◌, sym, subst, rules}
use Rattle.wac_component.specs.Key.{AllStand, world_key}
use Rattle.wac_merge.specs.Items.{extern_keys}
use Rattle.wac_merge.specs.Reads.{imports_at, exports_at, met_at, joined_at}
use Rattle.wac_merge.proofs.BuiltLemmas.{FromBuilt-from, LacksOnly-from}
use Rattle.wac_merge.proofs.MadeLemmas.{imports_follow, exports_follow, met_follow, joined_follow, met_stand, joined_stand}
use Rattle.wac_merge.proofs.composites.sides_of_both.Goals as goal

pub bound_externs-requires-clause-left : goal.bound_externs-requires-clause-left
bound_externs-requires-clause-left c = subst (λ l. AllStand c.args.types.now (extern_keys l)) (sym c.met_side-first.ensures) (met_stand c.args.bound c.args.types.now (world_key c.args.x) c.requires.sound c.requires.left)

pub bound_externs-requires-clause-right : goal.bound_externs-requires-clause-right
bound_externs-requires-clause-right c = subst (λ l. AllStand c.args.types.now (extern_keys l)) (sym c.met_side-second.ensures) (met_stand c.args.bound c.args.types.now (world_key c.args.y) c.requires.sound c.requires.right)

pub bound_externs-requires-2-clause-left : goal.bound_externs-requires-2-clause-left
bound_externs-requires-2-clause-left c = subst (λ l. AllStand c.args.types.now (extern_keys l)) (sym c.joined_side-first.ensures) (joined_stand c.args.bound c.args.types.now (world_key c.args.x) c.requires.sound c.requires.left)

pub bound_externs-requires-2-clause-right : goal.bound_externs-requires-2-clause-right
bound_externs-requires-2-clause-right c = subst (λ l. AllStand c.args.types.now (extern_keys l)) (sym c.joined_side-second.ensures) (joined_stand c.args.bound c.args.types.now (world_key c.args.y) c.requires.sound c.requires.right)

pub returns-in_err-met-clause-lacks : goal.returns-in_err-met-clause-lacks
returns-in_err-met-clause-lacks c =
    let lacks = LacksOnly-from c.args.types.now (world_key c.args.x ∷ world_key c.args.y ∷ []) (extern_keys (met_at c.args.bound c.args.types.now (world_key c.args.x)) ++ extern_keys (met_at c.args.bound c.args.types.now (world_key c.args.y)))
    (λ b sound was stand. met_follow c.args.bound c.args.types.now b (world_key c.args.x) (world_key c.args.y) sound was stand) c.in_err-met.field-0.0 (rw (c.met_side-first.ensures, c.met_side-second.ensures) at c.in_err-met.ensures.lacks) in
    search rules

pub returns-in_err-joined-clause-lacks : goal.returns-in_err-joined-clause-lacks
returns-in_err-joined-clause-lacks c =
    let lacks = LacksOnly-from c.args.types.now (world_key c.args.x ∷ world_key c.args.y ∷ []) (extern_keys (joined_at c.args.bound c.args.types.now (world_key c.args.x)) ++ extern_keys (joined_at c.args.bound c.args.types.now (world_key c.args.y)))
    (λ b sound was stand. joined_follow c.args.bound c.args.types.now b (world_key c.args.x) (world_key c.args.y) sound was stand) c.in_err-joined.field-0.0 (rw (c.joined_side-first.ensures, c.joined_side-second.ensures) at c.in_err-joined.ensures.lacks) in
    search rules

pub returns-in-Meet-clause-built : goal.returns-in-Meet-clause-built
returns-in-Meet-clause-built c = λ b o sound stand only made. (
  (FromBuilt-from (world_key c.args.x ∷ world_key c.args.y ∷ []) (extern_keys (imports_at c.args.types.now (world_key c.args.x)) ++ extern_keys (imports_at c.args.types.now (world_key c.args.y))) c.args.types.now _ (λ b sound was stand. imports_follow c.args.types.now b (world_key c.args.x) (world_key c.args.y) sound was stand)
      (rw (c.joined_side-first.ensures, c.joined_side-second.ensures, c.in-Some-2.is, c.in-Meet.is, c.in_ok-met.ensures.made) at c.in_ok-joined.ensures.built)) b o sound stand only made,
  (FromBuilt-from (world_key c.args.x ∷ world_key c.args.y ∷ []) (extern_keys (exports_at c.args.types.now (world_key c.args.x)) ++ extern_keys (exports_at c.args.types.now (world_key c.args.y))) c.args.types.now _ (λ b sound was stand. exports_follow c.args.types.now b (world_key c.args.x) (world_key c.args.y) sound was stand)
      (rw (c.met_side-first.ensures, c.met_side-second.ensures, c.in-Some.is, c.in-Meet.is) at c.in_ok-met.ensures.built)) b o sound stand only made,
)

pub returns-in-Join-clause-built : goal.returns-in-Join-clause-built
returns-in-Join-clause-built c = λ b o sound stand only made. (
  (FromBuilt-from (world_key c.args.x ∷ world_key c.args.y ∷ []) (extern_keys (imports_at c.args.types.now (world_key c.args.x)) ++ extern_keys (imports_at c.args.types.now (world_key c.args.y))) c.args.types.now _ (λ b sound was stand. imports_follow c.args.types.now b (world_key c.args.x) (world_key c.args.y) sound was stand)
      (rw (c.met_side-first.ensures, c.met_side-second.ensures, c.in-Some.is, c.in-Join.is) at c.in_ok-met.ensures.built)) b o sound stand only made,
  (FromBuilt-from (world_key c.args.x ∷ world_key c.args.y ∷ []) (extern_keys (exports_at c.args.types.now (world_key c.args.x)) ++ extern_keys (exports_at c.args.types.now (world_key c.args.y))) c.args.types.now _ (λ b sound was stand. exports_follow c.args.types.now b (world_key c.args.x) (world_key c.args.y) sound was stand)
      (rw (c.joined_side-first.ensures, c.joined_side-second.ensures, c.in-Some-2.is, c.in-Join.is, c.in_ok-met.ensures.made) at c.in_ok-joined.ensures.built)) b o sound stand only made,
)
