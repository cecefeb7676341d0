use Rattle.std.proofs.Common.{◌∷◌, []}
use Rattle.wac_targets.proofs.Standing.{left-stands, right-stands, alone-apart}
use Rattle.wac_targets.proofs.checks.judge_found.Goals as goal

pub is_subtype-requires-clause-left : goal.is_subtype-requires-clause-left
is_subtype-requires-clause-left c = rw c.left_item-left.ensures (left-stands c.args.types.now c.args.kind c.args.found.now c.requires.found)

pub is_subtype-requires-clause-right : goal.is_subtype-requires-clause-right
is_subtype-requires-clause-right c = rw c.right_item-right.ensures (right-stands c.args.types.now c.args.kind c.args.wanted.now c.requires.wanted)

pub returns-in-Ok-clause-remembered : goal.returns-in-Ok-clause-remembered
returns-in-Ok-clause-remembered c = c.is_subtype.ensures.still_true (c.args.types.now ∷ c.args.types.now ∷ []) (alone-apart c.args.types.now) c.requires.remembered

pub returns-in-Err-Memory-clause-remembered : goal.returns-in-Err-Memory-clause-remembered
returns-in-Err-Memory-clause-remembered c = c.is_subtype.ensures.still_true (c.args.types.now ∷ c.args.types.now ∷ []) (alone-apart c.args.types.now) c.requires.remembered

pub returns-in-Err-clause-remembered : goal.returns-in-Err-clause-remembered
returns-in-Err-clause-remembered c = c.is_subtype.ensures.still_true (c.args.types.now ∷ c.args.types.now ∷ []) (alone-apart c.args.types.now) c.requires.remembered

pub returns-in-Ok-clause-verdict : goal.returns-in-Ok-clause-verdict
returns-in-Ok-clause-verdict c = λ items name is. (c.args.found.now, is, rw (c.left_item-left.ensures, c.right_item-right.ensures) at c.in-Ok.ensures.answer c.requires.remembered)
