use Rattle.wac_wit_validation.proofs.WorldFacts.{IfOk-map, no_truth, one_use}
use Rattle.wac_wit_validation.proofs.validator.Validator.is_use_marked.Goals as goal

pub returns-then-not-uses_types : goal.returns-then-not-uses_types
returns-then-not-uses_types c = λ is of w at i uses. absurd (no_truth ((c.if-not-uses_types.ensures of at.knows).1 (one_use of w c.args.item.now i uses).0))

pub returns : goal.returns
returns c = IfOk-map c.is_path_marked.result _ _ c.is_path_marked.ensures (λ b told is of w at i uses. told is of w at i (one_use of w c.args.item.now i uses).1)
