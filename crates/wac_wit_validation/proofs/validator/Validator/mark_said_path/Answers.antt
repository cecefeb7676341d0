use Rattle.std.proofs.Common.{refl}
use Rattle.wac_wit_validation.proofs.WorldFacts.{IfOk-map, no_truth}
use Rattle.wac_wit_validation.proofs.validator.Validator.mark_said_path.Goals as goal

pub returns-then-not-is_there-clause-covers : goal.returns-then-not-is_there-clause-covers
returns-then-not-is_there-clause-covers c = λ is of w at there. absurd (no_truth ((c.if-not-is_there.ensures of at.knows.interfaces).1 there))

pub returns-in-Path-clause-marks : goal.returns-in-Path-clause-marks
returns-in-Path-clause-marks c = IfOk-map c.mark_path.result _ _ c.mark_path.ensures.marks (λ b told is k of w at among.
    told is k of w at (record { item = c.args.item.now; among = among; there = (c.if-not-is_there.ensures of at.knows.interfaces).0 refl; what = c.in-Path.is }))

pub returns-in-Path-clause-covers : goal.returns-in-Path-clause-covers
returns-in-Path-clause-covers c = IfOk-map c.mark_path.result _ _ c.mark_path.ensures.covers (λ b told is of w at there. rw c.in-Path.is (told is of w at))
