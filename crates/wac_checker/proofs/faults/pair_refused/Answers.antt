use Rattle.std.proofs.Common.{sym, subst}
use Rattle.wac_checker_parts.specs.Pairs.{Entries, EntriesFit, ExplainsEntries, check_of, left_of, right_of}
use Rattle.wac_checker.proofs.RefusalLemmas.{modules_listed, refused_part}
use Rattle.wac_checker.proofs.faults.pair_refused.Goals as goal

pub modules_refused-requires-clause-apart : goal.modules_refused-requires-clause-apart
modules_refused-requires-clause-apart c =
    let halt = rw c.in-Modules.is at c.requires.halt in
    rw (c.of-sides.ensures.left, c.of-sides.ensures.right) (subst (λ (e : Entries). ¬ (EntriesFit (left_of c.args.both.now.left.now c.args.both.now.right.now c.args.pair.now.swapped) (right_of c.args.both.now.left.now c.args.both.now.right.now c.args.pair.now.swapped) e)) (modules_listed c.args.both.now.left.now c.args.both.now.right.now c.args.pair.now halt.0 halt.1) halt.1.1)

pub returns-in_ok-frame-in-PartApart : goal.returns-in_ok-frame-in-PartApart
returns-in_ok-frame-in-PartApart c =
    let halt = rw c.in-PartApart.is at c.requires.halt in
    refused_part c.args.check c.args.both.now.left.now c.args.both.now.right.now c.args.pair.now halt.0 c.in-PartApart.index c.in-PartApart.turned c.in-PartApart.difference c.in_ok-frame-in-PartApart.frame c.refusal-error.result c.under.result halt.1 (rw (c.placed_check.ensures, c.placed_check-check.ensures) at c.refusal-error.ensures) c.under.ensures c.in_ok-frame-in-PartApart.ensures

pub returns-in-Modules : goal.returns-in-Modules
returns-in-Modules c =
    let halt = rw c.in-Modules.is at c.requires.halt in
    subst (λ (e : Entries). ExplainsEntries (check_of c.args.check c.args.pair.now.swapped) (left_of c.args.both.now.left.now c.args.both.now.right.now c.args.pair.now.swapped) (right_of c.args.both.now.left.now c.args.both.now.right.now c.args.pair.now.swapped) e c.modules_refused.result) (sym (modules_listed c.args.both.now.left.now c.args.both.now.right.now c.args.pair.now halt.0 halt.1)) (rw (c.of-sides.ensures.left, c.of-sides.ensures.right, c.placed_check-check.ensures) at c.modules_refused.ensures)
