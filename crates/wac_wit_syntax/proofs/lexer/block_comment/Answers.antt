-- A comment that is closed, or one that isn't.
use Rattle.std.proofs.Common.{◌+◌, ◌≤◌, length, inl, inr, arith}
use Rattle.wac_wit_syntax.proofs.Pieces.{at_byte, docs_block, open_block, plain_block}
use Rattle.wac_wit_syntax.proofs.lexer.block_comment.Goals as goal
use Rattle.wac_wit_syntax.proofs.lexer.block_comment.Goals.{then-third-eq42+then-fourth-ne42+else-fourth-ne47, then-third-eq42+else-fourth-ne42, else-third-eq42}

pub returns-in-Some : goal.returns-in-Some
returns-in-Some c =
    let fits : c.args.at + 2 ≤ length c.args.bytes.now = at_byte c.args.bytes.now c.args.at 42 c.requires.second (omega arith) in
    docs_block c.args.bytes.now c.args.at c.requires.within c.in-Some.end c.requires.slash c.requires.second (c.in-Some.ensures fits) (omega arith) (λ e. c.if-fourth-ne42.true (omega arith)) (λ e. c.if-fourth-ne47.true (omega arith))

pub returns-in-Some-2 : goal.returns-in-Some-2
returns-in-Some-2 c =
    let fits : c.args.at + 2 ≤ length c.args.bytes.now = at_byte c.args.bytes.now c.args.at 42 c.requires.second (omega arith) in
    plain_block c.args.bytes.now c.args.at c.requires.within c.in-Some.end c.requires.slash c.requires.second (c.in-Some.ensures fits)
    (elim c.if-third-eq42.branch [
      | then-third-eq42+then-fourth-ne42+else-fourth-ne47 w ↦ inr (inr (omega arith))
      | then-third-eq42+else-fourth-ne42 w ↦ inr (inl (omega arith))
      | else-third-eq42 w ↦ inl (λ e. w.if-third-eq42.false (omega arith))
    ])

pub returns-in-None : goal.returns-in-None
returns-in-None c =
    let fits : c.args.at + 2 ≤ length c.args.bytes.now = at_byte c.args.bytes.now c.args.at 42 c.requires.second (omega arith) in
    open_block c.args.bytes.now c.args.at c.requires.within _ (omega arith) c.requires.slash c.requires.second (c.in-None.ensures fits)
