-- A comment to the end of the line.
use Rattle.std.proofs.Common.{inl, inr, arith}
use Rattle.wac_wit_syntax.proofs.Pieces.{docs_line, plain_line}
use Rattle.wac_wit_syntax.proofs.lexer.line_comment.Goals as goal
use Rattle.wac_wit_syntax.proofs.lexer.line_comment.Goals.{else-third-eq47-via-then-third-eq47+else-fourth-ne47, else-third-eq47-via-else-third-eq47}

pub returns-then-fourth-ne47 : goal.returns-then-fourth-ne47
returns-then-fourth-ne47 c = docs_line c.args.bytes.now c.args.at c.requires.within c.end-end.result c.requires.slash c.requires.second (c.end-end.ensures (omega arith)) (omega arith) (λ e. c.if-fourth-ne47.true (omega arith))

pub returns-else-third-eq47 : goal.returns-else-third-eq47
returns-else-third-eq47 c = plain_line c.args.bytes.now c.args.at c.requires.within c.end-end.result c.requires.slash c.requires.second (c.end-end.ensures (omega arith))
    (elim c.else-third-eq47.branch [ else-third-eq47-via-then-third-eq47+else-fourth-ne47 w ↦ inr (omega arith) | else-third-eq47-via-else-third-eq47 w ↦ inl (λ e. w.if-third-eq47.false (omega arith)) ])
