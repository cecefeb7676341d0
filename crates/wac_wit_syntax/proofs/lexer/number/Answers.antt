-- A version, a word that is none, or an integer.
use Rattle.std.proofs.Common.{inl, inr, arith, rules}
use Rattle.wac_wit_syntax.proofs.Pieces.{integer_token, no_number, run_end, version_token}
use Rattle.wac_wit_syntax.specs.declared.scanning.Run.TheVariants as run
use Rattle.wac_wit_syntax.proofs.lexer.number.Goals as goal
use Rattle.wac_wit_syntax.proofs.lexer.number.Goals.{else-byte-eq46-via-then-byte-eq46+else-is_ascii_digit, else-byte-eq46-via-else-byte-eq46}

pub returns-then-is_ascii_digit : goal.returns-then-is_ascii_digit
returns-then-is_ascii_digit c =
    let ends = c.end-end.ensures (omega arith) in
    let fits = run_end c.args.bytes.now c.args.at c.requires.within run.Digits c.args.at (omega arith) in
    version_token c.args.bytes.now c.args.at c.requires.within c.requires.digit c.end-end.result ends c.end.result (c.end.ensures (omega arith)) (omega arith) (search rules)

pub returns-then-is_word_byte : goal.returns-then-is_word_byte
returns-then-is_word_byte c =
    no_number c.args.bytes.now c.args.at c.requires.within c.requires.digit c.end-end.result (c.end-end.ensures (omega arith)) c.end-then-is_word_byte.result (c.end-then-is_word_byte.ensures (omega arith))
    (elim c.else-byte-eq46.branch [ else-byte-eq46-via-then-byte-eq46+else-is_ascii_digit w ↦ inr (search rules) | else-byte-eq46-via-else-byte-eq46 w ↦ inl (λ e. w.if-byte-eq46.false (omega arith)) ])
    (search rules)

pub returns-else-is_word_byte : goal.returns-else-is_word_byte
returns-else-is_word_byte c =
    integer_token c.args.bytes.now c.args.at c.requires.within c.requires.digit c.end-end.result (c.end-end.ensures (omega arith))
    (elim c.else-byte-eq46.branch [ else-byte-eq46-via-then-byte-eq46+else-is_ascii_digit w ↦ inr (search rules) | else-byte-eq46-via-else-byte-eq46 w ↦ inl (λ e. w.if-byte-eq46.false (omega arith)) ])
    (search rules)
