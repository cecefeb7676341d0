-- What begins with a byte that begins nothing else.
use Rattle.std.proofs.Common.{arith, rules}
use Rattle.wac_wit_syntax.proofs.Pieces.{no_operator, operator_token, spaces}
use Rattle.wac_wit_syntax.proofs.lexer.piece_at.Goals as goal

pub stray-requires-clause-none : goal.stray-requires-clause-none
stray-requires-clause-none c = no_operator c.args.bytes.now c.args.at c.requires (search rules, search rules, search rules, c.if-byte-eq47.false, c.if-byte-eq45.false, c.if-byte-eq37.false, c.if-byte-eq95.false) (search rules)

pub returns-then-is_space : goal.returns-then-is_space
returns-then-is_space c = spaces c.args.bytes.now c.args.at c.requires c.end.result (search rules) (c.end.ensures (omega arith))

pub returns-in-Some : goal.returns-in-Some
returns-in-Some c = operator_token c.args.bytes.now c.args.at c.requires c.in-Some.kind (search rules)
