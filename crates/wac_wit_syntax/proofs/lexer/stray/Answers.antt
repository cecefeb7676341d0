-- What is refused ends within the text.
use Rattle.std.proofs.Common.{arith}
use Rattle.wac_wit_syntax.proofs.Pieces.{stray_piece}
use Rattle.wac_wit_syntax.proofs.lexer.stray.Goals as goal

pub returns : goal.returns
returns c = stray_piece c.args.bytes.now c.args.at c.requires.within c.end-end.result c.max.result (c.end-end.ensures (omega arith)) c.max.ensures c.requires.none
