-- A name, or a word that is none.
use Rattle.std.proofs.Common.{arith, rules}
use Rattle.wac_wit_syntax.proofs.Pieces.{no_word, run_end, word_token}
use Rattle.wac_wit_syntax.specs.declared.scanning.Run.TheVariants as run
use Rattle.wac_wit_syntax.proofs.lexer.name.Goals as goal

pub slice_bounds-is_label-end : goal.slice_bounds-is_label-end
slice_bounds-is_label-end c =
    let ends = c.end-end.ensures (omega arith) in
    let fits = run_end c.args.bytes.now c.args.at c.requires.within run.Name c.args.at (omega arith) in
    search rules

pub returns-then-is_label : goal.returns-then-is_label
returns-then-is_label c = word_token c.args.bytes.now c.args.at c.requires.within c.requires.first c.end-end.result (c.end-end.ensures (omega arith)) (search rules)

pub returns-else-is_label : goal.returns-else-is_label
returns-else-is_label c = no_word c.args.bytes.now c.args.at c.requires.within c.requires.first c.end-end.result (c.end-end.ensures (omega arith)) (search rules)
