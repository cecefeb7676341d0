use Rattle.std.proofs.Common.{sym, ◌∙◌}
use Rattle.std.specs.Cmp.Lexicographic.{same_text}
use Rattle.wac_wit_validation_types.proofs.texts.is_word.Goals as goal

pub returns : goal.returns
returns c = λ same. same_text c.args.left.now c.args.right.now (sym same ∙ c.eq.ensures)
