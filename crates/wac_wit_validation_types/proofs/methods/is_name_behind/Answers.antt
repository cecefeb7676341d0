use Rattle.std.proofs.Common.{append_assoc, sym, ◌∙◌}
use Rattle.std.specs.Cmp.Lexicographic.{same_text}
use Rattle.wac_wit_validation_types.proofs.methods.is_name_behind.Goals as goal

pub returns-in-Some-behind-2 : goal.returns-in-Some-behind-2
returns-in-Some-behind-2 c = λ same. rw (c.in-Some.ensures, c.in-Some-behind.ensures, c.in-Some-behind-2.ensures, same_text c.in-Some-behind-2.rest.now c.args.name.now (sym same ∙ c.eq.ensures)) (simp append_assoc)
