use Rattle.std.proofs.Common.{append_assoc}
use Rattle.wac_wit_validation_types.proofs.texts.is_package_text.Goals as goal

pub returns-in-Some-behind : goal.returns-in-Some-behind
returns-in-Some-behind c = λ same. rw (c.in-Some.ensures, c.in-Some-behind.ensures, c.is_word.ensures same, c.deref.ensures, c.deref-in-Some-behind.ensures) (simp append_assoc)
