use Rattle.std.proofs.Common.{◌≡◌, ◌∙◌, false, true}
use Rattle.std.proofs.lemmas.Slice.Eq.{bytes_eq-Decides}
use Rattle.wac_wit_refusals_types.proofs.type_names.type_gives.Goals as goal

pub returns-then-eq : goal.returns-then-eq
returns-then-eq c of knows named enabled = (c.is_there.ensures of knows).1 enabled

pub returns : goal.returns
returns c of knows named enabled = let yes : c.eq.result ≡ true = c.eq.ensures ∙ (bytes_eq-Decides _ _).1 named in let no : c.eq.result ≡ false = c.if-eq.false in absurd (cc)
