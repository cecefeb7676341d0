use Rattle.std.proofs.Common.{◌∙◌, sym}
use Rattle.std.proofs.lemmas.Slice.Eq.{bytes_eq-Decides}
use Rattle.wac_wit_refusals_types.proofs.names_twice.have_one_name.Goals as goal

pub returns-then-eq : goal.returns-then-eq
returns-then-eq c is = record { resource = (bytes_eq-Decides _ _).0 (sym c.eq.ensures ∙ c.if-eq.true); name = (bytes_eq-Decides _ _).0 (sym c.eq-then-eq.ensures ∙ is) }
