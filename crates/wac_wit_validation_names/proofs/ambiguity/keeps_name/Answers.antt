use Rattle.std.proofs.Common.{sym, ◌∙◌}
use Rattle.std.proofs.lemmas.Slice.Eq.{bytes_eq-Decides}
use Rattle.wac_wit_scopes.proofs.PathFacts.{no_value}
use Rattle.wac_wit_validation_names.proofs.ambiguity.keeps_name.Goals as goal

pub returns-then-is_none : goal.returns-then-is_none
returns-then-is_none c = λ is. record { own = no_value c.args.used.now.path.package c.if-is_none.ensures; same = sym c.used_name.ensures ∙ (bytes_eq-Decides _ _).0 (sym c.eq.ensures ∙ is) }
