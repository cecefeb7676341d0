use Rattle.std.proofs.Common.{◌∙◌, ap, sym}
use Rattle.std.specs.Option.{option_copied}
use Rattle.std.proofs.lemmas.Slice.Eq.{bytes_eq-Decides}
use Rattle.wac_wit_refusals.proofs.given_twice.is_member.Goals as goal

pub returns-in-Some : goal.returns-in-Some
returns-in-Some c is = record { ident = c.in-Some.of.now; is = sym c.name_of.ensures ∙ ap option_copied c.in-Some.is; named = (bytes_eq-Decides _ _).0 (sym c.eq.ensures ∙ is) }
