use Rattle.std.proofs.Common.{◌∙◌, ap, subst, sym}
use Rattle.wac_wit_refusals_worlds.specs.NeededTwice.{GivesExportsAt}
use Rattle.wac_wit_syntax.specs.declared.tree.Ident.{Ident}
use Rattle.wac_wit_syntax.specs.declared.tree.WorldItem.{WorldItem}
use Rattle.wac_wit_refusals_worlds.proofs.needed_twice.gives_exports_at.Goals as goal

pub returns-in-Export : goal.returns-in-Export
returns-in-Export c is = subst (λ (t : WorldItem). GivesExportsAt t c.args.span) (sym c.in-Export.is) (ap (λ (n : Ident). n.span) (sym c.ident_of.ensures) ∙ c.is_at.ensures is)

pub returns-in-Include : goal.returns-in-Include
returns-in-Include c is = subst (λ (t : WorldItem). GivesExportsAt t c.args.span) (sym c.in-Include.is) (c.is_at-in-Include.ensures is)
