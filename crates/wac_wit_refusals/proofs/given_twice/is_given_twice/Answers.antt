use Rattle.std.proofs.Common.{◌∙◌, Some, refl, sym, ap, subst}
use Rattle.std.proofs.lemmas.Option.{slice_get_read}
use Rattle.wac_wit_refusals.specs.Members.{IsGivenElsewhere}
use Rattle.wac_wit_scopes.specs.WitSources.{ident_text}
use Rattle.wac_wit_syntax.specs.declared.tree.Ident.{Ident}
use Rattle.wac_wit_refusals.proofs.given_twice.is_given_twice.Goals as goal

pub returns-then-is_given_elsewhere : goal.returns-then-is_given_elsewhere
returns-then-is_given_elsewhere c is =
    let items = c.args.items.now in
    let index = c.loop-index.index in
    let name = c.given_by-name.ensures in
    record {
      index = index;
      used = c.in-Use.used;
      at = slice_get_read items _ index c.index-items-index.result refl c.loop-index-test.true c.index-items-index.is ∙ ap Some c.in-Use.is;
      stands = ap (λ (n : Ident). n.span) (sym name) ∙ c.if-is_at.ensures refl;
      twice = subst (λ (n : Ident). IsGivenElsewhere items index (ident_text n)) name (c.if-is_given_elsewhere.ensures is);
    }
