use Rattle.std.proofs.Common.{◌≡◌, Some, sym, subst}
use Rattle.std.specs.Prelude.{slice_get}
use Rattle.wac_model.specs.Text.{Text}
use Rattle.wac_wit_scopes.specs.WitSources.{ident_text}
use Rattle.wac_wit_validation.specs.WorldChecking.{side_items}
use Rattle.wac_wit_validation.proofs.WorldFacts.{full_named}
use Rattle.wac_wit_validation.proofs.externs.WorldSide.named.Goals as goal

pub returns-in-Some : goal.returns-in-Some
returns-in-Some c = λ rss renames.
    let side = c.args.self.now in
    let at = full_named (ident_text c.in_ok-name.name.now) c.as_str.result.now side.externs.now.entries c.get_full.result c.in-Some.index c.in-Some.field-0-1 c.in-Some.item c.as_str.ensures.value c.get_full.ensures.key c.in-Some.is c.in-Some.ensures.entry in
    subst (λ (t : Text). slice_get (side_items side) c.in-Some.index ≡ Some (t, c.in-Some.item.now)) (sym (renames (ident_text c.args.name.now) (ident_text c.in_ok-name.name.now) c.in_ok-name.ensures)) at
