use Rattle.std.proofs.Common.{◌∙◌, sym, subst, Contains}
use Rattle.wac_wit_syntax.specs.declared.tree.WorldItem.{WorldItem}
use Rattle.wac_wit_syntax.specs.declared.tree.ExternItem.{ExternItem}
use Rattle.wac_wit_scopes.specs.WitSources.{IsEnabled}
use Rattle.wac_wit_validation.specs.WorldChecking.{IsNamedThere, side_items}
use Rattle.wac_wit_validation.proofs.WorldFacts.{IfOk-map, none_is, same_extern}
use Rattle.wac_wit_validation.proofs.validator.Validator.mark_item.Goals as goal

pub returns-in-Some-clause-marks : goal.returns-in-Some-clause-marks
returns-in-Some-clause-marks c = IfOk-map c.is_said.result _ _ c.is_said.ensures.marks (λ b told is one of w x rss comes among. told is one of w x rss comes (subst (λ (i : WorldItem). Contains x.decl.items.items i) c.in-Some.ensures.some among))

pub returns-in-Some-clause-covers : goal.returns-in-Some-clause-covers
returns-in-Some-clause-covers c = IfOk-map c.is_said.result _ _ c.is_said.ensures.covers (λ b told is of rss knows renames e same there.
    let one = same_extern c.args.side.now.kind c.in-Some.it.now e (sym c.in-Some.ensures.some ∙ same) in
    subst (λ (x : ExternItem). IsNamedThere rss (side_items c.args.side.now) x.what) one (told is of rss knows renames (subst (λ (x : ExternItem). IsEnabled of x.gates) (sym one) there)))

pub returns-in-None-clause-covers : goal.returns-in-None-clause-covers
returns-in-None-clause-covers c = λ is of rss knows renames e same there. absurd (c.said.ensures.none (none_is c.said.result c.in-None.is) e same)
