use Rattle.std.proofs.Common.{◌∙◌, sym, subst, Contains}
use Rattle.wac_component.specs.Content.{named}
use Rattle.wac_wit_syntax.specs.declared.tree.WorldItem.{WorldItem}
use Rattle.wac_wit_syntax.specs.declared.tree.ExternItem.{ExternItem}
use Rattle.wac_wit_scopes.specs.WitSources.{IsEnabled}
use Rattle.wac_wit_validation.specs.WorldChecking.{IsPathThere}
use Rattle.wac_wit_validation.proofs.WorldFacts.{IfOk-map, none_is, same_extern}
use Rattle.wac_wit_validation.proofs.validator.Validator.mark_path_item.Goals as goal

pub returns-in-Some-clause-marks : goal.returns-in-Some-clause-marks
returns-in-Some-clause-marks c = IfOk-map c.mark_said_path.result _ _ c.mark_said_path.ensures.marks (λ b told is of w at among. told is c.args.kind of w at (subst (λ (i : WorldItem). Contains w.decl.items.items i) c.in-Some.ensures.some among))

pub returns-in-Some-clause-covers : goal.returns-in-Some-clause-covers
returns-in-Some-clause-covers c = IfOk-map c.mark_said_path.result _ _ c.mark_said_path.ensures.covers (λ b told is of w at e same there.
    let one = same_extern c.args.kind c.in-Some.it.now e (sym c.in-Some.ensures.some ∙ same) in
    subst (λ (x : ExternItem). IsPathThere of w (named (λ k. k) c.args.externs.now.entries) x.what) one (told is of w at (subst (λ (x : ExternItem). IsEnabled of x.gates) (sym one) there)))

pub returns-in-None-clause-covers : goal.returns-in-None-clause-covers
returns-in-None-clause-covers c = λ is of w at e same there. absurd (c.said.ensures.none (none_is c.said.result c.in-None.is) e same)
