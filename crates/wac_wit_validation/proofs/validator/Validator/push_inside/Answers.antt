use Rattle.std.proofs.Common.{◌∙◌, Contains, subst, sym}
use Rattle.std.proofs.lemmas.Result.{IfOk-weaker}
use Rattle.wac_wit_syntax.specs.declared.tree.IncludeItem.{IncludeItem}
use Rattle.wac_wit_syntax.specs.declared.tree.WorldItem.{WorldItem}
use Rattle.wac_wit_validation.specs.WorldChecking.{CoversInside}
use Rattle.wac_wit_validation.proofs.LayerFacts.{same_include}
use Rattle.wac_wit_validation.proofs.validator.Validator.push_inside.Goals as goal

pub returns-in-Include-clause-each : goal.returns-in-Include-clause-each
returns-in-Include-clause-each c = IfOk-weaker c.push_included.result _ _ (λ b h is of w at among. h is of w at (subst (λ (x : WorldItem). Contains w.decl.items.items x) c.in-Include.is among)) c.push_included.ensures.each

pub returns-in-Include-clause-all : goal.returns-in-Include-clause-all
returns-in-Include-clause-all c = IfOk-weaker c.push_included.result _ _
    (λ b h is i one. subst (λ (y : IncludeItem). CoversInside c.args.self.now c.args.scope y c.push_included.new.layers.items) (same_include c.in-Include.it i (sym c.in-Include.is ∙ one)) (h is)) c.push_included.ensures.all
