use Rattle.std.proofs.Common.{◌≡◌, ◌∙◌, refl, sym, ap, subst, Contains, List}
use Rattle.wac_wit_syntax.specs.declared.tree.WorldItem.{WorldItem}
use Rattle.wac_wit_syntax.specs.declared.tree.WorldDecl.{WorldDecl}
use Rattle.wac_wit_validation.specs.WorldChecking.{ItemNeeds}
use Rattle.wac_wit_validation_types.proofs.MarkFacts.{AllBelow-contains}
use Rattle.wac_wit_validation.proofs.WorldFacts.{IfOk-map}
use Rattle.wac_wit_validation.proofs.validator.Validator.has_all_needs.Goals as goal

pub returns : goal.returns
returns c = IfOk-map c.is_closed.result _ _ c.is_closed.ensures (λ b told is of w text marks.
    let items = c.deref-item-items.result.now in
    let same : items ≡ w.decl.items.items = c.deref-item-items.ensures.value ∙ ap (λ (d : WorldDecl). d.items.items) (sym text.decl) in
    record {
      items = λ x among. AllBelow-contains (ItemNeeds of c.args.self.now w c.args.marks.now) items c.loop-item.item-index x c.loop-item-test.false (c.loop-item.invariant of w text marks) (subst (λ (l : List WorldItem). Contains l x) (sym same) among);
      closed = told is of text.at.knows;
      all = c.if-not-are_all.ensures refl;
    })
