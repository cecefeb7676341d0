use Rattle.std.proofs.Common.{◌≡◌, ◌∙◌, sym, ap, subst, Contains, List}
use Rattle.wac_wit_syntax.specs.declared.tree.WorldItem.{WorldItem}
use Rattle.wac_wit_syntax.specs.declared.tree.WorldDecl.{WorldDecl}
use Rattle.wac_wit_validation_types.proofs.MarkFacts.{among_at}
use Rattle.wac_wit_validation.proofs.WorldFacts.{IfOk-map}
use Rattle.wac_wit_validation.proofs.validator.Validator.mark_all_needs.Goals as goal

pub loop-item-preserved : goal.loop-item-preserved
loop-item-preserved c = λ of w text there old.
    let items = c.deref-item-items.result.now in
    let same : items ≡ w.decl.items.items = c.deref-item-items.ensures.value ∙ ap (λ (d : WorldDecl). d.items.items) (sym text.decl) in
    let among = among_at items c.loop-item.item-index c.item-item.result c.loop-item-test.true c.item-item.is in
    c.in_ok-mark_needs.ensures c.if-not-branch.false of w text.at there (subst (λ (l : List WorldItem). Contains l c.item-item.result) same among) (c.loop-item.invariant of w text there old)

pub returns : goal.returns
returns c = IfOk-map c.mark_used_by_imports.result _ _ c.mark_used_by_imports.ensures (λ b told is of w text there old. told is of w text.at.knows (c.loop-item.invariant of w text there old))
