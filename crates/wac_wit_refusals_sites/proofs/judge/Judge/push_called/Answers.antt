use Rattle.std.proofs.Common.{Contains, List, subst}
use Rattle.std.specs.Borrow.{Bor}
use Rattle.wac_wit_refusals_sites.specs.Judging.{body_syntax}
use Rattle.wac_wit_refusals_sites.specs.TypeSites.{a_signature, of_signature}
use Rattle.wac_wit_syntax.specs.declared.tree.TypeExpr.{TypeExpr}
use Rattle.wac_wit_refusals_sites.proofs.TypeFacts.{among_from}
use Rattle.wac_wit_refusals_sites.proofs.judge.Judge.push_called.Goals as goal

pub loop-named-init : goal.loop-named-init
loop-named-init c of knows all = all

pub loop-named-preserved : goal.loop-named-preserved
loop-named-preserved c of knows all =
    let there = c.in_ok-signatures_of.ensures of knows c.named-item.result (among_from c.in_ok-signatures_of.field-0.items c.deref-named-items.result.now c.loop-named.named-index c.named-item.result c.deref-named-items.ensures.value c.loop-named-test.true c.named-item.is) in
    c.in_ok-push_written.ensures of (body_syntax c.args.body.now) (a_signature c.named-item.result.signature.now) (of_signature c.named-item.result.name.now c.named-item.result.signature.now there) (λ e among. c.in_ok-types_in_signature.ensures e (subst (λ (l : List (Bor TypeExpr)). Contains l e) c.deref.ensures.value among)) (c.loop-named.invariant of knows all)

pub returns : goal.returns
returns c = c.loop-named.invariant
