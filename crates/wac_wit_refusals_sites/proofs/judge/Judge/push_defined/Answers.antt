use Rattle.std.proofs.Common.{Contains, List, subst}
use Rattle.std.specs.Borrow.{Bor}
use Rattle.wac_wit_refusals_sites.specs.Judging.{body_syntax}
use Rattle.wac_wit_refusals_sites.specs.TypeSites.{a_definition, of_type}
use Rattle.wac_wit_syntax.specs.declared.tree.TypeExpr.{TypeExpr}
use Rattle.wac_wit_refusals_sites.proofs.TypeFacts.{among_from}
use Rattle.wac_wit_refusals_sites.proofs.judge.Judge.push_defined.Goals as goal

pub loop-ty-init : goal.loop-ty-init
loop-ty-init c of knows all = all

pub loop-ty-preserved : goal.loop-ty-preserved
loop-ty-preserved c of knows all =
    let there = c.in_ok-types_there.ensures of knows c.ty-item.result (among_from c.in_ok-types_there.field-0.items c.deref-ty-items.result.now c.loop-ty.ty-index c.ty-item.result c.deref-ty-items.ensures.value c.loop-ty-test.true c.ty-item.is) in
    c.in_ok-push_written.ensures of (body_syntax c.args.body.now) (a_definition c.ty-item.result.now.def) (of_type c.ty-item.result.now there) (λ e among. c.in_ok-types_in_def.ensures e (subst (λ (l : List (Bor TypeExpr)). Contains l e) c.deref.ensures.value among)) (c.loop-ty.invariant of knows all)

pub returns : goal.returns
returns c = c.loop-ty.invariant
