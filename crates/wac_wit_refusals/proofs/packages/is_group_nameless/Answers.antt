use Rattle.std.proofs.Common.{◌≡◌, ◌⊎◌, false, inl, inr, sym, ◌∙◌}
use Rattle.std.specs.Option.{is_some}
use Rattle.wac_wit_refusals.proofs.NamingFacts.{nameless_end, nameless_next}
use Rattle.wac_wit_refusals.specs.Trees.{wit_sources}
use Rattle.wac_wit_refusals.proofs.packages.is_group_nameless.Goals.{else-other-group-via-then-other-group+else-is_some, else-other-group-via-else-other-group}
use Rattle.wac_wit_refusals.proofs.packages.is_group_nameless.Goals as goal

pub loop-index-preserved : goal.loop-index-preserved
loop-index-preserved c =
    let other = c.in-Some.other in
    let is : (other.group ≡ c.args.group → ⊥) ⊎ (is_some other.document.now.package ≡ false) = elim c.else-other-group.branch [
      | else-other-group-via-then-other-group+else-is_some w ↦ inr (sym w.is_some.ensures ∙ w.if-is_some.false)
      | else-other-group-via-else-other-group w ↦ inl w.if-other-group.false
    ] in
    nameless_next (wit_sources c.args.sources.now) c.args.group c.loop-index.index other c.in-Some.ensures.0 c.in-Some.ensures.1 is c.loop-index.invariant

pub returns : goal.returns
returns c is = nameless_end c.args.sources.now c.args.group c.loop-index.index c.loop-index-test.false c.loop-index.invariant
