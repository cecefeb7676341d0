use Rattle.std.proofs.Common.{List, subst, sym}
use Rattle.wac_wit_syntax.specs.declared.error.Refusal.{Refusal}
use Rattle.wac_wit.specs.Reading.{AreMisread}
use Rattle.wac_wit.proofs.Misread.{misread_next, refused_push}
use Rattle.wac_wit.proofs.reading.push_all.Goals as goal

pub loop-refusal-init : goal.loop-refusal-init
loop-refusal-init c = λ files features misread old. (subst (λ (rs : List Refusal). AreMisread files c.args.file rs) (sym c.into_iter-refusal-iterator.ensures.into_iter_gives.0) misread, old)

pub loop-refusal-preserved : goal.loop-refusal-preserved
loop-refusal-preserved c = λ files features misread old.
    let before = c.loop-refusal.invariant files features misread old in
    (misread_next files c.args.file _ c.in-Some.refusal _ c.in-Some.ensures.steps.0 before.0, before.1)

pub loop-refusal-preserved-in-Continue-1 : goal.loop-refusal-preserved-in-Continue-1
loop-refusal-preserved-in-Continue-1 c = λ files features misread old.
    let before = c.loop-refusal.invariant files features misread old in
    let rest = c.loop-refusal.refusal-iterator.rest.items in (
      misread_next files c.args.file rest c.in-Some.refusal _ c.in-Some.ensures.steps.0 before.0,
      refused_push files c.args.file features c.loop-refusal.refusals.items c.push.new.self.items rest c.in-Some.refusal _ c.in_ok-push.ensures.items c.in-Some.ensures.steps.0 before.0 before.1,
    )

pub returns : goal.returns
returns c = λ files features misread old. let after = c.loop-refusal.invariant files features misread old in after.1
