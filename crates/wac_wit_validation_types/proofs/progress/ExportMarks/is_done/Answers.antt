use Rattle.std.proofs.Common.{◌≡◌, Bool, true, false, refl, sym, ◌∙◌}
use Rattle.wac_wit_validation_types.proofs.MarkFacts.{AllBelow-more, AllBelow-none, get_or-same, told_below}
use Rattle.wac_wit_validation_types.proofs.progress.ExportMarks.is_done.Goals as goal

pub loop-seen-init : goal.loop-seen-init
loop-seen-init c = AllBelow-none (λ (b : Bool). b ≡ true) c.deref-seen-items.result.now

pub loop-seen-preserved : goal.loop-seen-preserved
loop-seen-preserved c =
    let xs = c.deref-seen-items.result.now in
    AllBelow-more (λ (b : Bool). b ≡ true) xs c.loop-seen.seen-index true c.loop-seen-test.true (sym (get_or-same xs c.loop-seen.seen-index true false c.loop-seen-test.true ∙ c.if-not-seen.false)) c.loop-seen.invariant refl

pub returns : goal.returns
returns c = λ h. told_below c.args.self.now.seen.items c.deref-seen-items.result.now c.loop-seen.seen-index c.deref-seen-items.ensures.value c.loop-seen-test.false c.loop-seen.invariant
