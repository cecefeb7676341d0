use Rattle.std.proofs.Common.{refl}
use Rattle.wac_wit_refusals.proofs.NamingFacts.{named_inside}
use Rattle.wac_wit_refusals_sites.proofs.JudgeFacts.{read_item}
use Rattle.wac_wit_refusals.proofs.packages.is_named_inside.Goals as goal

pub returns-then-is_same_package : goal.returns-then-is_same_package
returns-then-is_same_package c is of placed tree =
    let inside = read_item c.args.other.now.document.now.packages.items c.deref-nested-items.result.now c.loop-index.index c.nested-item.result c.deref-nested-items.ensures.value c.loop-index-test.true c.nested-item.is in
    named_inside of c.args.name.now c.args.other.now c.loop-index.index c.nested-item.result tree inside (c.if-is_elsewhere.ensures refl) (c.if-is_same_package.ensures.0 is)
