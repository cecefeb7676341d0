use Rattle.std.proofs.Common.{subst, sym}
use Rattle.wac_wit_refusals_sites.specs.Judging.{body_syntax}
use Rattle.wac_wit_refusals_types.specs.NamesTwice.{TakesExportName, TakesName, among_exports, among_items}
use Rattle.wac_wit_refusals_types.specs.TypeSteps.{AreTaken}
use Rattle.wac_wit_refusals_types.proofs.TwiceFacts.{taken_twice}
use Rattle.wac_wit_refusals_types.proofs.names_twice.has_item_twice.Goals as goal

pub returns-then-stands_twice : goal.returns-then-stands_twice
returns-then-stands_twice c is of knows =
    let b = body_syntax c.args.body.now in
    among_items (taken_twice (TakesName of b) c.deref.result.now c.args.span (subst (AreTaken (TakesName of b)) (sym c.deref.ensures.value) (c.in_ok-item_names.ensures of knows)) (c.stands_twice.ensures c.if-stands_twice.true))

pub returns : goal.returns
returns c is of knows =
    let b = body_syntax c.args.body.now in
    among_exports (taken_twice (TakesExportName of b) c.deref-2.result.now c.args.span (subst (AreTaken (TakesExportName of b)) (sym c.deref-2.ensures.value) (c.in_ok-export_names.ensures of knows)) (c.stands_twice-2.ensures is))
