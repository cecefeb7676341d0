use Rattle.std.proofs.Common.{sym, subst}
use Rattle.wac_component.specs.Content.{world_content}
use Rattle.wac_names.specs.Pairs.{HasDistinctTexts}
use Rattle.wac_targets.specs.Report.{IsAnswer, world_content_of}
use Rattle.wac_targets.proofs.Itself.{passes-itself}
use Rattle.wac_targets.proofs.Reported.{report-noted, world_content_of-entry}
use Rattle.wac_targets.proofs.target.validate_target.Goals as goal

pub returns-clause-answer : goal.returns-clause-answer
returns-clause-answer c =
    let target = world_content c.index-target.result.now in
    let component = world_content c.index-component.result.now in
    let noted = report-noted c.args.types.now target component c.new-report.result c.check_imports.new.report c.check_exports.new.report c.new-report.ensures c.in_ok-check_imports.ensures.noted c.in_ok-check_exports.ensures.noted in
    rw (world_content_of-entry c.args.types.now c.args.wit_world_id target c.index-target.ensures.entry, world_content_of-entry c.args.types.now c.args.component_world_id component c.index-component.ensures.entry) (c.check_exports.new.report, noted, c.into.ensures)

pub returns-clause-itself : goal.returns-clause-itself
returns-clause-itself c = λ same meant.
    let at = world_content_of-entry c.args.types.now c.args.wit_world_id (world_content c.index-target.result.now) c.index-target.ensures.entry in
    let distinct : HasDistinctTexts (world_content_of c.args.types.now c.args.wit_world_id).imports = subst (λ w. HasDistinctTexts w.imports) (sym at) c.in_ok-check_imports.ensures.distinct in
    let answer : IsAnswer c.args.types.now (world_content_of c.args.types.now c.args.wit_world_id) (world_content_of c.args.types.now c.args.wit_world_id) c.into.result = subst (λ i. IsAnswer c.args.types.now (world_content_of c.args.types.now c.args.wit_world_id) (world_content_of c.args.types.now i) c.into.result) (sym same) (returns-clause-answer c) in
    passes-itself c.args.types.now (world_content_of c.args.types.now c.args.wit_world_id) meant distinct c.into.result answer
