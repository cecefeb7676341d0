use Rattle.std.proofs.Common.{[], refl}
use Rattle.wac_wit_validation_types.specs.Exports.{named_items}
use Rattle.wac_wit_validation_types.specs.Functions.{IsFuncOf}
use Rattle.wac_wit_validation_types.specs.Interfaces.{a_func}
use Rattle.wac_wit_scopes.specs.WitSources.{ident_text}
use Rattle.wac_wit_validation_types.proofs.MarkFacts.{func_exported, has_item_at, marks_one}
use Rattle.wac_wit_validation_types.proofs.NameFacts.{item_at_index}
use Rattle.wac_wit_validation_types.proofs.exports.is_next_func.Goals as goal

pub returns-then-is_spelled-clause-marks : goal.returns-then-is_spelled-clause-marks
returns-then-is_spelled-clause-marks c = λ same s among there.
    let names = c.args.names.now in
    let i = c.args.progress.now.next_func in
    marks_one s names c.args.progress.now c.mark.new.self i c.mark.ensures.even c.mark.ensures.marked
    (func_exported s names.types.now (named_items names) i (ident_text c.args.item.now.name) c.in-Some.of.now (IsFuncOf s c.args.item.now.signature [] (λ r. r))
    (item_at_index names i c.in-Some.name.now c.in-Some.of.now (ident_text c.args.item.now.name) c.in-Some.ensures.entry (c.if-is_spelled.ensures refl)) (c.is_func_item.ensures same s) (λ f. a_func c.args.item.now among there))

pub returns-then-is_spelled-clause-covers : goal.returns-then-is_spelled-clause-covers
returns-then-is_spelled-clause-covers c = λ same.
    let names = c.args.names.now in
    let i = c.args.progress.now.next_func in
    has_item_at (named_items names) i (ident_text c.args.item.now.name) c.in-Some.of.now (item_at_index names i c.in-Some.name.now c.in-Some.of.now (ident_text c.args.item.now.name) c.in-Some.ensures.entry (c.if-is_spelled.ensures refl))
