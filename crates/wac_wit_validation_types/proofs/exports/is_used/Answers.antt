use Rattle.std.proofs.Common.{sym, ap, ◌∙◌, subst}
use Rattle.wac_component.specs.Collection.{Collection}
use Rattle.wac_wit_validation_types.specs.Exports.{HasTypeItem, named_items}
use Rattle.wac_wit_validation_types.specs.Denoted.{NamesType}
use Rattle.wac_wit_validation_types.specs.Reading.{type_meaning}
use Rattle.wac_wit_scopes.specs.WitSources.{ident_text}
use Rattle.wac_wit_validation_types.proofs.MarkFacts.{has_type_at, marks_one, type_exported}
use Rattle.wac_wit_validation_types.proofs.exports.is_used.Goals as goal

pub returns-in-Some-named-clause-marks : goal.returns-in-Some-named-clause-marks
returns-in-Some-named-clause-marks c = λ same one s f all brings.
    let es = named_items c.args.names.now in
    let types = c.args.names.now.types.now in
    let n = ident_text c.local_name.result.now in
    let used = c.in-Some-named.used.now in
    marks_one s c.args.names.now c.args.progress.now c.mark.new.self c.in-Some.index c.mark.ensures.even c.mark.ensures.marked
    (type_exported s types es c.in-Some.index n c.in-Some.of.now c.in-Some.ensures.at (c.in-Some.ensures.meant types)
    (λ before m is. subst (λ k. NamesType s k m) (sym c.local_name.ensures) (brings m (c.in-Some-named.ensures f all m (ap (λ (d : Collection). type_meaning d used) (sym one) ∙ c.is_same_type.ensures same ∙ is)))))

pub returns-in-Some-named-clause-covers : goal.returns-in-Some-named-clause-covers
returns-in-Some-named-clause-covers c = λ same. subst (HasTypeItem (named_items c.args.names.now)) c.local_name.ensures (has_type_at (named_items c.args.names.now) c.in-Some.index (ident_text c.local_name.result.now) _ c.in-Some.ensures.at)
