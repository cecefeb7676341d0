use Rattle.std.proofs.Common.{refl, subst}
use Rattle.wac_wit_validation_types.specs.Exports.{named_items}
use Rattle.wac_wit_validation_types.specs.Denoted.{defined}
use Rattle.wac_wit_validation_types.specs.Reading.{IsTypeDefined, Renames, StandForTypes}
use Rattle.wac_wit_scopes.specs.WitSources.{ident_text}
use Rattle.wac_wit_validation_types.specs.declared.names.NamedTypes.{NamedTypes}
use Rattle.wac_wit_validation_types.proofs.MarkFacts.{has_type_at, marks_one, type_exported}
use Rattle.wac_wit_validation_types.proofs.exports.is_typedef.Goals as goal

pub returns-clause-marks : goal.returns-clause-marks
returns-clause-marks c = λ s renames among there.
    let es = named_items c.args.names.now in
    let types = c.args.names.now.types.now in
    let n = ident_text c.args.item.now.name in
    let is_defined = subst (λ (k : NamedTypes). Renames k s.renames → StandForTypes k s → IsTypeDefined s c.args.item.now k.types.now c.in_ok-index.of.now) c.up_to.ensures (c.if-not-is_defined.ensures refl s) in
    marks_one s c.args.names.now c.args.progress.now c.mark.new.self c.in_ok-index.index c.mark.ensures.even c.mark.ensures.marked
    (type_exported s types es c.in_ok-index.index n c.in_ok-index.of.now c.in_ok-index.ensures.at (c.in_ok-index.ensures.meant types)
    (λ before m is. defined c.args.item.now among there refl (is_defined renames before m is)))

pub returns-clause-named : goal.returns-clause-named
returns-clause-named c = has_type_at (named_items c.args.names.now) c.in_ok-index.index (ident_text c.args.item.now.name) _ c.in_ok-index.ensures.at
