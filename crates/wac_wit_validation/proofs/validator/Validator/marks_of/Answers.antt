use Rattle.wac_wit_validation.specs.WorldClauses.{HasExportMarks}
use Rattle.wac_wit_validation_types.proofs.NameFacts.{some_told}
use Rattle.wac_wit_validation.proofs.WorldFacts.{then_some_told}
use Rattle.wac_wit_validation.proofs.validator.Validator.marks_of.Goals as goal

pub returns : goal.returns
returns c = then_some_told c.in_ok-is.is' _ c.then_some.result _ c.then_some.ensures (λ is of w text layers.
    c.in_ok-is.ensures is of w text (some_told c.in_ok-marks.field-0 c.in-Some.marks (HasExportMarks c.args.self.now c.args.text.now c.args.layers.now) c.in-Some.is c.in_ok-marks.ensures of w text layers))
