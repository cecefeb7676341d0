use Rattle.std.proofs.Common.{refl}
use Rattle.wac_component.specs.Content.{world_content}
use Rattle.wac_component.specs.declared.worlds.ExternKind.TheVariants.{Export, Import}
use Rattle.wac_wit_validation.proofs.validator.Validator.mark_all_of.Goals as goal

pub returns-then-mark_interfaces_of-clause-marks : goal.returns-then-mark_interfaces_of-clause-marks
returns-then-mark_interfaces_of-clause-marks c = λ is of w valid i knows says old.
    let sides = valid.sides (world_content c.index-of.result.now) c.index-of.ensures.entry in
    record {
      imports = c.if-mark_interfaces_of.ensures.marks refl of Import w valid.written i knows sides.imports says old.imports;
      exports = c.mark_interfaces_of-then-mark_interfaces_of.ensures.marks is of Export w valid.written i knows sides.exports says old.exports;
    }

pub returns-then-mark_interfaces_of-clause-covers : goal.returns-then-mark_interfaces_of-clause-covers
returns-then-mark_interfaces_of-clause-covers c = λ is of valid.
    let sides = valid.sides (world_content c.index-of.result.now) c.index-of.ensures.entry in
    record {
      imports = c.if-mark_interfaces_of.ensures.covers refl of Import valid.written sides.imports;
      exports = c.mark_interfaces_of-then-mark_interfaces_of.ensures.covers is of Export valid.written sides.exports;
    }
