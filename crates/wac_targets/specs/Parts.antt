-- The three parts of a report, as plain lists.
use Rattle.std.specs.Prelude.{List, map, string_bytes}
use Rattle.wac_model.specs.Text.{Text}
use Rattle.wac_component.specs.declared.items.ItemKind.{ItemKind}
use Rattle.wac_component.specs.declared.worlds.ExternKind.{ExternKind}
use Rattle.wac_mismatch.specs.declared.error.SubtypeError.{SubtypeError}
use Rattle.wac_targets.specs.declared.report.TargetValidationReport.{TargetValidationReport}
use Rattle.wac_targets.specs.declared.report.ImportsNotInTarget.{ImportsNotInTarget}
use Rattle.wac_targets.specs.declared.report.MissingExports.{MissingExports}
use Rattle.wac_targets.specs.declared.report.MismatchedTypes.{MismatchedTypes}

-- the imports of the component that the target world doesn't have
abbrev pub not_in_target : TargetValidationReport → List Text
not_in_target r = map string_bytes r.imports_not_in_target.keys

-- the exports of the target world that the component doesn't have
abbrev pub missing : TargetValidationReport → List (Text × ItemKind)
missing r = map (λ e. (string_bytes e.0, e.1)) r.missing_exports.entries

-- what is there and doesn't fit
abbrev pub mismatched : TargetValidationReport → List (Text × (ExternKind × SubtypeError))
mismatched r = map (λ e. (string_bytes e.0, e.1)) r.mismatched_types.entries

-- what the iterators over them still give

abbrev pub names_left : ImportsNotInTarget → List Text
names_left it = map string_bytes it.names

abbrev pub exports_left : MissingExports → List (Text × ItemKind)
exports_left it = map (λ e. (string_bytes e.0, e.1)) it.exports

abbrev pub types_left : MismatchedTypes → List (Text × (ExternKind × SubtypeError))
types_left it = map (λ e. (string_bytes e.0, e.1)) it.types
