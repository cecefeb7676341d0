-- The text of each fault.
use Rattle.std.specs.Prelude.{[], ◌∷◌, ℕ, Bool, true, false, codes, decimal, string_bytes}
use Rattle.wac_model.specs.Text.{Text, joined}
use Rattle.wac_mismatch.specs.declared.fault.CountOf.{CountOf}
use Rattle.wac_mismatch.specs.declared.fault.CountOf.TheVariants as count_of
use Rattle.wac_mismatch.specs.declared.fault.NameOf.{NameOf}
use Rattle.wac_mismatch.specs.declared.fault.NameOf.TheVariants as name_of
use Rattle.wac_mismatch.specs.declared.fault.ResultPart.{ResultPart}
use Rattle.wac_mismatch.specs.declared.fault.ResultPart.TheVariants as result_part
use Rattle.wac_core.specs.declared.values.CoreFuncType.{CoreFuncType}
use Rattle.wac_core.specs.Content.{ref_tree, core_type_tree, core_func_content}
use Rattle.wac_core.specs.Texts.{ref_text, core_type_text, core_func_text}
use Rattle.wac_mismatch.specs.declared.check.SubtypeCheck.{SubtypeCheck}
use Rattle.wac_mismatch.specs.declared.check.SubtypeCheck.TheVariants.{Covariant, Contravariant}
use Rattle.wac_mismatch.specs.declared.fault.CoreField.{CoreField}
use Rattle.wac_mismatch.specs.declared.fault.CoreField.TheVariants as core_field
use Rattle.wac_mismatch.specs.declared.fault.Fault.{Fault}
use Rattle.wac_mismatch.specs.declared.fault.Fault.TheVariants.{Kind, Resource, Async, ParamCount, ParamName, FuncResult, FixedSize, ResultPart as OfResultPart, Payload, Count, Name, CaseType, CoreFunc, MissingExport, MissingImport, MissingCoreImport, TableElement, GlobalType, Core}

abbrev pub async_text : Bool → Text
async_text true = codes "expected async function, found sync function"
async_text false = codes "expected sync function, found async function"

abbrev pub func_result_text : Bool → Text
func_result_text true = codes "expected function with a result, found function without a result"
func_result_text false = codes "expected function without a result, found function with a result"

abbrev pub result_part_text : ResultPart → Bool → Text
result_part_text result_part.Ok true = codes "expected an `ok` for result type"
result_part_text result_part.Ok false = codes "expected no `ok` for result type"
result_part_text result_part.Err true = codes "expected an `err` for result type"
result_part_text result_part.Err false = codes "expected no `err` for result type"

abbrev pub payload_text : Bool → Text
payload_text true = codes "expected a type payload, found none"
payload_text false = codes "expected no type payload, found one"

-- what is counted, as it is said of the expected number
abbrev pub parts_text : CountOf → Text
parts_text count_of.Enum = codes "an enum type case count of"
parts_text count_of.Flags = codes "a flags type flag count of"
parts_text count_of.Record = codes "a record field count of"
parts_text count_of.Variant = codes "a variant case count of"
parts_text count_of.Tuple = codes "a tuple of size"

-- and of the number found
abbrev pub found_parts_text : CountOf → Text
found_parts_text count_of.Enum = codes "a count of"
found_parts_text count_of.Flags = codes "a count of"
found_parts_text count_of.Record = codes "a count of"
found_parts_text count_of.Variant = codes "a count of"
found_parts_text count_of.Tuple = codes "a tuple of size"

abbrev pub count_text : CountOf → ℕ → ℕ → Text
count_text of m n = joined (codes "expected " ∷ parts_text of ∷ codes " " ∷ decimal m ∷ codes ", found " ∷ found_parts_text of ∷ codes " " ∷ decimal n ∷ [])

-- what is named, as it is said of the expected name
abbrev pub part_text : NameOf → Text
part_text name_of.Enum = codes "enum case"
part_text name_of.Flags = codes "flag"
part_text name_of.Record = codes "record field"
part_text name_of.Variant = codes "variant case"

-- and of the name found
abbrev pub found_part_text : NameOf → Text
found_part_text name_of.Enum = codes "an enum case"
found_part_text name_of.Flags = codes "a flag"
found_part_text name_of.Record = codes "a field"
found_part_text name_of.Variant = codes "a case"

abbrev pub name_text : NameOf → ℕ → Text → Text → Text
name_text of i x y = joined (codes "expected " ∷ part_text of ∷ codes " " ∷ decimal i ∷ codes " to be named `" ∷ x ∷ codes "`, found " ∷ found_part_text of ∷ codes " named `" ∷ y ∷ codes "`" ∷ [])

abbrev pub case_type_text : Text → Bool → Text
case_type_text n true = joined (codes "expected variant case `" ∷ n ∷ codes "` to be typed, found an untyped case" ∷ [])
case_type_text n false = joined (codes "expected variant case `" ∷ n ∷ codes "` to be untyped, found a typed case" ∷ [])

-- what is asked for is missing in a covariant check, and unexpected in a contravariant one
abbrev pub missing_export_text : Text → Text → Text → SubtypeCheck → Text
missing_export_text h k n Covariant = joined (h ∷ codes " is missing expected " ∷ k ∷ codes " export `" ∷ n ∷ codes "`" ∷ [])
missing_export_text h k n Contravariant = joined (h ∷ codes " has unexpected " ∷ k ∷ codes " export `" ∷ n ∷ codes "`" ∷ [])

abbrev pub missing_import_text : Text → Text → SubtypeCheck → Text
missing_import_text k n Covariant = joined (codes "component is missing expected " ∷ k ∷ codes " import `" ∷ n ∷ codes "`" ∷ [])
missing_import_text k n Contravariant = joined (codes "component has unexpected import " ∷ k ∷ codes " `" ∷ n ∷ codes "`" ∷ [])

abbrev pub missing_core_import_text : Text → Text → Text → SubtypeCheck → Text
missing_core_import_text k m n Covariant = joined (codes "module is missing expected " ∷ k ∷ codes " import `" ∷ m ∷ codes "::" ∷ n ∷ codes "`" ∷ [])
missing_core_import_text k m n Contravariant = joined (codes "module has unexpected " ∷ k ∷ codes " import `" ∷ m ∷ codes "::" ∷ n ∷ codes "`" ∷ [])

abbrev pub core_field_text : CoreField → Text
core_field_text core_field.TableLimits = codes "mismatched table limits"
core_field_text core_field.Table64 = codes "mismatched table64 flag for tables"
core_field_text core_field.TableShared = codes "mismatched shared flag for tables"
core_field_text core_field.MemoryShared = codes "mismatched shared flag for memories"
core_field_text core_field.Memory64 = codes "mismatched memory64 flag for memories"
core_field_text core_field.MemoryLimits = codes "mismatched memory limits"
core_field_text core_field.PageSizeLog2 = codes "mismatched page_size_log2 for memories"
core_field_text core_field.GlobalMutable = codes "mismatched mutable flag for globals"
core_field_text core_field.GlobalShared = codes "mismatched shared flag for globals"

abbrev pub core_func_type_text : CoreFuncType → Text
core_func_type_text f = core_func_text (core_func_content f).0 (core_func_content f).1

abbrev pub fault_text : Fault → Text
fault_text (Kind x y) = joined (codes "expected " ∷ x.now ∷ codes ", found " ∷ y.now ∷ [])
fault_text (Resource x y) = joined (codes "expected resource `" ∷ string_bytes x ∷ codes "`, found resource `" ∷ string_bytes y ∷ codes "`" ∷ [])
fault_text (Async x) = async_text x
fault_text (ParamCount m n) = joined (codes "expected function with parameter count " ∷ decimal m ∷ codes ", found parameter count " ∷ decimal n ∷ [])
fault_text (ParamName i x y) = joined (codes "expected function parameter " ∷ decimal i ∷ codes " to be named `" ∷ string_bytes x ∷ codes "`, found name `" ∷ string_bytes y ∷ codes "`" ∷ [])
fault_text (FuncResult x) = func_result_text x
fault_text FixedSize = codes "mismatched size for fixed size list element"
fault_text (OfResultPart part x) = result_part_text part x
fault_text (Payload x) = payload_text x
fault_text (Count of m n) = count_text of m n
fault_text (Name of i x y) = name_text of i (string_bytes x) (string_bytes y)
fault_text (CaseType n x) = case_type_text (string_bytes n) x
fault_text (CoreFunc x y) = joined (codes "expected " ∷ core_func_type_text x ∷ codes ", found " ∷ core_func_type_text y ∷ [])
fault_text (MissingExport h k n check) = missing_export_text h.now k.now (string_bytes n) check
fault_text (MissingImport k n check) = missing_import_text k.now (string_bytes n) check
fault_text (MissingCoreImport k m n check) = missing_core_import_text k.now (string_bytes m) (string_bytes n) check
fault_text (TableElement x y) = joined (codes "expected table element type " ∷ ref_text (ref_tree x) ∷ codes ", found " ∷ ref_text (ref_tree y) ∷ [])
fault_text (GlobalType x y) = joined (codes "expected global type " ∷ core_type_text (core_type_tree x) ∷ codes ", found " ∷ core_type_text (core_type_tree y) ∷ [])
fault_text (Core field) = core_field_text field
