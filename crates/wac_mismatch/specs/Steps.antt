-- How a refusal is built, from the innermost place outwards.
use Rattle.std.specs.Prelude.{◌≡◌, ℕ, [], ◌∷◌, Bool, string_bytes}
use Rattle.wac_model.specs.Text.{Text}
use Rattle.wac_mismatch.specs.declared.check.SubtypeCheck.{SubtypeCheck}
use Rattle.wac_mismatch.specs.declared.frame.Frame.{Frame}
use Rattle.wac_mismatch.specs.declared.frame.Frame.TheVariants as frame
use Rattle.wac_mismatch.specs.declared.fault.NameOf.{NameOf}
use Rattle.wac_mismatch.specs.declared.fault.Fault.{Fault}
use Rattle.wac_mismatch.specs.declared.fault.Fault.TheVariants as fault
use Rattle.wac_mismatch.specs.declared.error.SubtypeError.{SubtypeError}
use Rattle.wac_mismatch.specs.declared.error.SubtypeError.TheVariants.{Mismatch, Memory}

-- a mismatch with no frame, whose fault is such
abbrev pub IsHere : (Fault → Type 0) → SubtypeError → Type 0
IsHere P (Mismatch frames f) = (frames.items ≡ []) × P f
IsHere P Memory = Unit {0}

-- the second refusal is the first with one more frame outside, which is such
abbrev pub IsUnder : (Frame → Type 0) → SubtypeError → SubtypeError → Type 0
IsUnder P e Memory = Unit {0}
IsUnder P Memory (Mismatch frames f) = ⊥
IsUnder P (Mismatch inner f) (Mismatch frames g) = (frame : Frame) × P frame × (frames.items ≡ frame ∷ inner.items) × (g ≡ f)

-- the frame of the parameter of a name
abbrev pub IsParameter : Text → Frame → Type 0
IsParameter n (frame.Parameter m) = string_bytes m ≡ n
IsParameter n _ = ⊥

-- the frame of the field of a name
abbrev pub IsField : Text → Frame → Type 0
IsField n (frame.Field m) = string_bytes m ≡ n
IsField n _ = ⊥

-- the frame of the case of a name
abbrev pub IsCase : Text → Frame → Type 0
IsCase n (frame.Case m) = string_bytes m ≡ n
IsCase n _ = ⊥

-- the fault of these two names at an index
abbrev pub IsNameFault : Fault → NameOf → ℕ → Text → Text → Type 0
IsNameFault (fault.Name o i e f) of index x y = (o ≡ of) × (i ≡ index) × (string_bytes e ≡ x) × (string_bytes f ≡ y)
IsNameFault _ of index x y = ⊥

-- the fault of these two names of a parameter
abbrev pub IsParamName : Fault → ℕ → Text → Text → Type 0
IsParamName (fault.ParamName i e f) index x y = (i ≡ index) × (string_bytes e ≡ x) × (string_bytes f ≡ y)
IsParamName _ index x y = ⊥

-- the fault of a case of this name, which has a type on the expected side or hasn't
abbrev pub IsCaseType : Fault → Text → Bool → Type 0
IsCaseType (fault.CaseType n e) x b = (string_bytes n ≡ x) × (e ≡ b)
IsCaseType _ x b = ⊥

-- the frame of the export of a name
abbrev pub IsExport : Text → Frame → Type 0
IsExport n (frame.Export m) = string_bytes m ≡ n
IsExport n _ = ⊥

-- the frame of the import of a name
abbrev pub IsImportOf : Text → Frame → Type 0
IsImportOf n (frame.Import m) = string_bytes m ≡ n
IsImportOf n _ = ⊥

-- the frame of the import of a module and a name
abbrev pub IsCoreImportOf : Text → Text → Frame → Type 0
IsCoreImportOf m n (frame.CoreImport k l) = (string_bytes k ≡ m) × (string_bytes l ≡ n)
IsCoreImportOf m n _ = ⊥

-- the fault of an export of this kind and name that this holder lacks, in this direction
abbrev pub IsMissingExport : Text → Text → Text → SubtypeCheck → Fault → Type 0
IsMissingExport holder kind name check (fault.MissingExport h k n c) = (h.now ≡ holder) × (k.now ≡ kind) × (string_bytes n ≡ name) × (c ≡ check)
IsMissingExport holder kind name check _ = ⊥

-- the fault of an import of this kind and name that is missing
abbrev pub IsMissingImport : Text → Text → SubtypeCheck → Fault → Type 0
IsMissingImport kind name check (fault.MissingImport k n c) = (k.now ≡ kind) × (string_bytes n ≡ name) × (c ≡ check)
IsMissingImport kind name check _ = ⊥
