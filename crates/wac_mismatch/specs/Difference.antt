-- What two differ in, before it is a fault.
use Rattle.std.specs.Prelude.{◌≡◌, string_bytes}
use Rattle.wac_model.specs.Text.{Text}
use Rattle.wac_mismatch.specs.Holds.{Holds, IsKindFault}
use Rattle.wac_mismatch.specs.Place.{Side, place, expected_of, found_of}
use Rattle.wac_mismatch.specs.Steps.{IsNameFault, IsParamName, IsCaseType, IsMissingExport, IsMissingImport}
use Rattle.wac_mismatch.specs.declared.check.SubtypeCheck.{SubtypeCheck}
use Rattle.wac_mismatch.specs.declared.difference.Difference.{Difference}
use Rattle.wac_mismatch.specs.declared.difference.Difference.TheVariants as difference
use Rattle.wac_mismatch.specs.declared.fault.Fault.{Fault}
use Rattle.wac_mismatch.specs.declared.fault.Fault.TheVariants as fault

-- resources of these names
abbrev pub AreNamesOf : Fault → Text → Text → Type 0
AreNamesOf (fault.Resource e f) x y = (string_bytes e ≡ x) × (string_bytes f ≡ y)
AreNamesOf _ x y = ⊥

-- a difference is this fault in a direction
abbrev pub IsFaultOf : SubtypeCheck → Difference → Fault → Type 0
IsFaultOf c (difference.Kinds a b) f = IsKindFault f (expected_of c a.now b.now) (found_of c a.now b.now)
IsFaultOf c (difference.Resources a b) f = AreNamesOf f (expected_of c (string_bytes a.now) (string_bytes b.now)) (found_of c (string_bytes a.now) (string_bytes b.now))
IsFaultOf c (difference.Async a b) f = f ≡ fault.Async (expected_of c a b)
IsFaultOf c (difference.ParamCount a b) f = f ≡ fault.ParamCount (expected_of c a b) (found_of c a b)
IsFaultOf c (difference.ParamName i a b) f = IsParamName f i (expected_of c (string_bytes a.now) (string_bytes b.now)) (found_of c (string_bytes a.now) (string_bytes b.now))
IsFaultOf c (difference.FuncResult a b) f = f ≡ fault.FuncResult (expected_of c a b)
IsFaultOf c difference.FixedSize f = f ≡ fault.FixedSize
IsFaultOf c (difference.ResultPart p a b) f = f ≡ fault.ResultPart p (expected_of c a b)
IsFaultOf c (difference.Payload a b) f = f ≡ fault.Payload (expected_of c a b)
IsFaultOf c (difference.Count o a b) f = f ≡ fault.Count o (expected_of c a b) (found_of c a b)
IsFaultOf c (difference.Name o i a b) f = IsNameFault f o i (expected_of c (string_bytes a.now) (string_bytes b.now)) (found_of c (string_bytes a.now) (string_bytes b.now))
IsFaultOf c (difference.CaseType n a b) f = IsCaseType f (string_bytes n.now) (expected_of c a b)
IsFaultOf c (difference.MissingExport h k n) f = IsMissingExport h.now k.now (string_bytes n.now) c f
IsFaultOf c (difference.MissingImport k n) f = IsMissingImport k.now (string_bytes n.now) c f

-- two sides differ in this: in whichever direction, its fault holds of them
abbrev pub DifferIn : Difference → Side → Side → Type 0
DifferIn x s t = (c : SubtypeCheck) (f : Fault) → IsFaultOf c x f → Holds f (place c s t)
