-- Differences: each has a fault, so two sides that differ in one don't fit.
use Rattle.std.proofs.Common.{refl}
use Rattle.wac_mismatch.proofs.FaultLemmas.{holds_refutes}
use Rattle.wac_mismatch.specs.Difference.{DifferIn, IsFaultOf}
use Rattle.wac_mismatch.specs.Place.{Side, SideFits}
use Rattle.wac_mismatch.specs.declared.check.SubtypeCheck.TheVariants.{Covariant}
use Rattle.wac_mismatch.specs.declared.difference.Difference.{Difference}
use Rattle.wac_mismatch.specs.declared.difference.Difference.TheVariants as difference
use Rattle.wac_mismatch.specs.declared.fault.Fault.{Fault}
use Rattle.wac_mismatch.specs.declared.fault.Fault.TheVariants as fault

some_fault : (x : Difference) → (f : Fault) × IsFaultOf Covariant x f
some_fault (difference.Kinds a b) = (fault.Kind b a, (refl, refl))
some_fault (difference.Resources a b) = (fault.Resource b.now a.now, (refl, refl))
some_fault (difference.Async a b) = (fault.Async b, refl)
some_fault (difference.ParamCount a b) = (fault.ParamCount b a, refl)
some_fault (difference.ParamName i a b) = (fault.ParamName i b.now a.now, (refl, refl, refl))
some_fault (difference.FuncResult a b) = (fault.FuncResult b, refl)
some_fault difference.FixedSize = (fault.FixedSize, refl)
some_fault (difference.ResultPart p a b) = (fault.ResultPart p b, refl)
some_fault (difference.Payload a b) = (fault.Payload b, refl)
some_fault (difference.Count o a b) = (fault.Count o b a, refl)
some_fault (difference.Name o i a b) = (fault.Name o i b.now a.now, (refl, refl, refl, refl))
some_fault (difference.CaseType n a b) = (fault.CaseType n.now b, (refl, refl))
some_fault (difference.MissingExport h k n) = (fault.MissingExport h k n.now Covariant, (refl, refl, refl, refl))
some_fault (difference.MissingImport k n) = (fault.MissingImport k n.now Covariant, (refl, refl, refl))

-- two that differ don't fit
pub differ_refutes : (x : Difference) (s t : Side) → DifferIn x s t → SideFits s t → ⊥
differ_refutes x s t differ fits = let f = some_fault x in holds_refutes f.0 Covariant s t (differ Covariant f.0 f.1) fits
