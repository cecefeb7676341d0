-- Where there is a path the sides do not fit, and how a path is made.
use Rattle.std.proofs.Common.{[], ◌∷◌, inl, inr}
use Rattle.wac_model.specs.ValueTree.{ValueTree}
use Rattle.wac_mismatch.specs.Place.{Side, value_side, place, by_check, SideFits}
use Rattle.wac_mismatch.specs.Holds.{HoldsOfSides, DifferInField, Holds}
use Rattle.wac_mismatch.specs.Path.{Explains, Refutes}
use Rattle.wac_mismatch.specs.Laws.{APathRefutes}
use Rattle.wac_mismatch.specs.Steps.{IsHere}
use Rattle.wac_mismatch.proofs.FaultLemmas.{holds_refutes}
use Rattle.wac_mismatch.proofs.PartLemmas.{lead_fits}
use Rattle.wac_mismatch.specs.declared.check.SubtypeCheck.{SubtypeCheck}
use Rattle.wac_mismatch.specs.declared.fault.Fault.{Fault}
use Rattle.wac_mismatch.specs.declared.fault.Fault.TheVariants as fault
use Rattle.wac_mismatch.specs.declared.fault.CoreField.{CoreField}
use Rattle.wac_mismatch.specs.declared.fault.CoreField.TheVariants as core_field
use Rattle.wac_mismatch.specs.declared.error.SubtypeError.{SubtypeError}
use Rattle.wac_mismatch.specs.declared.error.SubtypeError.TheVariants.{Mismatch, Memory}

-- a path refutes that the left side fits
pub path_refutes : APathRefutes
path_refutes [] f p h fits = holds_refutes f p.check p.left p.right h fits
path_refutes (frame ∷ frames) f p h fits = path_refutes frames f h.0 h.2 (lead_fits frame p h.0 h.1 fits)

-- a refusal that explains itself refutes it
pub explains_refutes : (e : SubtypeError) (c : SubtypeCheck) (a b : Side) → Explains e c a b → Refutes e (SideFits a b)
explains_refutes (Mismatch frames f) c a b h = path_refutes frames.items f (place c a b) h
explains_refutes Memory c a b h = tt

-- a refusal with no frame explains itself by its fault
pub explains_here : (P : Fault → Type 0) (r : SubtypeError) (c : SubtypeCheck) (a b : Side) → IsHere P r → ((f : Fault) → P f → Holds f (place c a b)) → Explains r c a b
explains_here P (Mismatch frames f) c a b h d = rw h.0 (d f h.1)
explains_here P Memory c a b h d = tt

-- values have no other faults
pub values_hold : (f : Fault) (c : SubtypeCheck) (x y : ValueTree) → Holds f (place c (value_side x) (value_side y)) → by_check c (HoldsOfSides f) (value_side x) (value_side y)
values_hold f c x y (inl h) = h
values_hold (fault.MissingExport _ _ _ _) c x y (inr h) = elim h.1 [ ]
values_hold (fault.MissingImport _ _ _) c x y (inr h) = elim h.1 [ ]
values_hold (fault.MissingCoreImport _ _ _ _) c x y (inr h) = elim h.1 [ ]
values_hold (fault.Core field) c x y (inr h) = no_field field h
  where
    no_field : (field : CoreField) → DifferInField field (value_side x) (value_side y) → by_check c (HoldsOfSides (fault.Core field)) (value_side x) (value_side y)
    no_field core_field.TableLimits h = elim h [ ]
    no_field core_field.Table64 h = elim h [ ]
    no_field core_field.TableShared h = elim h [ ]
    no_field core_field.MemoryShared h = elim h [ ]
    no_field core_field.Memory64 h = elim h [ ]
    no_field core_field.MemoryLimits h = elim h [ ]
    no_field core_field.PageSizeLog2 h = elim h [ ]
    no_field core_field.GlobalMutable h = elim h [ ]
    no_field core_field.GlobalShared h = elim h [ ]
values_hold f c x y (inr h) = elim h [ ]
