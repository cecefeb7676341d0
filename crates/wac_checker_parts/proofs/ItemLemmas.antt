-- Two leaves, and two values, as items.
use Rattle.std.proofs.Common.{◌≡◌, ◌⊎◌, List, [], ◌∷◌, Result, Ok, Err, IsOk, refl, subst, inl, inr}
use Rattle.wac_model.specs.Text.{Text}
use Rattle.wac_model.specs.ValueTree.{ValueTree}
use Rattle.wac_model.specs.ItemTree.{ItemTree, Kind, Leaf, leaf, resource, value, item, type_item}
use Rattle.wac_model.specs.Order.{Fits, leaves}
use Rattle.wac_mismatch.specs.Place.{item_side, value_side, by_check, Place, place}
use Rattle.wac_mismatch.specs.Holds.{IsResource, HoldsOfSides}
use Rattle.wac_mismatch.specs.Path.{Leads, Path}
use Rattle.wac_mismatch.specs.declared.frame.Frame.{Frame}
use Rattle.wac_mismatch.specs.declared.frame.Frame.TheVariants.{Import, CoreImport}
use Rattle.wac_mismatch.specs.declared.fault.Fault.{Fault}
use Rattle.wac_mismatch.specs.declared.check.SubtypeCheck.{SubtypeCheck}
use Rattle.wac_mismatch.specs.declared.check.SubtypeCheck.TheVariants.{Covariant, Contravariant}
use Rattle.wac_mismatch.specs.declared.error.SubtypeError.{SubtypeError}
use Rattle.wac_mismatch.specs.declared.error.SubtypeError.TheVariants.{Mismatch, Memory}
use Rattle.wac_mismatch.proofs.PathLemmas.{explains_refutes, values_hold}

pub equal_leaves : (k : Kind) (a b : Leaf) → a ≡ b → Fits (leaf k a) (leaf k b)
equal_leaves k a b e = subst (λ x. Fits (leaf k a) (leaf k x)) e leaves

values_disagree : (c : SubtypeCheck) (f : Fault) (k : Kind) (s t : ValueTree) → by_check c (HoldsOfSides f) (value_side s) (value_side t) → by_check c (HoldsOfSides f) (item_side (leaf k (value s))) (item_side (leaf k (value t)))
values_disagree Covariant f item s t h = h
values_disagree Covariant f type_item s t h = h
values_disagree Contravariant f item s t h = h
values_disagree Contravariant f type_item s t h = h

-- a value and the item of it have the same parts
values_lead : (frame : Frame) (c : SubtypeCheck) (k : Kind) (s t : ValueTree) (below : Place) → Leads frame (place c (value_side s) (value_side t)) below → Leads frame (place c (item_side (leaf k (value s))) (item_side (leaf k (value t)))) below
values_lead (Import n) c k s t below h = let none = h.left in absurd (cc)
values_lead (CoreImport m n) c k s t below h = let none = h.left in absurd (cc)
values_lead frame c k s t below h = record { alike = refl; left = h.left; right = h.right; same_check = h.same_check }

pub values_path : (frames : List Frame) (f : Fault) (c : SubtypeCheck) (k : Kind) (s t : ValueTree) → Path frames f (place c (value_side s) (value_side t)) → Path frames f (place c (item_side (leaf k (value s))) (item_side (leaf k (value t))))
values_path [] f c k s t h = inl (values_disagree c f k s t (values_hold f c s t h))
values_path (frame ∷ frames) f c k s t h = (h.0, values_lead frame c k s t h.0 h.1, h.2)
