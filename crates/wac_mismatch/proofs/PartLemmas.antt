-- The parts of sides that fit, fit; the parts that are imports fit the other way round.
use Rattle.std.proofs.Common.{◌≡◌, refl, sym, ◌∙◌, subst, Option, Some, None, string_bytes}
use Rattle.wac_model.specs.CoreTree.{CoreTree, CoreFits, Serves}
use Rattle.wac_model.specs.ItemTree.{ItemTree, Kind, Leaf, resource, func, value, leaf, interface, world}
use Rattle.wac_model.specs.Order.{Fits, FitsAt, leaves, modules, composites, not_asked, there}
use Rattle.wac_model.proofs.ItemOrder.{Fits-refl}
use Rattle.wac_model.proofs.CoreOrder.{CoreFits-refl}
use Rattle.wac_mismatch.specs.Place.{Side, item_side, core_side, value_side, absent, Place, SideFits}
use Rattle.wac_mismatch.specs.Part.{part_of, item_sided, core_sided}
use Rattle.wac_mismatch.specs.Path.{Leads}
use Rattle.wac_mismatch.proofs.FaultLemmas.{some_same}
use Rattle.wac_mismatch.specs.declared.frame.Frame.{Frame}
use Rattle.wac_mismatch.specs.declared.frame.Frame.TheVariants.{Export, Import, CoreImport}

SideFits-refl : (a : Side) → SideFits a a
SideFits-refl (item_side x) = Fits-refl x
SideFits-refl (core_side x) = CoreFits-refl x
SideFits-refl (value_side x) = refl
SideFits-refl absent = tt

-- equal parts fit
equal_parts : (o : Option Side) (x y : Side) → o ≡ Some x → o ≡ Some y → SideFits x y
equal_parts o x y l r = subst (SideFits x) (some_same (sym l ∙ r)) (SideFits-refl x)

-- what fits under a name fits as a side
item_parts : {a b : Option ItemTree} → FitsAt a b → (x y : Side) → item_sided a ≡ Some x → item_sided b ≡ Some y → SideFits x y
item_parts not_asked x y l r = absurd (cc)
item_parts (there {a = s} {b = t} p) x y l r = subst (λ z. SideFits z y) (some_same l) (subst (SideFits (item_side s)) (some_same r) p)

core_parts : (a b : Option CoreTree) → Serves CoreFits a b → (x y : Side) → core_sided a ≡ Some x → core_sided b ≡ Some y → SideFits x y
core_parts a None p x y l r = absurd (cc)
core_parts None (Some t) p x y l r = absurd p
core_parts (Some s) (Some t) p x y l r = subst (λ z. SideFits z y) (some_same l) (subst (SideFits (core_side s)) (some_same r) p)

-- the frame leads to no import
abbrev IsForward : Frame → Type 0
IsForward (Import n) = ⊥
IsForward (CoreImport m n) = ⊥
IsForward f = Unit {0}

items_forward : (f : Frame) {a b : ItemTree} → Fits a b → IsForward f → (x y : Side) → part_of f (item_side a) ≡ Some x → part_of f (item_side b) ≡ Some y → SideFits x y
items_forward (Export n) (leaves {k = k} {l = o}) w x y l r = equal_parts (part_of (Export n) (item_side (leaf k o))) x y l r
items_forward (Export n) (modules p) w x y l r = core_parts _ _ (p.exports (string_bytes n)) x y l r
items_forward (Export n) (composites p q) w x y l r = item_parts (p (string_bytes n)) x y l r
items_forward (Import n) p w x y l r = absurd w
items_forward (CoreImport m n) p w x y l r = absurd w
items_forward f (leaves {k = k} {l = o}) w x y l r = equal_parts (part_of f (item_side (leaf k o))) x y l r
items_forward f (modules p) w x y l r = absurd (cc)
items_forward f (composites p q) w x y l r = absurd (cc)

forward : (f : Frame) (a b : Side) → SideFits a b → IsForward f → (x y : Side) → part_of f a ≡ Some x → part_of f b ≡ Some y → SideFits x y
forward f (item_side a) (item_side b) h w x y l r = items_forward f h w x y l r
forward f (core_side a) (core_side b) h w x y l r = absurd (cc)
forward f (value_side a) (value_side b) h w x y l r = equal_parts (part_of f (value_side b)) x y (subst (λ t. part_of f (value_side t) ≡ Some x) h l) r
forward f absent absent h w x y l r = absurd (cc)
forward f (item_side a) (core_side b) h w x y l r = absurd h
forward f (item_side a) (value_side b) h w x y l r = absurd h
forward f (item_side a) absent h w x y l r = absurd h
forward f (core_side a) (item_side b) h w x y l r = absurd h
forward f (core_side a) (value_side b) h w x y l r = absurd h
forward f (core_side a) absent h w x y l r = absurd h
forward f (value_side a) (item_side b) h w x y l r = absurd h
forward f (value_side a) (core_side b) h w x y l r = absurd h
forward f (value_side a) absent h w x y l r = absurd h
forward f absent (item_side b) h w x y l r = absurd h
forward f absent (core_side b) h w x y l r = absurd h
forward f absent (value_side b) h w x y l r = absurd h

-- the frame leads to an import
abbrev IsImport : Frame → Type 0
IsImport (Import n) = Unit {0}
IsImport (CoreImport m n) = Unit {0}
IsImport f = ⊥

no_import : (f : Frame) → IsImport f → (k : Kind) (o : Leaf) → part_of f (item_side (leaf k o)) ≡ None
no_import (Import n) w k (resource r) = refl
no_import (Import n) w k (func t) = refl
no_import (Import n) w k (value t) = refl
no_import (CoreImport m n) w k (resource r) = refl
no_import (CoreImport m n) w k (func t) = refl
no_import (CoreImport m n) w k (value t) = refl
no_import f w k o = absurd w

items_backward : (f : Frame) {a b : ItemTree} → Fits a b → IsImport f → (x y : Side) → part_of f (item_side b) ≡ Some x → part_of f (item_side a) ≡ Some y → SideFits x y
items_backward f (leaves {k = k} {l = o}) w x y l r = let none = no_import f w k o in absurd (cc)
items_backward (Import n) (modules p) w x y l r = absurd (cc)
items_backward (Import n) (composites {s = interface} p q) w x y l r = absurd (cc)
items_backward (Import n) (composites {s = world} p q) w x y l r = item_parts (q (string_bytes n)) x y l r
items_backward (CoreImport m n) (modules p) w x y l r = core_parts _ _ (p.imports (string_bytes m, string_bytes n)) x y l r
items_backward (CoreImport m n) (composites {s = interface} p q) w x y l r = absurd (cc)
items_backward (CoreImport m n) (composites {s = world} p q) w x y l r = absurd (cc)
items_backward f (modules p) w x y l r = absurd w
items_backward f (composites p q) w x y l r = absurd w

backward : (f : Frame) (a b : Side) → SideFits a b → IsImport f → (x y : Side) → part_of f b ≡ Some x → part_of f a ≡ Some y → SideFits x y
backward f (item_side a) (item_side b) h w x y l r = items_backward f h w x y l r
backward (Import n) (value_side a) (value_side b) h w x y l r = absurd (cc)
backward (CoreImport m n) (value_side a) (value_side b) h w x y l r = absurd (cc)
backward f (value_side a) (value_side b) h w x y l r = absurd w
backward f (core_side a) (core_side b) h w x y l r = absurd (cc)
backward f absent absent h w x y l r = absurd (cc)
backward f (item_side a) (core_side b) h w x y l r = absurd h
backward f (item_side a) (value_side b) h w x y l r = absurd h
backward f (item_side a) absent h w x y l r = absurd h
backward f (core_side a) (item_side b) h w x y l r = absurd h
backward f (core_side a) (value_side b) h w x y l r = absurd h
backward f (core_side a) absent h w x y l r = absurd h
backward f (value_side a) (item_side b) h w x y l r = absurd h
backward f (value_side a) (core_side b) h w x y l r = absurd h
backward f (value_side a) absent h w x y l r = absurd h
backward f absent (item_side b) h w x y l r = absurd h
backward f absent (core_side b) h w x y l r = absurd h
backward f absent (value_side b) h w x y l r = absurd h

-- a frame leads from sides that fit to sides that fit
pub lead_fits : (f : Frame) (p q : Place) → Leads f p q → SideFits p.left p.right → SideFits q.left q.right
lead_fits (Import n) p q h fits = backward (Import n) p.left p.right fits tt q.left q.right h.left h.right
lead_fits (CoreImport m n) p q h fits = backward (CoreImport m n) p.left p.right fits tt q.left q.right h.left h.right
lead_fits f p q h fits = forward f p.left p.right fits tt q.left q.right h.left h.right
