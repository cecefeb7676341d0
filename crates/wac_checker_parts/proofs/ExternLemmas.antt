-- What interfaces and worlds import and export, name by name.
use Rattle.std.proofs.Common.{◌≡◌, ◌≤◌, ℕ, suc, zero, List, [], ◌∷◌, Bool, true, false, cond, Option, Some, None, slice_get, refl, ap, ◌∙◌, inr}
use Rattle.std.specs.Str.{bytes_eq}
use Rattle.std.specs.Option.{option_map}
use Rattle.wac_model.specs.Text.{Text, lookup}
use Rattle.wac_model.specs.CoreTree.{Serves}
use Rattle.wac_model.specs.Desc.{item_desc}
use Rattle.wac_model.specs.ItemTree.{ItemTree, Items, Kind, Shape, item, world, interface, composite, no_items, item_at}
use Rattle.wac_model.specs.Order.{Fits, FitsAt, composites, not_asked, there}
use Rattle.wac_component.specs.Collection.{Collection}
use Rattle.wac_component.specs.Height.{height, keys_height}
use Rattle.wac_component.specs.Key.{Stands, AllStand, item_keys, named_keys}
use Rattle.wac_component.specs.Tree.{item_tree, items_of}
use Rattle.wac_component.specs.declared.items.ItemKind.{ItemKind}
use Rattle.wac_component.proofs.Keys.{Each-flat_map_at, largest-flat_map_at}
use Rattle.wac_mismatch.specs.Place.{item_side, place, turned}
use Rattle.wac_mismatch.specs.Part.{item_sided}
use Rattle.wac_mismatch.specs.Holds.{Holds}
use Rattle.wac_mismatch.specs.Path.{Leads}
use Rattle.wac_mismatch.specs.Steps.{IsExport, IsImportOf}
use Rattle.wac_mismatch.specs.declared.frame.Frame.{Frame}
use Rattle.wac_mismatch.specs.declared.frame.Frame.TheVariants as frame
use Rattle.wac_mismatch.specs.declared.fault.Fault.{Fault}
use Rattle.wac_mismatch.specs.declared.fault.Fault.TheVariants as fault
use Rattle.wac_mismatch.specs.declared.check.SubtypeCheck.{SubtypeCheck}
use Rattle.wac_checker_parts.specs.Externs.{AreServed}
use Rattle.wac_mismatch.specs.Steps.{IsMissingExport, IsMissingImport}

-- externs by name, with what each is
abbrev pub Externs : Type 0
Externs = List (Text × ItemKind)

-- what a look-up finds is at some index
found_at : (es : Externs) (n : Text) (v : ItemKind) → lookup bytes_eq es n ≡ Some v → (i : ℕ) × (m : Text) × (slice_get es i ≡ Some (m, v))
found_at [] n v h = absurd (cc)
found_at (e ∷ es) n v h = first (bytes_eq n e.0) (found_at es n v) h
  where
    first : (b : Bool) → (lookup bytes_eq es n ≡ Some v → (i : ℕ) × (m : Text) × (slice_get es i ≡ Some (m, v))) → cond b (Some e.1) (lookup bytes_eq es n) ≡ Some v → (i : ℕ) × (m : Text) × (slice_get (e ∷ es) i ≡ Some (m, v))
    first true later g = let same : e.1 ≡ v = cc in (zero, e.0, ap (λ (w : ItemKind). Some (e.0, w)) same)
    first false later g = let at = later g in (suc at.0, at.1, at.2)

-- an extern at an index, and one of a name, stand where all do
pub extern_stands : (c : Collection) (es : Externs) (i : ℕ) (n : Text) (v : ItemKind) → slice_get es i ≡ Some (n, v) → AllStand c (named_keys item_keys es) → AllStand c (item_keys v)
extern_stands c es i n v at h = Each-flat_map_at (Stands c) (λ (e : Text × ItemKind). item_keys e.1) es i (n, v) at h

pub named_stands : (c : Collection) (es : Externs) (n : Text) (v : ItemKind) → lookup bytes_eq es n ≡ Some v → AllStand c (named_keys item_keys es) → AllStand c (item_keys v)
named_stands c es n v l h = let at = found_at es n v l in extern_stands c es at.0 at.1 v at.2 h

-- and are no higher than the highest
pub extern_lower : (c : Collection) (es : Externs) (i : ℕ) (n : Text) (v : ItemKind) → slice_get es i ≡ Some (n, v) → keys_height c (item_keys v) ≤ keys_height c (named_keys item_keys es)
extern_lower c es i n v at = largest-flat_map_at (height c) (λ (e : Text × ItemKind). item_keys e.1) es i (n, v) at

pub named_lower : (c : Collection) (es : Externs) (n : Text) (v : ItemKind) → lookup bytes_eq es n ≡ Some v → keys_height c (item_keys v) ≤ keys_height c (named_keys item_keys es)
named_lower c es n v l = let at = found_at es n v l in extern_lower c es at.0 at.1 v at.2

-- the exports of an interface, and the externs of a world, stand where all its ids do, and are no
-- higher the tree of the extern of a name
pub item_at-items_of : (f : ItemKind → ItemTree) (es : Externs) (n : Text) → item_at (items_of f es) n ≡ option_map f (lookup bytes_eq es n)
item_at-items_of f [] n = refl
item_at-items_of f (e ∷ es) n = first (bytes_eq n e.0) (item_at-items_of f es n)
  where
    first : (b : Bool) → item_at (items_of f es) n ≡ option_map f (lookup bytes_eq es n) → cond b (Some (f e.1)) (item_at (items_of f es) n) ≡ option_map f (cond b (Some e.1) (lookup bytes_eq es n))
    first true h = refl
    first false h = h

pub tree_named : (c : Collection) (es : Externs) (n : Text) (v : ItemKind) → lookup bytes_eq es n ≡ Some v → item_at (items_of (item_tree c) es) n ≡ Some (item_tree c v)
tree_named c es n v l = item_at-items_of (item_tree c) es n ∙ ap (option_map (item_tree c)) l

pub tree_lacking : (c : Collection) (es : Externs) (n : Text) → lookup bytes_eq es n ≡ None → item_at (items_of (item_tree c) es) n ≡ None
tree_lacking c es n l = item_at-items_of (item_tree c) es n ∙ ap (option_map (item_tree c)) l

-- where all names are served, the trees fit at each name
fits_at : (c d : Collection) (a b : Option ItemKind) → Serves (λ x y. Fits (item_tree c x) (item_tree d y)) a b → FitsAt (option_map (item_tree c) a) (option_map (item_tree d) b)
fits_at c d a None h = not_asked
fits_at c d None (Some y) h = elim h [ ]
fits_at c d (Some x) (Some y) h = there h

pub served_fit : (c d : Collection) (es ts : Externs) → AreServed c d es ts → (n : Text) → FitsAt (item_at (items_of (item_tree c) es) n) (item_at (items_of (item_tree d) ts) n)
served_fit c d es ts h n = rw (item_at-items_of (item_tree c) es n, item_at-items_of (item_tree d) ts n) (fits_at c d (lookup bytes_eq es n) (lookup bytes_eq ts n) (h n))

-- interfaces and worlds whose names are served fit
pub interfaces_fit : (c d : Collection) (es ts : Externs) → AreServed c d es ts → (k : Kind) → Fits (composite k interface no_items (items_of (item_tree c) es)) (composite k interface no_items (items_of (item_tree d) ts))
interfaces_fit c d es ts h k = composites (served_fit c d es ts h) (λ n. not_asked)

pub worlds_fit : (c d : Collection) (is js es ts : Externs) → AreServed d c js is → AreServed c d es ts → (k : Kind) → Fits (composite k world (items_of (item_tree c) is) (items_of (item_tree c) es)) (composite k world (items_of (item_tree d) js) (items_of (item_tree d) ts))
worlds_fit c d is js es ts i h k = composites (served_fit c d es ts h) (served_fit d c js is i)

-- an export of a name that doesn't fit
pub leads_to_export : (check : SubtypeCheck) (k : Kind) (s : Shape) (is is' es es' : Items) (n : Text) (a b : ItemTree) → item_at es n ≡ Some a → item_at es' n ≡ Some b → (f : Frame) → IsExport n f → Leads f (place check (item_side (composite k s is es)) (item_side (composite k s is' es'))) (place check (item_side a) (item_side b))
leads_to_export check k s is is' es es' n a b l r (frame.Export m) same = record { alike = (refl, refl); same_check = refl; left = rw same (ap item_sided l); right = rw same (ap item_sided r) }
leads_to_export check k s is is' es es' n a b l r _ same = elim same [ ]

-- an import of a name that doesn't fit: what the right side imports, where the left one asks for it
pub leads_to_import : (check : SubtypeCheck) (k : Kind) (is is' es es' : Items) (n : Text) (a b : ItemTree) → item_at is n ≡ Some a → item_at is' n ≡ Some b → (f : Frame) → IsImportOf n f → Leads f (place check (item_side (composite k world is es)) (item_side (composite k world is' es'))) (place (turned check) (item_side b) (item_side a))
leads_to_import check k is is' es es' n a b l r (frame.Import m) same = record { alike = (refl, refl); same_check = refl; left = rw same (ap item_sided r); right = rw same (ap item_sided l) }
leads_to_import check k is is' es es' n a b l r _ same = elim same [ ]

-- an export that is missing
pub export_missing : (check : SubtypeCheck) (k : Kind) (s : Shape) (is is' es es' : Items) (h n : Text) (t : ItemTree) → h ≡ item_desc (composite item s is es) → item_at es n ≡ None → item_at es' n ≡ Some t → (f : Fault) → IsMissingExport h (item_desc t) n check f → Holds f (place check (item_side (composite k s is es)) (item_side (composite k s is' es')))
export_missing check k s is is' es es' h n t holder lacking wanted (fault.MissingExport hd kd name ch) m =
    inr (m.3, (refl, refl, m.0 ∙ holder, rw m.2 lacking, (t, rw m.2 wanted, m.1)))
export_missing check k s is is' es es' h n t holder lacking wanted _ m = elim m [ ]

-- an import that is missing
pub import_missing : (check : SubtypeCheck) (k : Kind) (is is' es es' : Items) (n : Text) (t : ItemTree) → item_at is' n ≡ None → item_at is n ≡ Some t → (f : Fault) → IsMissingImport (item_desc t) n check f → Holds f (place check (item_side (composite k world is es)) (item_side (composite k world is' es')))
import_missing check k is is' es es' n t lacking wanted (fault.MissingImport kd name ch) m =
    inr (m.2, (refl, rw m.1 lacking, (t, rw m.1 wanted, m.0)))
import_missing check k is is' es es' n t lacking wanted _ m = elim m [ ]
