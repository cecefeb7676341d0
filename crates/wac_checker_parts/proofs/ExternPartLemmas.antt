-- The parts at a place of two interfaces or two worlds.
use Rattle.std.proofs.Common.{◌≡◌, ◌≤◌, ◌<◌, ◌+◌, ◌-◌, ◌^◌, ℕ, zero, suc, List, [], ◌∷◌, length, map, Bool, true, false, cond, not, Option, Some, None, slice_get, String, Global, refl, ap, sym, subst, ◌∙◌, arith}
use Rattle.std.specs.Str.{bytes_eq}
use Rattle.std.specs.Option.{option_map}
use Rattle.std.proofs.lemmas.List.{length-map}
use Rattle.std.proofs.lemmas.Option.{slice_get_within}
use Rattle.std.proofs.lemmas.Slice.Eq.{bytes_eq-Decides}
use Rattle.wac_model.specs.Text.{Text}
use Rattle.wac_model.specs.CoreTree.{Serves}
use Rattle.wac_model.specs.ItemTree.{ItemTree, Items, Kind, item, composite, interface, world, no_items, named, item_at}
use Rattle.wac_model.specs.Order.{Fits, FitsAt, composites, not_asked, there}
use Rattle.wac_model.proofs.ItemOrder.{composite_fits}
use Rattle.wac_component.specs.Id.{Id}
use Rattle.wac_component.specs.Collection.{Collection}
use Rattle.wac_component.specs.Content.{named as entries_named}
use Rattle.wac_component.specs.Height.{height, keys_height}
use Rattle.wac_component.specs.Key.{interface_key, world_key, item_keys, named_keys}
use Rattle.wac_component.specs.Tree.{item_tree, items_of, externs}
use Rattle.wac_component.specs.declared.items.ItemKind.{ItemKind}
use Rattle.wac_component.proofs.Lists.{slice_get-map}
use Rattle.wac_mismatch.specs.Place.{item_side, place, turned}
use Rattle.wac_mismatch.specs.Path.{Leads}
use Rattle.wac_mismatch.specs.Holds.{Holds}
use Rattle.wac_mismatch.specs.declared.fault.Fault.{Fault}
use Rattle.wac_mismatch.specs.Steps.{IsExport, IsImportOf}
use Rattle.wac_mismatch.specs.declared.check.SubtypeCheck.{SubtypeCheck}
use Rattle.wac_mismatch.specs.declared.frame.Frame.{Frame}
use Rattle.wac_checker_parts.specs.Parts.{listed, IsServedAt, IsExportFrame, IsImportFrame}
use Rattle.wac_checker_parts.specs.Pairs.{AreNamed, AreOfItems, AreSwapped, IsPlace, IsExternPart, IsEntriesPart, EntriesFit, IsBelow, HasPart, PartFits, PartsFit, import_count, Entries, Interfaces, Worlds, Finding, End, Same, Below, EntriesPath, IsFrameOf}
use Rattle.wac_checker_parts.proofs.PartLemmas.{pair_of}
use Rattle.wac_checker_parts.proofs.ExternLemmas.{tree_named, leads_to_export, leads_to_import, extern_lower, named_lower}

abbrev Externs : Type 0
Externs = List (Text × ItemKind)

pub named_length : (es : List (String Global × ItemKind)) → length (entries_named (λ (k : ItemKind). k) es) ≡ length es
named_length es = simp length-map

-- ---- named items in order

listed_items : (f : ItemKind → ItemTree) (es : Externs) → listed (items_of f es) ≡ map (λ (e : Text × ItemKind). let q : Text × ItemTree = (e.0, f e.1) in q) es
listed_items f [] = refl
listed_items f (e ∷ es) = ap (λ (ts : List (Text × ItemTree)). (e.0, f e.1) ∷ ts) (listed_items f es)

pub listed_count : (f : ItemKind → ItemTree) (es : Externs) → length (listed (items_of f es)) ≡ length es
listed_count f es = rw (listed_items f es) (simp length-map)

pub listed_at : (f : ItemKind → ItemTree) (es : Externs) (i : ℕ) (n : Text) (v : ItemKind) → slice_get es i ≡ Some (n, v) → slice_get (listed (items_of f es)) i ≡ Some (n, f v)
listed_at f es i n v h =
    let shown : Text × ItemKind → Text × ItemTree = λ (e : Text × ItemKind). (e.0, f e.1) in
    ap (λ (ts : List (Text × ItemTree)). slice_get ts i) (listed_items f es) ∙ slice_get-map shown es i ∙ ap (option_map shown) h

-- what a look-up finds is at some place, under this name
found_listed : (ts : Items) (n : Text) (t : ItemTree) → item_at ts n ≡ Some t → (i : ℕ) × (slice_get (listed ts) i ≡ Some (n, t))
found_listed no_items n t h = absurd (cc)
found_listed (named m u ts) n t h = by_test (bytes_eq n m) refl h (λ g. found_listed ts n t g)
  where
    by_test : (b : Bool) → bytes_eq n m ≡ b → (cond b (Some u) (item_at ts n)) ≡ Some t → (item_at ts n ≡ Some t → (i : ℕ) × (slice_get (listed ts) i ≡ Some (n, t))) → (i : ℕ) × (slice_get (listed (named m u ts)) i ≡ Some (n, t))
    by_test true test g later =
        let tree : u ≡ t = cc in
        let name : m ≡ n = sym ((bytes_eq-Decides n m).0 test) in
        (zero, rw (name, tree) refl)
    by_test false test g later = let at = later g in (suc at.0, at.1)

-- where what is asked for at each place is served, so it is under each name
pub all_served : (es ts : Items) → ((j : ℕ) → j < length (listed ts) → IsServedAt es ts j) → (n : Text) → FitsAt (item_at es n) (item_at ts n)
all_served es ts h n = by_found (item_at ts n) refl
  where
    by_found : (o : Option ItemTree) → item_at ts n ≡ o → FitsAt (item_at es n) o
    by_found None e = not_asked
    by_found (Some t) e = let at = found_listed ts n t e in h at.0 (slice_get_within (listed ts) at.0 (n, t) at.1) n t at.1

-- ---- what is found at a place

module _ (c d : Collection) (es ts : Externs) (i : ℕ) (n : Text) (x y : ItemKind) (are : AreNamed es ts i n x y) where
  served_here : Fits (item_tree c x) (item_tree d y) → IsServedAt (items_of (item_tree c) es) (items_of (item_tree d) ts) i
  served_here fits m t at =
      let one = pair_of (m, t) (n, item_tree d y) (sym at ∙ listed_at (item_tree d) ts i n y are.1) in
      let name : m ≡ n = ap (λ (q : Text × ItemTree). q.0) one in
      let tree : t ≡ item_tree d y = ap (λ (q : Text × ItemTree). q.1) one in
      rw (name, tree, tree_named c es n x are.0) (there fits)

  -- where each name that is asked for is served, these items fit
  needed_here : ((m : Text) → Serves Fits (item_at (items_of (item_tree c) es) m) (item_at (items_of (item_tree d) ts) m)) → Fits (item_tree c x) (item_tree d y)
  needed_here served = rw (tree_named c es n x are.0, tree_named d ts n y are.2) at (served n)

  exported : (f : Frame) → IsExportFrame (items_of (item_tree d) ts) i f → IsExport n f
  exported f is =
      let one = pair_of (is.0, is.1) (n, item_tree d y) (sym is.2 ∙ listed_at (item_tree d) ts i n y are.1) in
      subst (λ (m : Text). IsExport m f) (ap (λ (q : Text × ItemTree). q.0) one) is.3

  imported : (f : Frame) → IsImportFrame (items_of (item_tree d) ts) i f → IsImportOf n f
  imported f is =
      let one = pair_of (is.0, is.1) (n, item_tree d y) (sym is.2 ∙ listed_at (item_tree d) ts i n y are.1) in
      subst (λ (m : Text). IsImportOf m f) (ap (λ (q : Text × ItemTree). q.0) one) is.3

  left_within : (h : ℕ) → keys_height c (named_keys item_keys es) < h → keys_height c (item_keys x) < h
  left_within h below = let lower = named_lower c es n x are.0 in omega arith

  right_within : (h : ℕ) → keys_height d (named_keys item_keys ts) < h → keys_height d (item_keys y) < h
  right_within h below = let lower = extern_lower d ts i n y are.1 in omega arith

-- ---- of interfaces

module _ (c d : Collection) (a b : Id) (es ts : Externs) (i : ℕ)
    (left : (externs c (interface_key a)).exports ≡ items_of (item_tree c) es) (right : (externs d (interface_key b)).exports ≡ items_of (item_tree d) ts)
    (left_lower : keys_height c (named_keys item_keys es) < height c (interface_key a)) (right_lower : keys_height d (named_keys item_keys ts) < height d (interface_key b)) where
  pub interface_place : IsPlace ts i → HasPart c d (Interfaces a b) i
  interface_place h = (rw right (omega (arith, listed_count (item_tree d) ts, h.0)), omega (arith, h.1))

  -- the two fit only if the exports of this name do
  pub interface_needed : (n : Text) (x y : ItemKind) → AreNamed es ts i n x y → EntriesFit c d (Interfaces a b) → Fits (item_tree c x) (item_tree d y)
  interface_needed n x y are fit = needed_here c d es ts i n x y are (rw (left, right) at (composite_fits (fit item)).exports)

  interface_below : (n : Text) (x y : ItemKind) (e : Entries) → AreNamed es ts i n x y → AreOfItems c d x y e → IsBelow c d (Interfaces a b) i (record { entries = e; swapped = false })
  interface_below n x y e are of = record {
    stand = of.stand;
    lower =
        let l = left_within c d es ts i n x y are (height c (interface_key a)) left_lower in
        let r = right_within c d es ts i n x y are (height d (interface_key b)) right_lower in
        omega (arith, of.left_lower, of.right_lower, l, r);
    enough = λ fits. rw (left, right) (served_here c d es ts i n x y are (of.enough fits));
    leads = λ ch f is gs g path k. (
      place ch (item_side (item_tree c x)) (item_side (item_tree d y)),
      leads_to_export ch k interface no_items no_items (externs c (interface_key a)).exports (externs d (interface_key b)).exports n (item_tree c x) (item_tree d y) (rw left (tree_named c es n x are.0)) (rw right (tree_named d ts n y are.2)) f (exported c d es ts i n x y are f (rw right at is)),
      of.leads ch gs g path,
    );
    needed = λ fit. of.needed (interface_needed n x y are fit);
  }

  pub interface_found : (p : Finding) → IsExternPart c d es ts i p → IsEntriesPart c d (Interfaces a b) i p
  interface_found End h = λ fit k. composites (all_served (externs c (interface_key a)).exports (externs d (interface_key b)).exports (λ j below. fit j (let count = rw right at below in omega (arith, listed_count (item_tree d) ts, count, h)))) (λ n. not_asked)
  interface_found Same h = (interface_place h.0, rw (left, right) (served_here c d es ts i h.1.0 h.1.1 h.1.2 h.1.3 h.1.4))
  interface_found (Below q) h = (interface_place h.0, subst (λ (s : Bool). IsBelow c d (Interfaces a b) i (record { entries = q.entries; swapped = s })) (sym h.1) (interface_below h.2.0 h.2.1 h.2.2 q.entries h.2.3 h.2.4))

  -- the frame to exports that differ
  pub interface_leads : (n : Text) (x y : ItemKind) → AreNamed es ts i n x y → (ch : SubtypeCheck) (f : Frame) (g : Fault) → IsExportFrame (externs d (interface_key b)).exports i f → Holds g (place ch (item_side (item_tree c x)) (item_side (item_tree d y))) → EntriesPath ch c d (Interfaces a b) (f ∷ []) g
  interface_leads n x y are ch f g is holds k = (
    place ch (item_side (item_tree c x)) (item_side (item_tree d y)),
    leads_to_export ch k interface no_items no_items (externs c (interface_key a)).exports (externs d (interface_key b)).exports n (item_tree c x) (item_tree d y) (rw left (tree_named c es n x are.0)) (rw right (tree_named d ts n y are.2)) f (exported c d es ts i n x y are f (rw right at is)),
    holds,
  )

-- ---- of worlds

module _ (c d : Collection) (a b : Id) (is js es ts : Externs)
    (left_imports : (externs c (world_key a)).imports ≡ items_of (item_tree c) is) (right_imports : (externs d (world_key b)).imports ≡ items_of (item_tree d) js)
    (left_exports : (externs c (world_key a)).exports ≡ items_of (item_tree c) es) (right_exports : (externs d (world_key b)).exports ≡ items_of (item_tree d) ts)
    (left_imports_lower : keys_height c (named_keys item_keys is) < height c (world_key a)) (right_imports_lower : keys_height d (named_keys item_keys js) < height d (world_key b))
    (left_exports_lower : keys_height c (named_keys item_keys es) < height c (world_key a)) (right_exports_lower : keys_height d (named_keys item_keys ts) < height d (world_key b))
    (i : ℕ) where
  counted : import_count c a ≡ length is
  counted = rw left_imports (listed_count (item_tree c) is)

  -- an import
  module _ (within : i < length is) where
    pub import_place : IsPlace is i → HasPart c d (Worlds a b) i
    import_place h = let n = counted in (omega arith, omega (arith, h.1))

    import_here : (n : Text) (x y : ItemKind) → AreNamed js is i n y x → Fits (item_tree d y) (item_tree c x) → PartFits c d (Worlds a b) i
    import_here n x y are fits = ((λ _. rw (left_imports, right_imports) (served_here d c js is i n y x are fits)), (λ past. absurd (let n = counted in omega arith)))

    import_leads : (n : Text) (x y : ItemKind) → AreNamed js is i n y x → (ch : SubtypeCheck) (f : Frame) → (i < import_count c a → IsImportFrame (externs c (world_key a)).imports i f) → (k : Kind) → Leads f (place ch (item_side (composite k world (externs c (world_key a)).imports (externs c (world_key a)).exports)) (item_side (composite k world (externs d (world_key b)).imports (externs d (world_key b)).exports))) (place (turned ch) (item_side (item_tree d y)) (item_side (item_tree c x)))
    import_leads n x y are ch f frame k =
        let at : i < import_count c a = (let n = counted in omega arith) in
        leads_to_import ch k (externs c (world_key a)).imports (externs d (world_key b)).imports (externs c (world_key a)).exports (externs d (world_key b)).exports n (item_tree c x) (item_tree d y) (rw left_imports (tree_named c is n x are.2)) (rw right_imports (tree_named d js n y are.0)) f (imported d c js is i n y x are f (rw left_imports at (frame at)))

    -- the two fit only if the imports of this name do
    pub import_needed : (n : Text) (x y : ItemKind) → AreNamed js is i n y x → EntriesFit c d (Worlds a b) → Fits (item_tree d y) (item_tree c x)
    import_needed n x y are fit = needed_here d c js is i n y x are (rw (left_imports, right_imports) at (composite_fits (fit item)).imports)

    import_below : (n : Text) (x y : ItemKind) (e : Entries) → AreNamed js is i n y x → AreOfItems d c y x e → IsBelow c d (Worlds a b) i (record { entries = e; swapped = true })
    import_below n x y e are of = record {
      stand = of.stand;
      lower =
          let l = left_within d c js is i n y x are (height d (world_key b)) right_imports_lower in
          let r = right_within d c js is i n y x are (height c (world_key a)) left_imports_lower in
          omega (arith, of.left_lower, of.right_lower, l, r);
      enough = λ fits. import_here n x y are (of.enough fits);
      leads = λ ch f frame gs g path k. (place (turned ch) (item_side (item_tree d y)) (item_side (item_tree c x)), import_leads n x y are ch f frame.0 k, of.leads (turned ch) gs g path);
      needed = λ fit. of.needed (import_needed n x y are fit);
    }

    pub import_found : (p q : Finding) → AreSwapped p q → IsExternPart d c js is i p → IsEntriesPart c d (Worlds a b) i q
    import_found End q s h = absurd (omega (arith, within, h))
    import_found Same q s h = rw s (import_place h.0, import_here h.1.0 h.1.2 h.1.1 h.1.3 h.1.4)
    import_found (Below p) (Below q) s h = (import_place h.0, import_pair q.entries q.swapped (s.1 ∙ ap not h.1) (subst (λ (e : Entries). AreOfItems d c h.2.1 h.2.2 e) (sym s.0) h.2.4))
      where
        import_pair : (e : Entries) (t : Bool) → t ≡ true → AreOfItems d c h.2.1 h.2.2 e → IsBelow c d (Worlds a b) i (record { entries = e; swapped = t })
        import_pair e t turned' of = subst (λ (u : Bool). IsBelow c d (Worlds a b) i (record { entries = e; swapped = u })) (sym turned') (import_below h.2.0 h.2.2 h.2.1 e h.2.3 of)
    import_found (Below p) _ s h = elim s [ ]

    pub import_path : (n : Text) (x y : ItemKind) → AreNamed js is i n y x → (ch : SubtypeCheck) (f : Frame) (g : Fault) → IsFrameOf c d (Worlds a b) i f → Holds g (place (turned ch) (item_side (item_tree d y)) (item_side (item_tree c x))) → EntriesPath ch c d (Worlds a b) (f ∷ []) g
    import_path n x y are ch f g frame holds k = (place (turned ch) (item_side (item_tree d y)) (item_side (item_tree c x)), import_leads n x y are ch f frame.0 k, holds)

  -- an export
  module _ (past : length is ≤ i) (few : length is < 2 ^ 63) where
    after : import_count c a ≤ i
    after = let n = counted in omega arith

    from_start : i - import_count c a ≡ i - length is
    from_start = ap (λ (n : ℕ). i - n) counted

    pub export_place : IsPlace ts (i - length is) → HasPart c d (Worlds a b) i
    export_place h = let n = counted in let m : length (listed (externs d (world_key b)).exports) ≡ length ts = rw right_exports (listed_count (item_tree d) ts) in (omega (arith, h.0), omega (arith, h.1))

    export_here : (n : Text) (x y : ItemKind) → AreNamed es ts (i - length is) n x y → Fits (item_tree c x) (item_tree d y) → PartFits c d (Worlds a b) i
    export_here n x y are fits = ((λ before. absurd (let n = counted in omega arith)), (λ _. rw (from_start, left_exports, right_exports) (served_here c d es ts (i - length is) n x y are fits)))

    export_leads : (n : Text) (x y : ItemKind) → AreNamed es ts (i - length is) n x y → (ch : SubtypeCheck) (f : Frame) → (import_count c a ≤ i → IsExportFrame (externs d (world_key b)).exports (i - import_count c a) f) → (k : Kind) → Leads f (place ch (item_side (composite k world (externs c (world_key a)).imports (externs c (world_key a)).exports)) (item_side (composite k world (externs d (world_key b)).imports (externs d (world_key b)).exports))) (place ch (item_side (item_tree c x)) (item_side (item_tree d y)))
    export_leads n x y are ch f frame k =
        leads_to_export ch k world (externs c (world_key a)).imports (externs d (world_key b)).imports (externs c (world_key a)).exports (externs d (world_key b)).exports n (item_tree c x) (item_tree d y) (rw left_exports (tree_named c es n x are.0)) (rw right_exports (tree_named d ts n y are.2)) f (exported c d es ts (i - length is) n x y are f (rw (right_exports, from_start) at (frame after)))

    -- and only if the exports do
    pub export_needed : (n : Text) (x y : ItemKind) → AreNamed es ts (i - length is) n x y → EntriesFit c d (Worlds a b) → Fits (item_tree c x) (item_tree d y)
    export_needed n x y are fit = needed_here c d es ts (i - length is) n x y are (rw (left_exports, right_exports) at (composite_fits (fit item)).exports)

    export_below : (n : Text) (x y : ItemKind) (e : Entries) → AreNamed es ts (i - length is) n x y → AreOfItems c d x y e → IsBelow c d (Worlds a b) i (record { entries = e; swapped = false })
    export_below n x y e are of = record {
      stand = of.stand;
      lower =
          let l = left_within c d es ts (i - length is) n x y are (height c (world_key a)) left_exports_lower in
          let r = right_within c d es ts (i - length is) n x y are (height d (world_key b)) right_exports_lower in
          omega (arith, of.left_lower, of.right_lower, l, r);
      enough = λ fits. export_here n x y are (of.enough fits);
      leads = λ ch f frame gs g path k. (place ch (item_side (item_tree c x)) (item_side (item_tree d y)), export_leads n x y are ch f frame.1 k, of.leads ch gs g path);
      needed = λ fit. of.needed (export_needed n x y are fit);
    }

    -- the imports come before the exports
    imports_served : PartsFit c d (Worlds a b) i → (n : Text) → FitsAt (item_at (externs d (world_key b)).imports n) (item_at (externs c (world_key a)).imports n)
    imports_served fit = all_served (externs d (world_key b)).imports (externs c (world_key a)).imports (λ j below. (fit j (let n = counted in omega arith)).0 below)

    exports_served : length ts ≤ i - length is → PartsFit c d (Worlds a b) i → (n : Text) → FitsAt (item_at (externs c (world_key a)).exports n) (item_at (externs d (world_key b)).exports n)
    exports_served end fit = all_served (externs c (world_key a)).exports (externs d (world_key b)).exports (λ j below.
        let n = counted in
        let m : length (listed (externs d (world_key b)).exports) ≡ length ts = rw right_exports (listed_count (item_tree d) ts) in
        let here : (import_count c a + j) - import_count c a ≡ j = omega arith in
        subst (λ (l : ℕ). IsServedAt (externs c (world_key a)).exports (externs d (world_key b)).exports l) here ((fit (import_count c a + j) (omega arith)).1 (omega arith)))

    pub export_found : (p : Finding) → IsExternPart c d es ts (i - length is) p → IsEntriesPart c d (Worlds a b) i p
    export_found End h = λ fit k. composites (exports_served h fit) (imports_served fit)
    export_found Same h = (export_place h.0, export_here h.1.0 h.1.1 h.1.2 h.1.3 h.1.4)
    export_found (Below q) h = (export_place h.0, subst (λ (s : Bool). IsBelow c d (Worlds a b) i (record { entries = q.entries; swapped = s })) (sym h.1) (export_below h.2.0 h.2.1 h.2.2 q.entries h.2.3 h.2.4))

    pub export_path : (n : Text) (x y : ItemKind) → AreNamed es ts (i - length is) n x y → (ch : SubtypeCheck) (f : Frame) (g : Fault) → IsFrameOf c d (Worlds a b) i f → Holds g (place ch (item_side (item_tree c x)) (item_side (item_tree d y))) → EntriesPath ch c d (Worlds a b) (f ∷ []) g
    export_path n x y are ch f g frame holds k = (place ch (item_side (item_tree c x)) (item_side (item_tree d y)), export_leads n x y are ch f frame.1 k, holds)

-- ---- frames

pub extern_within : (f : ItemKind → ItemTree) (es : List (String Global × ItemKind)) (ts : Items) (i : ℕ) → ts ≡ items_of f (entries_named (λ (k : ItemKind). k) es) → i < length (listed ts) → i < length es
extern_within f es ts i same h = let here = rw same at h in omega (arith, listed_count f (entries_named (λ (k : ItemKind). k) es), named_length es, here)

pub extern_count : (f : ItemKind → ItemTree) (es : List (String Global × ItemKind)) (ts : Items) → ts ≡ items_of f (entries_named (λ (k : ItemKind). k) es) → length (listed ts) ≡ length es
extern_count f es ts same = rw same (listed_count f (entries_named (λ (k : ItemKind). k) es) ∙ named_length es)

pub extern_here : (f : ItemKind → ItemTree) (es : List (String Global × ItemKind)) (ts : Items) (i : ℕ) (n : Text) (v : ItemKind) → ts ≡ items_of f (entries_named (λ (k : ItemKind). k) es) → slice_get (entries_named (λ (k : ItemKind). k) es) i ≡ Some (n, v) → slice_get (listed ts) i ≡ Some (n, f v)
extern_here f es ts i n v same at = rw same (listed_at f (entries_named (λ (k : ItemKind). k) es) i n v at)
