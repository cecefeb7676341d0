-- What is listed of interfaces and worlds, one extern after another.
use Rattle.std.proofs.Common.{◌≡◌, ◌≢◌, ◌≤◌, ◌<◌, ◌+◌, ◌-◌, ◌^◌, ◌⊎◌, inl, inr, ℕ, zero, suc, List, [], length, Bool, true, false, not, Some, None, Ok, Err, IsTrue, string_bytes, String, Global, Bor, codes, refl, ap, sym, subst, subst₂, ◌∙◌, arith}
use Rattle.std.specs.Prelude.{◌↔◌}
use Rattle.std.specs.Str.{bytes_eq}
use Rattle.wac_model.specs.Text.{Text, lookup}
use Rattle.wac_model.specs.Desc.{item_desc}
use Rattle.wac_model.specs.ItemTree.{ItemTree, Kind, item, type_item, leaf, core_module, composite, interface, world, no_items, func, resource, value}
use Rattle.wac_model.proofs.ItemOrder.{leaf_fits}
use Rattle.wac_component.specs.Id.{Id}
use Rattle.wac_component.specs.Collection.{Collection}
use Rattle.wac_component.specs.Height.{height, keys_height}
use Rattle.wac_component.specs.Key.{Key, Stands, interface_key, world_key, item_keys, named_keys, value_keys}
use Rattle.wac_component.specs.Tree.{externs, item_tree, items_of, value_tree}
use Rattle.wac_component.specs.declared.items.ItemKind.{ItemKind}
use Rattle.wac_component.specs.declared.items.ValueType.{ValueType}
use Rattle.wac_mismatch.specs.Difference.{DifferIn}
use Rattle.wac_mismatch.specs.Holds.{HoldsOfItems, HoldsOfSides, IsKindFault}
use Rattle.wac_mismatch.specs.Place.{item_side, by_check, expected_of, found_of, turned}
use Rattle.wac_mismatch.specs.declared.check.SubtypeCheck.{SubtypeCheck}
use Rattle.wac_mismatch.specs.declared.check.SubtypeCheck.TheVariants.{Covariant, Contravariant}
use Rattle.wac_mismatch.specs.declared.fault.Fault.{Fault}
use Rattle.wac_checker_parts.specs.Items.{AreOtherItems}
use Rattle.wac_checker_parts.specs.Pairs.{AreNamed, AreOfItems, Below, End, HasPart, Interfaces, IsBelow, IsExternPart, IsFrameOf, IsFitting, IsPlace, PartFits, Same, Worlds, entries_by, entries_of, flag_of, left_of, right_of}
use Rattle.wac_checker_parts.specs.Listing.{AllFitBy, AreExternsOf, AreEntriesNamed, AreItemsNamed, ArePartsOf, AreServedTo, AreTreesApart, AreLeavesApart, AreValuesNamed, DifferInExports, DifferInImports, KindsByName, IsExportsTurn, IsExternOf, IsImportsTurn, IsPartOf, IsTurn, Named, Turn}
use Rattle.wac_mismatch.specs.declared.difference.Difference.TheVariants as difference
use Rattle.wac_checker_parts.specs.declared.parts.EntryPair.{EntryPair}
use Rattle.wac_checker_parts.specs.declared.parts.PairPart.{PairPart}
use Rattle.wac_checker_parts.specs.declared.parts.PairSort.{PairSort}
use Rattle.wac_checker_parts.specs.declared.parts.Halt.TheVariants as halt
use Rattle.wac_checker_parts.proofs.CountLemmas.{last_or_before}
use Rattle.wac_mismatch.proofs.DifferenceLemmas.{differ_refutes}
use Rattle.wac_checker_parts.proofs.DifferenceLemmas.{leaves_not_one}
use Rattle.wac_checker_parts.proofs.ExternLemmas.{export_missing, import_missing, tree_lacking, tree_named}
use Rattle.wac_checker_parts.proofs.ExternPartLemmas.{export_found, export_needed, export_path, export_place, import_found, import_needed, import_path, import_place, interface_found, interface_leads, interface_needed, interface_place}
use Rattle.wac_checker_parts.proofs.ItemLemmas.{equal_leaves}
use Rattle.wac_checker_parts.proofs.ItemPartLemmas.{id_here, of_values, one_fits, value_one}
use Rattle.wac_checker_parts.proofs.ListingLemmas.{fit_here, flag_same, ids_one, put_cases, put_keeps, put_named}

-- ---- items

-- two ids of entries, of a sort
pub ids_named : (l r : Collection) (w : Bool) (i : ℕ) (a b : Id) (made : Id → ItemKind) (key : Id → Key) (s : PairSort) (ms ns : List PairPart) (k : Named) → Stands l (key a) → Stands r (key b) → ((j : Id) → (key j).id ≡ j) → AreOfItems l r (made a) (made b) (entries_by s a b) → (l.number ≡ r.number → l ≡ r) → AreEntriesNamed l r i (record { left = a.index; right = b.index; sort = s; swapped = w }) ms ns k → AreItemsNamed l r w i (made a) (made b) ms ns k
ids_named l r w i a b made key s ms ns (Ok true) h m ids of one named' =
    let left : a.number ≡ l.number = sym (ap (λ (j : Id). j.number) (ids a)) ∙ h.0 in
    let right : b.number ≡ r.number = sym (ap (λ (j : Id). j.number) (ids b)) ∙ m.0 in
    elim named' [
      | inl same ↦ inl (same.2, (let e = ids_one l r a b left right same.0 same.1 in one_fits l r (made a) (made b) (key a) (key b) one h m (ap made e) (ap key e)))
      | inr put ↦ inr (record { left = a.index; right = b.index; sort = s; swapped = w }, refl, subst₂ (λ (x y : Id). AreOfItems l r (made a) (made b) (entries_by s x y)) (sym (id_here l a left)) (sym (id_here r b right)) of, put)
    ]
ids_named l r w i a b made key s ms ns (Ok false) h m ids of one named' = elim named' [ ]
ids_named l r w i a b made key s ms ns (Err e) h m ids of one named' = tt

module _ (l r : Collection) (w : Bool) (i : ℕ) (x y : ItemKind) (ms ns : List PairPart) where
  resource_trees : (k : Kind) (n m : Text) → n ≢ m → AreTreesApart (leaf k (resource n)) (leaf k (resource m))
  resource_trees item n m ne = ne
  resource_trees type_item n m ne = ne

  one_resource : (n m : Text) → resource n ≡ resource m → n ≡ m
  one_resource n m h = cc

  module _ (kind : Kind) (v u : ValueType) (left : item_tree l x ≡ leaf kind (value (value_tree l v))) (right : item_tree r y ≡ leaf kind (value (value_tree r u)))
      (left_keys : item_keys x ≡ value_keys v) (right_keys : item_keys y ≡ value_keys u) where
    value_apart : (k : Kind) → AreLeavesApart (value_tree l v) (value_tree r u) → AreTreesApart (leaf k (value (value_tree l v))) (leaf k (value (value_tree r u)))
    value_apart item h = h
    value_apart type_item h = h

    pub items_of_values : (k : Named) → AreValuesNamed l r w i v u ms ns k → AreItemsNamed l r w i x y ms ns k
    items_of_values (Ok true) h = elim h [
      | inl one ↦ inl (one.0, rw (left, right) (equal_leaves kind (value (value_tree l v)) (value (value_tree r u)) (ap value one.1)))
      | inr put ↦ inr (put.0, put.1, of_values l r x y kind v u left right left_keys right_keys (entries_of l r put.0) put.2, put.3)
    ]
    items_of_values (Ok false) h = (
      h.0,
      rw (left, right) (value_apart kind h.1),
      (λ fits. leaves_not_one (value_tree l v) (value_tree r u) h.1 (value_one (value_tree l v) (value_tree r u) (leaf_fits (rw (left, right) at fits)))),
    )
    items_of_values (Err e) h = tt

  pub items_of_resources : (kind : Kind) (n m : Text) (yes : Bool) → item_tree l x ≡ leaf kind (resource n) → item_tree r y ≡ leaf kind (resource m) → ns ≡ ms → (IsTrue yes ↔ (n ≡ m)) → AreItemsNamed l r w i x y ms ns (Ok yes)
  items_of_resources kind n m true left right same h = inl (same, rw (left, right) (equal_leaves kind (resource n) (resource m) (ap resource (h.0 refl))))
  items_of_resources kind n m false left right same h =
      let ne : n ≢ m = λ e. absurd (cc (h.1 e)) in
      (same, rw (left, right) (resource_trees kind n m ne), (λ fits. ne (one_resource n m (leaf_fits (rw (left, right) at fits)))))

-- ---- differences of items

items_hold : (f : Fault) (s t : ItemTree) → AreOtherItems s t → IsKindFault f (item_desc s) (item_desc t) → HoldsOfItems f s t
items_hold f (leaf item (resource a)) (leaf item (resource b)) ne h = absurd (ne refl)
items_hold f (leaf item (func a)) (leaf item (func b)) ne h = absurd (ne refl)
items_hold f (leaf item (value a)) (leaf item (value b)) ne h = absurd (ne refl)
items_hold f (leaf type_item (resource a)) (leaf type_item (resource b)) ne h = absurd (ne refl)
items_hold f (leaf type_item (func a)) (leaf type_item (func b)) ne h = absurd (ne refl)
items_hold f (leaf type_item (value a)) (leaf type_item (value b)) ne h = absurd (ne refl)
items_hold f (core_module item a) (core_module item b) ne h = absurd (ne refl)
items_hold f (core_module type_item a) (core_module type_item b) ne h = absurd (ne refl)
items_hold f (composite item interface i e) (composite item interface j g) ne h = absurd (ne refl)
items_hold f (composite item world i e) (composite item world j g) ne h = absurd (ne refl)
items_hold f (composite type_item interface i e) (composite type_item interface j g) ne h = absurd (ne refl)
items_hold f (composite type_item world i e) (composite type_item world j g) ne h = absurd (ne refl)
items_hold f s t ne h = h

items_by : (c : SubtypeCheck) (f : Fault) (s t : ItemTree) → AreOtherItems s t → IsKindFault f (expected_of c (item_desc s) (item_desc t)) (found_of c (item_desc s) (item_desc t)) → by_check c (HoldsOfSides f) (item_side s) (item_side t)
items_by Covariant f s t ne h = items_hold f t s (λ e. ne (sym e)) h
items_by Contravariant f s t ne h = items_hold f s t ne h

pub others_differ : (a b : Bor (List ℕ)) (s t : ItemTree) → a.now ≡ item_desc s → b.now ≡ item_desc t → AreOtherItems s t → DifferIn (difference.Kinds a b) (item_side s) (item_side t)
others_differ a b s t l r ne c f is = inl (items_by c f s t ne (subst₂ (λ (x y : Text). IsKindFault f (expected_of c x y) (found_of c x y)) l r is))

-- ---- exports and imports

-- one more is named
pub next_extern : (l r : Collection) (w : Bool) (first : ℕ) (es ts : KindsByName) (j i : ℕ) (n : Text) (x y : ItemKind) (ms ns os : List PairPart) → i ≡ first + j → IsPlace ts j → AreNamed es ts j n x y → AreItemsNamed l r w i x y ns os (Ok true) → AreExternsOf l r w first es ts ms ns × AreServedTo l r w es ts j ns → AreExternsOf l r w first es ts ms os × AreServedTo l r w es ts (j + 1) os
next_extern l r w first es ts j i n x y ms ns os e place' are named' h = elim named' [
  | inl one ↦ rw one.0 (h.0, λ all k b. elim (last_or_before k j (omega (arith, b))) [ inl last ↦ subst (λ (m : ℕ). IsExternPart l r es ts m Same) (sym last) (place', (n, x, y, are, one.1)) | inr before ↦ h.1 all k before ])
  | inr put ↦ (
    (
      (λ q m. put_keeps i put.0 ns os put.3 q (h.0.0 q m)),
      (λ q m. elim (put_cases i put.0 ns os put.3 q m) [ inl old ↦ h.0.1 q old | inr same ↦ inr (subst (λ (z : PairPart). IsExternOf l r w first es ts z) same (j, e, put.1, (place', refl, (n, x, y, are, put.2)))) ]),
    ),
    λ all k b.
        let there' = put_named i put.0 ns os put.3 in
        let fits = fit_here l r w put.0 put.1 (subst (λ (p : EntryPair). IsFitting (left_of l r w) (right_of l r w) p) there'.2 (all there'.0 there'.1)) in
        elim (last_or_before k j (omega (arith, b))) [
          | inl last ↦ subst (λ (m : ℕ). IsExternPart l r es ts m Same) (sym last) (place', (n, x, y, are, put.2.enough fits))
          | inr before ↦ h.1 (λ q m. all q (put_keeps i put.0 ns os put.3 q m)) k before
        ],
  )
]

pub exports_lack : (l r : Collection) (h : Bor (List ℕ)) (es ts : KindsByName) (n : Bor (String Global)) (k : Bor (List ℕ)) (v : ItemKind) → lookup bytes_eq es (string_bytes n.now) ≡ None → lookup bytes_eq ts (string_bytes n.now) ≡ Some v → k.now ≡ item_desc (item_tree r v) → DifferInExports (difference.MissingExport h k n) h.now (items_of (item_tree l) es) (items_of (item_tree r) ts)
exports_lack l r h es ts n k v lacking wanted desc kind s is is' holder c f fault =
    export_missing c kind s is is' (items_of (item_tree l) es) (items_of (item_tree r) ts) h.now (string_bytes n.now) (item_tree r v) holder (tree_lacking l es (string_bytes n.now) lacking) (tree_named r ts (string_bytes n.now) v wanted) f (rw desc at fault)

pub imports_lack : (l r : Collection) (is js : KindsByName) (n : Bor (String Global)) (k : Bor (List ℕ)) (v : ItemKind) → lookup bytes_eq is (string_bytes n.now) ≡ Some v → lookup bytes_eq js (string_bytes n.now) ≡ None → k.now ≡ item_desc (item_tree l v) → DifferInImports (difference.MissingImport k n) (items_of (item_tree l) is) (items_of (item_tree r) js)
imports_lack l r is js n k v wanted lacking desc kind es es' c f fault =
    import_missing c kind (items_of (item_tree l) is) (items_of (item_tree r) js) es es' (string_bytes n.now) (item_tree l v) (tree_lacking r js (string_bytes n.now) lacking) (tree_named l is (string_bytes n.now) v wanted) f (rw desc at fault)

flag_turned : (w : Bool) → not w ≡ flag_of w true
flag_turned true = refl
flag_turned false = refl

-- ---- interfaces

module _ (l r : Collection) (w : Bool) (a b : Id) (es ts : KindsByName) (ms : List PairPart)
    (left : (externs l (interface_key a)).exports ≡ items_of (item_tree l) es) (right : (externs r (interface_key b)).exports ≡ items_of (item_tree r) ts)
    (left_lower : keys_height l (named_keys item_keys es) < height l (interface_key a)) (right_lower : keys_height r (named_keys item_keys ts) < height r (interface_key b)) where
  interface_parts : AreExternsOf l r w 0 es ts [] ms → ArePartsOf l r w (Interfaces a b) ms
  interface_parts h q m = elim (h.1 q m) [
    | inl none ↦ absurd (omega (arith, none.1))
    | inr of ↦ (
        let at : q.index ≡ of.0 = omega (arith, of.1) in
        let found = interface_found l r a b es ts q.index left right left_lower right_lower (Below (record { entries = entries_of l r q.pair; swapped = false })) (subst (λ (n : ℕ). IsExternPart l r es ts n (Below (record { entries = entries_of l r q.pair; swapped = false }))) (sym at) of.3) in
        (false, of.2 ∙ flag_same w, found.0, found.1))
  ]

  pub interface_turn : (k : Turn) → IsExportsTurn l r w (codes "instance") 0 es ts [] ms k → IsTurn l r w (Interfaces a b) ms k
  interface_turn (Ok u) h = (interface_parts h.0, λ all. interface_found l r a b es ts (length ts) left right left_lower right_lower End (omega arith) (λ j below. (interface_found l r a b es ts j left right left_lower right_lower Same (h.1 all j below)).1))
  interface_turn (Err (halt.Apart x)) h = (interface_parts h.0, (λ c f is k. rw (left, right) (h.1 k interface no_items no_items refl c f is)), (λ fit. differ_refutes x (item_side (composite item interface no_items (items_of (item_tree l) es))) (item_side (composite item interface no_items (items_of (item_tree r) ts))) (h.1 item interface no_items no_items refl) (rw (left, right) at (fit item))))
  interface_turn (Err (halt.PartApart i s x)) h =
      let there' = h.2 in
      let at : i ≡ there'.0 = omega (arith, there'.1) in
      let of = there'.2 in (
        interface_parts h.0,
        subst (λ (n : ℕ). HasPart l r (Interfaces a b) n) (sym at) (interface_place l r a b es ts there'.0 left right left_lower right_lower of.0),
        (λ c f g is fault. interface_leads l r a b es ts there'.0 left right left_lower right_lower of.1.0 of.1.1 of.1.2 of.1.3 c f g (subst (λ (n : ℕ). IsFrameOf l r (Interfaces a b) n f) at is) (of.1.4 c g (rw h.1 at fault))),
        (λ fit. of.1.5 (interface_needed l r a b es ts there'.0 left right left_lower right_lower of.1.0 of.1.1 of.1.2 of.1.3 fit)),
      )
  interface_turn (Err halt.Modules) h = elim h [ ]
  interface_turn (Err halt.Memory) h = tt

-- ---- worlds

turned_fit : (l r : Collection) (w : Bool) (ms : List PairPart) → AllFitBy l r w ms → AllFitBy r l (not w) ms
turned_fit l r true ms h = h
turned_fit l r false ms h = h

first_or_past : (i n : ℕ) → (i < n) ⊎ (n ≤ i)
first_or_past i zero = inr (omega arith)
first_or_past zero (suc n) = inl (omega arith)
first_or_past (suc i) (suc n) = elim (first_or_past i n) [ inl l ↦ inl (omega (arith, l)) | inr g ↦ inr (omega (arith, g)) ]

module _ (l r : Collection) (w : Bool) (a b : Id) (is js es ts : KindsByName)
    (left_imports : (externs l (world_key a)).imports ≡ items_of (item_tree l) is) (right_imports : (externs r (world_key b)).imports ≡ items_of (item_tree r) js)
    (left_exports : (externs l (world_key a)).exports ≡ items_of (item_tree l) es) (right_exports : (externs r (world_key b)).exports ≡ items_of (item_tree r) ts)
    (left_imports_lower : keys_height l (named_keys item_keys is) < height l (world_key a)) (right_imports_lower : keys_height r (named_keys item_keys js) < height r (world_key b))
    (left_exports_lower : keys_height l (named_keys item_keys es) < height l (world_key a)) (right_exports_lower : keys_height r (named_keys item_keys ts) < height r (world_key b))
    (few : length is < 2 ^ 63) where
  import_part : (q : PairPart) → IsExternOf r l (not w) 0 js is q → IsPartOf l r w (Worlds a b) q
  import_part q of =
      let at : q.index ≡ of.0 = omega (arith, of.1) in
      let found = import_found l r a b is js es ts left_imports right_imports left_exports right_exports left_imports_lower right_imports_lower left_exports_lower right_exports_lower of.0 of.3.0.0 (Below (record { entries = entries_of r l q.pair; swapped = false })) (Below (record { entries = entries_of r l q.pair; swapped = true })) (refl, refl) of.3 in
      let here = subst (λ (n : ℕ). HasPart l r (Worlds a b) n × IsBelow l r (Worlds a b) n (record { entries = entries_of r l q.pair; swapped = true })) (sym at) (found.0, found.1) in
      (true, of.2 ∙ flag_turned w, here.0, here.1)

  export_part : (q : PairPart) → IsExternOf l r w (length is) es ts q → IsPartOf l r w (Worlds a b) q
  export_part q of =
      let at : q.index - length is ≡ of.0 = omega (arith, of.1) in
      let found = export_found l r a b is js es ts left_imports right_imports left_exports right_exports left_imports_lower right_imports_lower left_exports_lower right_exports_lower q.index (omega (arith, of.1)) few (Below (record { entries = entries_of l r q.pair; swapped = false })) (subst (λ (n : ℕ). IsExternPart l r es ts n (Below (record { entries = entries_of l r q.pair; swapped = false }))) (sym at) of.3) in
      (false, of.2 ∙ flag_same w, found.0, found.1)

  imports_parts : (ms : List PairPart) → AreExternsOf r l (not w) 0 js is [] ms → ArePartsOf l r w (Worlds a b) ms
  imports_parts ms h q m = elim (h.1 q m) [ inl none ↦ absurd (omega (arith, none.1)) | inr of ↦ import_part q of ]

  -- the imports differ
  pub world_imports : (ms : List PairPart) (k : Turn) → (k ≡ (Ok tt) → ⊥) → IsImportsTurn l r w is js ms k → IsTurn l r w (Worlds a b) ms k
  world_imports ms (Ok u) other h = absurd (other refl)
  world_imports ms (Err (halt.Apart x)) other h = (
    imports_parts ms h.0,
    (λ c f is' k. rw (left_imports, right_imports) (h.1 k (externs l (world_key a)).exports (externs r (world_key b)).exports c f is')),
    (λ fit. differ_refutes x (item_side (composite item world (items_of (item_tree l) is) (externs l (world_key a)).exports)) (item_side (composite item world (items_of (item_tree r) js) (externs r (world_key b)).exports)) (h.1 item (externs l (world_key a)).exports (externs r (world_key b)).exports) (rw (left_imports, right_imports) at (fit item))),
  )
  world_imports ms (Err (halt.PartApart i s x)) other h =
      let of = h.2.1 in (
        imports_parts ms h.0,
        import_place l r a b is js es ts left_imports right_imports left_exports right_exports left_imports_lower right_imports_lower left_exports_lower right_exports_lower i h.2.0.0 h.2.0,
        (λ c f g frame fault. import_path l r a b is js es ts left_imports right_imports left_exports right_exports left_imports_lower right_imports_lower left_exports_lower right_exports_lower i h.2.0.0 of.0 of.2 of.1 of.3 c f g frame (of.4 (turned c) g (rw h.1 at fault))),
        (λ fit. of.5 (import_needed l r a b is js es ts left_imports right_imports left_exports right_exports left_imports_lower right_imports_lower left_exports_lower right_exports_lower i h.2.0.0 of.0 of.2 of.1 of.3 fit)),
      )
  world_imports ms (Err halt.Modules) other h = elim h [ ]
  world_imports ms (Err halt.Memory) other h = tt

  module _ (ms ns : List PairPart) (before : IsImportsTurn l r w is js ms (Ok tt)) where
    world_parts : AreExternsOf l r w (length is) es ts ms ns → ArePartsOf l r w (Worlds a b) ns
    world_parts h q m = elim (h.1 q m) [ inl old ↦ imports_parts ms before.0 q old | inr of ↦ export_part q of ]

    parts_fit : AreExternsOf l r w (length is) es ts ms ns → AreServedTo l r w es ts (length ts) ns → AllFitBy l r w ns → (j : ℕ) → j < length is + length ts → PartFits l r (Worlds a b) j
    parts_fit more served all j below = elim (first_or_past j (length is)) [
      | inl within ↦ (import_found l r a b is js es ts left_imports right_imports left_exports right_exports left_imports_lower right_imports_lower left_exports_lower right_exports_lower j within Same Same refl (before.1 (turned_fit l r w ms (λ q m. all q (more.0 q m))) j within)).1
      | inr past ↦ (export_found l r a b is js es ts left_imports right_imports left_exports right_exports left_imports_lower right_imports_lower left_exports_lower right_exports_lower j past few Same (served all (j - length is) (omega (arith, past, below)))).1
    ]

    -- the exports come after them
    pub world_turn : (k : Turn) → IsExportsTurn l r w (codes "component") (length is) es ts ms ns k → IsTurn l r w (Worlds a b) ns k
    world_turn (Ok u) h = (world_parts h.0, λ all. export_found l r a b is js es ts left_imports right_imports left_exports right_exports left_imports_lower right_imports_lower left_exports_lower right_exports_lower (length is + length ts) (omega arith) few End (omega arith) (parts_fit h.0 h.1 all))
    world_turn (Err (halt.Apart x)) h = (
      world_parts h.0,
      (λ c f is' k. rw (left_exports, right_exports) (h.1 k world (externs l (world_key a)).imports (externs r (world_key b)).imports refl c f is')),
      (λ fit. differ_refutes x (item_side (composite item world (externs l (world_key a)).imports (items_of (item_tree l) es))) (item_side (composite item world (externs r (world_key b)).imports (items_of (item_tree r) ts))) (h.1 item world (externs l (world_key a)).imports (externs r (world_key b)).imports refl) (rw (left_exports, right_exports) at (fit item))),
    )
    world_turn (Err (halt.PartApart i s x)) h =
        let there' = h.2 in
        let at : i - length is ≡ there'.0 = omega (arith, there'.1) in
        let past : length is ≤ i = omega (arith, there'.1) in
        let of = there'.2.1 in
        let are = subst (λ (n : ℕ). AreNamed es ts n of.0 of.1 of.2) (sym at) of.3 in (
          world_parts h.0,
          export_place l r a b is js es ts left_imports right_imports left_exports right_exports left_imports_lower right_imports_lower left_exports_lower right_exports_lower i past few (subst (λ (n : ℕ). IsPlace ts n) (sym at) there'.2.0),
          (λ c f g frame fault. export_path l r a b is js es ts left_imports right_imports left_exports right_exports left_imports_lower right_imports_lower left_exports_lower right_exports_lower i past few of.0 of.1 of.2 are c f g frame (of.4 c g (rw h.1 at fault))),
          (λ fit. of.5 (export_needed l r a b is js es ts left_imports right_imports left_exports right_exports left_imports_lower right_imports_lower left_exports_lower right_exports_lower i past few of.0 of.1 of.2 are fit)),
        )
    world_turn (Err halt.Modules) h = elim h [ ]
    world_turn (Err halt.Memory) h = tt
