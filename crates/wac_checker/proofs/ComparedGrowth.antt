-- What is known of pairs, and collections that are only added to.
use Rattle.std.proofs.Common.{◌≡◌, Option, Some, None, slice_get, Bool, true, false, refl, ap, sym, ◌∙◌, ℕ, inl, inr, ap₂, subst}
use Rattle.std.specs.Option.{option_map}
use Rattle.wac_model.specs.ValueTree.{ValueTree}
use Rattle.wac_model.specs.CoreTree.{ModuleTree}
use Rattle.wac_model.specs.ItemTree.{Items, Kind, Leaf, Shape, leaf, core_module, composite, no_items, item, type_item, func, resource, value, interface, world}
use Rattle.wac_component.specs.Id.{Id}
use Rattle.wac_component.specs.Collection.{Collection, DefinedContent}
use Rattle.wac_component.specs.Growth.{Extends}
use Rattle.wac_component.specs.Key.{Sort, Stands, defined_sort, resource_sort, func_sort, interface_sort, world_sort, module_sort, defined_entry, defined_key, func_key, interface_key, world_key, module_key}
use Rattle.wac_component.specs.Tree.{IsResolved, externs, func_tree, module_tree, root_name, value_tree}
use Rattle.wac_component.specs.declared.items.ItemKind.TheVariants.{«Type» as OfType, Func, Instance, Component, Module}
use Rattle.wac_component.specs.declared.items.Type.TheVariants.{Resource as TypeResource, Value as TypeValue}
use Rattle.wac_component.specs.declared.items.ValueType.TheVariants.{Defined}
use Rattle.wac_component.proofs.Lists.{slice_get-map}
use Rattle.wac_mismatch.specs.Place.{item_side, value_side}
use Rattle.wac_checker.specs.Compared.{KnowsTruly}
use Rattle.wac_checker_parts.specs.Pairs.{EntriesFit, EntriesStand, left_key, left_of, right_key, right_of, sort_side, Entries, DefinedTypes, Funcs, Interfaces, Worlds, Modules, IsFitting, IsStanding, entries_by, entries_of, id_in}
use Rattle.wac_checker_parts.specs.declared.parts.EntryPair.{EntryPair}
use Rattle.wac_checker_parts.specs.declared.parts.PairSort.{PairSort}
use Rattle.wac_checker.specs.declared.compared.Compared.{Compared}

-- ---- items that are one have the parts in common

leaf_parts : (k : Kind) (x y : Leaf) → leaf k x ≡ leaf k y → x ≡ y
leaf_parts k x y h = cc

value_parts : (x y : ValueTree) → value x ≡ value y → x ≡ y
value_parts x y h = cc

module_parts : (k : Kind) (x y : ModuleTree) → core_module k x ≡ core_module k y → x ≡ y
module_parts k x y h = cc

composite_imports : (k : Kind) (s : Shape) (i e j f : Items) → composite k s i e ≡ composite k s j f → i ≡ j
composite_imports k s i e j f h = cc

composite_exports : (k : Kind) (s : Shape) (i e j f : Items) → composite k s i e ≡ composite k s j f → e ≡ f
composite_exports k s i e j f h = cc

defined_same : (o p : Option DefinedContent) → option_map defined_entry o ≡ option_map defined_entry p → o ≡ p
defined_same None None e = refl
defined_same None (Some f) e = absurd (cc)
defined_same (Some f) None e = absurd (cc)
defined_same (Some f) (Some g) e = cc

-- ---- what an entry stands for

module _ (c e : Collection) (x : Extends c e) where
  value_kept : (p : Id) → Stands c (defined_key p) → value_tree e (Defined p) ≡ value_tree c (Defined p)
  value_kept p h = value_parts (value_tree e (Defined p)) (value_tree c (Defined p)) (leaf_parts type_item (value (value_tree e (Defined p))) (value (value_tree c (Defined p))) (x.trees (OfType (TypeValue (Defined p))) (h, tt)))

  side_kept : (k : Kind) (s : Sort) (p : Id) → Stands c (record { sort = s; id = p }) → sort_side k e s p ≡ sort_side k c s p
  side_kept k defined_sort p h = ap value_side (value_kept p h)
  side_kept k resource_sort p h = ap (λ (l : Leaf). item_side (leaf k l)) (leaf_parts type_item (resource (root_name e p)) (resource (root_name c p)) (x.trees (OfType (TypeResource p)) (h, tt)))
  side_kept k func_sort p h = ap (λ (l : Leaf). item_side (leaf k l)) (leaf_parts item (func (func_tree e p)) (func (func_tree c p)) (x.trees (Func p) (h, tt)))
  side_kept k interface_sort p h =
      let was = externs c (interface_key p) in
      let is = externs e (interface_key p) in
      ap (λ (t : Items). item_side (composite k interface no_items t)) (composite_exports item interface no_items is.exports no_items was.exports (x.trees (Instance p) (h, tt)))
  side_kept k world_sort p h =
      let was = externs c (world_key p) in
      let is = externs e (world_key p) in
      let same = x.trees (Component p) (h, tt) in
      ap (λ (t : Items). item_side (composite k world t is.exports)) (composite_imports item world is.imports is.exports was.imports was.exports same)
      ∙ ap (λ (t : Items). item_side (composite k world was.imports t)) (composite_exports item world is.imports is.exports was.imports was.exports same)
  side_kept k module_sort p h = ap (λ (t : ModuleTree). item_side (core_module k t)) (module_parts item (module_tree e p) (module_tree c p) (x.trees (Module p) (h, tt)))

  resolved_kept : (p : Id) → Stands c (defined_key p) → IsResolved c (Defined p) → IsResolved e (Defined p)
  resolved_kept p h r =
      let at : slice_get e.defined p.index ≡ slice_get c.defined p.index = defined_same (slice_get e.defined p.index) (slice_get c.defined p.index) (sym (slice_get-map defined_entry e.defined p.index) ∙ x.same_entry (defined_key p) h ∙ slice_get-map defined_entry c.defined p.index) in
      rw (at, value_kept p h) r

-- ---- pairs

module _ (c d e f : Collection) (x : Extends c e) (y : Extends d f) where
  pub entries_stay : (q : Entries) → EntriesStand c d q → EntriesStand e f q
  entries_stay (DefinedTypes a b) h = (x.standing (defined_key a) h.0, y.standing (defined_key b) h.1, (resolved_kept c e x a h.0 h.2.0, resolved_kept d f y b h.1 h.2.1))
  entries_stay (Funcs a b) h = (x.standing (func_key a) h.0, y.standing (func_key b) h.1, tt)
  entries_stay (Interfaces a b) h = (x.standing (interface_key a) h.0, y.standing (interface_key b) h.1, tt)
  entries_stay (Worlds a b) h = (x.standing (world_key a) h.0, y.standing (world_key b) h.1, tt)
  entries_stay (Modules a b) h = (x.standing (module_key a) h.0, y.standing (module_key b) h.1, tt)

  pub entries_fit_later : (q : Entries) → EntriesStand c d q → EntriesFit c d q → EntriesFit e f q
  entries_fit_later q h fits k = rw (side_kept c e x k (left_key q).sort (left_key q).id h.0, side_kept d f y k (right_key q).sort (right_key q).id h.1) (fits k)

  pub entries_fit_before : (q : Entries) → EntriesStand c d q → EntriesFit e f q → EntriesFit c d q
  entries_fit_before q h fits k = rw (side_kept c e x k (left_key q).sort (left_key q).id h.0, side_kept d f y k (right_key q).sort (right_key q).id h.1) at (fits k)

module _ (c d e f : Collection) (x : Extends c e) (y : Extends d f) (q : Entries) where
  pair_stays : (s : Bool) → EntriesStand (left_of c d s) (right_of c d s) q → EntriesStand (left_of e f s) (right_of e f s) q
  pair_stays false = entries_stay c d e f x y q
  pair_stays true = entries_stay d c f e y x q

  pair_fits_later : (s : Bool) → EntriesStand (left_of c d s) (right_of c d s) q → EntriesFit (left_of c d s) (right_of c d s) q → EntriesFit (left_of e f s) (right_of e f s) q
  pair_fits_later false = entries_fit_later c d e f x y q
  pair_fits_later true = entries_fit_later d c f e y x q

  pair_fits_before : (s : Bool) → EntriesStand (left_of c d s) (right_of c d s) q → EntriesFit (left_of e f s) (right_of e f s) q → EntriesFit (left_of c d s) (right_of c d s) q
  pair_fits_before false = entries_fit_before c d e f x y q
  pair_fits_before true = entries_fit_before d c f e y x q

-- ---- pairs by indices

numbered : (c d e f : Collection) (s : PairSort) (i j : ℕ) → e.number ≡ c.number → f.number ≡ d.number → entries_by s (id_in e i) (id_in f j) ≡ entries_by s (id_in c i) (id_in d j)
numbered c d e f s i j l r = ap₂ (λ (m n : ℕ). entries_by s (record { number = m; index = i }) (record { number = n; index = j })) l r

module _ (c d e f : Collection) (x : Extends c e) (y : Extends d f) (p : EntryPair) where
  told_same : entries_of (left_of e f p.swapped) (right_of e f p.swapped) p ≡ entries_of (left_of c d p.swapped) (right_of c d p.swapped) p
  told_same = by_side p.swapped
    where
      by_side : (s : Bool) → entries_of (left_of e f s) (right_of e f s) p ≡ entries_of (left_of c d s) (right_of c d s) p
      by_side false = numbered c d e f p.sort p.left p.right x.number y.number
      by_side true = numbered d c f e p.sort p.left p.right y.number x.number

  stays : IsStanding c d p → IsStanding e f p
  stays h = subst (λ (q : Entries). EntriesStand (left_of e f p.swapped) (right_of e f p.swapped) q) (sym told_same) (pair_stays c d e f x y (entries_of (left_of c d p.swapped) (right_of c d p.swapped) p) p.swapped h)

  fits_later : IsStanding c d p → IsFitting c d p → IsFitting e f p
  fits_later h fits = subst (λ (q : Entries). EntriesFit (left_of e f p.swapped) (right_of e f p.swapped) q) (sym told_same) (pair_fits_later c d e f x y (entries_of (left_of c d p.swapped) (right_of c d p.swapped) p) p.swapped h fits)

  fits_before : IsStanding c d p → IsFitting e f p → IsFitting c d p
  fits_before h fits = pair_fits_before c d e f x y (entries_of (left_of c d p.swapped) (right_of c d p.swapped) p) p.swapped h (subst (λ (q : Entries). EntriesFit (left_of e f p.swapped) (right_of e f p.swapped) q) told_same fits)

-- what is known of two collections is true of what they grew to
pub KnowsTruly-grown : (c d e f : Collection) → Extends c e → Extends d f → (k : Compared) → KnowsTruly c d k → KnowsTruly e f k
KnowsTruly-grown c d e f x y k h = record {
  pairs = (h.pairs.0, λ p m. stays c d e f x y p (h.pairs.1 p m));
  unfit = λ p m. let was = h.unfit p m in (stays c d e f x y p was.0, λ fits. was.1 (fits_before c d e f x y p was.0 fits));
  known = λ p m. elim (h.known p m) [ inl fits ↦ inl (fits_later c d e f x y p (h.pairs.1 p m) fits) | inr there ↦ inr there ];
}
