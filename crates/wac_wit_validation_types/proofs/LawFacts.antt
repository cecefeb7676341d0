-- The laws of what texts denote: each by the rule that its denotation has.
use Rattle.std.proofs.Common.{◌≡◌, inl, inr, true, false, List, [], ◌∷◌, Option, Some, None, IsSome, string_bytes, refl, sym, ap, subst}
use Rattle.wac_model.proofs.ItemOrder.{Fits-refl}
use Rattle.wac_model.specs.ItemTree.{ItemTree, Items, composite, func, interface, item, item_at, leaf, no_items, world}
use Rattle.wac_model.specs.Order.{Fits, FitsAt, composites, not_asked, there as there_fits}
use Rattle.wac_model.specs.Text.{Text}
use Rattle.wac_model.specs.ValueTree.{borrow, no_parts, node, own}
use Rattle.wac_component.specs.declared.worlds.ExternKind.{ExternKind}
use Rattle.wac_component.specs.declared.worlds.ExternKind.TheVariants.{Import, Export}
use Rattle.wac_wit_scopes.specs.WitSources.{IsPackageOf, IsNamedPackage, PackageId, ScopeSyntax, WitSources, alone, by_use, directly, exactly, given_name, ident_text, package_id, version_text}
use Rattle.wac_wit_syntax.specs.declared.tree.Gate.{Gate}
use Rattle.wac_wit_syntax.specs.declared.tree.IncludeItem.{IncludeItem}
use Rattle.wac_wit_syntax.specs.declared.tree.InterfaceItem.{InterfaceItem}
use Rattle.wac_wit_syntax.specs.declared.tree.PackageName.{PackageName}
use Rattle.wac_wit_syntax.specs.declared.tree.TypeExpr.TheOpen.{TypeExpr-F}
use Rattle.wac_wit_syntax.specs.declared.tree.TypeExpr.TheVariants as ty
use Rattle.wac_wit_validation_types.specs.Denoted.{Denoted, NamesType, interface_setting, renamed, used}
use Rattle.wac_wit_validation_types.specs.Interfaces.{HasExportOf, IsInterfaceTree, a_type, named_tree}
use Rattle.wac_wit_validation_types.specs.Laws.{AreOneAt, HandlesStandAsWritten, IncludedStandRenamed, InterfacesHaveOneTree, PathsLeadToTheirVersion, TreesOfOneTextFit}
use Rattle.wac_wit_validation_types.specs.Laws.{UsedTypesAreExported, WorldsHaveOneTree}
use Rattle.wac_wit_validation_types.specs.OneMeaning.{HasOneItem}
use Rattle.wac_wit_validation_types.specs.OneWorld.{HasOneExtern, IsOneItem}
use Rattle.wac_wit_validation_types.specs.Placed.{PlacedWorld}
use Rattle.wac_wit_validation_types.specs.Worlds.{AreWorldExterns, BringsIn, IsWorldTree, SaysInclude, by_include, extern_func, itself}
use Rattle.wac_wit_validation_types.proofs.OneMeaning.{layer_of, out-Borrow, out-Own}

pub handles_as_written : HandlesStandAsWritten
handles_as_written = record {
  borrowed = λ s id v h. let l : (r : Text) × NamesType s (ident_text id) _ × (v ≡ node (borrow r) no_parts) = layer_of s (ty.Borrow id) (TypeExpr-F.Borrow id) v (out-Borrow id) h in (l.0, l.2);
  owned = λ s id v h. let l : (r : Text) × NamesType s (ident_text id) _ × (v ≡ node (own r) no_parts) = layer_of s (ty.Own id) (TypeExpr-F.Own id) v (out-Own id) h in (l.0, l.2);
}

-- ---- trees of interfaces and worlds have what the texts say

same_exports : (is es : Items) → composite item interface no_items is ≡ composite item interface no_items es → es ≡ is
same_exports is es e = cc

exports_type : (of : WitSources) (w : ScopeSyntax) (is : List InterfaceItem) (exports : Items) (n : Text) (m : Denoted) → IsInterfaceTree of w is (composite item interface no_items exports)
    → NamesType (interface_setting of w is) n m → IsSome (item_at exports n)
exports_type of w is exports n m t names = subst (λ (es : Items). IsSome (item_at es n)) (same_exports exports t.exports t.tree) (t.all n (named_tree m) (a_type names))

pub used_type_exported : UsedTypesAreExported
used_type_exported of w v is u r i d m exports among there within leads has names t = exports_type of w is exports (given_name r.name r.alias) m t (used u r d among there within refl leads has names)

-- two that are there together, and are one where both are, are one
same_options : {A : Type 0} (a b : Option A) → ((x : A) → a ≡ Some x → IsSome b) → ((y : A) → b ≡ Some y → IsSome a) → ((x y : A) → a ≡ Some x → b ≡ Some y → x ≡ y) → a ≡ b
same_options None None f g h = refl
same_options None (Some y) f g h = absurd (let no : false ≡ true = g y refl in cc)
same_options (Some x) None f g h = absurd (let no : false ≡ true = f x refl in cc)
same_options (Some x) (Some y) f g h = ap Some (h x y refl refl)

pub one_interface_tree : InterfacesHaveOneTree
one_interface_tree of w i d es fs n one has t u =
    let s = interface_setting of w d.items.items in
    let each : (gs : Items) → IsInterfaceTree of w d.items.items (composite item interface no_items gs) → (x : ItemTree) → item_at gs n ≡ Some x → HasExportOf s n x = λ gs v x at. v.each n x (subst (λ (hs : Items). item_at hs n ≡ Some x) (sym (same_exports gs v.exports v.tree)) at) in
    let all : (gs : Items) → IsInterfaceTree of w d.items.items (composite item interface no_items gs) → (x : ItemTree) → HasExportOf s n x → IsSome (item_at gs n) = λ gs v x h. subst (λ (hs : Items). IsSome (item_at hs n)) (same_exports gs v.exports v.tree) (v.all n x h) in
    same_options (item_at es n) (item_at fs n) (λ x at. all fs u x (each es t x at)) (λ y at. all es t y (each fs u y at)) (λ x y at by. one w i d has n x y (each es t x at) (each fs u y by))

-- ---- versions

exact_version : (n : PackageName) (g : Gate) → n.version ≡ Some g → (package_id n).version ≡ Some (string_bytes g.text)
exact_version n g is = ap version_text is

named_version : (of : WitSources) (n : PackageName) (g : Gate) (p : PackageId) → n.version ≡ Some g → IsNamedPackage of n p → p.version ≡ Some (string_bytes g.text)
named_version of n g _ is exactly = exact_version n g is
named_version of n g p is (alone none _ _) = absurd (cc)

package_version : (of : WitSources) (w : ScopeSyntax) (o : Option PackageName) (n : PackageName) (g : Gate) (p : PackageId) → o ≡ Some n → n.version ≡ Some g → IsPackageOf of w o p → p.version ≡ Some (string_bytes g.text)
package_version of w o n g p is versioned h = named_version of n g p versioned (subst (λ (k : Option PackageName). IsPackageOf of w k p) is h)

pub version_met : PathsLeadToTheirVersion
version_met of w v path n g _ is versioned (directly h) = package_version of w path.package n g v.package is versioned h
version_met of w v path n g _ is versioned (by_use u none _ _ _) = absurd (cc)

-- ---- worlds

same_world_imports : (is es js fs : Items) → composite item world is es ≡ composite item world js fs → js ≡ is
same_world_imports is es js fs e = cc

same_world_exports : (is es js fs : Items) → composite item world is es ≡ composite item world js fs → fs ≡ es
same_world_exports is es js fs e = cc

brought_in : (of : WitSources) (w v : PlacedWorld) (i : IncludeItem) → SaysInclude of w v i → BringsIn of w (i.renames.items ∷ []) v
brought_in of w v i says = by_include i says itself

pub included_renamed : IncludedStandRenamed
included_renamed = record {
  imports = λ of w v i id sig g is es says has f t. subst (λ (js : Items). IsSome (item_at js (renamed i.renames.items (ident_text id)))) (same_world_imports is es t.imports t.exports t.tree) (t.are_imports.all _ (leaf item (func g)) (extern_func id sig (brought_in of w v i says) has f));
  exports = λ of w v i id sig g is es says has f t. subst (λ (js : Items). IsSome (item_at js (renamed i.renames.items (ident_text id)))) (same_world_exports is es t.imports t.exports t.tree) (t.are_exports.all _ (leaf item (func g)) (extern_func id sig (brought_in of w v i says) has f));
}

-- ---- one tree of a world

one_option : (of : WitSources) (a b : Option ItemTree) → ((x : ItemTree) → a ≡ Some x → IsSome b) → ((y : ItemTree) → b ≡ Some y → IsSome a) → ((x y : ItemTree) → a ≡ Some x → b ≡ Some y → IsOneItem of x y) → AreOneAt of a b
one_option of None None f g h = tt
one_option of None (Some y) f g h = absurd (let no : false ≡ true = g y refl in cc)
one_option of (Some x) None f g h = absurd (let no : false ≡ true = f x refl in cc)
one_option of (Some x) (Some y) f g h = h x y refl refl

one_side : (of : WitSources) (k : ExternKind) (w : PlacedWorld) (is js : Items) (n : Text) → HasOneExtern of w → AreWorldExterns of k w is → AreWorldExterns of k w js → AreOneAt of (item_at is n) (item_at js n)
one_side of k w is js n one a b = one_option of (item_at is n) (item_at js n) (λ x at. b.all n x (a.each n x at)) (λ y at. a.all n y (b.each n y at)) (λ x y at by. one k n x y (a.each n x at) (b.each n y by))

world_sides : (of : WitSources) (w : PlacedWorld) (is es : Items) → IsWorldTree of w (composite item world is es) → AreWorldExterns of Import w is × AreWorldExterns of Export w es
world_sides of w is es t = (subst (AreWorldExterns of Import w) (same_world_imports is es t.imports t.exports t.tree) t.are_imports, subst (AreWorldExterns of Export w) (same_world_exports is es t.imports t.exports t.tree) t.are_exports)

pub one_world_tree : WorldsHaveOneTree
one_world_tree of w is es js fs n one t u =
    let a = world_sides of w is es t in
    let b = world_sides of w js fs u in
    (one_side of Import w is js n one a.0 b.0, one_side of Export w es fs n one a.1 b.1)

-- ---- trees of one text fit

fits_itself : (o : Option ItemTree) → FitsAt o o
fits_itself None = not_asked
fits_itself (Some x) = there_fits (Fits-refl x)

same_tree_fits : (x y : ItemTree) → x ≡ y → Fits x y
same_tree_fits x y same = subst (Fits x) same (Fits-refl x)

interface_trees_fit : (of : WitSources) (w : ScopeSyntax) (is : List InterfaceItem) (x y : ItemTree) → HasOneItem (interface_setting of w is) → IsInterfaceTree of w is x → IsInterfaceTree of w is y → Fits x y
interface_trees_fit of w is x y one a b = subst (λ (t : ItemTree). Fits t y) (sym a.tree) (subst (Fits (composite item interface no_items a.exports)) (sym b.tree) (composites
    (λ n. subst (FitsAt (item_at a.exports n)) (same_options (item_at a.exports n) (item_at b.exports n) (λ t at. b.all n t (a.each n t at)) (λ t at. a.all n t (b.each n t at)) (λ t u at by. one n t u (a.each n t at) (b.each n u by))) (fits_itself (item_at a.exports n)))
    (λ n. not_asked)))

one_item_fits : (of : WitSources) (x y : ItemTree) → IsOneItem of x y → Fits x y
one_item_fits of x y (inl same) = same_tree_fits x y same
one_item_fits of x y (inr h) = interface_trees_fit of h.scope h.items x y h.one h.left h.right

one_at_fits : (of : WitSources) (a b : Option ItemTree) → AreOneAt of a b → FitsAt a b
one_at_fits of None None h = not_asked
one_at_fits of None (Some y) h = absurd h
one_at_fits of (Some x) None h = absurd h
one_at_fits of (Some x) (Some y) h = there_fits (one_item_fits of x y h)

world_trees_fit : (of : WitSources) (w : PlacedWorld) (x y : ItemTree) → HasOneExtern of w → IsWorldTree of w x → IsWorldTree of w y → Fits x y
world_trees_fit of w x y one a b = subst (λ (t : ItemTree). Fits t y) (sym a.tree) (subst (Fits (composite item world a.imports a.exports)) (sym b.tree) (composites
    (λ n. one_at_fits of (item_at a.exports n) (item_at b.exports n) (one_side of Export w a.exports b.exports n one a.are_exports b.are_exports))
    (λ n. one_at_fits of (item_at b.imports n) (item_at a.imports n) (one_side of Import w b.imports a.imports n one b.are_imports a.are_imports))))

pub one_text_fits : TreesOfOneTextFit
one_text_fits = record {
  interfaces = λ of w i d x y one has a b. interface_trees_fit of w d.items.items x y (one w i d has) a b;
  worlds = world_trees_fit;
}
