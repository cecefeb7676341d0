-- Where all is marked, and all that is needed is there, a world imports and exports what its text says, and no more.
use Rattle.std.proofs.Common.{◌≡◌, ◌≢◌, inl, inr, ℕ, List, [], ◌∷◌, Contains, Some, arith, refl, sym, ap, subst, ◌∙◌, get_or, ◌<◌}
use Rattle.std.specs.Prelude.{slice_get}
use Rattle.std.proofs.lemmas.Option.{slice_get-get_or}
use Rattle.std.specs.Borrow.{Bor}
use Rattle.wac_model.specs.ItemTree.{ItemTree, func, item, leaf}
use Rattle.wac_model.specs.Text.{Text}
use Rattle.wac_model.specs.ValueTree.{FuncTree}
use Rattle.wac_component.proofs.Among.{Contains-cases, Contains-first, Contains-later}
use Rattle.wac_component.specs.Collection.{Collection, WorldContent}
use Rattle.wac_component.specs.Id.{Id}
use Rattle.wac_component.specs.Tree.{item_tree, items_of}
use Rattle.wac_component.specs.declared.items.ItemKind.{ItemKind}
use Rattle.wac_component.specs.declared.items.ItemKind.TheVariants.{Component, Func, Instance, Module as OfModule, «Type» as OfType, Value as OfValue}
use Rattle.wac_component.specs.declared.items.Type.{«Type» as TypeOf}
use Rattle.wac_component.specs.declared.items.Type.TheVariants.{Func as TypeFunc, Interface as TypeInterface, Module as TypeModule, Resource as TypeResource, Value as TypeValue, World as TypeWorld}
use Rattle.wac_component.specs.declared.worlds.ExternKind.{ExternKind}
use Rattle.wac_component.specs.declared.worlds.ExternKind.TheVariants.{Import, Export}
use Rattle.wac_wit_syntax.specs.declared.tree.Extern.{Extern}
use Rattle.wac_wit_syntax.specs.declared.tree.Extern.TheVariants as extern
use Rattle.wac_wit_syntax.specs.declared.tree.ExternItem.{ExternItem}
use Rattle.wac_wit_syntax.specs.declared.tree.IncludeItem.{IncludeItem}
use Rattle.wac_wit_syntax.specs.declared.tree.InterfaceItem.{InterfaceItem}
use Rattle.wac_wit_syntax.specs.declared.tree.InterfaceItem.TheVariants as inside
use Rattle.wac_wit_validation_types.specs.Interfaces.{HasExportOf, a_func, a_method, a_type, named_tree}
use Rattle.wac_wit_syntax.specs.declared.tree.Rename.{Rename}
use Rattle.wac_wit_syntax.specs.declared.tree.TypeItem.{TypeItem}
use Rattle.wac_wit_syntax.specs.declared.tree.UseItem.{UseItem}
use Rattle.wac_wit_syntax.specs.declared.tree.WorldItem.{WorldItem}
use Rattle.wac_wit_syntax.specs.declared.tree.WorldItem.TheVariants as of_world
use Rattle.wac_wit_validation_types.specs.Exports.{HasItem, IsRepresented, Offers}
use Rattle.wac_wit_validation_types.specs.Denoted.{Denoted, NamesType, defined, renamed_by, resource_type, used, value_type}
use Rattle.wac_wit_validation_types.specs.Functions.{HasMethod, of_resource}
use Rattle.wac_wit_validation_types.specs.Placed.{PlacedInterface, PlacedWorld, placed_identifier}
use Rattle.wac_wit_scopes.specs.WitSources.{IsEnabled, WitSources}
use Rattle.wac_wit_validation.specs.WorldChecking.{AreInterfacesThere, AreItemsOf, AreLayersOf, AreMarksOf, AreNamingItems, ExportNeeds, GivesNames, HasAllNeeds, HasNamed, HasOwnName}
use Rattle.wac_wit_validation.specs.WorldChecking.{ImportNeeds, IsEntryOf, IsImportedOrExported, IsItemRepresented, IsMarkedAs, IsNamedThere, IsPathThere, KnowsWorlds, OffersItem}
use Rattle.wac_wit_validation.specs.WorldClauses.{CoversLayer}
use Rattle.wac_wit_validation_types.specs.Reading.{imported_name}
use Rattle.wac_wit_validation_types.specs.Worlds.{AreWorldExterns, BringsIn, ExportsInterface, HasExternInterface, HasExternOf, ImportsInterface, IsUsedByExport, IsWorldTree, SaysExtern}
use Rattle.wac_wit_validation_types.specs.Worlds.{SaysInclude, SaysInterface, by_include, extern_func, extern_inline, extern_interface, extern_item, extern_method, extern_type, imported}
use Rattle.wac_wit_validation_types.specs.Worlds.{itself, types_of_world, used_by_export, used_by_import, used_by_inline, used_by_interface, used_by_world, used_inside, uses_of_world}
use Rattle.wac_wit_validation_types.specs.Worlds.{world_setting}
use Rattle.wac_wit_validation_names.specs.declared.layers.Layer.{Layer}
use Rattle.wac_wit_validation.specs.declared.marks.WorldMarks.{WorldMarks}
use Rattle.wac_wit_validation.specs.declared.marks.ExternMark.{ExternMark}
use Rattle.wac_wit_validation.specs.declared.marks.ExternMark.TheVariants.{Unmarked, Found}
use Rattle.wac_wit_validation.specs.declared.marks.ExternMarks.{ExternMarks}
use Rattle.wac_wit_validation.specs.declared.validator.Validator.{Validator}
use Rattle.wac_wit_validation.proofs.FoundFacts.{item_of, item_there}
use Rattle.wac_wit_validation_types.proofs.MarkFacts.{has_item_at}
use Rattle.wac_wit_validation.proofs.WorldFacts.{IsPlacedAt-one, extern_marked}

-- a `use` of a world is one of its items
pub use_of_world : (u : UseItem) (is : List WorldItem) → Contains (uses_of_world is) u → Contains is (of_world.Use u)
use_of_world u [] (k, h, e) = absurd (omega (arith, h))
use_of_world u (of_world.Use x ∷ is) among = elim (Contains-cases u x (uses_of_world is) among) [ inl e ↦ subst (λ (y : UseItem). Contains (of_world.Use x ∷ is) (of_world.Use y)) e (Contains-first (of_world.Use x) is) | inr h ↦ Contains-later (of_world.Use u) (of_world.Use x) is (use_of_world u is h) ]
use_of_world u (of_world.Type x ∷ is) among = Contains-later (of_world.Use u) (of_world.Type x) is (use_of_world u is among)
use_of_world u (of_world.Include x ∷ is) among = Contains-later (of_world.Use u) (of_world.Include x) is (use_of_world u is among)
use_of_world u (of_world.Import x ∷ is) among = Contains-later (of_world.Use u) (of_world.Import x) is (use_of_world u is among)
use_of_world u (of_world.Export x ∷ is) among = Contains-later (of_world.Use u) (of_world.Export x) is (use_of_world u is among)

-- and the other way round
pub use_in_world : (u : UseItem) (is : List WorldItem) → Contains is (of_world.Use u) → Contains (uses_of_world is) u
use_in_world u [] (k, h, e) = absurd (omega (arith, h))
use_in_world u (of_world.Use x ∷ is) among = elim (Contains-cases (of_world.Use u) (of_world.Use x) is among) [ inl e ↦ subst (λ (y : UseItem). Contains (x ∷ uses_of_world is) y) (cc e) (Contains-first x (uses_of_world is)) | inr h ↦ Contains-later u x (uses_of_world is) (use_in_world u is h) ]
use_in_world u (of_world.Type x ∷ is) among = elim (Contains-cases (of_world.Use u) (of_world.Type x) is among) [ inl e ↦ absurd (cc e) | inr h ↦ use_in_world u is h ]
use_in_world u (of_world.Include x ∷ is) among = elim (Contains-cases (of_world.Use u) (of_world.Include x) is among) [ inl e ↦ absurd (cc e) | inr h ↦ use_in_world u is h ]
use_in_world u (of_world.Import x ∷ is) among = elim (Contains-cases (of_world.Use u) (of_world.Import x) is among) [ inl e ↦ absurd (cc e) | inr h ↦ use_in_world u is h ]
use_in_world u (of_world.Export x ∷ is) among = elim (Contains-cases (of_world.Use u) (of_world.Export x) is among) [ inl e ↦ absurd (cc e) | inr h ↦ use_in_world u is h ]

pub type_of_world : (t : TypeItem) (is : List WorldItem) → Contains (types_of_world is) t → Contains is (of_world.Type t)
type_of_world t [] (k, h, e) = absurd (omega (arith, h))
type_of_world t (of_world.Use x ∷ is) among = Contains-later (of_world.Type t) (of_world.Use x) is (type_of_world t is among)
type_of_world t (of_world.Type x ∷ is) among = elim (Contains-cases t x (types_of_world is) among) [ inl e ↦ subst (λ (y : TypeItem). Contains (of_world.Type x ∷ is) (of_world.Type y)) e (Contains-first (of_world.Type x) is) | inr h ↦ Contains-later (of_world.Type t) (of_world.Type x) is (type_of_world t is h) ]
type_of_world t (of_world.Include x ∷ is) among = Contains-later (of_world.Type t) (of_world.Include x) is (type_of_world t is among)
type_of_world t (of_world.Import x ∷ is) among = Contains-later (of_world.Type t) (of_world.Import x) is (type_of_world t is among)
type_of_world t (of_world.Export x ∷ is) among = Contains-later (of_world.Type t) (of_world.Export x) is (type_of_world t is among)

pub type_in_world : (t : TypeItem) (is : List WorldItem) → Contains is (of_world.Type t) → Contains (types_of_world is) t
type_in_world t [] (k, h, e) = absurd (omega (arith, h))
type_in_world t (of_world.Use x ∷ is) among = elim (Contains-cases (of_world.Type t) (of_world.Use x) is among) [ inl e ↦ absurd (cc e) | inr h ↦ type_in_world t is h ]
type_in_world t (of_world.Type x ∷ is) among = elim (Contains-cases (of_world.Type t) (of_world.Type x) is among) [ inl e ↦ subst (λ (y : TypeItem). Contains (x ∷ types_of_world is) y) (cc e) (Contains-first x (types_of_world is)) | inr h ↦ Contains-later t x (types_of_world is) (type_in_world t is h) ]
type_in_world t (of_world.Include x ∷ is) among = elim (Contains-cases (of_world.Type t) (of_world.Include x) is among) [ inl e ↦ absurd (cc e) | inr h ↦ type_in_world t is h ]
type_in_world t (of_world.Import x ∷ is) among = elim (Contains-cases (of_world.Type t) (of_world.Import x) is among) [ inl e ↦ absurd (cc e) | inr h ↦ type_in_world t is h ]
type_in_world t (of_world.Export x ∷ is) among = elim (Contains-cases (of_world.Type t) (of_world.Export x) is among) [ inl e ↦ absurd (cc e) | inr h ↦ type_in_world t is h ]

-- the types of a world are those of its setting
pub items_in_setting : (of : WitSources) (rss : List (List Rename)) (w : PlacedWorld) (x : WorldItem) → Contains w.decl.items.items x → OffersItem (world_setting of rss w) x
items_in_setting of rss w (of_world.Use u) among = use_in_world u w.decl.items.items among
items_in_setting of rss w (of_world.Type t) among = type_in_world t w.decl.items.items among
items_in_setting of rss w (of_world.Include i) among = tt
items_in_setting of rss w (of_world.Import e) among = tt
items_in_setting of rss w (of_world.Export e) among = tt

-- ---- the types of a world that comes in

pub no_func : (c : Collection) (g : FuncTree) (t : TypeOf) → leaf item (func g) ≡ item_tree c (OfType t) → ⊥
no_func c g (TypeValue v) e = cc
no_func c g (TypeResource r) e = cc
no_func c g (TypeFunc f) e = cc
no_func c g (TypeInterface i) e = cc
no_func c g (TypeWorld w) e = cc
no_func c g (TypeModule m) e = cc

abbrev IsNoType : ItemKind → Type 0
IsNoType (OfType t) = ⊥
IsNoType k = Unit {0}

no_type : (c : Collection) (m : Denoted) (k : ItemKind) → IsNoType k → named_tree m ≡ item_tree c k → ⊥
no_type c (value_type v) (OfType t) is e = is
no_type c (value_type v) (Func f) is e = cc
no_type c (value_type v) (Instance i) is e = cc
no_type c (value_type v) (Component w) is e = cc
no_type c (value_type v) (OfModule m) is e = cc
no_type c (value_type v) (OfValue x) is e = cc
no_type c (resource_type r) (OfType t) is e = is
no_type c (resource_type r) (Func f) is e = cc
no_type c (resource_type r) (Instance i) is e = cc
no_type c (resource_type r) (Component w) is e = cc
no_type c (resource_type r) (OfModule m) is e = cc
no_type c (resource_type r) (OfValue x) is e = cc

module _ (of : WitSources) (w x : PlacedWorld) (rss : List (List Rename)) (brings : BringsIn of w rss x) (c : Collection) (n : Text) where
  type_extern : (k : TypeOf) (t : ItemTree) → t ≡ item_tree c (OfType k) → HasExportOf (world_setting of rss x) n t → HasExternOf of Import w (renamed_by rss n) t
  type_extern k t same (a_type names) = extern_type brings names
  type_extern k t same (a_func f among there is) = absurd (omega (arith, among.1))
  type_extern k t same (a_method {g = g} has) = absurd (no_func c g k same)

  other_extern : (k : ItemKind) → IsNoType k → (t : ItemTree) → t ≡ item_tree c k → HasExportOf (world_setting of rss x) n t → HasExternOf of Import w n t
  other_extern k none t same (a_type {m = m} names) = absurd (no_type c m k none same)
  other_extern k none t same (a_func f among there is) = absurd (omega (arith, among.1))
  other_extern k none t same (a_method has) = extern_method brings has

  -- a type, or a function of a resource, of a world that comes in is imported
  pub own_extern : (k : ItemKind) → HasExportOf (world_setting of rss x) n (item_tree c k) → HasExternOf of Import w (imported_name rss n k) (item_tree c k)
  own_extern (OfType k) has = type_extern k _ refl has
  own_extern (Func f) has = other_extern (Func f) tt _ refl has
  own_extern (Instance i) has = other_extern (Instance i) tt _ refl has
  own_extern (Component v) has = other_extern (Component v) tt _ refl has
  own_extern (OfModule m) has = other_extern (OfModule m) tt _ refl has
  own_extern (OfValue v) has = other_extern (OfValue v) tt _ refl has

-- where the items that give names have exports, each of the setting's does
pub setting_represented : (of : WitSources) (rss : List (List Rename)) (w : PlacedWorld) (es : List (Text × ItemKind)) (bs : List (Bor WorldItem)) → AreNamingItems of w.decl.items.items bs
    → ((b : Bor WorldItem) → Contains bs b → IsItemRepresented (world_setting of rss w) es b.now) → (x : InterfaceItem) → Offers (world_setting of rss w) x → IsRepresented (world_setting of rss w) es x
setting_represented of rss w es bs naming all (inside.Use u) offered = λ there r within.
    let one = naming.all (of_world.Use u) (use_of_world u w.decl.items.items offered) (there, (r, within)) in
    subst (IsItemRepresented (world_setting of rss w) es) one.2 (all one.0 one.1) there r within
setting_represented of rss w es bs naming all (inside.Type t) offered = λ there.
    let one = naming.all (of_world.Type t) (type_of_world t w.decl.items.items offered) there in
    subst (IsItemRepresented (world_setting of rss w) es) one.2 (all one.0 one.1) there
setting_represented of rss w es bs naming all (inside.Func f) offered = absurd (omega (arith, offered.1))

-- what is said under names of its own is there, if each item that gives names has it there
module _ (of : WitSources) (k : ExternKind) (rss : List (List Rename)) (x : PlacedWorld) (es : List (Text × ItemKind)) (bs : List (Bor WorldItem)) (naming : AreNamingItems of x.decl.items.items bs)
    (covers : (b : Bor WorldItem) → Contains bs b → (e : ExternItem) → b.now ≡ extern_item k e → IsEnabled of e.gates → IsNamedThere rss es e.what) where
  gives_extern : (j : ExternKind) (e : ExternItem) → IsEnabled of e.gates → HasOwnName e.what → GivesNames of (extern_item j e)
  gives_extern Import e there own = (there, own)
  gives_extern Export e there own = (there, own)

  said_there : (y : Extern) → HasOwnName y → SaysExtern of x k y → IsNamedThere rss es y
  said_there y own says =
      let one = naming.all (extern_item k says.item) says.among (gives_extern k says.item says.there (subst HasOwnName (sym says.what) own)) in
      subst (IsNamedThere rss es) says.what (covers one.0 one.1 says.item one.2 says.there)

  pub named_there : (y : Extern) → SaysExtern of x k y → IsNamedThere rss es y
  named_there (extern.Path p) says = tt
  named_there (extern.Named n p) says = tt
  named_there (extern.Func id sig) says = said_there (extern.Func id sig) tt says
  named_there (extern.Inline id is) says = said_there (extern.Inline id is) tt says

-- ---- what gives names

module _ (of : WitSources) (rss : List (List Rename)) (w : PlacedWorld) where
  abbrev NamingItem : Type 0
  NamingItem = (t : WorldItem) × Contains w.decl.items.items t × GivesNames of t

  -- an item gives the name of a type
  pub naming_type : (n : Text) (m : Denoted) → NamesType (world_setting of rss w) n m → NamingItem
  naming_type n m (defined t among there named is) = (of_world.Type t, type_of_world t w.decl.items.items among, there)
  naming_type n m (used u r d among there within named leads has names) = (of_world.Use u, use_of_world u w.decl.items.items among, (there, (r, within)))

  pub naming_method : (n : Text) (g : FuncTree) → HasMethod (world_setting of rss w) n g → NamingItem
  naming_method n g (of_resource t ms m among there is within enabled is_method) = (of_world.Type t, type_of_world t w.decl.items.items among, there)

  pub naming_extern : (k : ExternKind) (y : Extern) → HasOwnName y → SaysExtern of w k y → NamingItem
  naming_extern Import y own says = (of_world.Import says.item, says.among, (says.there, subst HasOwnName (sym says.what) own))
  naming_extern Export y own says = (of_world.Export says.item, says.among, (says.there, subst HasOwnName (sym says.what) own))

module _ (of : WitSources) (v : Validator) (w : PlacedWorld) (e : WorldContent) (ls : List Layer) (layers : AreLayersOf of v w ls) (covers : (l : Layer) → Contains ls l → CoversLayer v e l) (knows : KnowsWorlds of v)
    (rss : List (List Rename)) (x : PlacedWorld) (brings : BringsIn of w rss x) where
  covered : NamingItem of rss x → HasNamed of rss x e
  covered it = let one = layers.all rss x it.0 brings it.1 it.2 in covers one.0 one.1 of rss x knows one.2

  said_import : (y : Extern) → SaysExtern of x Import y → IsNamedThere rss e.imports y
  said_import (extern.Path p) says = tt
  said_import (extern.Named n p) says = tt
  said_import (extern.Func id sig) says = (covered (naming_extern of rss x Import (extern.Func id sig) tt says)).imports (extern.Func id sig) says
  said_import (extern.Inline id is) says = (covered (naming_extern of rss x Import (extern.Inline id is) tt says)).imports (extern.Inline id is) says

  said_export : (y : Extern) → SaysExtern of x Export y → IsNamedThere rss e.exports y
  said_export (extern.Path p) says = tt
  said_export (extern.Named n p) says = tt
  said_export (extern.Func id sig) says = (covered (naming_extern of rss x Export (extern.Func id sig) tt says)).exports (extern.Func id sig) says
  said_export (extern.Inline id is) says = (covered (naming_extern of rss x Export (extern.Inline id is) tt says)).exports (extern.Inline id is) says

  -- where each layer's world has what it says, each world that comes in does
  pub HasNamed-layers : HasNamed of rss x e
  HasNamed-layers = record {
    imports = said_import;
    exports = said_export;
    types = λ n m names. (covered (naming_type of rss x n m names)).types n m names;
    methods = λ n g has. (covered (naming_method of rss x n g has)).methods n g has;
  }

module _ (of : WitSources) (v : Validator) (w : PlacedWorld) (k : ExternKind) (es : List (Text × ItemKind)) (m : ExternMarks) (marks : AreMarksOf of v w k es m) where
  -- what is marked stands under its identifier
  pub item_marked : (i : PlacedInterface) → IsMarkedAs v m i → HasItem es (placed_identifier i)
  item_marked i h =
      let here = marks.each h.place (Found h.mark) h.at in
      subst (λ (j : PlacedInterface). HasItem es (placed_identifier j)) (IsPlacedAt-one v h.mark.place here.0 i here.1.found.at h.is) (has_item_at es h.place (placed_identifier here.0) _ here.1.at)

  -- where all are marked, each is imported or exported
  pub each_marked : ((n : ℕ) (x : ExternMark) → slice_get m.marks.items n ≡ Some x → x ≢ Unmarked) → (e : Text × ItemKind) → Contains es e → HasExternOf of k w e.0 (item_tree v.types.now e.1)
  each_marked all e among = extern_marked of v w k es among.0 (mark among) e (all among.0 (mark among) (at_mark among)) (marks.each among.0 (mark among) (at_mark among)) (slice_get-get_or es among.0 e among.1 ∙ ap (λ (x : Text × ItemKind). Some x) among.2)
    where
      open_mark : (n : ℕ) → ExternMark
      open_mark n = get_or m.marks.items n Unmarked

      mark : Contains es e → ExternMark
      mark among = open_mark among.0

      at_mark : (among : Contains es e) → slice_get m.marks.items among.0 ≡ Some (open_mark among.0)
      at_mark among = slice_get-get_or m.marks.items among.0 Unmarked (subst (λ (l : ℕ). among.0 < l) (sym marks.even) among.1)

module _ (of : WitSources) (v : Validator) (w : PlacedWorld) (m : WorldMarks) (needs : HasAllNeeds of v w m) where
  import_needs : (x : Extern) → SaysExtern of w Import x → ImportNeeds of v w m x
  import_needs x says = subst (ImportNeeds of v w m) says.what (needs.items (of_world.Import says.item) says.among says.there)

  export_needs : (x : Extern) → SaysExtern of w Export x → ExportNeeds of v w m x
  export_needs x says = subst (ExportNeeds of v w m) says.what (needs.items (of_world.Export says.item) says.among says.there)

  needed_by_export : (i : PlacedInterface) → IsUsedByExport of w i → IsImportedOrExported of v w m.imports i
  needed_by_export i (used_by_interface {v = x} p says leads uses) = export_needs (extern.Path p) says x i leads uses
  needed_by_export i (used_by_inline id is says uses) = export_needs (extern.Inline id is) says i uses

  -- each interface that is imported is marked
  pub import_marked : (i : PlacedInterface) → ImportsInterface of w i → IsMarkedAs v m.imports i
  import_marked i (imported p says leads) = import_needs (extern.Path p) says i leads
  import_marked i (used_by_world uses) = needs.items (of_world.Use uses.item) (use_of_world uses.item w.decl.items.items uses.among) i (record { item = uses.item; name = uses.name; among = Contains-first uses.item []; there = uses.there; within = uses.within; leads = uses.leads })
  import_marked i (used_inside id is says uses) = import_needs (extern.Inline id is) says i uses
  import_marked i (used_by_export by none) = elim (needed_by_export i by) [ inl h ↦ h | inr h ↦ absurd (none h) ]
  import_marked i (used_by_import {v = x} has uses) = needs.closed x i (import_marked x has) uses

-- ---- nothing is left out

module _ (of : WitSources) (k : ExternKind) (i : PlacedInterface) (es : List (Text × ItemKind)) where
  by_brings : {w x : PlacedWorld} {rss : List (List Rename)} → BringsIn of w rss x → SaysInterface of k x i → (SaysInterface of k w i → HasItem es (placed_identifier i))
      → ((y : PlacedWorld) (j : IncludeItem) → SaysInclude of w y j → AreInterfacesThere of k y es) → HasItem es (placed_identifier i)
  by_brings itself says own included = own says
  by_brings (by_include j inc rest) says own included = included _ j inc i (record { renames = _; inside = _; brings = rest; says = says })

-- the interfaces of a world are there, if its own are, and those of the worlds that it includes
pub interfaces_there : (of : WitSources) (w : PlacedWorld) (k : ExternKind) (es : List (Text × ItemKind)) → ((i : PlacedInterface) → SaysInterface of k w i → HasItem es (placed_identifier i))
    → ((x : PlacedWorld) (j : IncludeItem) → SaysInclude of w x j → AreInterfacesThere of k x es) → AreInterfacesThere of k w es
interfaces_there of w k es own included i h = by_brings of k i es h.brings h.says (own i) included

-- the interfaces that a world says that it exports are there
pub exports_there : (of : WitSources) (w : PlacedWorld) (es : List (Text × ItemKind)) → ((x : Extern) → SaysExtern of w Export x → IsPathThere of w.scope es x) → (i : PlacedInterface) → ExportsInterface of w i → HasItem es (placed_identifier i)
exports_there of w es said i h = said (extern.Path h.path) h.says i h.leads

module _ (of : WitSources) (w : PlacedWorld) (e : WorldContent) (named : (rss : List (List Rename)) (x : PlacedWorld) → BringsIn of w rss x → HasNamed of rss x e) where
  pub all_imports : AreInterfacesThere of Import w e.imports → (k : ExternKind) → k ≡ Import → (n : Text) (x : ItemTree) → HasExternOf of k w n x → HasItem e.imports n
  all_imports there k same n x (extern_interface i has tree) = there i (subst (λ (q : ExternKind). HasExternInterface of q w i) same has)
  all_imports there k same n x (extern_inline {v = v} {rss = rss} id is brings says tree) = (named rss v brings).imports (extern.Inline id is) (subst (λ (q : ExternKind). SaysExtern of v q (extern.Inline id is)) same says)
  all_imports there k same n x (extern_func {v = v} {rss = rss} id sig brings says is) = (named rss v brings).imports (extern.Func id sig) (subst (λ (q : ExternKind). SaysExtern of v q (extern.Func id sig)) same says)
  all_imports there k same n x (extern_type {v = v} {rss = rss} {n = t} {m = m} brings names) = (named rss v brings).types t m names
  all_imports there k same n x (extern_method {v = v} {rss = rss} {g = g} brings has) = (named rss v brings).methods n g has

  pub all_exports : AreInterfacesThere of Export w e.exports → (k : ExternKind) → k ≡ Export → (n : Text) (x : ItemTree) → HasExternOf of k w n x → HasItem e.exports n
  all_exports there k same n x (extern_interface i has tree) = there i (subst (λ (q : ExternKind). HasExternInterface of q w i) same has)
  all_exports there k same n x (extern_inline {v = v} {rss = rss} id is brings says tree) = (named rss v brings).exports (extern.Inline id is) (subst (λ (q : ExternKind). SaysExtern of v q (extern.Inline id is)) same says)
  all_exports there k same n x (extern_func {v = v} {rss = rss} id sig brings says is) = (named rss v brings).exports (extern.Func id sig) (subst (λ (q : ExternKind). SaysExtern of v q (extern.Func id sig)) same says)
  all_exports there k same n x (extern_type brings names) = absurd (cc)
  all_exports there k same n x (extern_method brings has) = absurd (cc)

-- the items of an entry, and what their trees are
pub AreWorldExterns-items : (of : WitSources) (v : Validator) (w : PlacedWorld) (k : ExternKind) (es : List (Text × ItemKind)) → AreItemsOf of v w k es → AreWorldExterns of k w (items_of (item_tree v.types.now) es)
AreWorldExterns-items of v w k es h = record {
  each = λ n x at. let found = item_of (item_tree v.types.now) es n x at in subst (λ j. HasExternOf of k w j x) found.2 (subst (HasExternOf of k w found.0.0) found.3 (h.each found.0 found.1));
  all = λ n x has. item_there (item_tree v.types.now) es n (h.all n x has);
}

-- the tree of a world's entry
pub tree_of_world : (of : WitSources) (v : Validator) (w : PlacedWorld) (id : Id) (e : WorldContent) → IsEntryOf v.types.now id e → AreItemsOf of v w Import e.imports → AreItemsOf of v w Export e.exports → IsWorldTree of w (item_tree v.types.now (Component id))
tree_of_world of v w id e entry imports exports = record {
  imports = items_of (item_tree v.types.now) e.imports;
  exports = items_of (item_tree v.types.now) e.exports;
  tree = rw entry.externs refl;
  are_imports = AreWorldExterns-items of v w Import e.imports imports;
  are_exports = AreWorldExterns-items of v w Export e.exports exports;
}
