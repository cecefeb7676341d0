-- What a world imports or exports under a name is one thing, where it and those that come into it give each name once.
use Rattle.std.proofs.Common.{◌≡◌, ◌∙◌, ◌⊎◌, inl, inr, ℕ, ◌+◌, List, [], Contains, Option, Some, Vec, Global, arith, refl, sym, ap, subst}
use Rattle.std.specs.Prelude.{slice_get}
use Rattle.std.specs.Borrow.{Bor}
use Rattle.std.proofs.lemmas.Option.{same_Some}
use Rattle.wac_model.specs.ItemTree.{ItemTree, func, item, leaf}
use Rattle.wac_model.specs.Text.{Text}
use Rattle.wac_model.specs.ValueTree.{FuncTree, ValueTree}
use Rattle.wac_component.specs.declared.worlds.ExternKind.{ExternKind}
use Rattle.wac_component.specs.declared.worlds.ExternKind.TheVariants.{Import, Export}
use Rattle.wac_wit_syntax.specs.declared.tree.Extern.{Extern}
use Rattle.wac_wit_syntax.specs.declared.tree.Extern.TheVariants as extern
use Rattle.wac_wit_syntax.specs.declared.tree.ExternItem.{ExternItem}
use Rattle.wac_wit_syntax.specs.declared.tree.Method.{Method}
use Rattle.wac_wit_syntax.specs.declared.tree.Path.{Path}
use Rattle.wac_wit_syntax.specs.declared.tree.Rename.{Rename}
use Rattle.wac_wit_syntax.specs.declared.tree.Signature.{Signature}
use Rattle.wac_wit_syntax.specs.declared.tree.TypeDef.TheVariants as def
use Rattle.wac_wit_syntax.specs.declared.tree.TypeItem.{TypeItem}
use Rattle.wac_wit_syntax.specs.declared.tree.UseItem.{UseItem}
use Rattle.wac_wit_syntax.specs.declared.tree.WorldItem.{WorldItem}
use Rattle.wac_wit_syntax.specs.declared.tree.WorldItem.TheVariants as of_world
use Rattle.wac_wit_scopes.specs.WitSources.{HasInterface, IsEnabled, IsScopeOf, ScopeSyntax, WitSources, given_name, ident_text}
use Rattle.wac_wit_validation_names.proofs.AmbiguityFacts.{slice_get-among}
use Rattle.wac_wit_validation_names.proofs.OnceFacts.{once_inside}
use Rattle.wac_wit_validation_names.proofs.OneExport.{one_export}
use Rattle.wac_wit_validation_types.proofs.OneMeaning.{one_own_func, one_own_name}
use Rattle.wac_wit_validation_types.proofs.Resettled.{moved_func, moved_name}
use Rattle.wac_wit_validation.proofs.WorldFacts.{IsWorldAt-one, world_placed}
use Rattle.wac_wit_validation.proofs.WorldWhole.{type_in_world, type_of_world, use_of_world}
use Rattle.wac_wit_validation.specs.Checking.{Knows}
use Rattle.wac_wit_validation_types.specs.Denoted.{Denoted, NamesType, Setting, defined, funcs_in, renamed_by, type_name, types_in, used, uses_in}
use Rattle.wac_wit_validation_types.specs.Functions.{HasMethod, IsFuncOf, IsMethodOf, method_name, of_resource}
use Rattle.wac_wit_validation_names.specs.GivenNames.{GivesNewName, IsGivenAt}
use Rattle.wac_wit_validation_names.specs.WorldOnce.{GiveOnce, GivesExtern, GivesItem, GivesWhat}
use Rattle.wac_wit_validation_types.specs.Interfaces.{IsInterfaceTree, named_tree}
use Rattle.wac_wit_validation_names.specs.Once.{InsideGivesOnce}
use Rattle.wac_wit_validation_types.specs.OneMeaning.{GivesOnce, GivesType, GivesUse}
use Rattle.wac_wit_validation_types.specs.Reading.{AreNamesBy, new_name}
use Rattle.wac_wit_validation_types.specs.OneWorld.{HasOneExtern, IsOneItem}
use Rattle.wac_wit_validation_types.specs.Placed.{LeadsToInterface, PlacedInterface, PlacedWorld, placed_identifier}
use Rattle.wac_wit_validation.specs.WorldChecking.{AreLayersOf, GivesNames, HasOwnName, IsLayerOf, IsWorldAt}
use Rattle.wac_wit_validation_types.specs.Worlds.{BringsIn, HasExternInterface, HasExternOf, ImportsInterface, IsUsedByExport, SaysExtern, SaysInterface, extern_func, extern_inline}
use Rattle.wac_wit_validation_types.specs.Worlds.{extern_interface, extern_item, extern_method, extern_type, imported, types_of_world, used_by_export, used_by_import, used_by_inline}
use Rattle.wac_wit_validation_types.specs.Worlds.{used_by_interface, used_by_world, used_inside, world_setting, world_uses}
use Rattle.wac_wit_validation_names.specs.declared.given.NamePlace.{NamePlace}
use Rattle.wac_wit_validation_names.specs.declared.layers.Layer.{Layer}
use Rattle.wac_wit_validation_types.specs.declared.new_names.NewNames.{NewNames}
use Rattle.wac_wit_validation_names.specs.declared.places.ItemPlace.{ItemPlace}
use Rattle.wac_wit_validation.specs.declared.validator.Validator.{Validator}

-- ---- interfaces of packages

abbrev IsRead : WitSources → PlacedInterface → Type 0
IsRead of i = (n : Text) × HasInterface of i.scope n i.decl

led_is_read : (of : WitSources) (w : ScopeSyntax) (p : Path) (i : PlacedInterface) → LeadsToInterface of w p i → IsRead of i
led_is_read of w p i h = (h.name, h.has)

used_by_export_is_read : (of : WitSources) (w : PlacedWorld) (i : PlacedInterface) → IsUsedByExport of w i → IsRead of i
used_by_export_is_read of w i (used_by_interface p says leads uses) = led_is_read of _ _ i uses.leads
used_by_export_is_read of w i (used_by_inline id is says uses) = led_is_read of _ _ i uses.leads

import_is_read : (of : WitSources) (w : PlacedWorld) (i : PlacedInterface) → ImportsInterface of w i → IsRead of i
import_is_read of w i (imported p says leads) = led_is_read of _ _ i leads
import_is_read of w i (used_by_world uses) = led_is_read of _ _ i uses.leads
import_is_read of w i (used_inside id is says uses) = led_is_read of _ _ i uses.leads
import_is_read of w i (used_by_export by none) = used_by_export_is_read of w i by
import_is_read of w i (used_by_import imports uses) = led_is_read of _ _ i uses.leads

said_is_read : (of : WitSources) (k : ExternKind) (w : PlacedWorld) (i : PlacedInterface) → SaysInterface of k w i → IsRead of i
said_is_read of Import w i says = import_is_read of w i says
said_is_read of Export w i says = led_is_read of _ _ i says.leads

-- ---- what stands under a name, by its sort

record InterfaceAt (of : WitSources) (k : ExternKind) (w : PlacedWorld) (n : Text) (x : ItemTree) : Type 0 where
  interface : PlacedInterface
  has : HasExternInterface of k w interface
  tree : IsInterfaceTree of interface.scope interface.decl.items.items x
  named : placed_identifier interface ≡ n

-- the name of its own under which something is said
abbrev said_name : Extern → Text
said_name (extern.Inline id is) = ident_text id
said_name (extern.Func id sig) = ident_text id
said_name y = []

-- the tree of what is said so
abbrev SaidTree : WitSources → List (List Rename) → PlacedWorld → ItemTree → Extern → Type 0
SaidTree of rss v x (extern.Inline id is) = IsInterfaceTree of v.scope is.items x
SaidTree of rss v x (extern.Func id sig) = (g : FuncTree) × IsFuncOf (world_setting of rss v) sig [] (λ r. r) g × (x ≡ leaf item (func g))
SaidTree of rss v x y = ⊥

own_name : (of : WitSources) (rss : List (List Rename)) (v : PlacedWorld) (x : ItemTree) (y : Extern) → SaidTree of rss v x y → HasOwnName y
own_name of rss v x (extern.Inline id is) h = tt
own_name of rss v x (extern.Func id sig) h = tt
own_name of rss v x (extern.Path p) h = absurd h
own_name of rss v x (extern.Named n p) h = absurd h

record SaidAt (of : WitSources) (k : ExternKind) (w : PlacedWorld) (n : Text) (x : ItemTree) : Type 0 where
  renames : List (List Rename)
  inside : PlacedWorld
  brings : BringsIn of w renames inside
  said : Extern
  says : SaysExtern of inside k said
  tree : SaidTree of renames inside x said
  named : renamed_by renames (said_name said) ≡ n

record TypeAt (of : WitSources) (k : ExternKind) (w : PlacedWorld) (n : Text) (x : ItemTree) : Type 0 where
  is_import : Import ≡ k
  renames : List (List Rename)
  inside : PlacedWorld
  brings : BringsIn of w renames inside
  name : Text
  denoted : Denoted
  names : NamesType (world_setting of renames inside) name denoted
  tree : x ≡ named_tree denoted
  named : renamed_by renames name ≡ n

record MethodAt (of : WitSources) (k : ExternKind) (w : PlacedWorld) (n : Text) (x : ItemTree) : Type 0 where
  is_import : Import ≡ k
  renames : List (List Rename)
  inside : PlacedWorld
  brings : BringsIn of w renames inside
  type_of : FuncTree
  has : HasMethod (world_setting of renames inside) n type_of
  tree : x ≡ leaf item (func type_of)

abbrev AnyAt : WitSources → ExternKind → PlacedWorld → Text → ItemTree → Type 0
AnyAt of k w n x = InterfaceAt of k w n x ⊎ (SaidAt of k w n x ⊎ (TypeAt of k w n x ⊎ MethodAt of k w n x))

any_at : (of : WitSources) (k : ExternKind) (w : PlacedWorld) (n : Text) (x : ItemTree) → HasExternOf of k w n x → AnyAt of k w n x
any_at of k w _ x (extern_interface i has tree) = inl (record { interface = i; has = has; tree = tree; named = refl })
any_at of k w _ x (extern_inline {v = v} {rss = rss} id is brings says tree) = inr (inl (record { renames = rss; inside = v; brings = brings; said = extern.Inline id is; says = says; tree = tree; named = refl }))
any_at of k w _ _ (extern_func {v = v} {rss = rss} {g = g} id sig brings says is) = inr (inl (record { renames = rss; inside = v; brings = brings; said = extern.Func id sig; says = says; tree = (g, is, refl); named = refl }))
any_at of _ w _ _ (extern_type {v = v} {rss = rss} {n = n} {m = m} brings names) = inr (inr (inl (record { is_import = refl; renames = rss; inside = v; brings = brings; name = n; denoted = m; names = names; tree = refl; named = refl })))
any_at of _ w n _ (extern_method {v = v} {rss = rss} {g = g} brings has) = inr (inr (inr (record { is_import = refl; renames = rss; inside = v; brings = brings; type_of = g; has = has; tree = refl })))

-- ---- what an item of a world gives, by the item and which of its names it is

abbrev TypeTree : Setting → Text → ItemTree → Type 0
TypeTree s n x = (m : Denoted) × NamesType s n m × (x ≡ named_tree m)

record MethodTree (s : Setting) (t : TypeItem) (i : ℕ) (x : ItemTree) : Type 0 where
  methods : Vec Method Global
  is_resource : t.def ≡ def.Resource methods
  method : Method
  at : slice_get methods.items i ≡ Some method
  type_of : FuncTree
  is : IsMethodOf s method (type_name s t) type_of
  tree : x ≡ leaf item (func type_of)

record UsedTree (s : Setting) (u : UseItem) (j : ℕ) (x : ItemTree) : Type 0 where
  rename : Rename
  at : slice_get u.names.items j ≡ Some rename
  tree : TypeTree s (given_name rename.name rename.alias) x

abbrev WhatTree : WitSources → Setting → Extern → ItemTree → Type 0
WhatTree of s (extern.Inline id is) x = IsInterfaceTree of s.scope is.items x × InsideGivesOnce of is.items
WhatTree of s (extern.Func id sig) x = (g : FuncTree) × IsFuncOf s sig [] (λ r. r) g × (x ≡ leaf item (func g))
WhatTree of s y x = ⊥

abbrev ItemTreeOf : WitSources → Setting → WorldItem → ℕ → ItemTree → Type 0
ItemTreeOf of s (of_world.Use u) j x = UsedTree s u j x
ItemTreeOf of s (of_world.Type t) j x = ((j ≡ 0) × TypeTree s (ident_text t.name) x) ⊎ ((i : ℕ) × (j ≡ i + 1) × MethodTree s t i x)
ItemTreeOf of s (of_world.Include i) j x = ⊥
ItemTreeOf of s (of_world.Import e) j x = WhatTree of s e.what x
ItemTreeOf of s (of_world.Export e) j x = WhatTree of s e.what x

said_item : (of : WitSources) (s : Setting) (k : ExternKind) (e : ExternItem) (j : ℕ) (x : ItemTree) → WhatTree of s e.what x → ItemTreeOf of s (extern_item k e) j x
said_item of s Import e j x h = h
said_item of s Export e j x h = h

gives_said : (of : WitSources) (g : Text → Option NamePlace) (k : ExternKind) (m : NewNames) (p : NamePlace) (e : ExternItem) → GivesItem of g k m p (extern_item k e) → GivesExtern of g m p e
gives_said of g Import m p e h = h
gives_said of g Export m p e h = h

names_said : (of : WitSources) (k : ExternKind) (e : ExternItem) → IsEnabled of e.gates → HasOwnName e.what → GivesNames of (extern_item k e)
names_said of Import e there own = (there, own)
names_said of Export e there own = (there, own)

-- new names that come to the same for what a world defines
abbrev Agree : WitSources → PlacedWorld → List (List Rename) → List (List Rename) → Type 0
Agree of x old new = (t : TypeItem) → Contains (types_of_world x.decl.items.items) t → IsEnabled of t.gates → renamed_by old (ident_text t.name) ≡ renamed_by new (ident_text t.name)

-- what is given for what is said under a name of its own
given_said : (of : WitSources) (rss : List (List Rename)) (v : PlacedWorld) (x : ItemTree) (g : Text → Option NamePlace) (m : NewNames) (p : NamePlace) (y : Extern) → SaidTree of rss v x y → GivesWhat of g m p y → GivesNewName g (new_name m) (said_name y) p × WhatTree of (world_setting of rss v) y x
given_said of rss v x g m p (extern.Inline id is) tree h = (h.0, (tree, h.1))
given_said of rss v x g m p (extern.Func id sig) tree h = (h, tree)
given_said of rss v x g m p (extern.Path q) tree h = absurd tree
given_said of rss v x g m p (extern.Named n q) tree h = absurd tree

-- what an item gives by other new names that come to the same
module _ (of : WitSources) (x : PlacedWorld) (old new : List (List Rename)) (agree : Agree of x old new) where
  moved_type : (n : Text) (z : ItemTree) → TypeTree (world_setting of old x) n z → TypeTree (world_setting of new x) n z
  moved_type n z h = (h.0, moved_name of x.scope (world_uses x) (types_of_world x.decl.items.items) [] old new agree n h.0 h.1, h.2)

  moved_method : (t : TypeItem) → Contains (types_of_world x.decl.items.items) t → IsEnabled of t.gates → (i : ℕ) (z : ItemTree) → MethodTree (world_setting of old x) t i z → MethodTree (world_setting of new x) t i z
  moved_method t among there i z h = record {
    methods = h.methods;
    is_resource = h.is_resource;
    method = h.method;
    at = h.at;
    type_of = h.type_of;
    is = subst (λ (r : Text). IsMethodOf (world_setting of new x) h.method r h.type_of) (agree t among there)
        (moved_func of x.scope (world_uses x) (types_of_world x.decl.items.items) [] old new agree h.method.signature _ _ h.type_of h.is);
    tree = h.tree;
  }

  moved_what : (y : Extern) (z : ItemTree) → WhatTree of (world_setting of old x) y z → WhatTree of (world_setting of new x) y z
  moved_what (extern.Inline id is) z h = h
  moved_what (extern.Func id sig) z h = (h.0, moved_func of x.scope (world_uses x) (types_of_world x.decl.items.items) [] old new agree sig [] (λ r. r) h.0 h.1, h.2)
  moved_what (extern.Path p) z h = absurd h
  moved_what (extern.Named n p) z h = absurd h

  moved_item : (t : WorldItem) → Contains x.decl.items.items t → GivesNames of t → (j : ℕ) (z : ItemTree) → ItemTreeOf of (world_setting of old x) t j z → ItemTreeOf of (world_setting of new x) t j z
  moved_item (of_world.Use u) among names j z h = record { rename = h.rename; at = h.at; tree = moved_type (given_name h.rename.name h.rename.alias) z h.tree }
  moved_item (of_world.Type t) among names j z (inl h) = inl (h.0, moved_type (ident_text t.name) z h.1)
  moved_item (of_world.Type t) among names j z (inr h) = inr (h.0, h.1, moved_method t (type_in_world t x.decl.items.items among) names h.0 z h.2)
  moved_item (of_world.Include i) among names j z h = absurd h
  moved_item (of_world.Import e) among names j z h = moved_what e.what z h
  moved_item (of_world.Export e) among names j z h = moved_what e.what z h

-- ---- one item

module _ (of : WitSources) (v : Validator) (knows : Knows of v) where
  one_world : (place : ItemPlace) (x y : PlacedWorld) → IsWorldAt of v place x → IsWorldAt of v place y → x ≡ y
  one_world place x y a b = IsWorldAt-one of v place x b.scope y.decl a b.at_scope b.at_item ∙ sym (IsWorldAt-one of v place y b.scope y.decl b b.at_scope b.at_item)

  one_interface : (k : ExternKind) (w : PlacedWorld) (n : Text) (x y : ItemTree) → InterfaceAt of k w n x → InterfaceAt of k w n y → IsOneItem of x y
  one_interface k w n x y a b =
      let has = said_is_read of k a.has.inside a.interface a.has.says in
      let have = said_is_read of k b.has.inside b.interface b.has.says in
      let same = knows.identified a.interface b.interface has.0 have.0 has.1 have.1 (a.named ∙ sym b.named) in
      inr (record {
        scope = a.interface.scope;
        items = a.interface.decl.items.items;
        one = knows.one_item a.interface.scope has.0 a.interface.decl has.1;
        left = a.tree;
        right = subst (λ (i : PlacedInterface). IsInterfaceTree of i.scope i.decl.items.items y) (sym same) b.tree;
      })

  -- what an item gives is one thing, where its world gives each name of a type once
  module _ (rss : List (List Rename)) (x : PlacedWorld) (is_scope : IsScopeOf of x.scope) (once : GivesOnce (world_setting of rss x)) where
    abbrev own : Setting
    own = world_setting of rss x

    one_type_tree : (n : Text) (y z : ItemTree) → TypeTree own n y → TypeTree own n z → y ≡ z
    one_type_tree n y z a b = a.2 ∙ ap named_tree (one_own_name of knows.unambiguous knows.given_once x.scope (world_uses x) (types_of_world x.decl.items.items) [] rss is_scope once n a.0 b.0 a.1 b.1) ∙ sym b.2

    one_func_tree : (sig : Signature) (first : List (Text × ValueTree)) (f : Option ValueTree → Option ValueTree) (g h : FuncTree) → IsFuncOf own sig first f g → IsFuncOf own sig first f h → g ≡ h
    one_func_tree sig first f g h a b = one_own_func of knows.unambiguous knows.given_once x.scope (world_uses x) (types_of_world x.decl.items.items) [] rss is_scope once sig first f g h a b

    same_methods : (ms ns : Vec Method Global) → def.Resource ms ≡ def.Resource ns → ms ≡ ns
    same_methods ms ns e = cc

    same_before : (i j k : ℕ) → k ≡ i + 1 → k ≡ j + 1 → i ≡ j
    same_before i j k a b = omega (arith, a, b)

    one_method_tree : (t : TypeItem) (i : ℕ) (y z : ItemTree) → MethodTree own t i y → MethodTree own t i z → y ≡ z
    one_method_tree t i y z a b =
        let methods = same_methods a.methods b.methods (sym a.is_resource ∙ b.is_resource) in
        let method = same_Some a.method b.method (sym a.at ∙ ap (λ (ms : Vec Method Global). slice_get ms.items i) methods ∙ b.at) in
        let is = subst (λ (m : Method). IsMethodOf own m (type_name own t) b.type_of) (sym method) b.is in
        a.tree ∙ ap (λ (g : FuncTree). leaf item (func g)) (one_func_tree a.method.signature _ _ a.type_of b.type_of a.is is) ∙ sym b.tree

    one_what_tree : (e : Extern) (y z : ItemTree) → WhatTree of own e y → WhatTree of own e z → IsOneItem of y z
    one_what_tree (extern.Inline id is) y z a b = inr (record {
      scope = x.scope;
      items = is.items;
      one = one_export of x.scope is.items a.1
          (one_own_name of knows.unambiguous knows.given_once x.scope (uses_in is.items) (types_in is.items) (funcs_in is.items) [] is_scope (once_inside of x.scope is.items a.1))
          (one_own_func of knows.unambiguous knows.given_once x.scope (uses_in is.items) (types_in is.items) (funcs_in is.items) [] is_scope (once_inside of x.scope is.items a.1));
      left = a.0;
      right = b.0;
    })
    one_what_tree (extern.Func id sig) y z a b = inl (a.2 ∙ ap (λ (g : FuncTree). leaf item (func g)) (one_func_tree sig [] (λ r. r) a.0 b.0 a.1 b.1) ∙ sym b.2)
    one_what_tree (extern.Path p) y z a b = absurd a
    one_what_tree (extern.Named n p) y z a b = absurd a

    one_item_tree : (t : WorldItem) (j : ℕ) (y z : ItemTree) → ItemTreeOf of own t j y → ItemTreeOf of own t j z → IsOneItem of y z
    one_item_tree (of_world.Use u) j y z a b =
        let same = same_Some a.rename b.rename (sym a.at ∙ b.at) in
        inl (one_type_tree (given_name a.rename.name a.rename.alias) y z a.tree (subst (λ (r : Rename). TypeTree own (given_name r.name r.alias) z) (sym same) b.tree))
    one_item_tree (of_world.Type t) j y z (inl a) (inl b) = inl (one_type_tree (ident_text t.name) y z a.1 b.1)
    one_item_tree (of_world.Type t) j y z (inl a) (inr b) = absurd (omega (arith, a.0, b.1))
    one_item_tree (of_world.Type t) j y z (inr a) (inl b) = absurd (omega (arith, a.1, b.0))
    one_item_tree (of_world.Type t) j y z (inr a) (inr b) = inl (one_method_tree t a.0 y z a.2 (subst (λ (i : ℕ). MethodTree own t i z) (same_before b.0 a.0 j b.1 a.1) b.2))
    one_item_tree (of_world.Include i) j y z a b = absurd a
    one_item_tree (of_world.Import e) j y z a b = one_what_tree e.what y z a b
    one_item_tree (of_world.Export e) j y z a b = one_what_tree e.what y z a b

module _ (of : WitSources) (v : Validator) (w : PlacedWorld) (ls : List Layer) (knows : Knows of v) (layers : AreLayersOf of v w ls) (gives : (k : ExternKind) → GiveOnce v.features k ls) where
  -- an item of a world that comes in, in a layer of that
  record ItemAt (k : ExternKind) (rss : List (List Rename)) (x : PlacedWorld) (t : WorldItem) : Type 0 where
    among : Contains x.decl.items.items t
    names : GivesNames of t
    index : ℕ
    layer : Layer
    at : slice_get ls index ≡ Some layer
    is : IsLayerOf of v layer rss x
    place : ℕ
    found : Bor WorldItem
    at_item : slice_get layer.items.items place ≡ Some found
    is_item : found.now ≡ t
    given : GivesItem of (gives k).given k layer.names (record { layer = index; item = place; part = 0 }) t

  item_at : (k : ExternKind) (rss : List (List Rename)) (x : PlacedWorld) (t : WorldItem) → BringsIn of w rss x → Contains x.decl.items.items t → GivesNames of t → ItemAt k rss x t
  item_at k rss x t brings among names =
      let l = layers.all rss x t brings among names in
      let b = l.2.items.all t among names in
      let at = slice_get-among ls l.0 l.1 in
      let at_item = slice_get-among l.0.items.items b.0 b.1 in
      record {
        among = among;
        names = names;
        index = l.1.0;
        layer = l.0;
        at = at;
        is = l.2;
        place = b.1.0;
        found = b.0;
        at_item = at_item;
        is_item = b.2;
        given = subst (GivesItem of (gives k).given k l.0.names (record { layer = l.1.0; item = b.1.0; part = 0 })) b.2 ((gives k).gives of knows.features l.1.0 l.0 at b.1.0 b.0 at_item);
      }

  -- it gives a name
  record NameAt (k : ExternKind) (n : Text) (rss : List (List Rename)) (x : PlacedWorld) (t : WorldItem) (j : ℕ) : Type 0 where
    from : ItemAt k rss x t
    given : IsGivenAt (gives k).given n (record { layer = from.index; item = from.place; part = j })

  becomes : (k : ExternKind) (rss : List (List Rename)) (x : PlacedWorld) (t : WorldItem) (a : ItemAt k rss x t) (n m : Text) (p : NamePlace) → GivesNewName (gives k).given (new_name a.layer.names) m p → renamed_by rss m ≡ n → IsGivenAt (gives k).given n p
  becomes k rss x t a n m p g named = subst (λ (y : Text). IsGivenAt (gives k).given y p) (sym (a.is.names m g.becomes g.is) ∙ named) g.given_at

  -- what stands under a name that a world, or one that comes in, gives
  record OwnTree (k : ExternKind) (n : Text) (y : ItemTree) : Type 0 where
    renames : List (List Rename)
    inside : PlacedWorld
    brings : BringsIn of w renames inside
    gives_it : WorldItem
    part : ℕ
    name : NameAt k n renames inside gives_it part
    tree : ItemTreeOf of (world_setting of renames inside) gives_it part y

  said_own : (k : ExternKind) (n : Text) (y : ItemTree) → SaidAt of k w n y → OwnTree k n y
  said_own k n y h =
      let e = h.says.item in
      let s = world_setting of h.renames h.inside in
      let own = subst HasOwnName (sym h.says.what) (own_name of h.renames h.inside y h.said h.tree) in
      let a = item_at k h.renames h.inside (extern_item k e) h.brings h.says.among (names_said of k e h.says.there own) in
      let what = subst (λ (q : Extern). GivesWhat of (gives k).given a.layer.names (record { layer = a.index; item = a.place; part = 0 }) q) h.says.what (gives_said of (gives k).given k a.layer.names _ e a.given h.says.there) in
      let both = given_said of h.renames h.inside y (gives k).given a.layer.names _ h.said h.tree what in
      record {
        renames = h.renames;
        inside = h.inside;
        brings = h.brings;
        gives_it = extern_item k e;
        part = 0;
        name = record { from = a; given = becomes k h.renames h.inside (extern_item k e) a n (said_name h.said) _ both.0 h.named };
        tree = said_item of s k e 0 y (subst (λ (q : Extern). WhatTree of s q y) (sym h.says.what) both.1);
      }

  type_given : (rss : List (List Rename)) (x : PlacedWorld) (n m : Text) (t : TypeItem) → BringsIn of w rss x → renamed_by rss m ≡ n → GivesType (world_setting of rss x) m t → NameAt Import n rss x (of_world.Type t) 0
  type_given rss x n m t brings named h =
      let a = item_at Import rss x (of_world.Type t) brings (type_of_world t x.decl.items.items h.among) h.there in
      record { from = a; given = becomes Import rss x (of_world.Type t) a n (ident_text t.name) _ (a.given h.there).own (ap (renamed_by rss) h.named ∙ named) }

  use_given : (rss : List (List Rename)) (x : PlacedWorld) (n m : Text) (u : UseItem) (r : Rename) → BringsIn of w rss x → renamed_by rss m ≡ n → (h : GivesUse (world_setting of rss x) m u r) → NameAt Import n rss x (of_world.Use u) h.within.0
  use_given rss x n m u r brings named h =
      let a = item_at Import rss x (of_world.Use u) brings (use_of_world u x.decl.items.items h.among) (h.there, (r, h.within)) in
      record { from = a; given = becomes Import rss x (of_world.Use u) a n (given_name r.name r.alias) _ (a.given h.there h.within.0 r (slice_get-among u.names.items r h.within)) (ap (renamed_by rss) h.named ∙ named) }

  type_own : (rss : List (List Rename)) (x : PlacedWorld) (n m : Text) (d : Denoted) (y : ItemTree) → BringsIn of w rss x → renamed_by rss m ≡ n → y ≡ named_tree d → NamesType (world_setting of rss x) m d → OwnTree Import n y
  type_own rss x n m d y brings named tree (defined t among there is h) = record {
    renames = rss;
    inside = x;
    brings = brings;
    gives_it = of_world.Type t;
    part = 0;
    name = type_given rss x n m t brings named (record { among = among; there = there; named = is });
    tree = inl (refl, (d, subst (λ (q : Text). NamesType (world_setting of rss x) q d) (sym is) (defined t among there is h), tree));
  }
  type_own rss x n m d y brings named tree (used u r i among there within is leads has h) = record {
    renames = rss;
    inside = x;
    brings = brings;
    gives_it = of_world.Use u;
    part = within.0;
    name = use_given rss x n m u r brings named (record { among = among; there = there; within = within; named = is });
    tree = record { rename = r; at = slice_get-among u.names.items r within; tree = (d, subst (λ (q : Text). NamesType (world_setting of rss x) q d) (sym is) (used u r i among there within is leads has h), tree) };
  }

  method_own : (rss : List (List Rename)) (x : PlacedWorld) (n : Text) (f : FuncTree) (y : ItemTree) → BringsIn of w rss x → y ≡ leaf item (func f) → HasMethod (world_setting of rss x) n f → OwnTree Import n y
  method_own rss x _ f y brings tree (of_resource t ms m among there is within on is_method) =
      let a = item_at Import rss x (of_world.Type t) brings (type_of_world t x.decl.items.items among) there in
      let g = a.given there in
      let given = g.funcs ms is g.own.becomes g.own.is within.0 m (slice_get-among ms.items m within) on in
      record {
        renames = rss;
        inside = x;
        brings = brings;
        gives_it = of_world.Type t;
        part = within.0 + 1;
        name = record { from = a; given = subst (λ (r : Text). IsGivenAt (gives Import).given (method_name m.kind r (ident_text m.name)) (record { layer = a.index; item = a.place; part = within.0 + 1 })) (sym (a.is.names (ident_text t.name) g.own.becomes g.own.is)) given };
        tree = inr (within.0, refl, record { methods = ms; is_resource = is; method = m; at = slice_get-among ms.items m within; type_of = f; is = is_method; tree = tree });
      }

  -- two items that give one name are one
  record AreOne (x y : PlacedWorld) (rss qss : List (List Rename)) (t s : WorldItem) (i j : ℕ) : Type 0 where
    worlds : x ≡ y
    items : t ≡ s
    parts : i ≡ j
    agree : Agree of x qss rss

  module _ (k : ExternKind) (n : Text) (rss qss : List (List Rename)) (x y : PlacedWorld) (t s : WorldItem) (i j : ℕ) (a : NameAt k n rss x t i) (b : NameAt k n qss y s j) where
    same_place : ◌≡◌ {A = NamePlace} (record { layer = a.from.index; item = a.from.place; part = i }) (record { layer = b.from.index; item = b.from.place; part = j })
    same_place = same_Some _ _ (sym a.given.at ∙ b.given.at)

    same_layer : a.from.layer ≡ b.from.layer
    same_layer = same_Some _ _ (sym a.from.at ∙ ap (λ (p : NamePlace). slice_get ls p.layer) same_place ∙ b.from.at)

    same_found : a.from.found ≡ b.from.found
    same_found = same_Some _ _ (sym a.from.at_item ∙ (λ z. slice_get (same_layer z).items.items (same_place z).item) ∙ b.from.at_item)

    worlds_one : x ≡ y
    worlds_one = one_world of v knows b.from.layer.place x y (subst (λ (l : Layer). IsWorldAt of v l.place x) same_layer a.from.is.at) b.from.is.at

    agree_one : Agree of x qss rss
    agree_one u among there =
        let l = a.from.layer in
        let c = a.from.is.items.all (of_world.Type u) (type_of_world u x.decl.items.items among) there in
        let at = slice_get-among l.items.items c.0 c.1 in
        let g = subst (GivesItem of (gives Import).given Import l.names (record { layer = a.from.index; item = c.1.0; part = 0 })) c.2 ((gives Import).gives of knows.features a.from.index l a.from.at c.1.0 c.0 at) there in
        let by = subst (λ (m : Layer). AreNamesBy m.names qss) (sym same_layer) b.from.is.names in
        by (ident_text u.name) g.own.becomes g.own.is ∙ sym (a.from.is.names (ident_text u.name) g.own.becomes g.own.is)

    are_one : AreOne x y rss qss t s i j
    are_one = record { worlds = worlds_one; items = sym a.from.is_item ∙ ap (λ (c : Bor WorldItem). c.now) same_found ∙ b.from.is_item; parts = ap (λ (p : NamePlace). p.part) same_place; agree = agree_one }

  one_sort : (t : TypeItem) (u : UseItem) → of_world.Type t ≡ of_world.Use u → ⊥
  one_sort t u e = absurd (cc)

  one_type : (t u : TypeItem) → of_world.Type t ≡ of_world.Type u → t ≡ u
  one_type t u e = cc

  one_use : (t u : UseItem) → of_world.Use t ≡ of_world.Use u → t ≡ u
  one_use t u e = cc

  -- a world that comes in gives each name of a type once
  once_in_world : (rss : List (List Rename)) (x : PlacedWorld) → BringsIn of w rss x → GivesOnce (world_setting of rss x)
  once_in_world rss x brings = record {
    types = λ n t u a b. one_type t u (are_one Import (renamed_by rss n) rss rss x x (of_world.Type t) (of_world.Type u) 0 0 (type_given rss x (renamed_by rss n) n t brings refl a) (type_given rss x (renamed_by rss n) n u brings refl b)).items;
    uses = λ n t u r q a b.
        let one = are_one Import (renamed_by rss n) rss rss x x (of_world.Use t) (of_world.Use u) a.within.0 b.within.0 (use_given rss x (renamed_by rss n) n t r brings refl a) (use_given rss x (renamed_by rss n) n u q brings refl b) in
        let same = one_use t u one.items in
        (same, same_Some r q (sym (slice_get-among t.names.items r a.within) ∙ (λ z. slice_get (same z).names.items (one.parts z)) ∙ slice_get-among u.names.items q b.within));
    apart = λ n t u r a b.
        one_sort t u (are_one Import (renamed_by rss n) rss rss x x (of_world.Type t) (of_world.Use u) 0 b.within.0 (type_given rss x (renamed_by rss n) n t brings refl a) (use_given rss x (renamed_by rss n) n u r brings refl b)).items;
  }

  one_own : (k : ExternKind) (n : Text) (y z : ItemTree) → OwnTree k n y → OwnTree k n z → IsOneItem of y z
  one_own k n y z a b =
      let one = are_one k n a.renames b.renames a.inside b.inside a.gives_it b.gives_it a.part b.part a.name b.name in
      let here = subst (λ (p : PlacedWorld × WorldItem × ℕ). ItemTreeOf of (world_setting of b.renames p.0) p.1 p.2 z) (λ i. (sym one.worlds i, sym one.items i, sym one.parts i)) b.tree in
      let moved = moved_item of a.inside b.renames a.renames one.agree a.gives_it a.name.from.among a.name.from.names a.part z here in
      one_item_tree of v knows a.renames a.inside (world_placed of v a.name.from.layer.place a.inside knows a.name.from.is.at).scope (once_in_world a.renames a.inside a.brings) a.gives_it a.part y z a.tree moved

  own_of : (k : ExternKind) (n : Text) (y : ItemTree) → SaidAt of k w n y ⊎ (TypeAt of k w n y ⊎ MethodAt of k w n y) → OwnTree k n y
  own_of k n y (inl h) = said_own k n y h
  own_of k n y (inr (inl h)) = subst (λ (q : ExternKind). OwnTree q n y) h.is_import (type_own h.renames h.inside n h.name h.denoted y h.brings h.named h.tree h.names)
  own_of k n y (inr (inr h)) = subst (λ (q : ExternKind). OwnTree q n y) h.is_import (method_own h.renames h.inside n h.type_of y h.brings h.tree h.has)

  by_sort : (k : ExternKind) (n : Text) (y z : ItemTree) → AnyAt of k w n y → AnyAt of k w n z → IsOneItem of y z
  by_sort k n y z (inl a) (inl b) = one_interface of v knows k w n y z a b
  by_sort k n y z (inl a) (inr b) = absurd ((own_of k n z b).name.given.plain a.interface (sym a.named))
  by_sort k n y z (inr a) (inl b) = absurd ((own_of k n y a).name.given.plain b.interface (sym b.named))
  by_sort k n y z (inr a) (inr b) = one_own k n y z (own_of k n y a) (own_of k n z b)

  -- so each name of an import, or of an export, stands for one item
  pub has_one_extern : HasOneExtern of w
  has_one_extern k n y z a b = by_sort k n y z (any_at of k w n y a) (any_at of k w n z b)
