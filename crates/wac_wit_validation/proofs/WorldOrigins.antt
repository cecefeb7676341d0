-- Where the types of a world come from, by what its entry was found to say.
use Rattle.std.proofs.Common.{◌≡◌, ◌∙◌, List, Contains, Some, IsSome, refl, sym, subst}
use Rattle.std.specs.Prelude.{slice_get}
use Rattle.std.proofs.lemmas.Option.{same_Some}
use Rattle.wac_model.specs.ItemTree.{ItemTree, Items, composite, interface, item, no_items}
use Rattle.wac_model.specs.Text.{Text}
use Rattle.wac_component.specs.Collection.{Collection, UseContent, WorldContent}
use Rattle.wac_component.specs.Tree.{item_tree}
use Rattle.wac_component.specs.declared.items.ItemKind.TheVariants.{«Type» as OfType}
use Rattle.wac_component.specs.declared.items.Type.{«Type» as TypeOf}
use Rattle.wac_component.specs.declared.items.Type.TheVariants.{Func as TypeFunc, Interface as TypeInterface, Module as TypeModule, Resource as TypeResource, Value as TypeValue, World as TypeWorld}
use Rattle.wac_component.specs.declared.worlds.ExternKind.{ExternKind}
use Rattle.wac_component.specs.declared.worlds.ExternKind.TheVariants.{Import}
use Rattle.wac_wit_syntax.specs.declared.tree.InterfaceItem.{InterfaceItem}
use Rattle.wac_wit_syntax.specs.declared.tree.InterfaceItem.TheVariants as inside
use Rattle.wac_wit_syntax.specs.declared.tree.Rename.{Rename}
use Rattle.wac_wit_syntax.specs.declared.tree.WorldItem.{WorldItem}
use Rattle.wac_wit_syntax.specs.declared.tree.WorldItem.TheVariants as of_world
use Rattle.wac_wit_validation_types.specs.Exports.{HasOrigin, Offers}
use Rattle.wac_wit_validation_types.specs.Denoted.{Denoted, NamesType, Setting, renamed_by, resource_type, value_type}
use Rattle.wac_wit_validation_types.specs.Interfaces.{IsInterfaceTree, named_tree}
use Rattle.wac_wit_validation_names.specs.Noted.{HasUseRoot}
use Rattle.wac_wit_validation.specs.OriginClauses.{TellsItem, TellsWorld, TellsWorldItem}
use Rattle.wac_wit_validation_types.specs.OneWorld.{HasOneExtern}
use Rattle.wac_wit_validation_types.specs.Origins.{AreOwnersOf, AreWorldUsesOf, IsWorldOriginOf, use_at}
use Rattle.wac_wit_validation_types.specs.Placed.{PlacedWorld}
use Rattle.wac_wit_validation_types.specs.Reading.{type_meaning}
use Rattle.wac_wit_scopes.specs.WitSources.{ScopeSyntax, WitSources}
use Rattle.wac_wit_validation.specs.WorldChecking.{AreItemsOf, AreLayersOf, AreWorldSides, GivesNames, IsEntryOf, IsTextAt, IsValidatedWorld, IsWorldAt, KnowsWorlds, StaysAs, text_content}
use Rattle.wac_wit_validation_types.specs.Worlds.{BringsIn, HasExternOf, extern_func, extern_inline, extern_interface, extern_method, extern_type, world_setting}
use Rattle.wac_wit_validation_names.specs.declared.layers.Layer.{Layer}
use Rattle.wac_wit_validation.specs.declared.validator.FoundWorld.{FoundWorld}
use Rattle.wac_wit_validation_names.specs.declared.places.ItemPlace.{ItemPlace}
use Rattle.wac_wit_validation.specs.declared.validator.Validator.{Validator}
use Rattle.wac_wit_validation.specs.declared.validator.WorldText.{WorldText}
use Rattle.wac_wit_validation.proofs.OriginFacts.{IsTold, origin_told, root_identified, root_named, root_own, told_all}
use Rattle.wac_wit_validation.proofs.WorldFacts.{AreLayersOf-kept, IsTextAt-kept, scope_of, scope_of_world}
use Rattle.wac_wit_validation.proofs.WorldWhole.{naming_type, no_func, tree_of_world, type_of_world, use_of_world}

-- ---- an import that is a type

no_interface : (c : Collection) (es : Items) (t : TypeOf) → composite item interface no_items es ≡ item_tree c (OfType t) → ⊥
no_interface c es (TypeValue v) e = cc
no_interface c es (TypeResource r) e = cc
no_interface c es (TypeFunc f) e = cc
no_interface c es (TypeInterface i) e = cc
no_interface c es (TypeWorld w) e = cc
no_interface c es (TypeModule m) e = cc

-- what a type means whose tree is that of a name
tree_meaning : (c : Collection) (m : Denoted) (t : TypeOf) → IsSome (type_meaning c t) → named_tree m ≡ item_tree c (OfType t) → type_meaning c t ≡ Some m
tree_meaning c (value_type v) (TypeValue x) some e = cc
tree_meaning c (value_type v) (TypeResource r) some e = absurd (cc)
tree_meaning c (resource_type r) (TypeValue x) some e = absurd (cc)
tree_meaning c (resource_type r) (TypeResource x) some e = cc
tree_meaning c m (TypeFunc f) some e = absurd (cc)
tree_meaning c m (TypeInterface i) some e = absurd (cc)
tree_meaning c m (TypeWorld w) some e = absurd (cc)
tree_meaning c m (TypeModule x) some e = absurd (cc)

-- a type of a world that comes in has a name that becomes this one
record IsBroughtType (of : WitSources) (c : Collection) (w : PlacedWorld) (k : Text) (t : TypeOf) : Type 0 where
  renames : List (List Rename)
  inside : PlacedWorld
  brings : BringsIn of w renames inside
  name : Text
  becomes : renamed_by renames name ≡ k
  denoted : Denoted
  names : NamesType (world_setting of renames inside) name denoted
  meant : type_meaning c t ≡ Some denoted

module _ (of : WitSources) (c : Collection) (w : PlacedWorld) (t : TypeOf) (some : IsSome (type_meaning c t)) where
  no_interface_tree : {A : Type 0} (x : ScopeSyntax) (is : List InterfaceItem) (y : ItemTree) → IsInterfaceTree of x is y → y ≡ item_tree c (OfType t) → A
  no_interface_tree x is y tree same = absurd (no_interface c tree.exports t (sym tree.tree ∙ same))

  brought_type : (j : ExternKind) (k : Text) (y : ItemTree) → HasExternOf of j w k y → y ≡ item_tree c (OfType t) → IsBroughtType of c w k t
  brought_type j k y (extern_interface i has tree) same = no_interface_tree i.scope i.decl.items.items y tree same
  brought_type j k y (extern_inline {v = v} id is brings says tree) same = no_interface_tree v.scope is.items y tree same
  brought_type j k y (extern_func {g = g} id sig brings says is) same = absurd (no_func c g t same)
  brought_type j k y (extern_type {v = v} {rss = rss} {n = n} {m = m} brings names) same = record { renames = rss; inside = v; brings = brings; name = n; becomes = refl; denoted = m; names = names; meant = tree_meaning c m t some same }
  brought_type j k y (extern_method {g = g} brings has) same = absurd (no_func c g t same)

-- ---- what is said of the names of a world

module _ (of : WitSources) (v : Validator) (w : PlacedWorld) (ls : List Layer) (e : WorldContent) (knows : KnowsWorlds of v) (layers : AreLayersOf of v w ls) (tells : TellsWorld v ls e) where
  module _ (rss : List (List Rename)) (x : PlacedWorld) (brings : BringsIn of w rss x) where
    abbrev inner : Setting
    inner = world_setting of rss x

    told_item : (t : WorldItem) → Contains x.decl.items.items t → GivesNames of t → TellsWorldItem v inner e.uses t
    told_item t among gives =
        let l = layers.all rss x t brings among gives in
        let b = l.2.items.all t among gives in
        subst (TellsWorldItem v inner e.uses) b.2 (tells.layers l.0 l.1 of rss x knows l.2 b.0 b.1)

    told_items : (y : InterfaceItem) → Offers inner y → TellsItem v inner e.uses y
    told_items (inside.Use u) offered = λ there r within. told_item (of_world.Use u) (use_of_world u x.decl.items.items offered) (there, (r, within)) there r within
    told_items (inside.Type t) offered = λ there. told_item (of_world.Type t) (type_of_world t x.decl.items.items offered) there there
    told_items (inside.Func f) offered = tt

    told : (n : Text) (m : Denoted) → NamesType inner n m → IsTold v inner e.uses
    told n m names =
        let it = naming_type of rss x n m names in
        let l = layers.all rss x it.0 brings it.1 it.2 in
        record { knows = knows.interfaces; scope = scope_of of v l.0.place.scope x.scope (scope_of_world of v l.0.place x knows l.2.at); items = told_items }

  module _ (imports : AreItemsOf of v w Import e.imports) where
    is_world_origin : (k : Text) (u : UseContent) → use_at e.uses k ≡ Some u → IsWorldOriginOf of v.types.now w k u
    is_world_origin k u at = record {
      renames = b.renames;
      inside = b.inside;
      brings = b.brings;
      name = b.name;
      becomes = b.becomes;
      interface = o.interface;
      from = o.from;
      identified = root_identified v.types.now s b.name k u e.imports o root b.denoted b.meant;
      own = root_own v.types.now s b.name k u e.imports o root b.denoted b.meant;
      denoted = b.denoted;
      here = b.names;
      there = root_named v.types.now s b.name k u e.imports o root b.denoted b.meant;
    }
      where
        root : HasUseRoot v.types.now e.imports k u
        root = tells.roots k u at

        b : IsBroughtType of v.types.now w k root.is
        b = brought_type of v.types.now w root.is root.meant Import k (item_tree v.types.now (OfType root.is)) (imports.each (k, OfType root.is) root.here) refl

        s : Setting
        s = world_setting of b.renames b.inside

        o : HasOrigin v.types.now s b.name u
        o = origin_told v e.uses s b.name b.denoted u b.names (told b.renames b.inside b.brings b.name b.denoted b.names) (subst (λ (n : Text). use_at e.uses n ≡ Some u) (sym b.becomes) at)

    pub are_world_uses : AreWorldUsesOf of v.types.now w e.uses
    are_world_uses = record {
      each = is_world_origin;
      all = λ rss x brings n i from. told_all v e.uses (world_setting of rss x) n i (told_items rss x brings) from;
    }

-- ---- a whole world

-- a world both sides of whose entry are as its text says, and of which it is said where its types come from
pub world_validated : (of : WitSources) (v : Validator) (f : FoundWorld) (e : WorldContent) (w : PlacedWorld) → IsWorldAt of v f.place w → IsEntryOf v.types.now f.id e → AreWorldSides of v w e f.marks → AreLayersOf of v w f.layers.items
    → AreWorldUsesOf of v.types.now w e.uses → AreOwnersOf v.types.now e.uses e.imports → HasOneExtern of w → IsValidatedWorld of v f
world_validated of v f e w at entry sides layers uses owners one = record {
  written = w;
  at = at;
  stands = entry.stands;
  sides = λ content found. subst (λ (d : WorldContent). AreWorldSides of v w d f.marks) (same content found) sides;
  layers = layers;
  uses = λ content found. subst (λ (d : WorldContent). AreWorldUsesOf of v.types.now w d.uses) (same content found) uses;
  owners = λ content found. subst (λ (d : WorldContent). AreOwnersOf v.types.now d.uses d.imports) (same content found) owners;
  one = one;
  tree = tree_of_world of v w f.id e entry sides.imports.items sides.exports.items;
}
  where
    same : (content : WorldContent) → slice_get v.types.now.worlds f.id.index ≡ Some content → e ≡ content
    same content found = same_Some _ _ (sym entry.at ∙ found)

-- so it is, where that is known of what it was before other things became known
pub world_added : (of : WitSources) (v x : Validator) → StaysAs v x → (f : FoundWorld) (text : WorldText) (w : PlacedWorld) → IsTextAt v text of w → text.place ≡ f.place → IsEntryOf v.types.now f.id (text_content text) → AreLayersOf of v w f.layers.items
    → (IsTextAt x text of w → AreLayersOf of x w f.layers.items → AreWorldSides of x w (text_content text) f.marks) → TellsWorld x f.layers.items (text_content text) → HasOneExtern of w → IsValidatedWorld of x f
world_added of v x stays f text w at same entry layers sides tells one =
    let now = IsTextAt-kept v x stays text of w at in
    let kept = AreLayersOf-kept of v x (sym stays.scopes) w f.layers.items layers in
    let both = sides now kept in
    world_validated of x f (text_content text) w (subst (λ (p : ItemPlace). IsWorldAt of x p w) same now.written) (subst (λ (c : Collection). IsEntryOf c f.id (text_content text)) (sym stays.types) entry) both kept
    (are_world_uses of x w f.layers.items (text_content text) now.at.knows kept tells both.imports.items) tells.owners one
