-- What an interface or a world exports, by its entry.
use Rattle.std.proofs.Common.{◌≡◌, ◌<◌, ◌∙◌, ◌++◌, ◌∷◌, [], max, ap, arith, refl, sym, subst, slice_get, Option, Some, None, Result, IfOk}
use Rattle.std.proofs.lemmas.Result.{IfOk-weaker}
use Rattle.std.specs.Str.{bytes_eq}
use Rattle.std.specs.Option.{option_map}
use Rattle.wac_model.specs.Text.{Text, lookup}
use Rattle.wac_model.specs.ItemTree.{Kind, item, type_item, ItemTree, leaf, core_module, composite, interface, world, no_items, item_at}
use Rattle.wac_component.specs.Id.{Id}
use Rattle.wac_component.specs.Collection.{Collection, InterfaceContent, WorldContent}
use Rattle.wac_component.specs.Height.{height, keys_height}
use Rattle.wac_component.specs.Key.{Key, Stands, AllStand, item_keys, interface_key, world_key, interface_keys, world_keys}
use Rattle.wac_component.specs.Tree.{Externs as ExternTrees, externs, interface_externs, world_externs, items_of, item_tree}
use Rattle.wac_component.specs.declared.items.ItemKind.{ItemKind}
use Rattle.wac_component.proofs.Keys.{Each-append}
use Rattle.wac_component.proofs.Members.{exports_stand, exports_lower, world_exports_stand, world_exports_lower}
use Rattle.wac_checker_parts.proofs.ExternLemmas.{named_stands, named_lower, item_at-items_of}
use Rattle.wac_merge.specs.Items.{ExternKinds, entry_item, extern_keys}
use Rattle.wac_merge.specs.Reads.{exports_at as exports_of_key}
use Rattle.wac_merge.specs.declared.meets.Meets.{Meets}
use Rattle.wac_merge.proofs.LoopLemmas.{named_stand}
use Rattle.wac_merge.proofs.ReadLemmas.{exports_at_stand, exports_stay, interface_at, interface_exports_are, world_at, world_exports_are}
use Rattle.wac_aggregator_errors.specs.Clashes.{AreApart, HasNoClash}
use Rattle.wac_aggregator_errors.specs.Found.{StoodWith, HasExportsAt, AreFoundIn, IsClashOf, HasNone, AreItemsApart, IsSearchOf, IsSearchBelow, FoundWith, IsKnownFrom, GoesOnKnown}
use Rattle.wac_aggregator_errors.specs.declared.exports.ExportClash.{ExportClash}

-- where an id stood whose exports these are, they did
exports_stood : (d : Collection) (k : Key) (es : ExternKinds) → es ≡ exports_of_key d k → StoodWith d (k ∷ []) (extern_keys es)
exports_stood d k es same c sound grown st = subst (λ (l : ExternKinds). AllStand c (extern_keys l)) (sym (same ∙ exports_stay c d grown k st.0)) (exports_at_stand c k sound st.0)

pub reads_interface : (c : Collection) (x : Id) (e : InterfaceContent) (es : ExternKinds) → slice_get c.interfaces x.index ≡ Some e → externs c (interface_key x) ≡ interface_externs (item_tree c) e
    → AllStand c (interface_keys e) → keys_height c (interface_keys e) < height c (interface_key x) → es ≡ e.exports → HasExportsAt c (interface_key x) es
reads_interface c x e es at tree stand lower same = record {
  imports = no_items;
  tree = tree ∙ ap (λ (l : ExternKinds). let r : ExternTrees = record { imports = no_items; exports = items_of (item_tree c) l } in r) (sym same);
  standing = rw same (exports_stand c e stand);
  stood = exports_stood c (interface_key x) es (same ∙ sym (interface_exports_are c x e (interface_at c x e at)));
  lower = rw same (omega (arith, lower, exports_lower c e));
}

pub reads_world : (c : Collection) (x : Id) (e : WorldContent) (es : ExternKinds) → slice_get c.worlds x.index ≡ Some e → externs c (world_key x) ≡ world_externs (item_tree c) e
    → AllStand c (world_keys e) → keys_height c (world_keys e) < height c (world_key x) → es ≡ e.exports → HasExportsAt c (world_key x) es
reads_world c x e es at tree stand lower same = record {
  imports = items_of (item_tree c) e.imports;
  tree = tree ∙ ap (λ (l : ExternKinds). let r : ExternTrees = record { imports = items_of (item_tree c) e.imports; exports = items_of (item_tree c) l } in r) (sym same);
  standing = rw same (world_exports_stand c e stand);
  stood = exports_stood c (world_key x) es (same ∙ sym (world_exports_are c x e (world_at c x e at)));
  lower = rw same (omega (arith, lower, world_exports_lower c e));
}

-- what the exports are as a tree
exports_at : (c : Collection) (k : Key) (es : ExternKinds) → HasExportsAt c k es → (n : Text) (x : ItemKind) → lookup bytes_eq es n ≡ Some x → item_at (externs c k).exports n ≡ Some (item_tree c x)
exports_at c k es h n x there = ap (λ (e : ExternTrees). item_at e.exports n) h.tree ∙ item_at-items_of (item_tree c) es n ∙ ap (option_map (item_tree c)) there

-- what both have under a name is a clash of two interfaces or of two worlds
module _ (c : Collection) (es ts : ExternKinds) (found : ExportClash) (clash : AreFoundIn c es ts found) where
  lower_of : (k : Key) → HasExportsAt c k es → keys_height c (item_keys found.existing) < max (height c k) 0
  lower_of k h = omega (arith, h.lower, named_lower c es _ found.existing clash.of_first)

  pub interfaces_clash : (x y : Id) → HasExportsAt c (interface_key x) es → HasExportsAt c (interface_key y) ts → (kind : Kind) → IsClashOf c (entry_item kind (interface_key x)) (entry_item kind (interface_key y)) found
  interfaces_clash x y h g item = record {
    alike = (refl, refl);
    of_first = exports_at c (interface_key x) es h _ found.existing clash.of_first;
    of_second = exports_at c (interface_key y) ts g _ found.new clash.of_second;
    apart = clash.apart;
    existing_stands = named_stands c es _ found.existing clash.of_first h.standing;
    new_stands = named_stands c ts _ found.new clash.of_second g.standing;
    lower = lower_of (interface_key x) h;
  }
  interfaces_clash x y h g type_item = record {
    alike = (refl, refl);
    of_first = exports_at c (interface_key x) es h _ found.existing clash.of_first;
    of_second = exports_at c (interface_key y) ts g _ found.new clash.of_second;
    apart = clash.apart;
    existing_stands = named_stands c es _ found.existing clash.of_first h.standing;
    new_stands = named_stands c ts _ found.new clash.of_second g.standing;
    lower = lower_of (interface_key x) h;
  }

  pub worlds_clash : (x y : Id) → HasExportsAt c (world_key x) es → HasExportsAt c (world_key y) ts → (kind : Kind) → IsClashOf c (entry_item kind (world_key x)) (entry_item kind (world_key y)) found
  worlds_clash x y h g item = record {
    alike = (refl, refl);
    of_first = exports_at c (world_key x) es h _ found.existing clash.of_first;
    of_second = exports_at c (world_key y) ts g _ found.new clash.of_second;
    apart = clash.apart;
    existing_stands = named_stands c es _ found.existing clash.of_first h.standing;
    new_stands = named_stands c ts _ found.new clash.of_second g.standing;
    lower = lower_of (world_key x) h;
  }
  worlds_clash x y h g type_item = record {
    alike = (refl, refl);
    of_first = exports_at c (world_key x) es h _ found.existing clash.of_first;
    of_second = exports_at c (world_key y) ts g _ found.new clash.of_second;
    apart = clash.apart;
    existing_stands = named_stands c es _ found.existing clash.of_first h.standing;
    new_stands = named_stands c ts _ found.new clash.of_second g.standing;
    lower = lower_of (world_key x) h;
  }

-- what isn't found under a name isn't there

item_there : (c : Collection) (k : Key) (es : ExternKinds) → HasExportsAt c k es → (n : Text) (s : ItemTree) → item_at (externs c k).exports n ≡ Some s → (x : ItemKind) × (lookup bytes_eq es n ≡ Some x) × (item_tree c x ≡ s)
item_there c k es h n s first = go (lookup bytes_eq es n) refl (sym (ap (λ (e : ExternTrees). item_at e.exports n) h.tree ∙ item_at-items_of (item_tree c) es n) ∙ first)
  where
    go : (o : Option ItemKind) → lookup bytes_eq es n ≡ o → option_map (item_tree c) o ≡ Some s → (x : ItemKind) × (lookup bytes_eq es n ≡ Some x) × (item_tree c x ≡ s)
    go None is f = absurd (cc)
    go (Some x) is f = (x, is, cc)

no_clash : (c : Collection) (k j : Key) (es ts : ExternKinds) → HasExportsAt c k es → HasExportsAt c j ts → HasNone (AreItemsApart c) es ts
    → (n : Text) (s t : ItemTree) → item_at (externs c k).exports n ≡ Some s → item_at (externs c j).exports n ≡ Some t → ¬ (AreApart s t)
no_clash c k j es ts h g none n s t first second apart =
    let x = item_there c k es h n s first in
    let y = item_there c j ts g n t second in
    none n x.0 y.0 x.1 y.1 (subst (λ a. AreApart a (item_tree c y.0)) (sym x.2) (subst (λ b. AreApart s b) (sym y.2) apart))

pub interfaces_searched : (c : Collection) (es ts : ExternKinds) (x y : Id) → HasExportsAt c (interface_key x) es → HasExportsAt c (interface_key y) ts → (o : Option ExportClash) → IsSearchOf c es ts o
    → (kind : Kind) → IsSearchBelow c (entry_item kind (interface_key x)) (entry_item kind (interface_key y)) o
interfaces_searched c es ts x y h g (Some found) clash kind = interfaces_clash c es ts found clash x y h g kind
interfaces_searched c es ts x y h g None none item = λ alike. no_clash c (interface_key x) (interface_key y) es ts h g none
interfaces_searched c es ts x y h g None none type_item = λ alike. no_clash c (interface_key x) (interface_key y) es ts h g none

pub worlds_searched : (c : Collection) (es ts : ExternKinds) (x y : Id) → HasExportsAt c (world_key x) es → HasExportsAt c (world_key y) ts → (o : Option ExportClash) → IsSearchOf c es ts o
    → (kind : Kind) → IsSearchBelow c (entry_item kind (world_key x)) (entry_item kind (world_key y)) o
worlds_searched c es ts x y h g (Some found) clash kind = worlds_clash c es ts found clash x y h g kind
worlds_searched c es ts x y h g None none item = λ alike. no_clash c (world_key x) (world_key y) es ts h g none
worlds_searched c es ts x y h g None none type_item = λ alike. no_clash c (world_key x) (world_key y) es ts h g none

-- not both interfaces or both worlds, both as items or both as types
abbrev pub AreOthers : ItemTree → ItemTree → Type 0
AreOthers (composite item interface i e) (composite item interface j f) = ⊥
AreOthers (composite item world i e) (composite item world j f) = ⊥
AreOthers (composite type_item interface i e) (composite type_item interface j f) = ⊥
AreOthers (composite type_item world i e) (composite type_item world j f) = ⊥
AreOthers s t = Unit {0}

pub others_searched : (a b : ItemTree) → AreOthers a b → HasNoClash a b
others_searched (leaf k l) b u alike n x y f g apart = absurd (cc)
others_searched (core_module k m) b u alike n x y f g apart = absurd (cc)
others_searched (composite k s i e) (leaf k' l) u alike n x y f g apart = absurd (cc)
others_searched (composite k s i e) (core_module k' m) u alike n x y f g apart = absurd (cc)
others_searched (composite item interface i e) (composite item interface j d) u alike n x y f g apart = elim u [ ]
others_searched (composite item interface i e) (composite item world j d) u alike n x y f g apart = let h = alike.1 in absurd (cc)
others_searched (composite item interface i e) (composite type_item interface j d) u alike n x y f g apart = let h = alike.0 in absurd (cc)
others_searched (composite item interface i e) (composite type_item world j d) u alike n x y f g apart = let h = alike.0 in absurd (cc)
others_searched (composite item world i e) (composite item interface j d) u alike n x y f g apart = let h = alike.1 in absurd (cc)
others_searched (composite item world i e) (composite item world j d) u alike n x y f g apart = elim u [ ]
others_searched (composite item world i e) (composite type_item interface j d) u alike n x y f g apart = let h = alike.0 in absurd (cc)
others_searched (composite item world i e) (composite type_item world j d) u alike n x y f g apart = let h = alike.0 in absurd (cc)
others_searched (composite type_item interface i e) (composite item interface j d) u alike n x y f g apart = let h = alike.0 in absurd (cc)
others_searched (composite type_item interface i e) (composite item world j d) u alike n x y f g apart = let h = alike.0 in absurd (cc)
others_searched (composite type_item interface i e) (composite type_item interface j d) u alike n x y f g apart = elim u [ ]
others_searched (composite type_item interface i e) (composite type_item world j d) u alike n x y f g apart = let h = alike.1 in absurd (cc)
others_searched (composite type_item world i e) (composite item interface j d) u alike n x y f g apart = let h = alike.0 in absurd (cc)
others_searched (composite type_item world i e) (composite item world j d) u alike n x y f g apart = let h = alike.0 in absurd (cc)
others_searched (composite type_item world i e) (composite type_item interface j d) u alike n x y f g apart = let h = alike.1 in absurd (cc)
others_searched (composite type_item world i e) (composite type_item world j d) u alike n x y f g apart = elim u [ ]

-- what is found of two items that are named by their entries
pub of_entries : {F E : Type 0} (Q : ItemKind → ItemKind → F → Type 0) (r : Result F E) (k : Kind) (m j : Key) (a b : ItemKind) → a ≡ entry_item k m → b ≡ entry_item k j
    → IfOk r (λ f. (kind : Kind) → Q (entry_item kind m) (entry_item kind j) f) → IfOk r (Q a b)
of_entries Q r k m j a b first second h =
    IfOk-weaker r (λ f. (kind : Kind) → Q (entry_item kind m) (entry_item kind j) f) (Q a b)
    (λ f p. subst (λ x. Q x b f) (sym first) (subst (λ y. Q (entry_item k m) y f) (sym second) (p k))) h

-- what is found stood where the ids did whose exports were gone through
pub found_with : (d : Collection) (k j : Key) (es ts : ExternKinds) → HasExportsAt d k es → HasExportsAt d j ts → (o : Option ExportClash) → FoundWith d (extern_keys es ++ extern_keys ts) o → FoundWith d (k ∷ j ∷ []) o
found_with d k j es ts h g None f = tt
found_with d k j es ts h g (Some found) f = λ c sound grown st. f c sound grown (Each-append (Stands c) (extern_keys es) (extern_keys ts) (h.stood c sound grown (st.0, tt)) (g.stood c sound grown st.1))

-- what is known of meets of these is known of meets of what they export
pub exports_known : (d : Collection) (m : Meets) (k j : Key) (es ts : ExternKinds) → HasExportsAt d k es → HasExportsAt d j ts → IsKnownFrom d m (k ∷ j ∷ []) → IsKnownFrom d m (extern_keys es ++ extern_keys ts)
exports_known d m k j es ts h g known = (known.0, known.1, with_exports known.0 known.1 known.3.ran.only.extends known.2, known.3)
  where
    with_exports : StoodWith d (k ∷ j ∷ []) (extern_keys es ++ extern_keys ts)
    with_exports c sound grown st = Each-append (Stands c) (extern_keys es) (extern_keys ts) (h.stood c sound grown (st.0, tt)) (g.stood c sound grown st.1)

pub exports_go_on : (d e : Collection) (m n : Meets) (k j : Key) (es ts : ExternKinds) → HasExportsAt d k es → HasExportsAt d j ts → GoesOnKnown (extern_keys es ++ extern_keys ts) d m e n → GoesOnKnown (k ∷ j ∷ []) d m e n
exports_go_on d e m n k j es ts h g more c sound st known =
    more c sound (Each-append (Stands c) (extern_keys es) (extern_keys ts) (h.stood c sound known.ran.only.extends (st.0, tt)) (g.stood c sound known.ran.only.extends st.1)) known

-- and of what both have under a name
module _ (es ts : ExternKinds) (name : Text) (a b : ItemKind) (first : lookup bytes_eq es name ≡ Some a) (second : lookup bytes_eq ts name ≡ Some b) where
  pub named_both : (c : Collection) → AllStand c (extern_keys es ++ extern_keys ts) → AllStand c (item_keys a ++ item_keys b)
  named_both c st = named_stand c es ts name a (Some b) first (sym second) st

  pub pair_known : (d e : Collection) (m n : Meets) → IsKnownFrom d m (extern_keys es ++ extern_keys ts) → GoesOnKnown (extern_keys es ++ extern_keys ts) d m e n → IsKnownFrom e n (item_keys a ++ item_keys b)
  pair_known d e m n known more = (known.0, known.1, named_both known.0 known.2, more known.0 known.1 known.2 known.3)

  pub pair_goes_on : (d e f : Collection) (m n o : Meets) → GoesOnKnown (extern_keys es ++ extern_keys ts) d m e n → GoesOnKnown (item_keys a ++ item_keys b) e n f o → GoesOnKnown (extern_keys es ++ extern_keys ts) d m f o
  pair_goes_on d e f m n o more then c sound st known = then c sound (named_both c st) (more c sound st known)
