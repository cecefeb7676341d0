-- What is read of the entries that a meet or a join is made of, and what is added for them.
use Rattle.std.proofs.Common.{◌≡◌, ◌<◌, List, ◌∷◌, [], ◌++◌, Option, Some, None, inl, inr, slice_get, filter, length, refl, ap, sym, subst, ◌∙◌, arith, Bool, true, false, cond, Result, Ok, Err, OnOk, IfOk}
use Rattle.std.specs.Str.{bytes_eq}
use Rattle.std.specs.declared.alloc.AllocError.{AllocError}
use Rattle.wac_model.specs.Text.{Text}
use Rattle.wac_core_merge.specs.Names.{is_new}
use Rattle.std.proofs.lemmas.List.{length-map}
use Rattle.std.specs.Option.{option_map, option_map_or}
use Rattle.std.proofs.lemmas.Option.{slice_get_cases}
use Rattle.wac_model.specs.CoreTree.{ModuleTree}
use Rattle.wac_model.specs.ItemTree.{no_items}
use Rattle.wac_component.specs.Id.{Id}
use Rattle.wac_component.specs.Collection.{Collection, UseContent, InterfaceContent, WorldContent}
use Rattle.wac_component.specs.Growth.{Extends, with_entry}
use Rattle.wac_component.specs.Height.{height, keys_height}
use Rattle.wac_component.specs.Key.{Key, Stands, AllStand, Entry, defined_entry, resource_entry, func_entry, interface_entry, world_entry, module_entry, entry_at, entry_keys, optional_keys, interface_key, world_key, module_key, interface_keys, world_keys, named_keys, use_keys, item_keys}
use Rattle.wac_component.specs.Sound.{IsSound}
use Rattle.wac_component.specs.Tree.{externs, interface_externs, world_externs, items_of, item_tree}
use Rattle.wac_component.proofs.Keys.{Each-append}
use Rattle.wac_component.proofs.Lists.{slice_get-map}
use Rattle.wac_component.proofs.Members.{uses_stand, world_uses_stand, exports_stand, exports_lower, world_imports_stand, world_exports_stand}
use Rattle.wac_component.proofs.Reading.{interface_standing, interface_lower}
use Rattle.wac_component.proofs.Trees.{interface-externs, world-externs}
use Rattle.wac_merge.specs.Built.{uses_of_both}
use Rattle.wac_merge.specs.Items.{ExternKinds, extern_keys}
use Rattle.wac_merge.specs.Reads.{entry_imports, exports_in_entry, imports_at, exports_at, HasExports, IsInterfaceOfBoth, IsWorldOfBoth}
use Rattle.wac_component.proofs.Last.{IsLast, with_entry-last}

-- an entry of the list of its sort
pub interface_at : (c : Collection) (x : Id) (e : InterfaceContent) → slice_get c.interfaces x.index ≡ Some e → entry_at c (interface_key x) ≡ Some (interface_entry e)
interface_at c x e h = slice_get-map interface_entry c.interfaces x.index ∙ ap (option_map interface_entry) h

pub world_at : (c : Collection) (x : Id) (e : WorldContent) → slice_get c.worlds x.index ≡ Some e → entry_at c (world_key x) ≡ Some (world_entry e)
world_at c x e h = slice_get-map world_entry c.worlds x.index ∙ ap (option_map world_entry) h

pub module_at : (c : Collection) (x : Id) (e : ModuleTree) → slice_get c.modules x.index ≡ Some e → entry_at c (module_key x) ≡ Some (module_entry e)
module_at c x e h = slice_get-map module_entry c.modules x.index ∙ ap (option_map module_entry) h

pub reads_interface : (c : Collection) (x : Id) (e : InterfaceContent) (es : ExternKinds) → slice_get c.interfaces x.index ≡ Some e → externs c (interface_key x) ≡ interface_externs (item_tree c) e
    → AllStand c (interface_keys e) → keys_height c (interface_keys e) < height c (interface_key x) → es ≡ e.exports → HasExports c x es
reads_interface c x e es at tree stand lower same = record {
  entry = e;
  at = interface_at c x e at;
  tree = tree ∙ ap (λ l. record { imports = no_items; exports = items_of (item_tree c) l }) (sym same);
  exports = sym same;
  standing = rw same (exports_stand c e stand);
  lower = rw same (omega (arith, lower, exports_lower c e));
}

-- what an interface exports, by its entry

pub interface_exports_are : (c : Collection) (x : Id) (e : InterfaceContent) → entry_at c (interface_key x) ≡ Some (interface_entry e) → exports_at c (interface_key x) ≡ e.exports
unfolding exports_at
interface_exports_are c x e h = ap (λ o. option_map_or exports_in_entry o []) h

-- what a world imports and exports, by its entry

pub world_imports_are : (c : Collection) (x : Id) (e : WorldContent) → entry_at c (world_key x) ≡ Some (world_entry e) → imports_at c (world_key x) ≡ e.imports
unfolding imports_at
world_imports_are c x e h = ap (λ o. option_map_or entry_imports o []) h

pub world_exports_are : (c : Collection) (x : Id) (e : WorldContent) → entry_at c (world_key x) ≡ Some (world_entry e) → exports_at c (world_key x) ≡ e.exports
unfolding exports_at
world_exports_are c x e h = ap (λ o. option_map_or exports_in_entry o []) h

-- what an id imports and exports is the same while the collection grows

pub imports_stay : (c d : Collection) → Extends c d → (k : Key) → Stands c k → imports_at d k ≡ imports_at c k
unfolding imports_at
imports_stay c d grown k stands = ap (λ o. option_map_or entry_imports o []) (grown.same_entry k stands)

pub exports_stay : (c d : Collection) → Extends c d → (k : Key) → Stands c k → exports_at d k ≡ exports_at c k
unfolding exports_at
exports_stay c d grown k stands = ap (λ o. option_map_or exports_in_entry o []) (grown.same_entry k stands)

-- it stands where the id does

pub imports_at_stand : (c : Collection) (k : Key) → IsSound c → Stands c k → AllStand c (extern_keys (imports_at c k))
unfolding imports_at
imports_at_stand c k sound stands = go (entry_at c k) (sound.standing k stands)
  where
    go : (o : Option Entry) → AllStand c (optional_keys entry_keys o) → AllStand c (extern_keys (option_map_or entry_imports o []))
    go None h = tt
    go (Some (defined_entry e)) h = tt
    go (Some (resource_entry e)) h = tt
    go (Some (func_entry e)) h = tt
    go (Some (interface_entry e)) h = tt
    go (Some (world_entry e)) h = world_imports_stand c e h
    go (Some (module_entry e)) h = tt

pub exports_at_stand : (c : Collection) (k : Key) → IsSound c → Stands c k → AllStand c (extern_keys (exports_at c k))
unfolding exports_at
exports_at_stand c k sound stands = go (entry_at c k) (sound.standing k stands)
  where
    go : (o : Option Entry) → AllStand c (optional_keys entry_keys o) → AllStand c (extern_keys (option_map_or exports_in_entry o []))
    go None h = tt
    go (Some (defined_entry e)) h = tt
    go (Some (resource_entry e)) h = tt
    go (Some (func_entry e)) h = tt
    go (Some (interface_entry e)) h = exports_stand c e h
    go (Some (world_entry e)) h = world_exports_stand c e h
    go (Some (module_entry e)) h = tt

-- an interface has the exports of its entry
pub has_exports_at : (c : Collection) (x : Id) → IsSound c → Stands c (interface_key x) → HasExports c x (exports_at c (interface_key x))
has_exports_at c x sound stands = elim (slice_get_cases c.interfaces x.index).1 [
  | inl there ↦ of_entry there.0 there.2
  | inr past ↦ absurd (omega (arith, past.0, stands.1, length-map c.interfaces interface_entry))
]
  where
    of_entry : (e : InterfaceContent) → slice_get c.interfaces x.index ≡ Some e → HasExports c x (exports_at c (interface_key x))
    of_entry e at =
        reads_interface c x e (exports_at c (interface_key x)) at (interface-externs c x e sound stands at)
        (interface_standing c x e sound stands at) (interface_lower c x e sound stands at) (interface_exports_are c x e (interface_at c x e at))

-- the tree of a world is that of what it imports and exports
pub world_tree : (c : Collection) (x : Id) → IsSound c → Stands c (world_key x)
    → externs c (world_key x) ≡ record { imports = items_of (item_tree c) (imports_at c (world_key x)); exports = items_of (item_tree c) (exports_at c (world_key x)) }
world_tree c x sound stands = elim (slice_get_cases c.worlds x.index).1 [
  | inl there ↦ of_entry there.0 there.2
  | inr past ↦ absurd (omega (arith, past.0, stands.1, length-map c.worlds world_entry))
]
  where
    of_entry : (e : WorldContent) → slice_get c.worlds x.index ≡ Some e
        → externs c (world_key x) ≡ record { imports = items_of (item_tree c) (imports_at c (world_key x)); exports = items_of (item_tree c) (exports_at c (world_key x)) }
    of_entry e at =
        rw (world_imports_are c x e (world_at c x e at), world_exports_are c x e (world_at c x e at)) (world-externs c x e sound stands at)

-- the entries that are added are last

pub interface_last : (c d : Collection) (x y p : Id) (es : ExternKinds) (h : IsInterfaceOfBoth c d x y es p)
    → IsLast c d (interface_entry (record { id = None; uses = uses_of_both h.first.uses h.second.uses; exports = es })) (interface_key p)
interface_last c d x y p es h =
    let e : InterfaceContent = record { id = None; uses = uses_of_both h.first.uses h.second.uses; exports = es } in
    subst (λ z. IsLast c z (interface_entry e) (interface_key p)) (sym h.added)
    (with_entry-last c (interface_entry e) (interface_key p) refl (ap (λ (z : Id). z.number) h.placed) (ap (λ (z : Id). z.index) h.placed ∙ sym (length-map c.interfaces interface_entry)))

pub world_last : (c d : Collection) (x y p : Id) (is es : ExternKinds) (h : IsWorldOfBoth c d x y is es p)
    → IsLast c d (world_entry (record { id = None; uses = uses_of_both h.first.uses h.second.uses; imports = is; exports = es })) (world_key p)
world_last c d x y p is es h =
    let e : WorldContent = record { id = None; uses = uses_of_both h.first.uses h.second.uses; imports = is; exports = es } in
    subst (λ z. IsLast c z (world_entry e) (world_key p)) (sym h.added)
    (with_entry-last c (world_entry e) (world_key p) refl (ap (λ (z : Id). z.number) h.placed) (ap (λ (z : Id). z.index) h.placed ∙ sym (length-map c.worlds world_entry)))

pub module_last : (c d : Collection) (p : Id) (t : ModuleTree) → d ≡ with_entry c (module_entry t) → p ≡ record { number = c.number; index = length c.modules } → IsLast c d (module_entry t) (module_key p)
module_last c d p t added placed =
    subst (λ z. IsLast c z (module_entry t) (module_key p)) (sym added)
    (with_entry-last c (module_entry t) (module_key p) refl (ap (λ (z : Id). z.number) placed) (ap (λ (z : Id). z.index) placed ∙ sym (length-map c.modules module_entry)))

-- the interfaces that both use stand
pub uses_stand_together : (c : Collection) (us vs : List (Text × UseContent)) → AllStand c (named_keys use_keys us) → AllStand c (named_keys use_keys vs) → AllStand c (named_keys use_keys (uses_of_both us vs))
uses_stand_together c us vs h g = joined us h
  where
    kept : (p : Text × UseContent → Bool) (vs : List (Text × UseContent)) → AllStand c (named_keys use_keys vs) → AllStand c (named_keys use_keys (filter p vs))
    kept p [] g = tt
    kept p (v ∷ vs) g = go (p v) (kept p vs g.1)
      where
        go : (b : Bool) → AllStand c (named_keys use_keys (filter p vs)) → AllStand c (named_keys use_keys (cond b (v ∷ filter p vs) (filter p vs)))
        go true h = (g.0, h)
        go false h = h

    news : List (Text × UseContent)
    news = filter (λ v. is_new bytes_eq us v.0) vs

    joined : (xs : List (Text × UseContent)) → AllStand c (named_keys use_keys xs) → AllStand c (named_keys use_keys (xs ++ news))
    joined [] h = kept (λ v. is_new bytes_eq us v.0) vs g
    joined (x ∷ xs) h = (h.0, joined xs h.1)

pub interface_stands : (c : Collection) (us : List (Text × UseContent)) (es : ExternKinds) (a b : InterfaceContent) → us ≡ uses_of_both a.uses b.uses → AllStand c (interface_keys a) → AllStand c (interface_keys b) → AllStand c (extern_keys es)
    → AllStand c (interface_keys (record { id = None; uses = us; exports = es }))
interface_stands c us es a b is sa sb se =
    Each-append (Stands c) (named_keys use_keys us) (named_keys item_keys es) (rw is (uses_stand_together c a.uses b.uses (uses_stand c a sa) (uses_stand c b sb))) se

pub world_stands : (c : Collection) (us : List (Text × UseContent)) (is es : ExternKinds) (a b : WorldContent) → us ≡ uses_of_both a.uses b.uses → AllStand c (world_keys a) → AllStand c (world_keys b) → AllStand c (extern_keys is) → AllStand c (extern_keys es)
    → AllStand c (world_keys (record { id = None; uses = us; imports = is; exports = es }))
world_stands c us is es a b same sa sb si se =
    Each-append (Stands c) (named_keys use_keys us ++ named_keys item_keys is) (named_keys item_keys es)
    (Each-append (Stands c) (named_keys use_keys us) (named_keys item_keys is) (rw same (uses_stand_together c a.uses b.uses (world_uses_stand c a sa) (world_uses_stand c b sb))) si) se

pub interface_made : (r : Result Id AllocError) (c d : Collection) (x y : Id) (us : List (Text × UseContent)) (es : ExternKinds) (a b : InterfaceContent) → us ≡ uses_of_both a.uses b.uses
    → slice_get c.interfaces x.index ≡ Some a → slice_get c.interfaces y.index ≡ Some b
    → OnOk r (d ≡ with_entry c (interface_entry (record { id = None; uses = us; exports = es }))) → IfOk r (λ p. p ≡ record { number = c.number; index = length c.interfaces })
    → IfOk r (λ p. Stands d (interface_key p)) → IfOk r (λ p. externs d (interface_key p) ≡ interface_externs (item_tree c) (record { id = None; uses = us; exports = es }))
    → IfOk r (λ p. IsInterfaceOfBoth c d x y es p)
interface_made (Err e) c d x y us es a b is at_x at_y added placed stands tree = tt
interface_made (Ok p) c d x y us es a b is at_x at_y added placed stands tree = record {
  first = a;
  second = b;
  first_at = interface_at c x a at_x;
  second_at = interface_at c y b at_y;
  added = subst (λ u. d ≡ with_entry c (interface_entry (record { id = None; uses = u; exports = es }))) is added;
  placed = placed;
  stands = stands;
  tree = tree;
}

pub world_made : (r : Result Id AllocError) (c d : Collection) (x y : Id) (us : List (Text × UseContent)) (is es : ExternKinds) (a b : WorldContent) → us ≡ uses_of_both a.uses b.uses
    → slice_get c.worlds x.index ≡ Some a → slice_get c.worlds y.index ≡ Some b
    → OnOk r (d ≡ with_entry c (world_entry (record { id = None; uses = us; imports = is; exports = es }))) → IfOk r (λ p. p ≡ record { number = c.number; index = length c.worlds })
    → IfOk r (λ p. Stands d (world_key p)) → IfOk r (λ p. externs d (world_key p) ≡ world_externs (item_tree c) (record { id = None; uses = us; imports = is; exports = es }))
    → IfOk r (λ p. IsWorldOfBoth c d x y is es p)
world_made (Err e) c d x y us is es a b same at_x at_y added placed stands tree = tt
world_made (Ok p) c d x y us is es a b same at_x at_y added placed stands tree = record {
  first = a;
  second = b;
  first_at = world_at c x a at_x;
  second_at = world_at c y b at_y;
  added = subst (λ u. d ≡ with_entry c (world_entry (record { id = None; uses = u; imports = is; exports = es }))) same added;
  placed = placed;
  stands = stands;
  tree = tree;
}
