-- What was taken in, among the parts of what is taken in.
use Rattle.std.proofs.Common.{◌≡◌, List, [], ◌∷◌, Option, refl, ap, sym, subst, ◌∙◌, None, Some, IsSome}
use Rattle.wac_model.specs.Text.{Text}
use Rattle.wac_model.specs.ItemTree.{Kind, item, type_item, resource, value}
use Rattle.wac_model.specs.ValueTree.{ValueTree}
use Rattle.wac_model.proofs.ItemOrder.{Fits-refl, leaf_fits}
use Rattle.wac_component.specs.Id.{Id}
use Rattle.wac_component.specs.Collection.{Collection, AliasContent, UseContent}
use Rattle.wac_component.specs.Entries.{identifier_at}
use Rattle.wac_component.specs.Key.{Key, Each, optional_keys, item_keys, defined_key, resource_key, interface_key}
use Rattle.wac_component.specs.Tree.{item_tree, value_tree, root_name}
use Rattle.wac_component.specs.declared.items.ItemKind.{ItemKind}
use Rattle.wac_component.specs.declared.items.ItemKind.TheVariants.{«Type» as OfType, Value}
use Rattle.wac_component.specs.declared.items.Type.TheVariants.{Value as TypeValue}
use Rattle.wac_component.specs.declared.items.ValueType.{ValueType}
use Rattle.wac_component.specs.declared.items.ValueType.TheVariants.{Borrow, Own, Defined}
use Rattle.wac_merge.specs.Items.{entry_item}
use Rattle.wac_aggregator_narrowing.specs.Identified.{IsQuiet}
use Rattle.wac_aggregator_narrowing.specs.State.{State, IsStateKept, RunsTaking}
use Rattle.wac_names.specs.Class.{class_of}
use Rattle.wac_aggregator_narrowing.specs.Taking.{AreMapped, AreTakenKeys, no_keys, one_key, IsTakenKey, IsTakenItem}
use Rattle.wac_aggregator_narrowing.specs.Values.{IsTakenValue, IfAny, neither, both}
use Rattle.wac_aggregator_narrowing.proofs.Mapped.{mapped_more, taken_append, taken_key_still, taken_item_still}
use Rattle.wac_aggregator_taking.specs.Takes.{IsTakenAlias, IsTakenOwner, IsOwnUse}

module _ (f : Collection) (t : State) where
  -- an entry as an item
  pub item_of_taken : (k : Kind) (theirs own : Key) (x y : ItemKind) → item_keys x ≡ theirs ∷ [] → item_keys y ≡ own ∷ [] → x ≡ entry_item k theirs → y ≡ entry_item k own → IsTakenKey class_of f t theirs own → IsTakenItem class_of f t x y
  item_of_taken k theirs own x y keys own_keys at_x at_y h = record {
    stands = rw own_keys (h.remembered.stands_for.own_stands, tt);
    fits = rw (at_x, at_y) (h.remembered.stands_for.fits k);
    quiet = λ q. ap (item_tree t.own) at_y ∙ h.remembered.quiet (subst (Each (IsQuiet f)) keys q).0 k ∙ sym (ap (item_tree f) at_x);
    keys = rw (keys, own_keys) (one_key h no_keys);
  }

  -- a value as an item
  pub item_of_value : (v w : ValueType) → IsTakenValue class_of f t v w → IsTakenItem class_of f t (Value v) (Value w)
  item_of_value v w h = record { stands = h.stands; fits = rw h.same (Fits-refl (item_tree f (Value v))); quiet = λ q. rw h.same refl; keys = h.keys }

  pub type_of_value : (v w : ValueType) → IsTakenValue class_of f t v w → IsTakenItem class_of f t (OfType (TypeValue v)) (OfType (TypeValue w))
  type_of_value v w h = record { stands = h.stands; fits = rw h.same (Fits-refl (item_tree f (OfType (TypeValue v)))); quiet = λ q. rw h.same refl; keys = h.keys }

  -- the name at the root of a resource, and the tree of a defined type
  pub same_root : (p q : Id) → IsTakenKey class_of f t (resource_key p) (resource_key q) → root_name t.own q ≡ root_name f p
  same_root p q h = by_leaf (root_name t.own q) (root_name f p) (leaf_fits (h.remembered.stands_for.fits type_item))
    where
      by_leaf : (a b : Text) → resource a ≡ resource b → a ≡ b
      by_leaf a b e = cc

  same_defined : (p q : Id) → IsTakenKey class_of f t (defined_key p) (defined_key q) → value_tree t.own (Defined q) ≡ value_tree f (Defined p)
  same_defined p q h = by_leaf (value_tree t.own (Defined q)) (value_tree f (Defined p)) (leaf_fits (h.remembered.stands_for.fits item))
    where
      by_leaf : (a b : ValueTree) → value a ≡ value b → a ≡ b
      by_leaf a b e = cc

  -- entries as values
  pub borrow_of_taken : (p q : Id) → IsTakenKey class_of f t (resource_key p) (resource_key q) → IsTakenValue class_of f t (Borrow p) (Borrow q)
  borrow_of_taken p q h = record { stands = (h.remembered.stands_for.own_stands, tt); same = rw (same_root p q h) refl; keys = one_key h no_keys }

  pub own_of_taken : (p q : Id) → IsTakenKey class_of f t (resource_key p) (resource_key q) → IsTakenValue class_of f t (Own p) (Own q)
  own_of_taken p q h = record { stands = (h.remembered.stands_for.own_stands, tt); same = rw (same_root p q h) refl; keys = one_key h no_keys }

  pub defined_of_taken : (p q : Id) → IsTakenKey class_of f t (defined_key p) (defined_key q) → IsTakenValue class_of f t (Defined p) (Defined q)
  defined_of_taken p q h = record { stands = (h.remembered.stands_for.own_stands, tt); same = same_defined p q h; keys = one_key h no_keys }

  -- an alias of an owner, if there is one, and of a source
  -- an owner that was taken in and is imported
  pub owner_taken : (o own : Id) (n : Text) → identifier_at f (interface_key o) ≡ Some n → IsTakenKey class_of f t (interface_key o) (interface_key own) → IsSome (t.imports n) → IsTakenOwner f (Some o) (Some own) t
  owner_taken o own n identified h imported = record { taken = both h; imported = named }
    where
      named : (i : Id) (m : Text) → Some o ≡ Some i → identifier_at f (interface_key i) ≡ Some m → IsSome (t.imports m)
      named i m is at =
          let same : o ≡ i = cc in
          let names : Some n ≡ Some m = sym identified ∙ ap (λ j. identifier_at f (interface_key j)) same ∙ at in
          let equal : n ≡ m = cc in
          subst (λ x. IsSome (t.imports x)) equal imported

  pub alias_of_taken : (a b : AliasContent) → IsTakenOwner f a.owner b.owner t → IsTakenKey class_of f t (resource_key a.source) (resource_key b.source) → IsTakenAlias f t a b
  alias_of_taken a b o h = record {
    keys = taken_append class_of f t (optional_keys (λ p. interface_key p ∷ []) a.owner) (optional_keys (λ p. interface_key p ∷ []) b.owner) (resource_key a.source ∷ []) (resource_key b.source ∷ []) (owner_keys a.owner b.owner o.taken) (one_key h no_keys);
    source = same_root a.source b.source h;
    owner = o.imported;
  }
    where
      owner_keys : (x y : Option Id) → IfAny (λ p q. IsTakenKey class_of f t (interface_key p) (interface_key q)) x y → AreTakenKeys class_of f t (optional_keys (λ p. interface_key p ∷ []) x) (optional_keys (λ p. interface_key p ∷ []) y)
      owner_keys x y neither = no_keys
      owner_keys x y (both c) = one_key c no_keys

-- what was taken in is so after every run
module _ (f : Collection) (s t : State) (kept : IsStateKept s) (IsTrue : Collection → State → Type 0) (e : Collection) (run : RunsTaking IsTrue e s t) where
  keys_still : (x y : Option Id) → IfAny (λ p q. IsTakenKey class_of f s (interface_key p) (interface_key q)) x y → IfAny (λ p q. IsTakenKey class_of f t (interface_key p) (interface_key q)) x y
  keys_still x y neither = neither
  keys_still x y (both {x = p} {y = q} h) = both (taken_key_still class_of f s t kept IsTrue e run (interface_key p) (interface_key q) h)

  -- an import that there was
  pub some_still : (n : Text) → IsSome (s.imports n) → IsSome (t.imports n)
  some_still n h = at (s.imports n) refl h
    where
      at : (o : Option ItemKind) → s.imports n ≡ o → IsSome o → IsSome (t.imports n)
      at None is k = absurd (cc)
      at (Some x) is k = rw ((run.imports kept n x is).is) refl

  pub owner_still : (x y : Option Id) → IsTakenOwner f x y s → IsTakenOwner f x y t
  owner_still x y h = record { taken = keys_still x y h.taken; imported = λ i n is named. some_still n (h.imported i n is named) }

  pub use_still : (u v : UseContent) → IsOwnUse f s u v → IsOwnUse f t u v
  use_still u v h = record { name = h.name; identified = h.identified; interface = taken_key_still class_of f s t kept IsTrue e run (interface_key u.interface) (interface_key v.interface) h.interface }

  pub uses_still : (us vs : List (Text × UseContent)) → AreMapped (IsOwnUse f s) us vs → AreMapped (IsOwnUse f t) us vs
  uses_still us vs m = mapped_more (IsOwnUse f s) (IsOwnUse f t) use_still us vs m

  pub items_still : (xs ys : List (Text × ItemKind)) → AreMapped (IsTakenItem class_of f s) xs ys → AreMapped (IsTakenItem class_of f t) xs ys
  items_still xs ys m = mapped_more (IsTakenItem class_of f s) (IsTakenItem class_of f t) (taken_item_still class_of f s t kept IsTrue e run) xs ys m
