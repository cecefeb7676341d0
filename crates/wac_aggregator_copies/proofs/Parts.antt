-- Copies among the parts of what is copied.
use Rattle.std.proofs.Common.{◌≡◌, [], ◌∷◌, Option, refl, ap, sym, ◌∙◌}
use Rattle.wac_model.specs.ItemTree.{Kind, item, type_item}
use Rattle.wac_component.specs.Id.{Id}
use Rattle.wac_component.specs.Collection.{Collection, AliasContent}
use Rattle.wac_component.specs.Key.{Key, optional_keys, item_keys, defined_key, resource_key, interface_key}
use Rattle.wac_component.specs.Tree.{item_tree, value_tree, root_name}
use Rattle.wac_component.specs.declared.items.ItemKind.{ItemKind}
use Rattle.wac_component.specs.declared.items.ItemKind.TheVariants.{«Type» as OfType, Value}
use Rattle.wac_component.specs.declared.items.Type.TheVariants.{Value as TypeValue}
use Rattle.wac_component.specs.declared.items.ValueType.{ValueType}
use Rattle.wac_component.specs.declared.items.ValueType.TheVariants.{Borrow, Own, Defined}
use Rattle.wac_merge.specs.Items.{entry_item}
use Rattle.wac_aggregator_narrowing.specs.State.{State}
use Rattle.wac_aggregator_narrowing.specs.Taking.{IsCopiedItem, IsCopiedKey, AreCopiedKeys, no_keys, one_key}
use Rattle.wac_aggregator_narrowing.specs.Values.{IsCopiedValue, IfAny, neither, both}
use Rattle.wac_aggregator_narrowing.proofs.Mapped.{paired_append}
use Rattle.wac_aggregator_copies.specs.Copies.{IsCopiedAlias}

module _ (f : Collection) (t : State) where
  -- a copy as an item
  pub item_of_copy : (k : Kind) (theirs own : Key) (x y : ItemKind) → item_keys x ≡ theirs ∷ [] → item_keys y ≡ own ∷ [] → x ≡ entry_item k theirs → y ≡ entry_item k own → IsCopiedKey f t theirs own → IsCopiedItem f t x y
  item_of_copy k theirs own x y from keys at_x at_y h = record {
    stands = rw keys (h.copy.own_stands, tt);
    apart = rw keys (h.copy.apart, tt);
    keys = rw (from, keys) (one_key h no_keys);
    same = ap (item_tree t.own) at_y ∙ h.copy.same k ∙ sym (ap (item_tree f) at_x);
  }

  -- a copied value as an item
  pub item_of_value : (v w : ValueType) → IsCopiedValue f t v w → IsCopiedItem f t (Value v) (Value w)
  item_of_value v w h = record { stands = h.stands; apart = h.apart; keys = h.keys; same = rw h.same refl }

  pub type_of_value : (v w : ValueType) → IsCopiedValue f t v w → IsCopiedItem f t (OfType (TypeValue v)) (OfType (TypeValue w))
  type_of_value v w h = record { stands = h.stands; apart = h.apart; keys = h.keys; same = rw h.same refl }

  -- the name at the root of a copied resource, and the tree of a copied defined type
  pub same_root : (p q : Id) → IsCopiedKey f t (resource_key p) (resource_key q) → root_name t.own q ≡ root_name f p
  same_root p q h = let same = h.copy.same type_item in cc

  same_defined : (p q : Id) → IsCopiedKey f t (defined_key p) (defined_key q) → value_tree t.own (Defined q) ≡ value_tree f (Defined p)
  same_defined p q h = let same = h.copy.same item in cc

  -- copies as values
  pub borrow_of_copy : (p q : Id) → IsCopiedKey f t (resource_key p) (resource_key q) → IsCopiedValue f t (Borrow p) (Borrow q)
  borrow_of_copy p q h = record { stands = (h.copy.own_stands, tt); apart = (h.copy.apart, tt); keys = one_key h no_keys; same = rw (same_root p q h) refl }

  pub own_of_copy : (p q : Id) → IsCopiedKey f t (resource_key p) (resource_key q) → IsCopiedValue f t (Own p) (Own q)
  own_of_copy p q h = record { stands = (h.copy.own_stands, tt); apart = (h.copy.apart, tt); keys = one_key h no_keys; same = rw (same_root p q h) refl }

  pub defined_of_copy : (p q : Id) → IsCopiedKey f t (defined_key p) (defined_key q) → IsCopiedValue f t (Defined p) (Defined q)
  defined_of_copy p q h = record { stands = (h.copy.own_stands, tt); apart = (h.copy.apart, tt); keys = one_key h no_keys; same = same_defined p q h }

  -- an alias of a copied owner, if there is one, and of a copied source
  pub alias_of_copies : (a b : AliasContent) → IfAny (λ p q. IsCopiedKey f t (interface_key p) (interface_key q)) a.owner b.owner → IsCopiedKey f t (resource_key a.source) (resource_key b.source) → IsCopiedAlias f t a b
  alias_of_copies a b o h = record {
    keys = paired_append (IsCopiedKey f t) (optional_keys (λ p. interface_key p ∷ []) a.owner) (optional_keys (λ p. interface_key p ∷ []) b.owner) (resource_key a.source ∷ []) (resource_key b.source ∷ []) (owner_keys a.owner b.owner o) (one_key h no_keys);
    source = same_root a.source b.source h;
  }
    where
      owner_keys : (x y : Option Id) → IfAny (λ p q. IsCopiedKey f t (interface_key p) (interface_key q)) x y
          → AreCopiedKeys f t (optional_keys (λ p. interface_key p ∷ []) x) (optional_keys (λ p. interface_key p ∷ []) y)
      owner_keys x y neither = no_keys
      owner_keys x y (both c) = one_key c no_keys
