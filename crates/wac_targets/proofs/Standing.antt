-- What is found stands where all that it is found among does.
use Rattle.std.proofs.Common.{◌≡◌, ℕ, slice_get, Bool, true, false, cond, [], ◌∷◌, Option, Some, None, Contains, sym, ◌∙◌, zero, suc, refl, MatchOption, arith}
use Rattle.std.specs.Str.{bytes_eq}
use Rattle.indexmap.specs.IndexMap.{insert_entry, insert_all}
use Rattle.wac_model.specs.Text.{Text}
use Rattle.wac_checker.specs.Cache.{AreNumberedApart}
use Rattle.wac_component.specs.Collection.{Collection}
use Rattle.wac_component.specs.Key.{Stands, AllStand, item_keys, named_keys}
use Rattle.wac_component.specs.Items.{promoted}
use Rattle.wac_component.specs.declared.items.ItemKind.{ItemKind}
use Rattle.wac_component.specs.declared.items.ItemKind.TheVariants.{«Type» as OfType, Func, Instance, Component, Module, Value}
use Rattle.wac_component.specs.declared.items.Type.TheVariants.{Resource as TypeResource, Func as TypeFunc, Value as TypeValue, Interface as TypeInterface, World as TypeWorld, Module as TypeModule}
use Rattle.wac_component.specs.declared.worlds.ExternKind.{ExternKind}
use Rattle.wac_component.specs.declared.worlds.ExternKind.TheVariants.{Import, Export}
use Rattle.wac_component.proofs.ImplicitLemmas.{insert-stands}
use Rattle.wac_component.proofs.Keys.{Each-left, Each-right, Each-flat_map_at}
use Rattle.wac_names.specs.Pairs.{IsFound, IsGreatest, value_at}
use Rattle.wac_targets.specs.Wanted.{NamedItems, left_item, right_item}

module _ (c : Collection) where
  pub value-stands : (ps : NamedItems) (n : Text) (k : ItemKind) → AllStand c (named_keys item_keys ps) → value_at ps n ≡ Some k → AllStand c (item_keys k)
  value-stands [] n k h at = absurd (cc (at))
  value-stands (p ∷ ps) n k h at = of (bytes_eq n p.0) at (value-stands ps n k (Each-right (Stands c) (item_keys p.1) (named_keys item_keys ps) h)) where
    of : (b : Bool) → cond b (Some p.1) (value_at ps n) ≡ Some k → (value_at ps n ≡ Some k → AllStand c (item_keys k)) → AllStand c (item_keys k)
    of true e rest = let same : p.1 ≡ k = cc (e) in rw (← same) (Each-left (Stands c) (item_keys p.1) (named_keys item_keys ps) h)
    of false e rest = rest e

  pub found-stands : (ps : NamedItems) (n : Text) (k : ItemKind) → AllStand c (named_keys item_keys ps) → IsFound ps n (Some k) → AllStand c (item_keys k)
  found-stands ps n k h f = of (value_at ps n) refl f where
    of : (o : Option ItemKind) → value_at ps n ≡ o → MatchOption o (IsGreatest ps n k) (λ v. Some k ≡ Some v) → AllStand c (item_keys k)
    of None e g = value-stands ps g.text k h g.there
    of (Some v) e same = value-stands ps n k h (e ∙ sym same)

  pub promoted-stands : (k : ItemKind) → AllStand c (item_keys k) → AllStand c (item_keys (promoted k))
  promoted-stands (OfType (TypeResource r)) h = h
  promoted-stands (OfType (TypeFunc r)) h = h
  promoted-stands (OfType (TypeValue r)) h = h
  promoted-stands (OfType (TypeInterface r)) h = h
  promoted-stands (OfType (TypeWorld r)) h = h
  promoted-stands (OfType (TypeModule r)) h = h
  promoted-stands (Func r) h = h
  promoted-stands (Instance r) h = h
  promoted-stands (Component r) h = h
  promoted-stands (Module r) h = h
  promoted-stands (Value r) h = h

  pub left-stands : (k : ExternKind) (a : ItemKind) → AllStand c (item_keys a) → AllStand c (item_keys (left_item k a))
  left-stands Import a h = promoted-stands a h
  left-stands Export a h = h

  pub right-stands : (k : ExternKind) (b : ItemKind) → AllStand c (item_keys b) → AllStand c (item_keys (right_item k b))
  right-stands Import b h = h
  right-stands Export b h = promoted-stands b h

  -- one collection, four times: the two sides of a question, and those of which the cache is true
  alone : (d : Collection) → Contains (c ∷ c ∷ c ∷ c ∷ []) d → d ≡ c
  alone d (zero, l, at) = sym at
  alone d (suc zero, l, at) = sym at
  alone d (suc (suc zero), l, at) = sym at
  alone d (suc (suc (suc zero)), l, at) = sym at
  alone d (suc (suc (suc (suc i))), l, at) = absurd (omega (arith, l))

  pub alone-apart : AreNumberedApart (c ∷ c ∷ c ∷ c ∷ [])
  alone-apart d e f g same = alone d f ∙ sym (alone e g)

  -- items that are put among others
  pub insert_all-stands : (ps qs : NamedItems) → AllStand c (named_keys item_keys ps) → AllStand c (named_keys item_keys qs) → AllStand c (named_keys item_keys (insert_all bytes_eq ps qs))
  insert_all-stands ps [] h g = h
  insert_all-stands ps (q ∷ qs) h g = insert_all-stands (insert_entry bytes_eq ps q.0 q.1) qs (insert-stands c ps q.0 q.1 h (Each-left (Stands c) (item_keys q.1) (named_keys item_keys qs) g)) (Each-right (Stands c) (item_keys q.1) (named_keys item_keys qs) g)

  pub item-stands : (ps : NamedItems) (i : ℕ) (n : Text) (k : ItemKind) → slice_get ps i ≡ Some (n, k) → AllStand c (named_keys item_keys ps) → AllStand c (item_keys k)
  item-stands ps i n k at h = Each-flat_map_at (Stands c) (λ (e : Text × ItemKind). item_keys e.1) ps i (n, k) at h
