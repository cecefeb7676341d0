-- The entries of two items, whose uses are compared.
use Rattle.std.proofs.Common.{◌≡◌, [], ◌∷◌, Option, Some, Result, refl, sym, subst, ◌∙◌}
use Rattle.std.proofs.lemmas.Result.{MatchResult-weaker}
use Rattle.std.specs.Result.{MatchResult}
use Rattle.wac_component.specs.Collection.{Collection}
use Rattle.wac_component.specs.Entries.{uses_at}
use Rattle.wac_component.specs.Id.{Id}
use Rattle.wac_component.specs.Key.{Key, item_keys}
use Rattle.wac_component.specs.declared.items.ItemKind.{ItemKind}
use Rattle.wac_component.specs.declared.items.ItemKind.TheVariants.{«Type» as OfType, Func, Instance, Component, Module, Value}
use Rattle.wac_component.specs.declared.items.Type.{«Type» as TypeOf}
use Rattle.wac_component.specs.declared.items.Type.TheVariants.{Resource as TypeResource, Func as TypeFunc, Value as TypeValue, Interface as TypeInterface, World as TypeWorld, Module as TypeModule}
use Rattle.wac_aggregator_errors.specs.declared.error.AggregateError.{AggregateError}
use Rattle.wac_aggregator_uses.specs.Differ.{IsUsesRefusal}
use Rattle.wac_aggregator_uses.specs.Uses.{UsesAgree, users, ItemsAgree}

-- what is told of the entries is told of the items
pub told_of_items : {X : Type 0} (c : Collection) (r : Result X AggregateError) (x y : ItemKind) (k j : Key) → users x y ≡ Some (k, j) → item_keys x ≡ k ∷ [] → item_keys y ≡ j ∷ []
    → MatchResult r (λ u. UsesAgree c (uses_at c k) (uses_at c j)) (IsUsesRefusal c (k ∷ []) (j ∷ [])) → MatchResult r (λ u. ItemsAgree c x y) (IsUsesRefusal c (item_keys x) (item_keys y))
told_of_items c r x y k j are at_x at_y h =
    MatchResult-weaker r h
    (λ u agree l m is. subst (λ (p : Key × Key). UsesAgree c (uses_at c p.0) (uses_at c p.1)) (same (sym are ∙ is)) agree)
    (λ e no. subst (λ ks. IsUsesRefusal c ks (item_keys y) e) (sym at_x) (subst (λ js. IsUsesRefusal c (k ∷ []) js e) (sym at_y) no))
  where
    same : {p q : Key × Key} → ◌≡◌ {A = Option (Key × Key)} (Some p) (Some q) → p ≡ q
    same h = cc h

-- items of other cases have none
pub types_apart : (x y : TypeOf) (p : Key × Key) → ((a b : Id) → x ≡ TypeInterface a → y ≡ TypeInterface b → ⊥) → ((a b : Id) → x ≡ TypeWorld a → y ≡ TypeWorld b → ⊥) → users (OfType x) (OfType y) ≡ Some p → ⊥
types_apart (TypeResource a) y p i w h = absurd (cc)
types_apart (TypeFunc a) y p i w h = absurd (cc)
types_apart (TypeValue a) y p i w h = absurd (cc)
types_apart (TypeInterface a) (TypeResource b) p i w h = absurd (cc)
types_apart (TypeInterface a) (TypeFunc b) p i w h = absurd (cc)
types_apart (TypeInterface a) (TypeValue b) p i w h = absurd (cc)
types_apart (TypeInterface a) (TypeInterface b) p i w h = i a b refl refl
types_apart (TypeInterface a) (TypeWorld b) p i w h = absurd (cc)
types_apart (TypeInterface a) (TypeModule b) p i w h = absurd (cc)
types_apart (TypeWorld a) (TypeResource b) p i w h = absurd (cc)
types_apart (TypeWorld a) (TypeFunc b) p i w h = absurd (cc)
types_apart (TypeWorld a) (TypeValue b) p i w h = absurd (cc)
types_apart (TypeWorld a) (TypeInterface b) p i w h = absurd (cc)
types_apart (TypeWorld a) (TypeWorld b) p i w h = w a b refl refl
types_apart (TypeWorld a) (TypeModule b) p i w h = absurd (cc)
types_apart (TypeModule a) y p i w h = absurd (cc)

type_beside : (x : TypeOf) (y : ItemKind) (p : Key × Key) → ((b : TypeOf) → y ≡ OfType b → ⊥) → users (OfType x) y ≡ Some p → ⊥
type_beside (TypeResource a) y p other h = absurd (cc)
type_beside (TypeFunc a) y p other h = absurd (cc)
type_beside (TypeValue a) y p other h = absurd (cc)
type_beside (TypeInterface a) (OfType b) p other h = other b refl
type_beside (TypeInterface a) (Func b) p other h = absurd (cc)
type_beside (TypeInterface a) (Instance b) p other h = absurd (cc)
type_beside (TypeInterface a) (Component b) p other h = absurd (cc)
type_beside (TypeInterface a) (Module b) p other h = absurd (cc)
type_beside (TypeInterface a) (Value b) p other h = absurd (cc)
type_beside (TypeWorld a) (OfType b) p other h = other b refl
type_beside (TypeWorld a) (Func b) p other h = absurd (cc)
type_beside (TypeWorld a) (Instance b) p other h = absurd (cc)
type_beside (TypeWorld a) (Component b) p other h = absurd (cc)
type_beside (TypeWorld a) (Module b) p other h = absurd (cc)
type_beside (TypeWorld a) (Value b) p other h = absurd (cc)
type_beside (TypeModule a) y p other h = absurd (cc)

pub items_apart : (x y : ItemKind) (p : Key × Key) → ((a b : Id) → x ≡ Instance a → y ≡ Instance b → ⊥) → ((a b : Id) → x ≡ Component a → y ≡ Component b → ⊥) → ((a b : TypeOf) → x ≡ OfType a → y ≡ OfType b → ⊥) → users x y ≡ Some p → ⊥
items_apart (OfType a) y p i c t h = type_beside a y p (λ b same. t a b refl same) h
items_apart (Func a) y p i c t h = absurd (cc)
items_apart (Instance a) (OfType b) p i c t h = absurd (cc)
items_apart (Instance a) (Func b) p i c t h = absurd (cc)
items_apart (Instance a) (Instance b) p i c t h = i a b refl refl
items_apart (Instance a) (Component b) p i c t h = absurd (cc)
items_apart (Instance a) (Module b) p i c t h = absurd (cc)
items_apart (Instance a) (Value b) p i c t h = absurd (cc)
items_apart (Component a) (OfType b) p i c t h = absurd (cc)
items_apart (Component a) (Func b) p i c t h = absurd (cc)
items_apart (Component a) (Instance b) p i c t h = absurd (cc)
items_apart (Component a) (Component b) p i c t h = c a b refl refl
items_apart (Component a) (Module b) p i c t h = absurd (cc)
items_apart (Component a) (Value b) p i c t h = absurd (cc)
items_apart (Module a) y p i c t h = absurd (cc)
items_apart (Value a) y p i c t h = absurd (cc)
