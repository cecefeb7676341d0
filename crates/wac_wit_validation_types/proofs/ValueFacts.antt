-- Equal value types, and the rule for each way in which a type is written.
use Rattle.std.proofs.Common.{◌≡◌, ℕ, ◌+◌, ◌<◌, ◌≤◌, Bool, true, List, [], ◌∷◌, ◌++◌, Box, Option, Some, None, arith, rules, refl, sym, ap, subst, map, is_some, take, get_or, length, ltb}
use Rattle.std.specs.Option.{option_map, option_to_list}
use Rattle.std.specs.declared.alloc.Global.{Global}
use Rattle.std.proofs.lemmas.List.{take_more, take_all}
use borrow.Author.Tests.{ltb-true}
use Rattle.wac_component.specs.Collection.{Collection}
use Rattle.wac_component.specs.Tree.{value_tree}
use Rattle.wac_component.specs.declared.items.ValueType.{ValueType}
use Rattle.wac_component.specs.contracts.items.ValueTypePartialEq.TheImpl.{ghosts as values}
use Rattle.wac_model.specs.ValueTree.{ValueTree, future, node, parts_of, result_of, stream}
use Rattle.wac_wit_validation_types.specs.Denoted.{AreValuesOf, IsOptional, IsValue, Setting, a_future, a_result, a_stream, more_values, no_values}
use Rattle.wac_wit_syntax.specs.declared.tree.TypeExpr.{TypeExpr}
use Rattle.wac_wit_syntax.specs.declared.tree.TypeExpr.TheVariants as ty

abbrev pub value_eq : ValueType → ValueType → Bool
value_eq = values.eq

pub value_exact : (x y : ValueType) → value_eq x y ≡ true → x ≡ y
value_exact x y h = search rules

is_some-map : {A B : Type 0} (f : A → B) (o : Option A) → is_some (option_map f o) ≡ is_some o
is_some-map f None = refl
is_some-map f (Some x) = refl

map-option_to_list : {A B : Type 0} (f : A → B) (o : Option A) → map f (option_to_list o) ≡ option_to_list (option_map f o)
map-option_to_list f None = refl
map-option_to_list f (Some x) = refl

map-both : {A B : Type 0} (f : A → B) (o p : Option A) → map f (option_to_list o ++ option_to_list p) ≡ option_to_list (option_map f o) ++ option_to_list (option_map f p)
map-both f None None = refl
map-both f None (Some x) = refl
map-both f (Some x) None = refl
map-both f (Some x) (Some y) = refl

map-last : {A B : Type 0} (f : A → B) (xs : List A) (x : A) → map f (xs ++ x ∷ []) ≡ map f xs ++ f x ∷ []
map-last f [] x = refl
map-last {A} {B} f (y ∷ xs) x = ap (λ (l : List B). f y ∷ l) (map-last f xs x)

AreValuesOf-last : (s : Setting) (ts : List TypeExpr) (vs : List ValueTree) (t : TypeExpr) (v : ValueTree) → AreValuesOf s ts vs → IsValue s t v → AreValuesOf s (ts ++ t ∷ []) (vs ++ v ∷ [])
AreValuesOf-last s _ _ t v no_values is = more_values is no_values
AreValuesOf-last s _ _ t v (more_values first others) is = more_values first (AreValuesOf-last s _ _ t v others is)

-- one more type that is written
pub AreValuesOf-more : (s : Setting) (c : Collection) (ts : List TypeExpr) (vs : List ValueType) (i : ℕ) (t : TypeExpr) (v : ValueType) → i < length ts → true ≡ ltb i (length vs) → t ≡ get_or ts i t → v ≡ get_or vs i v
    → AreValuesOf s (take i ts) (map (value_tree c) (take i vs)) → IsValue s t (value_tree c v) → AreValuesOf s (take (i + 1) ts) (map (value_tree c) (take (i + 1) vs))
AreValuesOf-more s c ts vs i t v below within at of all is = rw (take_more ts i t below, take_more vs i v (ltb-true i (length vs) (sym within)), map-last (value_tree c) (take i vs) (get_or vs i v), ← at, ← of) (AreValuesOf-last s (take i ts) (map (value_tree c) (take i vs)) t (value_tree c v) all is)

-- all of them
pub AreValuesOf-all : (s : Setting) (c : Collection) (ts : List TypeExpr) (vs : List ValueType) (i : ℕ) → length ts ≤ i → length ts ≡ length vs → AreValuesOf s (take i ts) (map (value_tree c) (take i vs)) → AreValuesOf s ts (map (value_tree c) vs)
AreValuesOf-all s c ts vs i past even all = subst (λ l. AreValuesOf s l (map (value_tree c) vs)) (take_all i ts past) (subst (λ l. AreValuesOf s (take i ts) (map (value_tree c) l)) (take_all i vs (omega arith)) all)

module _ (s : Setting) (f : ValueType → ValueTree) where
  pub result-value : (e d : Option (Box TypeExpr Global)) (x y : Option ValueType) → IsOptional s e (option_map f x) → IsOptional s d (option_map f y)
      → IsValue s (ty.Result e d) (node (result_of (is_some x) (is_some y)) (parts_of (map f (option_to_list x ++ option_to_list y))))
  result-value e d x y w u = rw (map-both f x y, ← is_some-map f x, ← is_some-map f y) (a_result w u)

  pub future-value : (e : Option (Box TypeExpr Global)) (x : Option ValueType) → IsOptional s e (option_map f x) → IsValue s (ty.Future e) (node (future (is_some x)) (parts_of (map f (option_to_list x))))
  future-value e x w = rw (map-option_to_list f x, ← is_some-map f x) (a_future w)

  pub stream-value : (e : Option (Box TypeExpr Global)) (x : Option ValueType) → IsOptional s e (option_map f x) → IsValue s (ty.Stream e) (node (stream (is_some x)) (parts_of (map f (option_to_list x))))
  stream-value e x w = rw (map-option_to_list f x, ← is_some-map f x) (a_stream w)
