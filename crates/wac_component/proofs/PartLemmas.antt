-- What is listed in places.
use Rattle.std.proofs.lemmas.Grind.{flat_map-append}
use Rattle.std.proofs.lemmas.List.Folds.{flat_map-map}
use Rattle.std.proofs.Common.{◌≡◌, ◌≤◌, ◌+◌, add-one, arith, suc, zero, drop, length, ℕ, List, [], ◌∷◌, ◌++◌, Option, Some, None, map, slice_get, refl, ap, sym, ◌∙◌, append_assoc}
use Rattle.std.specs.List.{flat_map}
use Rattle.std.specs.Option.{option_map}
use Rattle.std.specs.declared.string.String.{String}
use Rattle.std.specs.declared.alloc.Global.{Global}
use Rattle.wac_component.specs.Content.{named, types_of, case_types}
use Rattle.wac_component.specs.Key.{Key, named_keys, optional_keys, item_keys, value_keys, defined_keys}
use Rattle.wac_component.specs.Parts.{placed, places_keys, place_keys, members_of}
use Rattle.wac_component.specs.declared.items.ValueType.{ValueType}
use Rattle.wac_component.specs.declared.items.ItemKind.{ItemKind}
use Rattle.wac_component.specs.declared.items.ItemKind.TheVariants.{Value}
use Rattle.wac_component.specs.Collection.{DefinedContent, alias_of, composed}
use Rattle.wac_component.proofs.Lists.{slice_get-map, append_nil}

-- what stands at a place of a list stands there in what is made of it
pub map_at : {A B : Type 0} (f : A → B) (xs : List A) (i : ℕ) (x : A) → slice_get xs i ≡ Some x → slice_get (map f xs) i ≡ Some (f x)
map_at f xs i x e = slice_get-map f xs i ∙ ap (option_map f) e

-- the ids in the values of a map, and those in what comes after
pub map_keys : {V W : Type 0} (f : V → ItemKind) (g : V → W) (h : W → List Key) → ((v : V) → item_keys (f v) ≡ h (g v)) → (es : List (String Global × V)) (rest : List (Option ItemKind)) → places_keys (map (λ v. Some (f v)) (types_of es) ++ rest) ≡ named_keys h (named g es) ++ places_keys rest
map_keys f g h same [] rest = refl
map_keys f g h same (e ∷ es) rest = rw (same e.1, map_keys f g h same es rest) (sym (append_assoc (h (g e.1)) (named_keys h (named g es)) (places_keys rest)))

pub items_keys : (es : List (String Global × ItemKind)) → places_keys (map (λ k. Some k) (types_of es)) ≡ named_keys item_keys (named (λ k. k) es)
items_keys [] = refl
items_keys (e ∷ es) = ap (λ ks. item_keys e.1 ++ ks) (items_keys es)

-- the ids in a value type, if there is one
pub value_place : (t : Option ValueType) → (place_keys (option_map Value t) ++ []) ≡ optional_keys value_keys t
value_place None = refl
value_place (Some v) = append_nil (value_keys v)

-- the value types among items
pub placed-values : (vs : List ValueType) → placed (map (λ v. Some (Value v)) vs) ≡ map Value vs
placed-values [] = refl
placed-values (v ∷ vs) = ap (λ ks. Value v ∷ ks) (placed-values vs)

pub placed-cases : (es : List (String Global × Option ValueType)) → placed (map (λ t. option_map Value t) (types_of es)) ≡ map Value (case_types es)
placed-cases [] = refl
placed-cases ((k, None) ∷ es) = placed-cases es
placed-cases ((k, Some v) ∷ es) = ap (λ ks. Value v ∷ ks) (placed-cases es)

-- the ids among places are those in the items of these
pub places_keys-placed : (ps : List (Option ItemKind)) → places_keys ps ≡ flat_map item_keys (placed ps)
places_keys-placed [] = refl
places_keys-placed (None ∷ ps) = places_keys-placed ps
places_keys-placed (Some k ∷ ps) = ap (λ ks. item_keys k ++ ks) (places_keys-placed ps)

members_keys : (d : DefinedContent) → flat_map value_keys (members_of d) ≡ defined_keys d
members_keys (alias_of of) = append_nil (value_keys of)
members_keys (composed label members) = refl

-- the ids in a defined type, by the value types in it
pub defined_places : (ps : List (Option ItemKind)) (d : DefinedContent) → placed ps ≡ map Value (members_of d) → places_keys ps ≡ defined_keys d
defined_places ps d e = places_keys-placed ps ∙ ap (λ ks. flat_map item_keys ks) e ∙ flat_map-map item_keys Value (members_of d) ∙ members_keys d

-- the ids in three lists
pub all_keys : (ps qs rs : List (Option ItemKind)) → places_keys (ps ++ (qs ++ rs)) ≡ ((places_keys ps ++ places_keys qs) ++ places_keys rs)
all_keys ps qs rs = flat_map-append place_keys ps (qs ++ rs) ∙ ap (λ ks. places_keys ps ++ ks) (flat_map-append place_keys qs rs) ∙ sym (append_assoc (places_keys ps) (places_keys qs) (places_keys rs))

-- of a list, what is given at a place and what is left after it are what is left at it
flat_map-drop : {X A : Type 0} (f : X → List A) (xs : List X) (i : ℕ) (x : X) → slice_get xs i ≡ Some x → flat_map f (drop i xs) ≡ f x ++ flat_map f (drop (suc i) xs)
flat_map-drop f [] i x at = absurd (cc)
flat_map-drop f (y ∷ xs) zero x at = let same : y ≡ x = cc in rw same refl
flat_map-drop f (y ∷ xs) (suc i) x at = flat_map-drop f xs i x at

pub listed_after : {X A : Type 0} (f : X → List A) (xs : List X) (i : ℕ) (x : X) → slice_get xs i ≡ Some x → (given more all : List A) → more ≡ given ++ f x → given ++ flat_map f (drop i xs) ≡ all → more ++ flat_map f (drop (i + 1) xs) ≡ all
listed_after f xs i x at given more all new so_far = rw (new, add-one) (append_assoc given (f x) (flat_map f (drop (suc i) xs)) ∙ ap (λ ks. given ++ ks) (sym (flat_map-drop f xs i x at)) ∙ so_far)

drop-past : {X : Type 0} (xs : List X) (i : ℕ) → length xs ≤ i → drop i xs ≡ []
drop-past [] zero l = refl
drop-past [] (suc i) l = refl
drop-past (x ∷ xs) zero l = absurd (omega arith)
drop-past (x ∷ xs) (suc i) l = drop-past xs i (omega arith)

pub listed_all : {X A : Type 0} (f : X → List A) (xs : List X) (i : ℕ) → length xs ≤ i → (given all : List A) → given ++ flat_map f (drop i xs) ≡ all → given ≡ all
listed_all f xs i l given all so_far = sym (append_nil given) ∙ ap (λ ys. given ++ flat_map f ys) (sym (drop-past xs i l)) ∙ so_far

-- the ids in a list that stands alone
pub alone_keys : (ps : List (Option ItemKind)) → places_keys (ps ++ None ∷ None ∷ None ∷ None ∷ []) ≡ places_keys ps
alone_keys ps = flat_map-append place_keys ps (None ∷ None ∷ None ∷ None ∷ []) ∙ append_nil (places_keys ps)
