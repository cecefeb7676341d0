-- The ids in what is named, in what may be there, and in what is pending.
use Rattle.std.proofs.Common.{◌≡◌, ℕ, List, [], ◌∷◌, ◌++◌, Option, Some, None, suc, zero, slice_get, refl, ap, subst}
use Rattle.std.specs.List.{flat_map}
use Rattle.std.specs.Option.{option_to_list}
use Rattle.std.specs.declared.string.String.{String}
use Rattle.std.specs.declared.alloc.Global.{Global}
use Rattle.std.proofs.lemmas.List.{append-nil}
use Rattle.std.proofs.lemmas.Grind.{flat_map-append}
use Rattle.wac_component.specs.Collection.{Collection}
use Rattle.wac_component.specs.Content.{named, types_of}
use Rattle.wac_component.specs.Key.{Key, Each, Stands, AllStand, item_keys, named_keys, optional_keys, type_keys, value_keys}
use Rattle.wac_component.specs.declared.items.ItemKind.{ItemKind}
use Rattle.wac_component.specs.declared.items.ValueType.{ValueType}
use Rattle.wac_item_text.specs.Rest.{AreStanding}
use Rattle.wac_item_text.specs.declared.rest.Pending.{Pending}
use Rattle.wac_component.proofs.Keys.{Each-left, Each-right}

pub param_keys : (es : List (String Global × ValueType)) → named_keys value_keys (named (λ v. v) es) ≡ flat_map value_keys (types_of es)
param_keys [] = refl
param_keys (e ∷ es) = ap (λ ks. value_keys e.1 ++ ks) (param_keys es)

pub result_keys : (o : Option ValueType) → flat_map value_keys (option_to_list o) ≡ optional_keys value_keys o
result_keys None = refl
result_keys (Some v) = append-nil (value_keys v)

-- the ids in one of named items
pub item_stands : (P : Key → Type 0) (es : List (String Global × ItemKind)) (i : ℕ) (v : ItemKind) → slice_get (types_of es) i ≡ Some v → Each P (named_keys item_keys (named (λ k. k) es)) → Each P (item_keys v)
item_stands P [] i v e h = absurd (cc)
item_stands P (x ∷ es) zero v e h = let same : x.1 ≡ v = cc in rw (← same) (Each-left P (item_keys x.1) (named_keys item_keys (named (λ k. k) es)) h)
item_stands P (x ∷ es) (suc i) v e h = item_stands P es i v e (Each-right P (item_keys x.1) (named_keys item_keys (named (λ k. k) es)) h)

-- the ids in the types that are pending stand: in those before the last one, and in the last one
pub standing_popped : (c : Collection) (before : List Pending) (last : Pending) → AreStanding c (before ++ last ∷ []) → AreStanding c before × AllStand c (type_keys last.ty)
standing_popped c before last h =
    let parts : AllStand c (flat_map (λ d. type_keys d.ty) before ++ (type_keys last.ty ++ [])) = subst (AllStand c) (flat_map-append (λ d. type_keys d.ty) before (last ∷ [])) h in (
      Each-left (Stands c) (flat_map (λ d. type_keys d.ty) before) (type_keys last.ty ++ []) parts,
      Each-left (Stands c) (type_keys last.ty) [] (Each-right (Stands c) (flat_map (λ d. type_keys d.ty) before) (type_keys last.ty ++ []) parts),
    )
