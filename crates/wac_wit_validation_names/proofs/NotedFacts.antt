-- What is noted under a name.
use Rattle.std.proofs.Common.{◌≡◌, ◌≢◌, ◌∙◌, arith, ℕ, ◌≤◌, Bool, true, false, cond, List, [], ◌∷◌, Contains, Option, Some, None, Global, length, refl, sym, ap, subst}
use Rattle.std.specs.Prelude.{String, slice_get, string_bytes}
use Rattle.std.specs.Map.{lookup}
use Rattle.std.specs.Borrow.{Bor}
use Rattle.std.specs.Option.{option_copied, option_map}
use Rattle.std.specs.Str.{bytes_eq}
use Rattle.std.proofs.lemmas.Map.Views.{Contains-from_lookup}
use Rattle.std.proofs.lemmas.List.{length-map}
use Rattle.std.proofs.lemmas.Option.{slice_get-map}
use Rattle.std.proofs.lemmas.Slice.Eq.{bytes_eq-Decides}
use Rattle.wac_model.specs.Text.{Text}
use Rattle.wac_component.specs.Collection.{Collection, ResourceContent, UseContent}
use Rattle.wac_component.specs.Content.{named, use_content}
use Rattle.wac_component.specs.Id.{Id}
use Rattle.wac_component.specs.declared.interfaces.UsedType.{UsedType}
use Rattle.wac_component.specs.declared.items.ItemKind.TheVariants.{«Type» as OfType}
use Rattle.wac_component.specs.declared.items.Type.{«Type» as TypeOf}
use Rattle.wac_component.specs.declared.items.Type.TheVariants.{Resource as TypeResource}
use Rattle.wac_wit_syntax.specs.declared.tree.Ident.{Ident}
use Rattle.wac_wit_syntax.specs.declared.tree.TypeDef.TheVariants as def
use Rattle.wac_wit_syntax.specs.declared.tree.TypeExpr.{TypeExpr}
use Rattle.wac_wit_syntax.specs.declared.tree.TypeExpr.TheVariants as ty
use Rattle.wac_wit_validation_names.specs.Noted.{HasOwner, origin_at}
use Rattle.wac_wit_validation_types.specs.Origins.{IsOwnerOf}

-- ---- what is noted under a name

-- what is found under a name in a map, as entries whose names are texts
pub lookup-named : {V W : Type 0} (f : V → W) (es : List (String Global × V)) (n : Text) → lookup (bytes_eq n) (named f es) ≡ option_map f (lookup (λ k. bytes_eq n (string_bytes k)) es)
lookup-named f [] n = refl
lookup-named f (e ∷ es) n = by (bytes_eq n (string_bytes e.0)) refl (lookup-named f es n)
  where
    by : (b : Bool) → bytes_eq n (string_bytes e.0) ≡ b → lookup (bytes_eq n) (named f es) ≡ option_map f (lookup (λ k. bytes_eq n (string_bytes k)) es)
        → cond b (Some (f e.1)) (lookup (bytes_eq n) (named f es)) ≡ option_map f (cond b (Some e.1) (lookup (λ k. bytes_eq n (string_bytes k)) es))
    by true is rest = refl
    by false is rest = rest

-- what is found under a name is an entry
pub found_among : {V : Type 0} (es : List (Text × V)) (n : Text) (x : V) → lookup (bytes_eq n) es ≡ Some x → Contains es (n, x)
found_among es n x at = Contains-from_lookup {eq = bytes_eq} (λ a b is. (bytes_eq-Decides a b).0 is) n x es at

-- the same of an entry in a map
pub found_entry : {V W : Type 0} (f : V → W) (es : List (String Global × V)) (n : Text) (x : V) → lookup (λ k. bytes_eq n (string_bytes k)) es ≡ Some x → Contains (named f es) (n, f x)
found_entry f es n x at = found_among (named f es) n (f x) (lookup-named f es n ∙ ap (option_map f) at)

-- what `get` answers is what is found
pub got : {V : Type 0} (r : Option (Bor V)) (x : Bor V) (o : Option V) → option_copied r ≡ o → r ≡ Some x → o ≡ Some x.now
got r x o value is = sym value ∙ ap option_copied is

pub got_nothing : {V : Type 0} (r : Option (Bor V)) (o : Option V) → option_copied r ≡ o → r ≡ None → o ≡ None
got_nothing r o value is = sym value ∙ ap option_copied is

-- an entry by its place, with its name as a text
pub entry_at_place : {V W : Type 0} (f : V → W) (es : List (String Global × V)) (i : ℕ) (k : String Global) (v : V) → slice_get es i ≡ Some (k, v) → slice_get (named f es) i ≡ Some (string_bytes k, f v)
entry_at_place {V} f es i k v at = slice_get-map (λ e. (string_bytes e.0, f e.1)) es i ∙ ap (option_map (λ (e : String Global × V). (string_bytes e.0, f e.1))) at

pub entries_past : {V W : Type 0} (f : V → W) (es : List (String Global × V)) (n i : ℕ) → n ≡ length es → n ≤ i → length (named f es) ≤ i
entries_past {V} {W} f es n i is past = omega (arith, is, past, length-map {B = Text × W} es (λ (e : String Global × V). (string_bytes e.0, f e.1)))

-- the origin that is told of a name in a map
pub origin_some : (es : List (String Global × UsedType)) (n : Text) (u : UsedType) → lookup (λ k. bytes_eq n (string_bytes k)) es ≡ Some u → origin_at (named use_content es) n ≡ Some u.interface
origin_some es n u at = ap (option_map (λ (x : UseContent). x.interface)) (lookup-named use_content es n ∙ ap (option_map use_content) at)

pub origin_none : (es : List (String Global × UsedType)) (n : Text) → lookup (λ k. bytes_eq n (string_bytes k)) es ≡ None → origin_at (named use_content es) n ≡ None
origin_none es n none = ap (option_map (λ (x : UseContent). x.interface)) (lookup-named use_content es n ∙ ap (option_map use_content) none)

resource_same : (t : TypeOf) (r : Id) → OfType t ≡ OfType (TypeResource r) → t ≡ TypeResource r
resource_same t r e = cc

one_resource : (r q : Id) → TypeResource r ≡ TypeResource q → r ≡ q
one_resource r q e = cc

-- the owner of an export that is a resource, or another type
pub owner_here : (c : Collection) (us : List (Text × UseContent)) (n : Text) (t : TypeOf) (id : Id) → t ≡ TypeResource id → ((r : ResourceContent) → slice_get c.resources id.index ≡ Some r → IsOwnerOf us n r) → HasOwner c us n (OfType t)
owner_here c us n t id is has q same r at = has r (subst (λ (x : Id). slice_get c.resources x.index ≡ Some r) (one_resource q id (sym (resource_same t q same) ∙ is)) at)

pub no_owner : (c : Collection) (us : List (Text × UseContent)) (n : Text) (t : TypeOf) → ((id : Id) → t ≢ TypeResource id) → HasOwner c us n (OfType t)
no_owner c us n t isnt q same r at = absurd (isnt q (resource_same t q same))

-- ---- induction on what a name stands for

pub alias_name : (e : TypeExpr) (id : Ident) → def.Alias e ≡ def.Alias (ty.Name id) → e ≡ ty.Name id
alias_name e id is = cc
