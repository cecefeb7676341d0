-- Names among items.
use Rattle.std.proofs.Common.{IfSome, ◌≡◌, ℕ, Bor, List, [], Option, Some, None, sym, subst, ◌∙◌, ap}
use Rattle.std.specs.Prelude.{String, string_bytes, slice_get}
use Rattle.std.specs.Map.{lookup_key}
use Rattle.std.specs.Option.{option_map}
use Rattle.std.specs.Str.{bytes_eq}
use Rattle.std.specs.declared.alloc.Global.{Global}
use Rattle.std.proofs.lemmas.Map.Made.{lookup_key_passes}
use Rattle.std.proofs.lemmas.Option.{same_Some, slice_get-map}
use Rattle.std.proofs.lemmas.Slice.Eq.{bytes_eq-Decides}
use Rattle.wac_model.specs.Text.{Text}
use Rattle.wac_component.specs.Content.{named}
use Rattle.wac_component.specs.declared.items.ItemKind.{ItemKind}
use Rattle.wac_wit_validation_types.specs.Exports.{named_items}
use Rattle.wac_wit_validation_types.specs.Reading.{Renames}
use Rattle.wac_wit_validation_types.specs.declared.names.NamedTypes.{NamedTypes}

-- the key that is found under a text is that text
pub key_found : {V : Type 0} (n m : Text) (es : List (String Global × V)) (k : String Global) → m ≡ n → lookup_key (λ q. bytes_eq m (string_bytes q)) es ≡ Some k → string_bytes k ≡ n
key_found n m es k same is = sym ((bytes_eq-Decides m (string_bytes k)).0 (lookup_key_passes (λ q. bytes_eq m (string_bytes q)) es k is)) ∙ same

-- an entry by its place, with its name as a text
pub named_at : {V : Type 0} (es : List (String Global × V)) (i : ℕ) (k : String Global) (v : V) → slice_get es i ≡ Some (k, v) → slice_get (named (λ w. w) es) i ≡ Some (string_bytes k, v)
named_at {V} es i k v at = slice_get-map (λ e. (string_bytes e.0, e.1)) es i ∙ ap (option_map (λ (e : String Global × V). (string_bytes e.0, e.1))) at

-- the key of what `get_full` answers
pub key_of_full : {K V : Type 0} (r : Option (ℕ × Bor K × Bor V)) (i : ℕ) (k : Bor K) (v : Bor V) (found : Option K) → option_map (λ (p : ℕ × Bor K × Bor V). p.1.now) r ≡ found → r ≡ Some (i, k, v) → found ≡ Some k.now
key_of_full {K} {V} r i k v found is was = sym is ∙ ap (option_map (λ (p : ℕ × Bor K × Bor V). p.1.now)) was

-- what `get_index` answers, as an item under its name
pub item_at_index : (names : NamedTypes) (i : ℕ) (k : String Global) (kind : ItemKind) (n : Text) → Some (k, kind) ≡ slice_get names.items.now.entries i → string_bytes k ≡ n → slice_get (named_items names) i ≡ Some (n, kind)
item_at_index names i k kind n at is = let here = named_at names.items.now.entries i k kind (sym at) in cc

-- what is told of a value, if there is one
pub some_told : {A : Type 0} (o : Option A) (x : A) (P : A → Type 0) → o ≡ Some x → IfSome o P → P x
some_told o x P is told = let both = subst (λ q. IfSome q P) is told in both

-- where no names become others, they are renamed by nothing
pub Renames-none : (names : NamedTypes) → names.new_names ≡ None → Renames names []
Renames-none names none n m at = same_Some n m (rw none at at)
