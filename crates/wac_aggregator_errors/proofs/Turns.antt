-- One turn of a loop over the entries of a map.
use Rattle.std.proofs.Common.{◌≡◌, ap, sym, subst, ◌∙◌, Bool, true, false, cond, List, [], ◌∷◌, ◌++◌, map, Option, Some, None, string_bytes, String, Global, Bor, refl}
use Rattle.std.specs.Iterator.{Yields}
use Rattle.std.specs.List.{IsDistinct}
use Rattle.std.specs.Map.{keys_of, lookup as lookup_by}
use Rattle.std.specs.Map.Iter.{TakesFirst}
use Rattle.std.specs.Option.{option_map, option_copied, option_or}
use Rattle.std.specs.Str.{bytes_eq}
use Rattle.std.specs.String.{string_eq, string_eq_equiv}
use Rattle.std.proofs.lemmas.List.{map-append}
use Rattle.std.proofs.lemmas.Map.Iter.{rest_so_far, rest_more}
use Rattle.std.proofs.lemmas.Slice.Eq.{bytes_eq-Decides}
use Rattle.wac_model.specs.Text.{Text, lookup}
use Rattle.wac_component.specs.Content.{named}
use Rattle.wac_checker_parts.proofs.Lookups.{get_named}
use Rattle.wac_core_merge.proofs.NameLemmas.{lookup-append, lookup-by_test, lookup_at_turn}
use Rattle.wac_aggregator_errors.specs.Found.{HasNone}

-- a `for` over all entries, which has yielded ys and yields x now: what
-- all have under the name of x is x
pub name_has : {V A : Type 0} (shows : A → String Global × V) (all : List (String Global × V)) (ys : List A) (s t u : List (String Global × V)) (r : Option A) (x : A)
    → s ≡ all → Yields (TakesFirst shows) s ys t → r ≡ Some x → TakesFirst shows t r u → IsDistinct (λ j k. bytes_eq (string_bytes j) (string_bytes k)) (keys_of all)
    → lookup bytes_eq (named (λ v. v) all) (string_bytes (shows x).0) ≡ Some (shows x).1
name_has shows all ys s t u r x start y is step distinct =
    sym (get_named all (string_bytes (shows x).0)) ∙ sym (lookup-by_test string_eq all (shows x).0)
    ∙ lookup_at_turn string_eq_equiv all (map shows ys) t u (shows x) distinct (sym start ∙ rest_so_far shows ys s t y) (rest_more shows t u r x is step)

-- a map of trees has the tree of what is there
pub tree_at : {V W : Type 0} (tree : V → W) (es : List (String Global × V)) (n : Text) → lookup bytes_eq (named tree es) n ≡ option_map tree (lookup bytes_eq (named (λ v. v) es) n)
tree_at tree [] n = refl
tree_at {V} {W} tree (e ∷ es) n = go (bytes_eq n (string_bytes e.0)) (tree_at tree es n)
  where
    go : (b : Bool) → lookup bytes_eq (named tree es) n ≡ option_map tree (lookup bytes_eq (named (λ v. v) es) n)
        → cond b (Some (tree e.1)) (lookup bytes_eq (named tree es) n) ≡ option_map tree (cond b (Some e.1) (lookup bytes_eq (named (λ v. v) es) n))
    go true ih = refl
    go false ih = ih

-- what a map gives at a text is there under it
pub found_at : {V : Type 0} (es : List (String Global × V)) (n : Text) (o : Option (Bor V)) (b : Bor V) → option_copied o ≡ lookup_by (λ k. bytes_eq n (string_bytes k)) es → o ≡ Some b
    → lookup bytes_eq (named (λ v. v) es) n ≡ Some b.now
found_at es n o b gives is = sym (get_named es n) ∙ sym gives ∙ ap option_copied is

pub not_found_at : {V : Type 0} (es : List (String Global × V)) (n : Text) (o : Option (Bor V)) → option_copied o ≡ lookup_by (λ k. bytes_eq n (string_bytes k)) es → o ≡ None
    → lookup bytes_eq (named (λ v. v) es) n ≡ None
not_found_at es n o gives is = sym (get_named es n) ∙ sym gives ∙ ap option_copied is

-- what is done, one more
pub done_more : {V W A : Type 0} (shows : A → String Global × V) (tree : V → W) (ys : List A) (x : A)
    → named tree (map shows (ys ++ x ∷ [])) ≡ named tree (map shows ys) ++ (string_bytes (shows x).0, tree (shows x).1) ∷ []
done_more {V} shows tree ys x = ap (named tree) (map-append shows ys (x ∷ [])) ∙ map-append (λ (e : String Global × V). (string_bytes e.0, tree e.1)) (map shows ys) (shows x ∷ [])

-- none so far, nor under one more name
pub none_more : {W : Type 0} (R : W → W → Type 0) (done ts : List (Text × W)) (k : Text) (v : W) → HasNone R done ts → ((y : W) → lookup bytes_eq ts k ≡ Some y → ¬ (R v y)) → HasNone R (done ++ (k, v) ∷ []) ts
none_more {W} R done ts k v before new n x y first second r = go (lookup bytes_eq done n) refl (sym (lookup-append bytes_eq done ((k, v) ∷ []) n) ∙ first)
  where
    last : (b : Bool) → bytes_eq n k ≡ b → cond b (Some v) None ≡ Some x → ⊥
    last true same h =
        let e : n ≡ k = (bytes_eq-Decides n k).0 same in
        let w : v ≡ x = cc in
        new y (subst (λ m. lookup bytes_eq ts m ≡ Some y) e second) (subst (λ z. R z y) (sym w) r)
    last false same h = absurd (cc)

    go : (o : Option W) → lookup bytes_eq done n ≡ o → option_or o (lookup bytes_eq ((k, v) ∷ []) n) ≡ Some x → ⊥
    go (Some z) is h = before n x y (is ∙ h) second r
    go None is h = last (bytes_eq n k) refl h
