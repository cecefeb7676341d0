-- What names become.
use Rattle.std.proofs.Common.{◌≡◌, ◌≢◌, ◌⊎◌, ◌∙◌, inl, inr, ℕ, ◌+◌, Bool, true, false, cond, List, [], ◌∷◌, Option, Some, drop, refl, sym, ap}
use Rattle.std.specs.Prelude.{slice_get}
use Rattle.std.specs.Option.{option_map_or}
use Rattle.std.specs.Str.{bytes_eq}
use Rattle.std.proofs.lemmas.List.{at_drop_more}
use Rattle.std.proofs.lemmas.Option.{get_or_from_slice_get, same_Some, slice_get_within}
use Rattle.std.proofs.lemmas.Slice.Eq.{bytes_eq-Decides}
use Rattle.wac_model.specs.Text.{Text}
use Rattle.wac_wit_syntax.specs.declared.tree.Rename.{Rename}
use Rattle.wac_wit_validation_types.specs.Denoted.{renamed}
use Rattle.wac_wit_validation_types.specs.Reading.{AreNamesBy, IsComposed, new_name, new_name_or}
use Rattle.wac_wit_scopes.specs.WitSources.{given_name, ident_text}
use Rattle.wac_wit_validation_types.specs.declared.new_names.NewNames.{NewNames}

-- ---- what names become

-- where a text is updated, others stay
pub update-others : {A : Type 0} (before after : Text → Option A) (key : Text) (x : Option A) → ((n : Text) → after n ≡ cond (bytes_eq key n) x (before n)) → (n : Text) → n ≢ key → after n ≡ before n
update-others before after key x updates n other = by (bytes_eq key n) refl
  where
    by : (b : Bool) → bytes_eq key n ≡ b → after n ≡ before n
    by true e = absurd (other (sym ((bytes_eq-Decides key n).0 e)))
    by false e = updates n ∙ ap (λ (c : Bool). cond c x (before n)) e

module _ (old new : NewNames) (key x : Text) (same : new_name new key ≡ Some x) (others : (n : Text) → n ≢ key → new_name new n ≡ new_name old n) where
  -- a name is the one that was put, or was there
  new_name-cases : (n y : Text) → new_name new n ≡ Some y → ((n ≡ key) × (x ≡ y)) ⊎ (new_name old n ≡ Some y)
  new_name-cases n y at = by (bytes_eq n key) refl
    where
      by : (b : Bool) → bytes_eq n key ≡ b → ((n ≡ key) × (x ≡ y)) ⊎ (new_name old n ≡ Some y)
      by true e = let one : n ≡ key = (bytes_eq-Decides n key).0 e in inl (one, same_Some x y (sym same ∙ ap (new_name new) (sym one) ∙ at))
      by false e = inr (sym (others n (λ one. let no : false ≡ true = sym e ∙ (bytes_eq-Decides n key).1 one in cc)) ∙ at)

  -- a name that becomes itself
  pub AreNamesBy-put : key ≡ x → AreNamesBy old [] → AreNamesBy new []
  AreNamesBy-put is all n y at = by (new_name-cases n y at)
    where
      by : ((n ≡ key) × (x ≡ y)) ⊎ (new_name old n ≡ Some y) → n ≡ y
      by (inl h) = h.0 ∙ is ∙ h.1
      by (inr h) = all n y h

  -- what a name becomes becomes something else
  pub Thens-put : (first by : NewNames) (y : Text) → new_name first key ≡ Some y → x ≡ new_name_or by y → IsComposed first by old → IsComposed first by new
  Thens-put first by y at is all n z into = in_case (new_name-cases n z into)
    where
      in_case : ((n ≡ key) × (x ≡ z)) ⊎ (new_name old n ≡ Some z) → (u : Text) × (new_name first n ≡ Some u) × (new_name_or by u ≡ z)
      in_case (inl h) = (y, ap (new_name first) h.0 ∙ at, sym is ∙ h.1)
      in_case (inr h) = all n z h

-- names become what the new names from an index on say
module _ (rs : List Rename) where
  abbrev pub AreRenamedFrom : NewNames → ℕ → Type 0
  AreRenamedFrom m i = (n : Text) → new_name_or m n ≡ renamed (drop i rs) n

  pub AreRenamedFrom-put : (old new : NewNames) (i : ℕ) (r : Rename) → slice_get rs i ≡ Some r → new_name new (ident_text r.name) ≡ Some (given_name r.name r.alias) → ((n : Text) → n ≢ ident_text r.name → new_name new n ≡ new_name old n)
      → AreRenamedFrom old (i + 1) → AreRenamedFrom new i
  AreRenamedFrom-put old new i r at same others all n = by (bytes_eq (ident_text r.name) n) refl
      ∙ sym (ap (λ (s : Rename). renamed (s ∷ drop (i + 1) rs) n) (get_or_from_slice_get rs i r r at))
      ∙ sym (at_drop_more (λ (l : List Rename). renamed l n) rs i r (slice_get_within rs i r at))
    where
      by : (b : Bool) → bytes_eq (ident_text r.name) n ≡ b → new_name_or new n ≡ cond b (given_name r.name r.alias) (renamed (drop (i + 1) rs) n)
      by true e = ap (λ (o : Option Text). option_map_or (λ x. x) o n) (ap (new_name new) (sym ((bytes_eq-Decides (ident_text r.name) n).0 e)) ∙ same)
      by false e = ap (λ (o : Option Text). option_map_or (λ x. x) o n) (others n (λ one. let no : false ≡ true = sym e ∙ (bytes_eq-Decides (ident_text r.name) n).1 (sym one) in cc)) ∙ all n
