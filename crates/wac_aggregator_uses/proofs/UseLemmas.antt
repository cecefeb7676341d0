-- What is said where uses may disagree.
use Rattle.std.proofs.Common.{◌≡◌, ◌++◌, map, inl, inr, String, Global, string_bytes, Contains, arith, List, [], ◌∷◌, Some, None, refl, ap, sym, subst, ◌∙◌}
use Rattle.std.proofs.lemmas.List.Elements.{Contains-append_cases}
use Rattle.std.proofs.lemmas.List.{map-append}
use Rattle.std.specs.Map.{lookup as lookup_by}
use Rattle.std.specs.Option.{option_map}
use Rattle.std.specs.Str.{bytes_eq}
use Rattle.wac_model.specs.Text.{Text, lookup}
use Rattle.wac_model.proofs.Lookups.{lookup-shown}
use Rattle.wac_component.specs.Content.{named, use_content}
use Rattle.wac_component.specs.declared.interfaces.UsedType.{UsedType}
use Rattle.wac_component.specs.Collection.{Collection, UseContent}
use Rattle.wac_component.specs.Entries.{uses_at}
use Rattle.wac_component.specs.Key.{Key}
use Rattle.wac_component.specs.Reach.{here}
use Rattle.wac_aggregator_errors.specs.declared.error.AggregateError.{AggregateError}
use Rattle.wac_aggregator_uses.specs.Differ.{SaysUsesDiffer, of_interfaces, of_names, AreRefusedLists, IsUsesRefusal}
use Rattle.wac_aggregator_uses.specs.Uses.{AreOfOne, UsesAgree}
use Rattle.wac_aggregator_uses.proofs.UseLists.{one_alone}

-- what one of two lists of one use says, longer ones say
pub lists_refused : (c : Collection) (us vs xs ys : List (Text × UseContent)) (e : AggregateError) → ((p : Text × UseContent) → Contains xs p → Contains us p) → ((p : Text × UseContent) → Contains ys p → Contains vs p) → AreRefusedLists c xs ys e → AreRefusedLists c us vs e
lists_refused c us vs xs ys e first second h ne = go (h ne)
  where
    go : SaysUsesDiffer c xs ys e → SaysUsesDiffer c us vs e
    go (of_interfaces n x y u v mu mv eu ev apart says) = of_interfaces n x y u v (first (n, u) mu) (second (n, v) mv) eu ev apart says
    go (of_names n u v mu mv apart says) = of_names n u v (first (n, u) mu) (second (n, v) mv) apart says

-- of two entries
pub uses_refusal : (c : Collection) (k j : Key) (us vs : List (Text × UseContent)) (e : AggregateError) → uses_at c k ≡ us → uses_at c j ≡ vs → AreRefusedLists c us vs e → IsUsesRefusal c (k ∷ []) (j ∷ []) e
uses_refusal c k j us vs e at_k at_j h ne = record {
  first = k;
  second = j;
  among_first = here;
  among_second = here;
  differ = subst (λ xs. SaysUsesDiffer c xs (uses_at c j) e) (sym at_k) (subst (λ ys. SaysUsesDiffer c us ys e) (sym at_j) (h ne));
}

-- and agree, of two entries
pub uses_agree : (c : Collection) (k j : Key) (us vs : List (Text × UseContent)) → uses_at c k ≡ us → uses_at c j ≡ vs → UsesAgree c us vs → UsesAgree c (uses_at c k) (uses_at c j)
uses_agree c k j us vs at_k at_j h = subst (λ xs. UsesAgree c xs (uses_at c j)) (sym at_k) (subst (λ ys. UsesAgree c us ys) (sym at_j) h)

-- ---- what agrees

-- there is nothing that would not
pub agree_none : (c : Collection) (us : List (Text × UseContent)) → UsesAgree c us []
agree_none c us n u v is among = absurd (omega (arith, among.1))

-- one more does with what is found under its name
pub agree_then : (c : Collection) (us vs : List (Text × UseContent)) (n : Text) (v : UseContent) → UsesAgree c us vs → ((u : UseContent) → lookup bytes_eq us n ≡ Some u → AreOfOne c u v) → UsesAgree c us (vs ++ (n, v) ∷ [])
agree_then c us vs n v h one m u w is among = elim (Contains-append_cases vs ((n, v) ∷ []) (m, w) among) [
  | inl before ↦ h m u w is before
  | inr last ↦ here (one_alone {X = Text × UseContent} (n, v) (m, w) last)
]
  where
    here : ◌≡◌ {A = Text × UseContent} (m, w) (n, v) → AreOfOne c u w
    here same = subst (AreOfOne c u) (sym (ap (λ (p : Text × UseContent). p.1) same)) (one u (subst (λ k. lookup bytes_eq us k ≡ Some u) (ap (λ (p : Text × UseContent). p.0) same) is))

-- what a map finds under a name
module _ (us : List (String Global × UsedType)) (n : Text) where
  looked : lookup bytes_eq (named use_content us) n ≡ option_map use_content (lookup_by (λ (k : String Global). bytes_eq n (string_bytes k)) us)
  looked = sym (lookup-shown string_bytes use_content (λ (k : String Global). bytes_eq n (string_bytes k)) bytes_eq n (λ k. refl) us)

  pub is_found : (other : UsedType) (u : UseContent) → lookup_by (λ (k : String Global). bytes_eq n (string_bytes k)) us ≡ Some other → lookup bytes_eq (named use_content us) n ≡ Some u → use_content other ≡ u
  is_found other u at is = let both : Some (use_content other) ≡ Some u = sym (looked ∙ ap (option_map use_content) at) ∙ is in cc

  pub not_found : (u : UseContent) → lookup_by (λ (k : String Global). bytes_eq n (string_bytes k)) us ≡ None → lookup bytes_eq (named use_content us) n ≡ Some u → ⊥
  not_found u none is = let both : None ≡ Some u = sym (looked ∙ ap (option_map use_content) none) ∙ is in cc

-- one more use was yielded
pub done_uses : {A : Type 0} (shows : A → String Global × UsedType) (ys : List A) (x : A) → named use_content (map shows (ys ++ x ∷ [])) ≡ named use_content (map shows ys) ++ (string_bytes (shows x).0, use_content (shows x).1) ∷ []
done_uses shows ys x = ap (named use_content) (map-append shows ys (x ∷ [])) ∙ map-append (λ (e : String Global × UsedType). (string_bytes e.0, use_content e.1)) (map shows ys) (shows x ∷ [])

-- ---- what doesn't

-- some use is among those of the second
pub second_uses : (c : Collection) (us vs : List (Text × UseContent)) (e : AggregateError) → SaysUsesDiffer c us vs e → ¬ (vs ≡ [])
second_uses c us vs e (of_interfaces n x y u v mu mv eu ev apart says) none = absurd (let m = subst (λ l. Contains l (n, v)) none mv in omega (arith, m.1))
second_uses c us vs e (of_names n u v mu mv apart says) none = absurd (let m = subst (λ l. Contains l (n, v)) none mv in omega (arith, m.1))
