-- Names that are looked for in worlds.
use Rattle.std.proofs.Common.{◌≡◌, ◌∙◌, ◌-◌, ℕ, List, [], ◌∷◌, ◌++◌, Contains, Option, Some, inl, inr, ap, sym, subst, take}
use Rattle.std.specs.Option.{option_to_list}
use Rattle.std.specs.Prelude.{All}
use Rattle.std.proofs.lemmas.List.Elements.{All-contains, Contains-append_left, Contains-push, Contains-push_cases}
use Rattle.wac_model.specs.Text.{Text}
use Rattle.wac_wit_scopes.proofs.PathFacts.{contains_at}
use Rattle.wac_wit_scopes.specs.Scopes.{scope_syntax}
use Rattle.wac_wit_scopes.specs.WitSources.{ScopeSyntax, WitSources, ident_text}
use Rattle.wac_wit_syntax.specs.declared.tree.Ident.{Ident}
use Rattle.wac_wit_syntax.specs.declared.tree.IncludeItem.{IncludeItem}
use Rattle.wac_wit_syntax.specs.declared.tree.Rename.{Rename}
use Rattle.wac_wit_syntax.specs.declared.tree.WorldItem.{WorldItem}
use Rattle.wac_wit_refusals_sites.proofs.TypeFacts.{alias_given}
use Rattle.wac_wit_refusals_sites.proofs.Walks.{among_none}
use Rattle.wac_wit_refusals_worlds.specs.Brought.{IsRenamedTo, as_before, newly_named}
use Rattle.wac_wit_refusals_worlds.specs.IncludeSteps.{AreLacking, IsLacking, HasNoNewName, LeadsToPlacedWorld, NewNameLacks, RenamedLack, names_of_world}
use Rattle.wac_wit_refusals_worlds.specs.Includes.{LacksName, an_include_lacks, from_include, from_world}
use Rattle.wac_wit_refusals_worlds.specs.declared.worlds.PlacedWorld.{PlacedWorld}
use Rattle.wac_wit_refusals_worlds.specs.declared.sought_names.SoughtName.{SoughtName}

module _ (of : WitSources) (xs ys : List SoughtName) where
  pub lacking_pushed : (s : SoughtName) → ys ≡ xs ++ s ∷ [] → AreLacking of ys → AreLacking of xs × IsLacking of s
  lacking_pushed s same all = let each = subst (AreLacking of) same all in ((λ t among. each t (Contains-append_left xs (s ∷ []) t among)), each s (Contains-push xs s))

  pub lacking_popped : (r : Option SoughtName) (s : SoughtName) → ys ≡ xs ++ option_to_list r → r ≡ Some s → AreLacking of xs → IsLacking of s → AreLacking of ys
  lacking_popped r s same last rest one = subst (AreLacking of) (sym (same ∙ ap (λ (o : Option SoughtName). xs ++ option_to_list o) last))
      (λ t among. elim (Contains-push_cases xs s t among) [ inl h ↦ rest t h | inr e ↦ subst (IsLacking of) e one ])

-- nothing was left to be taken away
pub lacking_none : (of : WitSources) (old new : List SoughtName) (n : ℕ) → old ≡ new ++ [] → new ≡ take (n - 1) old → n ≡ 0 → AreLacking of old
lacking_none of old new n same rest none s among = absurd (among_none old s (same ∙ ap (λ (l : List SoughtName). l ++ []) (rest ∙ ap (λ (k : ℕ). take (k - 1) old) none)) among)

pub new_name_lacks : (of : WitSources) (p : PlacedWorld) (rs : List Rename) (n : Text) → All (NewNameLacks of p n) rs → (r : Rename) → Contains rs r → NewNameLacks of p n r
new_name_lacks of p rs n all r among = All-contains (NewNameLacks of p n) rs r all among

module _ (of : WitSources) (p : PlacedWorld) (rs : List Rename) (n : Ident) where
  -- neither what becomes the name is there, nor that
  pub renamed_lack : All (NewNameLacks of p (ident_text n)) rs → LacksName of (names_of_world p) (ident_text n) → RenamedLack of p rs (ident_text n)
  renamed_lack new own m _ (newly_named i r at named first) same =
      subst (λ t. LacksName of (names_of_world p) t) named (new_name_lacks of p rs (ident_text n) new r (contains_at rs i r at) (sym (alias_given r.name r.alias) ∙ same))
  renamed_lack new own m _ (as_before keeps) same = subst (λ t. LacksName of (names_of_world p) t) (sym same) own

  -- what has the name gets another one
  pub renamed_away : All (NewNameLacks of p (ident_text n)) rs → (HasNoNewName rs n → ⊥) → RenamedLack of p rs (ident_text n)
  renamed_away new away m _ (newly_named i r at named first) same =
      subst (λ t. LacksName of (names_of_world p) t) named (new_name_lacks of p rs (ident_text n) new r (contains_at rs i r at) (sym (alias_given r.name r.alias) ∙ same))
  renamed_away new away m _ (as_before keeps) same = absurd (away (λ r among named. keeps r among (named ∙ sym same)))

-- an `include` brings no name that its world lacks
pub include_lacks : (of : WitSources) (w : ScopeSyntax) (i : IncludeItem) (p : PlacedWorld) (rs : List Rename) (n : Text) → LeadsToPlacedWorld of w i.path p → rs ≡ i.renames.items → RenamedLack of p rs n → LacksName of (from_include w i) n
include_lacks of w i p rs n to same lack = an_include_lacks w (scope_syntax p.scope) i to.decl n to.leads
    (λ m k h is. subst (λ (l : List WorldItem). LacksName of (from_world (scope_syntax p.scope) l) (ident_text m)) (sym to.items) (lack m k (subst (λ (l : List Rename). IsRenamedTo l m k) (sym same) h) is))
