-- How new packages are found, and which one is found for an old one.
use Rattle.std.proofs.Common.{◌≡◌, ◌<◌, ◌⊎◌, ℕ, zero, suc, ◌++◌, Bool, true, false, cond, List, [], ◌∷◌, Option, Some, None, Contains, arith, codes, get_or, length, slice_get, String, string_bytes, refl, sym, ap, subst, ◌∙◌, inl, inr}
use Rattle.std.proofs.lemmas.List.Elements.{Contains-append_cases}
use Rattle.std.proofs.lemmas.Option.{slice_get_within}
use Rattle.std.specs.Cmp.Lexicographic.{bytes_decides}
use Rattle.std.specs.HashMap.{get_by_text}
use Rattle.std.specs.Map.{lookup}
use Rattle.std.specs.Prelude.{IsSome, MatchOption}
use Rattle.std.specs.Str.{bytes_eq}
use Rattle.std.specs.declared.alloc.Global.{Global}
use Rattle.wac_component.proofs.Lists.{slice_get-append, slice_get-last}
use Rattle.wac_names.proofs.PairFacts.{value_put}
use Rattle.wac_targets.specs.Named.{IsMapOf}
use Rattle.wac_types.specs.Pairs.{IsFound, IsGreatest, HasText, IsVersionAtMost, NoneCompatible, value_at, with_pair}
use Rattle.wac_types.specs.Text.{Text}
use Rattle.wac_types.specs.Track.{IsCompatible}
use Rattle.wac_wit.specs.declared.packages.WitPackage.{WitPackage}
use Rattle.wac_wit_scopes.proofs.PathFacts.{contains_at}
use Rattle.wac_wit_changes.specs.Comparing.{AreOnTrack, identifier_in}
use Rattle.wac_wit_changes.specs.Sides.{AreFoundBy, FindsCounterpart, IsBeside, KnowsPackages}
use Rattle.wac_wit_changes.specs.declared.tracks.NewPackages.{NewPackages}

-- ---- one package more

only_one : {A : Type 0} (p q : A) → Contains (p ∷ []) q → p ≡ q
only_one {A} p q among = at among.0 among.1 among.2
  where
    at : (k : ℕ) → k < 1 → get_or (p ∷ []) k q ≡ q → p ≡ q
    at zero h e = e
    at (suc k) h e = absurd (omega arith)

module _ (text_of : WitPackage → Text) (packages : List WitPackage) (p : WitPackage) (before after : Text → Option ℕ) (found : AreFoundBy text_of packages before)
    (put : (t : Text) → after t ≡ cond (bytes_eq (text_of p) t) (Some (length packages)) (before t)) where
  only_then : (t : Text) (i : ℕ) (b : Bool) → bytes_eq (text_of p) t ≡ b → cond b (Some (length packages)) (before t) ≡ Some i → (q : WitPackage) × (slice_get (packages ++ p ∷ []) i ≡ Some q) × (text_of q ≡ t)
  only_then t i true same at =
      let last : length packages ≡ i = cc (at) in
      (p, subst (λ (k : ℕ). slice_get (packages ++ p ∷ []) k ≡ Some p) last (slice_get-last packages p), (bytes_decides (text_of p) t).0 same)
  only_then t i false other at =
      let was = found.only t i at in
      (was.0, slice_get-append packages (p ∷ []) i (slice_get_within packages i was.0 was.1) ∙ was.1, was.2)

  each_then : (q : WitPackage) (b : Bool) → bytes_eq (text_of p) (text_of q) ≡ b → Contains packages q ⊎ Contains (p ∷ []) q → IsSome (cond b (Some (length packages)) (before (text_of q)))
  each_then q true same among = refl
  each_then q false other (inl among) = found.each q among
  each_then q false other (inr last) = let same : bytes_eq (text_of p) (text_of q) ≡ true = (bytes_decides (text_of p) (text_of q)).1 (ap text_of (only_one p q last)) in absurd (cc (same, other))

  -- so are they with one package more
  pub found_with : AreFoundBy text_of (packages ++ p ∷ []) after
  found_with = record {
    only = λ t i at. only_then t i (bytes_eq (text_of p) t) refl (sym (put t) ∙ at);
    each = λ q among. subst (λ (o : Option ℕ). IsSome o) (sym (put (text_of q))) (each_then q (bytes_eq (text_of p) (text_of q)) refl (Contains-append_cases packages (p ∷ []) q among));
  }

-- how a package is identified
abbrev id_of : WitPackage → Text
id_of p = identifier_in p (codes "a")

nothing_in : (p : WitPackage) → Contains [] p → ⊥
nothing_in p among = let no : among.0 < 0 = among.1 in absurd (omega arith)

-- of no package nothing is found
found_none : (text_of : WitPackage → Text) (index_at : Text → Option ℕ) → ((t : Text) → index_at t ≡ None) → AreFoundBy text_of [] index_at
found_none text_of index_at none = record { only = λ t i at. let no = none t in absurd (cc (at, no)); each = λ p among. absurd (nothing_in p among) }

-- no package is known
pub knows_none : (known : NewPackages) → IsMapOf known.versions [] → known.names.entries ≡ [] → KnowsPackages [] known
knows_none known stands none = record {
  pairs = [];
  stands = stands;
  versions = found_none id_of (value_at []) (λ t. refl);
  names = found_none (λ p. string_bytes p.name) (get_by_text known.names) (λ t. ap (lookup (λ (k : String Global). bytes_eq t (string_bytes k))) none);
}

-- one package more is known
pub knows_more : (news : List WitPackage) (known more : NewPackages) (p : WitPackage) (knows : KnowsPackages news known) → IsMapOf more.versions (with_pair knows.pairs (id_of p) (length news))
    → ((t : Text) → get_by_text more.names t ≡ cond (bytes_eq (string_bytes p.name) t) (Some (length news)) (get_by_text known.names t)) → KnowsPackages (news ++ p ∷ []) more
knows_more news known more p knows stands named =
    let id = id_of p in
    record {
      pairs = with_pair knows.pairs id (length news);
      stands = stands;
      versions = found_with id_of news p (value_at knows.pairs) (value_at (with_pair knows.pairs id (length news))) knows.versions (λ t. value_put knows.pairs id t (length news));
      names = found_with (λ q. string_bytes q.name) news p (get_by_text known.names) (get_by_text more.names) knows.names named;
    }

-- ---- what is found for an old package

module _ (news : List WitPackage) (known : NewPackages) (old : WitPackage) (knows : KnowsPackages news known) where
  -- what is found at an index
  module _ (i : ℕ) (new : WitPackage) (at : slice_get news i ≡ Some new) (same : string_bytes new.name ≡ string_bytes old.name) where
    is_of : (text : Text) → value_at knows.pairs text ≡ Some i → id_of new ≡ text
    is_of text found =
        let was = knows.versions.only text i found in
        let it : was.0 ≡ new = cc (at, was.1) in
        subst (λ (p : WitPackage). id_of p ≡ text) it was.2

    -- the one of the old version
    beside_own : value_at knows.pairs (id_of old) ≡ Some i → IsBeside news old true new
    beside_own found =
        let own = is_of (id_of old) found in
        record {
          compared = record {
            among = contains_at news i new at;
            same = same;
            own_version = λ p among e. own;
            on_track = λ p among on. inl (sym own);
            greatest = λ p among on other. absurd (other own);
          };
          on_track = (λ t. inl (sym own), λ on. refl);
        }

    -- the one of the greatest version on the track
    beside_greatest : value_at knows.pairs (id_of old) ≡ None → IsGreatest knows.pairs (id_of old) i → IsBeside news old true new
    beside_greatest none g =
        let is = is_of g.text g.there in
        let on_track : AreOnTrack old new = subst (λ (t : Text). IsCompatible (id_of old) t) (sym is) g.compatible in
        record {
          compared = record {
            among = contains_at news i new at;
            same = same;
            own_version = λ p among e. absurd (none_of p among e);
            on_track = λ p among on. on_track;
            greatest = λ p among on other. subst (IsVersionAtMost (id_of p)) (sym is) (g.greatest (id_of p) (knows.versions.each p among) on);
          };
          on_track = (λ t. on_track, λ on. refl);
        }
      where
        none_of : (p : WitPackage) → Contains news p → id_of p ≡ id_of old → ⊥
        none_of p among e = let some : IsSome (value_at knows.pairs (id_of old)) = subst (HasText knows.pairs) e (knows.versions.each p among) in cc

    -- one of the name, where none is on the track
    beside_named : NoneCompatible knows.pairs (id_of old) → IsBeside news old false new
    beside_named none = record {
      compared = record {
        among = contains_at news i new at;
        same = same;
        own_version = λ p among e. absurd (none (id_of p) (knows.versions.each p among) (inl (sym e)));
        on_track = λ p among on. absurd (none (id_of p) (knows.versions.each p among) on);
        greatest = λ p among on other. absurd (none (id_of p) (knows.versions.each p among) on);
      };
      on_track = (λ t. absurd (cc (t)), λ on. absurd (none (id_of new) (knows.versions.each new (contains_at news i new at)) on));
    }

  beside_at : (i : ℕ) (new : WitPackage) → slice_get news i ≡ Some new → string_bytes new.name ≡ string_bytes old.name → (o : Option ℕ) → value_at knows.pairs (id_of old) ≡ o
      → MatchOption o (MatchOption (Some i) (NoneCompatible knows.pairs (id_of old)) (IsGreatest knows.pairs (id_of old))) (λ v. Some i ≡ Some v) → IsBeside news old true new
  beside_at i new at same None none found = beside_greatest i new at same none found
  beside_at i new at same (Some v) own found = beside_own i new at same (own ∙ sym found)

  -- the one of its version or on its track
  pub beside_on_track : (i : ℕ) → IsFound knows.pairs (id_of old) (Some i) → FindsCounterpart news old (Some (record { index = i; is_on_track = true }))
  beside_on_track i found = λ new at same. beside_at i new at same (value_at knows.pairs (id_of old)) refl found

  none_at : (o : Option ℕ) → MatchOption o (MatchOption None (NoneCompatible knows.pairs (id_of old)) (IsGreatest knows.pairs (id_of old))) (λ v. None ≡ Some v) → NoneCompatible knows.pairs (id_of old)
  none_at None found = found
  none_at (Some v) found = absurd (cc (found))

  -- the last of its name
  pub beside_by_name : (i : ℕ) → IsFound knows.pairs (id_of old) None → FindsCounterpart news old (Some (record { index = i; is_on_track = false }))
  beside_by_name i found = λ new at same. beside_named i new at same (none_at (value_at knows.pairs (id_of old)) found)

  -- none of its name
  pub beside_none : get_by_text known.names (string_bytes old.name) ≡ None → FindsCounterpart news old None
  beside_none none = λ p among same. let some : IsSome (get_by_text known.names (string_bytes old.name)) = subst (λ (t : Text). IsSome (get_by_text known.names t)) same (knows.names.each p among) in cc
