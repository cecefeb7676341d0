-- Names that are looked up among others.
use Rattle.std.proofs.Common.{◌≡◌, ◌++◌, Bool, true, false, cond, List, [], ◌∷◌, Option, Some, All, String, Global, map, string_bytes, zero, suc, refl, sym, ap, subst, ◌∙◌, is_some, arith}
use Rattle.std.proofs.lemmas.List.{map-append}
use Rattle.std.proofs.lemmas.List.Elements.{All-push}
use Rattle.std.specs.Borrow.{Bor}
use Rattle.std.specs.Cmp.Lexicographic.{bytes_decides}
use Rattle.std.specs.Map.{lookup}
use Rattle.std.specs.Map.Iter.{deref_pair}
use Rattle.std.specs.Option.{option_copied}
use Rattle.std.specs.Prelude.{IsSome}
use Rattle.std.specs.Str.{bytes_eq}
use Rattle.wac_component.specs.Content.{named}
use Rattle.wac_component.specs.Implicit.{instances}
use Rattle.wac_component.specs.declared.items.ItemKind.{ItemKind}
use Rattle.wac_model.specs.Text.{Text}
use Rattle.wac_names.specs.Pairs.{value_at}
use Rattle.wac_targets.proofs.Distinct.{value_at-named}
use Rattle.wac_wit_changes.proofs.Items.{copied_is}

module _ (items : List (String Global × ItemKind)) where
  -- something has this name
  pub record HasName (e : Bor Text × ItemKind) : Type 0 where
    pub there : IsSome (value_at (named (λ k. k) items) e.0.now)

  -- what was looked up is there
  pub found_name : (name : Bor Text) (k : ItemKind) (r : Option (Bor ItemKind)) (x : Bor ItemKind) → option_copied r ≡ lookup (λ (s : String Global). bytes_eq name.now (string_bytes s)) items → r ≡ Some x → HasName (name, k)
  found_name name k r x copied is = record { there = ap is_some (sym (value_at-named items name.now) ∙ copied_is r _ x copied is) }

  -- one name more
  pub names_more : (ys : List (Bor (Bor Text) × Bor ItemKind)) (name : Bor (Bor Text)) (k : Bor ItemKind) → All HasName (map deref_pair ys) → HasName (name.now, k.now) → All HasName (map deref_pair (ys ++ (name, k) ∷ []))
  names_more ys name k all one = subst (λ es. All HasName es) (sym (map-append deref_pair ys ((name, k) ∷ []))) (All-push HasName (map deref_pair ys) (name.now, k.now) all one)

  -- where they are all there, so is each that is looked up
  pub all_names : (es : List (Bor Text × ItemKind)) → All HasName es → (n : Text) → IsSome (value_at (instances es) n) → IsSome (value_at (named (λ k. k) items) n)
  all_names [] all n some = absurd (cc (some))
  all_names (e ∷ es) all n some = by (bytes_eq n e.0.now) refl some (all_names es (λ i d below. all (suc i) d (omega arith)) n)
    where
      by : (b : Bool) → bytes_eq n e.0.now ≡ b → IsSome (cond b (Some e.1) (value_at (instances es) n)) → (IsSome (value_at (instances es) n) → IsSome (value_at (named (λ k. k) items) n)) → IsSome (value_at (named (λ k. k) items) n)
      by false other found rest = rest found
      by true same found rest =
          let first : HasName e = all zero e (omega arith) in
          subst (λ (t : Text). IsSome (value_at (named (λ k. k) items) t)) (sym ((bytes_decides n e.0.now).0 same)) first.there
