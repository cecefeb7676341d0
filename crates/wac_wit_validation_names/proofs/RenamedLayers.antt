-- Layers of included worlds, under new names.
use Rattle.std.proofs.Common.{◌≡◌, ◌⊎◌, inl, inr, ℕ, ◌+◌, ◌<◌, ◌≤◌, true, arith, List, [], ◌∷◌, ◌++◌, Contains, length, get_or, sym, subst}
use Rattle.std.specs.Prelude.{◌==◌}
use Rattle.std.specs.Borrow.{Bor}
use Rattle.std.proofs.lemmas.Bool.{eqb-true}
use Rattle.std.proofs.lemmas.List.Elements.{Contains-append_left, Contains-push, Contains-push_cases}
use Rattle.wac_wit_syntax.specs.declared.tree.WorldItem.{WorldItem}
use Rattle.wac_wit_validation_names.proofs.AmbiguityFacts.{EachBelow, EachBelow-end, EachBelow-more, EachBelow-none, slice_get-among}
use Rattle.wac_wit_validation_names.specs.Layers.{IsRenamedLayer}
use Rattle.wac_wit_validation_names.specs.declared.layers.Layer.{Layer}
use Rattle.wac_wit_validation_types.specs.declared.new_names.NewNames.{NewNames}

-- ---- layers of included worlds

abbrev pub GrowsLayers : List Layer → List Layer → Type 0
GrowsLayers old new = (l : Layer) → Contains old l → Contains new l

-- each is one from before, or one of these under new names
abbrev pub AreRenamedLayers : List Layer → NewNames → List Layer → List Layer → Type 0
AreRenamedLayers inside by old new = (l : Layer) → Contains new l → Contains old l ⊎ ((x : Layer) × Contains inside x × IsRenamedLayer x by l)

-- each of these that gives names is there under new names
abbrev pub HasRenamedLayers : List Layer → NewNames → List Layer → Type 0
HasRenamedLayers inside by new = (x : Layer) (t : Bor WorldItem) → Contains inside x → Contains x.items.items t → (l : Layer) × Contains new l × IsRenamedLayer x by l

-- one that gives names has one under new names
abbrev pub HasRenamed : NewNames → List Layer → ℕ → Layer → Type 0
HasRenamed by new k x = (t : Bor WorldItem) → Contains x.items.items t → (l : Layer) × Contains new l × IsRenamedLayer x by l

HasRenamed-grown : (by : NewNames) (old new : List Layer) → GrowsLayers old new → (k : ℕ) (x : Layer) → HasRenamed by old k x → HasRenamed by new k x
HasRenamed-grown by old new grows k x has t among = let l = has t among in (l.0, grows l.0 l.1, l.2)

GrowsLayers-push : (first old : List Layer) (l : Layer) → GrowsLayers first old → GrowsLayers first (old ++ l ∷ [])
GrowsLayers-push first old l grows x among = Contains-append_left old (l ∷ []) x (grows x among)

AreRenamedLayers-push : (inside : List Layer) (by : NewNames) (first old : List Layer) (x l : Layer) → Contains inside x → IsRenamedLayer x by l → AreRenamedLayers inside by first old → AreRenamedLayers inside by first (old ++ l ∷ [])
AreRenamedLayers-push inside by first old x l among changed each m found = elim (Contains-push_cases old l m found) [ inl before ↦ each m before | inr one ↦ inr (x, among, subst (λ (y : Layer). IsRenamedLayer x by y) one changed) ]

module _ (inside : List Layer) (by : NewNames) where
  AllRenamed-none : (ls : List Layer) → EachBelow inside (HasRenamed by ls) 0
  AllRenamed-none ls = EachBelow-none inside (HasRenamed by ls)

  AllRenamed-push : (ls : List Layer) (x l : Layer) (i : ℕ) → i < length inside → x ≡ get_or inside i x → IsRenamedLayer x by l → EachBelow inside (HasRenamed by ls) i → EachBelow inside (HasRenamed by (ls ++ l ∷ [])) (i + 1)
  AllRenamed-push ls x l i within at changed all = EachBelow-more inside (HasRenamed by ls) (HasRenamed by (ls ++ l ∷ [])) i x within at
      (HasRenamed-grown by ls (ls ++ l ∷ []) (λ m among. Contains-append_left ls (l ∷ []) m among))
      (λ t among. (l, Contains-push ls l, changed)) all

  AllRenamed-skip : (ls : List Layer) (x : Layer) (i : ℕ) → i < length inside → x ≡ get_or inside i x → ((t : Bor WorldItem) → Contains x.items.items t → ⊥) → EachBelow inside (HasRenamed by ls) i → EachBelow inside (HasRenamed by ls) (i + 1)
  AllRenamed-skip ls x i within at none all = EachBelow-more inside (HasRenamed by ls) (HasRenamed by ls) i x within at (λ k y has. has) (λ t among. absurd (none t among)) all

  pub AllRenamed-end : (ls : List Layer) (i : ℕ) → length inside ≤ i → EachBelow inside (HasRenamed by ls) i → (x : Layer) (t : Bor WorldItem) → Contains inside x → Contains x.items.items t → (l : Layer) × Contains ls l × IsRenamedLayer x by l
  AllRenamed-end ls i past all x t among names = EachBelow-end inside (HasRenamed by ls) i past all among.0 x (slice_get-among inside x among) t names

-- layers with those before an index under new names
pub record AddsRenamed (inside : List Layer) (by : NewNames) (old new : List Layer) (limit : ℕ) : Type 0 where
  pub grows : GrowsLayers old new
  pub each : AreRenamedLayers inside by old new
  pub all : EachBelow inside (HasRenamed by new) limit

module _ (inside : List Layer) (by : NewNames) (old : List Layer) where
  pub AddsRenamed-none : AddsRenamed inside by old old 0
  AddsRenamed-none = record { grows = λ l among. among; each = λ l among. inl among; all = AllRenamed-none inside by old }

  pub AddsRenamed-push : (ls : List Layer) (x l : Layer) (i : ℕ) → i < length inside → x ≡ get_or inside i x → IsRenamedLayer x by l → AddsRenamed inside by old ls i → AddsRenamed inside by old (ls ++ l ∷ []) (i + 1)
  AddsRenamed-push ls x l i within at changed h = record {
    grows = GrowsLayers-push old ls l h.grows;
    each = AreRenamedLayers-push inside by old ls x l (i, within, sym at) changed h.each;
    all = AllRenamed-push inside by ls x l i within at changed h.all;
  }

  pub AddsRenamed-skip : (ls : List Layer) (x : Layer) (i : ℕ) → i < length inside → x ≡ get_or inside i x → (length x.items.items == 0) ≡ true → AddsRenamed inside by old ls i → AddsRenamed inside by old ls (i + 1)
  AddsRenamed-skip ls x i within at none h = record { grows = h.grows; each = h.each; all = AllRenamed-skip inside by ls x i within at (λ t among. omega (arith, among.1, eqb-true (length x.items.items) 0 none)) h.all }
