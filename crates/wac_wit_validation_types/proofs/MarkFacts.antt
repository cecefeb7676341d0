-- Exports that are marked, and names that have items.
use Rattle.std.proofs.Common.{◌≡◌, ◌⊎◌, inl, inr, ℕ, ◌+◌, ◌<◌, ◌≤◌, Bool, true, List, Contains, Some, IsSome, arith, length, get_or, refl, sym, ap, subst, ◌∙◌}
use Rattle.std.specs.Prelude.{slice_get}
use borrow.Author.Count.{below_more}
use Rattle.std.proofs.lemmas.Option.{slice_get_within, get_or_from_slice_get, slice_get-get_or}
use Rattle.wac_model.specs.ItemTree.{leaf, item, func}
use Rattle.wac_model.specs.Text.{Text}
use Rattle.wac_model.specs.ValueTree.{FuncTree}
use Rattle.wac_component.specs.Collection.{Collection}
use Rattle.wac_component.specs.Tree.{func_tree, item_tree}
use Rattle.wac_component.specs.declared.items.ItemKind.{ItemKind}
use Rattle.wac_component.specs.declared.items.ItemKind.TheVariants.{«Type» as OfType}
use Rattle.wac_component.specs.declared.items.Type.{«Type» as TypeOf}
use Rattle.wac_component.specs.declared.items.Type.TheVariants.{Resource as TypeResource, Value as TypeValue}
use Rattle.wac_wit_validation_types.specs.Exports.{HasFuncItem, HasItem, HasTypeItem, IsExportAt, IsFuncItem, MarksExports, named_items}
use Rattle.wac_wit_validation_types.specs.Denoted.{Setting}
use Rattle.wac_wit_validation_types.specs.Interfaces.{HasExportOf, a_type}
use Rattle.wac_wit_validation_types.specs.Reading.{IsItemNamed, IsTypeNamed, TypesAreNamed, type_meaning}
use Rattle.wac_wit_validation_types.specs.declared.names.NamedTypes.{NamedTypes}
use Rattle.wac_wit_validation_types.specs.declared.progress.ExportMarks.{ExportMarks}

-- the fact holds of each element before an index
abbrev pub AllBelow : {X : Type 0} → (X → Type 0) → List X → ℕ → Type 0
AllBelow {X} P xs i = (k : ℕ) (d : X) → k < i → P (get_or xs k d)

-- what stands at a place of a list doesn't depend on what stands for none
pub get_or-same : {X : Type 0} (xs : List X) (i : ℕ) (d e : X) → i < length xs → get_or xs i d ≡ get_or xs i e
get_or-same xs i d e below = let one = slice_get-get_or xs i d below in let other = slice_get-get_or xs i e below in cc

module _ {X : Type 0} (P : X → Type 0) (xs : List X) where
  pub AllBelow-more : (i : ℕ) (x : X) → i < length xs → x ≡ get_or xs i x → AllBelow P xs i → P x → AllBelow P xs (i + 1)
  AllBelow-more i x below at all here = λ k d h. below_more (λ j. (e : X) → P (get_or xs j e)) i (λ j g e. all j e g) (λ e. subst P (at ∙ get_or-same xs i x e below) here) k h d

  pub AllBelow-none : AllBelow P xs 0
  AllBelow-none = λ k d h. absurd (omega (arith, h))

  pub AllBelow-contains : (i : ℕ) (x : X) → length xs ≤ i → AllBelow P xs i → Contains xs x → P x
  AllBelow-contains i x past all among = subst P among.2 (all among.0 x (omega (arith, among.1)))

-- where each mark up to the end is set, all are
pub told_below : (marks xs : List Bool) (i : ℕ) → xs ≡ marks → length xs ≤ i → AllBelow (λ (b : Bool). b ≡ true) xs i → (k : ℕ) → k < length marks → slice_get marks k ≡ Some true
told_below marks xs i same past all k within = subst (λ (l : List Bool). slice_get l k ≡ Some true) same (slice_get-get_or xs k true inside ∙ ap (λ (b : Bool). Some b) (all k true (omega (arith, inside, past))))
  where
    inside : k < length xs
    inside = subst (λ (l : List Bool). k < length l) (sym same) within

pub among_at : {X : Type 0} (xs : List X) (i : ℕ) (x : X) → i < length xs → x ≡ get_or xs i x → Contains xs x
among_at xs i x below at = (i, below, sym at)

pub has_item_at : (es : List (Text × ItemKind)) (i : ℕ) (n : Text) (k : ItemKind) → slice_get es i ≡ Some (n, k) → HasItem es n
has_item_at es i n k at = record { kind = k; among = (i, slice_get_within es i (n, k) at, get_or_from_slice_get es i (n, k) (n, k) at) }

pub has_type_at : (es : List (Text × ItemKind)) (i : ℕ) (n : Text) (t : TypeOf) → slice_get es i ≡ Some (n, OfType t) → HasTypeItem es n
has_type_at es i n t at = record { is = t; among = (i, slice_get_within es i (n, OfType t) at, get_or_from_slice_get es i (n, OfType t) (n, OfType t) at) }

pub has_func_at : (c : Collection) (P : FuncTree → Type 0) (es : List (Text × ItemKind)) (i : ℕ) (n : Text) (k : ItemKind) → slice_get es i ≡ Some (n, k) → IsFuncItem c k P → HasFuncItem es n
has_func_at c P es i n k at is = record { id = is.id; among = subst (λ (o : ItemKind). Contains es (n, o)) is.is (i, slice_get_within es i (n, k) at, get_or_from_slice_get es i (n, k) (n, k) at) }

module _ (s : Setting) (names : NamedTypes) where
  pub marks_none : (p : ExportMarks) → MarksExports s names p p
  marks_none p = record { even = refl; marked = λ i h. inl h }

  pub marks_then : (a b c : ExportMarks) → MarksExports s names a b → MarksExports s names b c → MarksExports s names a c
  marks_then a b c x y = record {
    even = y.even ∙ x.even;
    marked = λ i h. elim (y.marked i h) [ inl g ↦ x.marked i g | inr g ↦ inr g ];
  }

  pub marks_one : (a b : ExportMarks) (i : ℕ) → length b.seen.items ≡ length a.seen.items → ((j : ℕ) → slice_get b.seen.items j ≡ Some true → (slice_get a.seen.items j ≡ Some true) ⊎ (j ≡ i)) → IsExportAt s names.types.now (named_items names) i → MarksExports s names a b
  marks_one a b i even marked here = record {
    even = even;
    marked = λ j h. elim (marked j h) [ inl g ↦ inl g | inr g ↦ inr (subst (IsExportAt s names.types.now (named_items names)) (sym g) here) ];
  }

module _ (s : Setting) (c : Collection) (es : List (Text × ItemKind)) (i : ℕ) (n : Text) where
  -- a type that its name stands for, if the names before it do what they should
  pub type_exported : (t : TypeOf) → slice_get es i ≡ Some (n, OfType t) → IsSome (type_meaning c t) → (TypesAreNamed s c i es → IsTypeNamed s n c t) → IsExportAt s c es i
  type_exported t at meant is e there before = subst (λ p. HasExportOf s p.0 (item_tree c p.1) × IsItemNamed s p.0 c p.1) same (exported t meant (is before), is before)
    where
      same : (n, OfType t) ≡ e
      same = let both = sym at ∙ there in cc

      exported : (t : TypeOf) → IsSome (type_meaning c t) → IsTypeNamed s n c t → HasExportOf s n (item_tree c (OfType t))
      exported (TypeValue v) m named = a_type (named _ refl)
      exported (TypeResource r) m named = a_type (named _ refl)
      exported t m named = absurd (cc)

  -- a function, in the same way
  pub func_exported : (k : ItemKind) (P : FuncTree → Type 0) → slice_get es i ≡ Some (n, k) → (TypesAreNamed s c i es → IsFuncItem c k P) → ((f : FuncTree) → P f → HasExportOf s n (leaf item (func f))) → IsExportAt s c es i
  func_exported k P at is exported e there before = subst (λ p. HasExportOf s p.0 (item_tree c p.1) × IsItemNamed s p.0 c p.1) same (whole (is before))
    where
      same : (n, k) ≡ e
      same = let both = sym at ∙ there in cc

      whole : IsFuncItem c k P → HasExportOf s n (item_tree c k) × IsItemNamed s n c k
      whole f = rw f.is (exported (func_tree c f.id) f.holds, tt)
