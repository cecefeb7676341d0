-- Pairs: when two are one, and what is found of their parts.
use Rattle.std.proofs.Common.{◌≡◌, ℕ, Bool, true, false, Option, Some, slice_get, refl, ap, sym, subst, ◌∙◌, arith, ◌≢◌}
use Rattle.wac_mismatch.specs.declared.error.SubtypeError.TheVariants.{Mismatch, Memory}
use Rattle.wac_model.specs.Text.{Text}
use Rattle.wac_model.specs.ValueTree.{ValueTree}
use Rattle.wac_model.specs.ItemTree.{Kind, Leaf, item, leaf, func}
use Rattle.wac_model.proofs.ItemOrder.{leaf_fits}
use Rattle.wac_component.specs.Id.{Id}
use Rattle.wac_component.specs.Collection.{Collection}
use Rattle.wac_component.specs.Height.{height}
use Rattle.wac_component.specs.Key.{defined_key, func_key}
use Rattle.wac_component.specs.Tree.{value_tree, func_tree}
use Rattle.wac_component.specs.declared.items.ValueType.TheVariants.{Defined}
use Rattle.wac_mismatch.specs.Place.{Side, SideFits, item_side, value_side, place, turned}
use Rattle.wac_mismatch.specs.Path.{Explains, Refutes}
use Rattle.wac_mismatch.proofs.PathLemmas.{explains_refutes}
use Rattle.wac_mismatch.specs.declared.check.SubtypeCheck.{SubtypeCheck}
use Rattle.wac_mismatch.specs.declared.check.SubtypeCheck.TheVariants.{Covariant, Contravariant}
use Rattle.wac_mismatch.specs.declared.error.SubtypeError.{SubtypeError}
use Rattle.wac_checker_parts.proofs.ItemLemmas.{equal_leaves}
use Rattle.wac_checker_parts.proofs.PartLemmas.{pair_of}
use Rattle.wac_checker_parts.specs.Parts.{side_parts, AreAt}
use Rattle.wac_checker_parts.specs.Pairs.{HaveAt, IsValuePart, IsBelow, IsBelowPair, IsEntriesPart, EntriesFit, ExplainsEntries, left_of, right_of, placed_pair, Entries, DefinedTypes, Funcs, Interfaces, Worlds, Modules, Finding, End, Same, Below, Two, left_side, right_side}

turned_twice : (check : SubtypeCheck) → turned (turned check) ≡ check
turned_twice Covariant = refl
turned_twice Contravariant = refl

pub leaf_one : (k : Kind) (x y : Leaf) → item_side (leaf k x) ≡ item_side (leaf k y) → x ≡ y
leaf_one k x y h = cc

pub trees_one : (x y : ValueTree) → value_side x ≡ value_side y → x ≡ y
trees_one x y h = cc

-- the parts at a place of one side are one
pub parts_one : (s t : Side) (i : ℕ) (x y : ValueTree) → AreAt s t i x y → s ≡ t → x ≡ y
parts_one s t i x y at same =
    let both = pair_of (at.0, Some x) (at.0, Some y) (sym at.1 ∙ ap (λ (u : Side). slice_get (side_parts u) i) same ∙ at.2) in
    let trees : Some x ≡ Some y = ap (λ (p : Text × Option ValueTree). p.1) both in cc

-- a refusal that explains itself refutes what would make the sides fit
pub explains_needed : (P : Type 0) (e : SubtypeError) (check : SubtypeCheck) (a b : Side) → Explains e check a b → (P → SideFits a b) → Refutes e P
explains_needed P (Mismatch frames f) check a b h fits = λ p. explains_refutes (Mismatch frames f) check a b h (fits p)
explains_needed P Memory check a b h fits = tt

-- what is found of the parts of two defined types is what is found of the two entries
module _ (c d : Collection) (a b : Id) (i : ℕ) where
  -- the two are one only if their parts at a place are
  parts_needed : (x y : ValueTree) → AreAt (value_side (value_tree c (Defined a))) (value_side (value_tree d (Defined b))) i x y → EntriesFit c d (DefinedTypes a b) → x ≡ y
  parts_needed x y at fit = parts_one (value_side (value_tree c (Defined a))) (value_side (value_tree d (Defined b))) i x y at (ap value_side (fit item))

  below_of : (e : Entries) → HaveAt c d (value_side (value_tree c (Defined a))) (value_side (value_tree d (Defined b))) (height c (defined_key a)) (height d (defined_key b)) i e → IsBelow c d (DefinedTypes a b) i (record { entries = e; swapped = false })
  below_of (DefinedTypes x y) h = record {
    stand = h.1;
    lower = omega (arith, h.2, h.3);
    enough = λ fits. h.0.1 ∙ ap (λ (u : ValueTree). Some (h.0.0, Some u)) (fits item) ∙ sym h.0.2;
    leads = λ check f is gs g path k. (place check (value_side (value_tree c (Defined x))) (value_side (value_tree d (Defined y))), h.0.3 check f is, path k);
    needed = λ fit k. parts_needed (value_tree c (Defined x)) (value_tree d (Defined y)) h.0 fit;
  }
  below_of (Funcs x y) h = elim h [ ]
  below_of (Interfaces x y) h = elim h [ ]
  below_of (Worlds x y) h = elim h [ ]
  below_of (Modules x y) h = elim h [ ]

  pub entries_of_defined : (p : Finding) → IsValuePart c d (value_side (value_tree c (Defined a))) (value_side (value_tree d (Defined b))) (height c (defined_key a)) (height d (defined_key b)) i p → IsEntriesPart c d (DefinedTypes a b) i p
  entries_of_defined End h = λ fit k. trees_one (value_tree c (Defined a)) (value_tree d (Defined b)) (h fit)
  entries_of_defined Same h = h
  entries_of_defined (Below q) h = (h.0, subst (λ (s : Bool). IsBelow c d (DefinedTypes a b) i (record { entries = q.entries; swapped = s })) (sym h.1) (below_of q.entries h.2))

-- and so of two functions
module _ (c d : Collection) (a b : Id) (i : ℕ) where
  func_parts_needed : (x y : ValueTree) → AreAt (item_side (leaf item (func (func_tree c a)))) (item_side (leaf item (func (func_tree d b)))) i x y → EntriesFit c d (Funcs a b) → x ≡ y
  func_parts_needed x y at fit = parts_one (item_side (leaf item (func (func_tree c a)))) (item_side (leaf item (func (func_tree d b)))) i x y at (ap (λ (l : Leaf). item_side (leaf item l)) (leaf_fits (fit item)))

  below_of_func : (e : Entries) → ((k : Kind) → HaveAt c d (item_side (leaf k (func (func_tree c a)))) (item_side (leaf k (func (func_tree d b)))) (height c (func_key a)) (height d (func_key b)) i e) → IsBelow c d (Funcs a b) i (record { entries = e; swapped = false })
  below_of_func (DefinedTypes x y) h = record {
    stand = (h item).1;
    lower = let left = (h item).2 in let right = (h item).3 in omega (arith, left, right);
    enough = λ fits. (h item).0.1 ∙ ap (λ (u : ValueTree). Some ((h item).0.0, Some u)) (fits item) ∙ sym (h item).0.2;
    leads = λ check f is gs g path k. (place check (value_side (value_tree c (Defined x))) (value_side (value_tree d (Defined y))), (h k).0.3 check f is, path k);
    needed = λ fit k. func_parts_needed (value_tree c (Defined x)) (value_tree d (Defined y)) (h item).0 fit;
  }
  below_of_func (Funcs x y) h = elim (h item) [ ]
  below_of_func (Interfaces x y) h = elim (h item) [ ]
  below_of_func (Worlds x y) h = elim (h item) [ ]
  below_of_func (Modules x y) h = elim (h item) [ ]

  pub entries_of_func : (p : Finding) → ((k : Kind) → IsValuePart c d (item_side (leaf k (func (func_tree c a)))) (item_side (leaf k (func (func_tree d b)))) (height c (func_key a)) (height d (func_key b)) i p) → IsEntriesPart c d (Funcs a b) i p
  entries_of_func End h = λ fit k. equal_leaves k (func (func_tree c a)) (func (func_tree d b)) (leaf_one k (func (func_tree c a)) (func (func_tree d b)) (h k fit))
  entries_of_func Same h = h item
  entries_of_func (Below q) h = ((h item).0, subst (λ (s : Bool). IsBelow c d (Funcs a b) i (record { entries = q.entries; swapped = s })) (sym (h item).1) (below_of_func q.entries (λ k. (h k).2)))

-- a pair below two entries, told from the collections of the pair that has them
pub below_pair : (c d : Collection) (p : Two) (i : ℕ) (q : Two) → IsBelow (left_of c d p.swapped) (right_of c d p.swapped) p.entries i q → IsBelowPair c d p i (placed_pair p.swapped q)
below_pair c d p i q h = by_cases p.entries q.entries p.swapped q.swapped h
  where
    by_cases : (e f : Entries) (s t : Bool) → IsBelow (left_of c d s) (right_of c d s) e i (record { entries = f; swapped = t }) → IsBelowPair c d (record { entries = e; swapped = s }) i (placed_pair s (record { entries = f; swapped = t }))
    by_cases e f false false h = record { stand = h.stand; lower = h.lower; enough = h.enough; leads = h.leads; needed = h.needed }
    by_cases e f false true h = record { stand = h.stand; lower = h.lower; enough = h.enough; leads = h.leads; needed = h.needed }
    by_cases e f true false h = record { stand = h.stand; lower = h.lower; enough = h.enough; leads = λ check. h.leads (turned check); needed = h.needed }
    by_cases e f true true h = record { stand = h.stand; lower = h.lower; enough = h.enough; leads = λ check f is gs g path. h.leads (turned check) f is gs g (rw (turned_twice check) path); needed = h.needed }

-- what a mismatch refutes doesn't hold
pub refuted : (e : SubtypeError) (P : Type 0) → Refutes e P → e ≢ Memory → ¬ P
refuted (Mismatch frames f) P h some = h
refuted Memory P h some = absurd (some refl)

-- an explained no of two entries refutes that they fit
pub entries_refuted : (check : SubtypeCheck) (c d : Collection) (e : Entries) (r : SubtypeError) → ExplainsEntries check c d e r → Refutes r (EntriesFit c d e)
entries_refuted check c d e r h = explains_needed (EntriesFit c d e) r check (left_side item c e) (right_side item d e) (h item) (λ fits. fits item)
