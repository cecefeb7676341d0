-- What is noted of all names, as a report.
use Rattle.std.proofs.Common.{◌≡◌, ◌↔◌, ◌||◌, suc, zero, Bool, true, false, List, [], ◌∷◌, map, slice_get, Contains, Option, Some, None, String, Global, string_bytes, refl, ap, sym, ◌∙◌, subst, arith}
use Rattle.std.proofs.lemmas.Map.Text.{is_eq-slice_cmp}
use Rattle.std.specs.Cmp.Lexicographic.{slice_cmp, bytes_decides}
use Rattle.std.specs.List.{list_any}
use Rattle.std.specs.Map.{lookup}
use Rattle.std.specs.Option.{unwrap_or}
use Rattle.std.specs.Ordering.{is_eq, nat_cmp}
use Rattle.std.specs.Str.{bytes_eq}
use Rattle.wac_model.specs.Text.{Text}
use Rattle.wac_component.specs.Id.{Id}
use Rattle.wac_component.specs.Collection.{Collection, WorldContent}
use Rattle.wac_component.specs.declared.items.ItemKind.{ItemKind}
use Rattle.wac_component.specs.declared.worlds.ExternKind.{ExternKind}
use Rattle.wac_component.specs.declared.worlds.ExternKind.TheVariants.{Import, Export}
use Rattle.wac_mismatch.specs.declared.error.SubtypeError.{SubtypeError}
use Rattle.wac_names.specs.Pairs.{value_at}
use Rattle.wac_targets.specs.Wanted.{NamedItems, Lacks, wanted, given}
use Rattle.wac_targets.specs.Parts.{not_in_target, missing, mismatched}
use Rattle.wac_targets.specs.Report.{world_content_of, Misfits, IsMismatched, IsMismatchReason, IsReport, IsClean}
use Rattle.wac_targets.specs.Noting.{note_of, AreNoted}
use Rattle.wac_targets.specs.declared.report.TargetValidationReport.{TargetValidationReport}
use Rattle.wac_targets.proofs.Reports.{LacksAt, MisfitsAt, ReasonAt, MismatchAt, ErrorAt, absent_here, missing_here, mismatch_here, reason_here}

-- the world of an id, by its entry
pub world_content_of-entry : (c : Collection) (i : Id) (w : WorldContent) → slice_get c.worlds i.index ≡ Some w → world_content_of c i ≡ w
world_content_of-entry c i w at = ap (λ o. unwrap_or o (record { id = None; uses = []; imports = []; exports = [] })) at

-- a set of names as a list
any-contains : (ks : List (String Global)) (n : Text) → list_any (λ k. is_eq (slice_cmp nat_cmp n (string_bytes k))) ks ≡ true → Contains (map string_bytes ks) n
any-contains [] n h = absurd (cc (h))
any-contains (k ∷ ks) n h = of (bytes_eq n (string_bytes k)) refl (any-contains ks n) where
  of : (b : Bool) → bytes_eq n (string_bytes k) ≡ b → (list_any (λ x. is_eq (slice_cmp nat_cmp n (string_bytes x))) ks ≡ true → Contains (map string_bytes ks) n) → Contains (map string_bytes (k ∷ ks)) n
  of true e rest = (zero, omega arith, sym ((bytes_decides n (string_bytes k)).0 e))
  of false e rest =
      let later = rest (sym (ap (λ b. b || list_any (λ x. is_eq (slice_cmp nat_cmp n (string_bytes x))) ks) (is_eq-slice_cmp n (string_bytes k) ∙ e)) ∙ h) in
      (suc later.0, omega (arith, later.1), later.2)

contains-any : (ks : List (String Global)) (n : Text) → Contains (map string_bytes ks) n → list_any (λ k. is_eq (slice_cmp nat_cmp n (string_bytes k))) ks ≡ true
contains-any [] n (i, l, at) = absurd (omega (arith, l))
contains-any (k ∷ ks) n (zero, l, at) = rw (is_eq-slice_cmp n (string_bytes k), (bytes_decides n (string_bytes k)).1 (sym at)) refl
contains-any (k ∷ ks) n (suc i, l, at) = rw (contains-any ks n (i, omega (arith, l), at)) (of (is_eq (slice_cmp nat_cmp n (string_bytes k)))) where
  of : (b : Bool) → (b || true) ≡ true
  of true = refl
  of false = refl

-- a map as a list of pairs
text-value : {V : Type 0} (es : List (String Global × V)) (n : Text) → lookup (λ k. is_eq (slice_cmp nat_cmp n (string_bytes k))) es ≡ value_at (map (λ (e : String Global × V). (string_bytes e.0, e.1)) es) n
text-value [] n = refl
text-value (e ∷ es) n = rw (is_eq-slice_cmp n (string_bytes e.0), text-value es n) refl

module _ (r : TargetValidationReport) (clean : IsClean r) (n : Text) where
  clean-absent : (note_of r n).absent ≡ false
  clean-absent = of (note_of r n).absent refl where
    of : (b : Bool) → (note_of r n).absent ≡ b → (note_of r n).absent ≡ false
    of false e = e
    of true e = let there = any-contains r.imports_not_in_target.keys n e in absurd (nowhere (subst (λ xs. Contains xs n) clean.not_in_target there)) where
      nowhere : Contains [] n → ⊥
      nowhere (i, l, at) = omega (arith, l)

  clean-missing : (note_of r n).missing ≡ None
  clean-missing = text-value r.missing_exports.entries n ∙ ap (λ xs. value_at xs n) clean.missing

  clean-mismatch : (note_of r n).mismatch ≡ None
  clean-mismatch = text-value r.mismatched_types.entries n ∙ ap (λ xs. value_at xs n) clean.mismatched

module _ (c : Collection) (target component : WorldContent) (n : Text) where
  misfits-at : (k : ExternKind) → Misfits c target component k n ↔ MisfitsAt c k (given c target component k) n (value_at (wanted c target component k) n)
  misfits-at k = ((λ m. (m.a, m.b, m.has.asked, m.has.found, m.no)), λ m. record { a = m.0; b = m.1; has = record { asked = m.2; found = m.3 }; no = m.4 })

  reason-at : (k : ExternKind) (e : SubtypeError) → ReasonAt c k (given c target component k) n (value_at (wanted c target component k) n) e → IsMismatchReason c target component k n e
  reason-at k e r = record { a = r.2.0; b = r.0; has = record { asked = r.1; found = r.2.1 }; mismatch = r.2.3; path = r.2.4 }

-- a clean report, after what imports and then exports come to is noted
pub report-noted : (c : Collection) (target component : WorldContent) (r s t : TargetValidationReport) → IsClean r
    → AreNoted c Import (given c target component Import) (wanted c target component Import) (note_of r) (note_of s)
    → AreNoted c Export (given c target component Export) (wanted c target component Export) (note_of s) (note_of t)
    → IsReport c target component t
report-noted c target component r s t clean p q = record {
  imports_not_in_target = λ n. of_imports n (absent_here c gi ge n (oi n) (oe n) (note_of r n) (note_of s n) (note_of t n) (p n) (q n) (clean-absent r clean n));
  missing_exports = λ n b. of_exports n b (missing_here c gi ge n (oi n) (oe n) (note_of r n) (note_of s n) (note_of t n) (p n) (q n) (clean-missing r clean n) b);
  mismatched_types = λ n k. of_types n k (mismatch_here c gi ge n (oi n) (oe n) (note_of r n) (note_of s n) (note_of t n) (p n) (q n) (clean-mismatch r clean n) k);
  reasons = λ n k e h. of_reason n k e (reason_here c gi ge n (oi n) (oe n) (note_of r n) (note_of s n) (note_of t n) (p n) (q n) (clean-mismatch r clean n) k e (text-value t.mismatched_types.entries n ∙ h));
} where
  gi : NamedItems
  gi = given c target component Import

  ge : NamedItems
  ge = given c target component Export

  oi : Text → Option ItemKind
  oi n = value_at (wanted c target component Import) n

  oe : Text → Option ItemKind
  oe n = value_at (wanted c target component Export) n

  of_imports : (n : Text) → ((note_of t n).absent ≡ true) ↔ ((b : ItemKind) × LacksAt c Import gi n (oi n) b) → Contains (not_in_target t) n ↔ ((b : ItemKind) × Lacks gi (wanted c target component Import) n b)
  of_imports n x = (
    (λ h. let y = x.0 (contains-any t.imports_not_in_target.keys n h) in (y.0, record { asked = y.1.0; found = y.1.1 })),
    λ h. any-contains t.imports_not_in_target.keys n (x.1 (h.0, (h.1.asked, h.1.found))),
  )

  of_exports : (n : Text) (b : ItemKind) → ((note_of t n).missing ≡ Some b) ↔ LacksAt c Export ge n (oe n) b → (value_at (missing t) n ≡ Some b) ↔ Lacks ge (wanted c target component Export) n b
  of_exports n b x = (
    (λ h. let y = x.0 (text-value t.missing_exports.entries n ∙ h) in record { asked = y.0; found = y.1 }),
    λ h. sym (text-value t.missing_exports.entries n) ∙ x.1 (h.asked, h.found),
  )

  told : (n : Text) (k : ExternKind) → MismatchAt c gi ge n (oi n) (oe n) (note_of r n) (note_of s n) (note_of t n) (p n) (q n) k ↔ IsMismatched c target component k n
  told n Export = ((misfits-at c target component n Export).1, (misfits-at c target component n Export).0)
  told n Import = (
    (λ m. ((misfits-at c target component n Import).1 m.0, λ e. m.1 ((misfits-at c target component n Export).0 e))),
    λ m. ((misfits-at c target component n Import).0 m.0, λ e. m.1 ((misfits-at c target component n Export).1 e)),
  )

  of_types : (n : Text) (k : ExternKind) → ((e : SubtypeError) × ((note_of t n).mismatch ≡ Some (k, e))) ↔ MismatchAt c gi ge n (oi n) (oe n) (note_of r n) (note_of s n) (note_of t n) (p n) (q n) k → ((e : SubtypeError) × (value_at (mismatched t) n ≡ Some (k, e))) ↔ IsMismatched c target component k n
  of_types n k x = (
    (λ h. (told n k).0 (x.0 (h.0, text-value t.mismatched_types.entries n ∙ h.1))),
    λ h. let y = x.1 ((told n k).1 h) in (y.0, sym (text-value t.mismatched_types.entries n) ∙ y.1),
  )

  of_reason : (n : Text) (k : ExternKind) (e : SubtypeError) → ErrorAt c gi ge n (oi n) (oe n) (note_of r n) (note_of s n) (note_of t n) (p n) (q n) k e → IsMismatchReason c target component k n e
  of_reason n Export e x = reason-at c target component n Export e x
  of_reason n Import e x = reason-at c target component n Import e x
