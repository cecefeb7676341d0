-- From what is noted of each name to what the report says.
use Rattle.std.proofs.Common.{◌≡◌, ◌⊎◌, ◌↔◌, inl, inr, true, false, Option, Some, None, refl, ap, sym, ◌∙◌, subst}
use Rattle.wac_model.specs.Text.{Text}
use Rattle.wac_component.specs.Collection.{Collection}
use Rattle.wac_component.specs.declared.items.ItemKind.{ItemKind}
use Rattle.wac_component.specs.declared.worlds.ExternKind.{ExternKind}
use Rattle.wac_component.specs.declared.worlds.ExternKind.TheVariants.{Import, Export}
use Rattle.wac_mismatch.specs.declared.error.SubtypeError.{SubtypeError}
use Rattle.wac_names.specs.Pairs.{IsFound}
use Rattle.wac_names.proofs.Finding.{finds_one}
use Rattle.wac_targets.specs.Wanted.{NamedItems, FitsAs}
use Rattle.wac_targets.specs.Noting.{Note, with_lack, IsVerdict, IsNameNoted}
use Rattle.wac_targets.specs.declared.checks.Verdict.TheVariants.{Lacking, Fitting, Failing}

-- an export is no import
apart : Export ≡ Import → ⊥
apart e = absurd (cc (e))

abbrev kind_or : ExternKind → Option (ExternKind × SubtypeError) → ExternKind
kind_or k None = k
kind_or k (Some p) = p.0

abbrev error_or : SubtypeError → Option (ExternKind × SubtypeError) → SubtypeError
error_or e None = e
error_or e (Some p) = p.1

same-kind : (k l : ExternKind) (d e : SubtypeError) → ◌≡◌ {A = Option (ExternKind × SubtypeError)} (Some (k, d)) (Some (l, e)) → k ≡ l
same-kind k l d e h = ap (kind_or k) h

same-error : (k l : ExternKind) (d e : SubtypeError) → ◌≡◌ {A = Option (ExternKind × SubtypeError)} (Some (k, d)) (Some (l, e)) → d ≡ e
same-error k l d e h = ap (error_or d) h

-- of one name under which o is wanted
module _ (c : Collection) (k : ExternKind) (given : NamedItems) (n : Text) where
  -- something is wanted, and nothing is found for it
  abbrev pub LacksAt : Option ItemKind → ItemKind → Type 0
  LacksAt o b = (o ≡ Some b) × IsFound given n None

  -- what is wanted is found and doesn't fit
  abbrev pub MisfitsAt : Option ItemKind → Type 0
  MisfitsAt o = (a : ItemKind) × (b : ItemKind) × (o ≡ Some b) × IsFound given n (Some a) × (FitsAs c k a b → ⊥)

  -- with an error that leads there
  abbrev pub ReasonAt : Option ItemKind → SubtypeError → Type 0
  ReasonAt o e = (b : ItemKind) × (o ≡ Some b) × IsVerdict c k given n b (Failing e)

  one : (r q : Option ItemKind) → IsFound given n r → IsFound given n q → r ≡ q
  one r q = finds_one ItemKind given n r q

  -- whether nothing is found for what is wanted
  lack-decided : (o : Option ItemKind) (s t : Note) → IsNameNoted c k given n o s t → ((b : ItemKind) × LacksAt o b × (t ≡ with_lack k b s)) ⊎ (((b : ItemKind) → LacksAt o b → ⊥) × (t.absent ≡ s.absent) × (t.missing ≡ s.missing))
  lack-decided None s t p = inr ((λ b l. absurd (cc (l.0))), ap (λ x. x.absent) p, ap (λ x. x.missing) p)
  lack-decided (Some b) s t (Lacking, verdict, same) = inl (b, (refl, verdict), same)
  lack-decided (Some b) s t (Fitting, verdict, same) = inr ((λ d l. absurd (cc (one None (Some verdict.0) l.1 verdict.1))), ap (λ x. x.absent) same, ap (λ x. x.missing) same)
  lack-decided (Some b) s t (Failing e, verdict, same) = inr ((λ d l. absurd (cc (one None (Some verdict.0) l.1 verdict.1))), ap (λ x. x.absent) same, ap (λ x. x.missing) same)

  lack_keeps-mismatch : (b : ItemKind) (s : Note) → (with_lack k b s).mismatch ≡ s.mismatch
  lack_keeps-mismatch b s = of k where
    of : (k : ExternKind) → (with_lack k b s).mismatch ≡ s.mismatch
    of Import = refl
    of Export = refl

  -- whether what is found doesn't fit
  misfit-decided : (o : Option ItemKind) (s t : Note) → IsNameNoted c k given n o s t → ((e : SubtypeError) × ReasonAt o e × (t.mismatch ≡ Some (k, e))) ⊎ ((MisfitsAt o → ⊥) × (t.mismatch ≡ s.mismatch))
  misfit-decided None s t p = inr ((λ m. absurd (cc (m.2))), ap (λ x. x.mismatch) p)
  misfit-decided (Some b) s t (Lacking, verdict, same) = inr ((λ m. absurd (cc (one None (Some m.0) verdict m.3))), ap (λ x. x.mismatch) same ∙ lack_keeps-mismatch b s)
  misfit-decided (Some b) s t (Fitting, verdict, same) = inr ((λ m. m.4 (fits m.0 m.1 m.2 (one (Some verdict.0) (Some m.0) verdict.1 m.3))), ap (λ x. x.mismatch) same) where
    fits : (a d : ItemKind) → Some b ≡ Some d → Some verdict.0 ≡ Some a → FitsAs c k a d
    fits a d e f = let left : verdict.0 ≡ a = cc in let right : b ≡ d = cc in subst (λ x. FitsAs c k x d) left (subst (λ y. FitsAs c k verdict.0 y) right verdict.2)
  misfit-decided (Some b) s t (Failing e, verdict, same) = inl (e, (b, refl, verdict), ap (λ x. x.mismatch) same)

  -- what has such an error doesn't fit
  reason_misfits : (o : Option ItemKind) (e : SubtypeError) → ReasonAt o e → MisfitsAt o
  reason_misfits o e r = (r.2.0, r.0, r.1, r.2.1, r.2.2)

-- of one name, once imports and then exports are looked through
module _ (c : Collection) (gi ge : NamedItems) (n : Text) (oi oe : Option ItemKind) (s t u : Note) (p : IsNameNoted c Import gi n oi s t) (q : IsNameNoted c Export ge n oe t u) where
  absent_kept : u.absent ≡ t.absent
  absent_kept = of (lack-decided c Export ge n oe t u q) where
    of : ((b : ItemKind) × LacksAt c Export ge n oe b × (u ≡ with_lack Export b t)) ⊎ (((b : ItemKind) → LacksAt c Export ge n oe b → ⊥) × (u.absent ≡ t.absent) × (u.missing ≡ t.missing)) → u.absent ≡ t.absent
    of (inl x) = ap (λ y. y.absent) x.2
    of (inr x) = x.1

  missing_kept : t.missing ≡ s.missing
  missing_kept = of (lack-decided c Import gi n oi s t p) where
    of : ((b : ItemKind) × LacksAt c Import gi n oi b × (t ≡ with_lack Import b s)) ⊎ (((b : ItemKind) → LacksAt c Import gi n oi b → ⊥) × (t.absent ≡ s.absent) × (t.missing ≡ s.missing)) → t.missing ≡ s.missing
    of (inl x) = ap (λ y. y.missing) x.2
    of (inr x) = x.2

  pub absent_here : s.absent ≡ false → (u.absent ≡ true) ↔ ((b : ItemKind) × LacksAt c Import gi n oi b)
  absent_here none = of (lack-decided c Import gi n oi s t p) where
    of : ((b : ItemKind) × LacksAt c Import gi n oi b × (t ≡ with_lack Import b s)) ⊎ (((b : ItemKind) → LacksAt c Import gi n oi b → ⊥) × (t.absent ≡ s.absent) × (t.missing ≡ s.missing)) → (u.absent ≡ true) ↔ ((b : ItemKind) × LacksAt c Import gi n oi b)
    of (inl x) = ((λ h. (x.0, x.1)), λ h. absent_kept ∙ ap (λ y. y.absent) x.2)
    of (inr x) = ((λ h. absurd (cc (sym h ∙ (absent_kept ∙ (x.1 ∙ none))))), λ h. absurd (x.0 h.0 h.1))

  pub missing_here : s.missing ≡ None → (b : ItemKind) → (u.missing ≡ Some b) ↔ LacksAt c Export ge n oe b
  missing_here none b = of (lack-decided c Export ge n oe t u q) where
    of : ((d : ItemKind) × LacksAt c Export ge n oe d × (u ≡ with_lack Export d t)) ⊎ (((d : ItemKind) → LacksAt c Export ge n oe d → ⊥) × (u.absent ≡ t.absent) × (u.missing ≡ t.missing)) → (u.missing ≡ Some b) ↔ LacksAt c Export ge n oe b
    of (inl x) =
        let there : u.missing ≡ Some x.0 = ap (λ y. y.missing) x.2 in
        ((λ h. (x.1.0 ∙ (sym there ∙ h), x.1.1)), λ h. there ∙ (sym x.1.0 ∙ h.0))
    of (inr x) = ((λ h. absurd (cc (sym h ∙ (x.2 ∙ (missing_kept ∙ none))))), λ h. absurd (x.0 b h))

  -- what is told of the name
  abbrev pub MismatchAt : ExternKind → Type 0
  MismatchAt Export = MisfitsAt c Export ge n oe
  MismatchAt Import = MisfitsAt c Import gi n oi × (MisfitsAt c Export ge n oe → ⊥)

  abbrev pub ErrorAt : ExternKind → SubtypeError → Type 0
  ErrorAt Export e = ReasonAt c Export ge n oe e
  ErrorAt Import e = ReasonAt c Import gi n oi e

  pub mismatch_here : s.mismatch ≡ None → (k : ExternKind) → ((e : SubtypeError) × (u.mismatch ≡ Some (k, e))) ↔ MismatchAt k
  mismatch_here none k = of k (misfit-decided c Export ge n oe t u q) (misfit-decided c Import gi n oi s t p) where
    of : (k : ExternKind) → ((e : SubtypeError) × ReasonAt c Export ge n oe e × (u.mismatch ≡ Some (Export, e))) ⊎ ((MisfitsAt c Export ge n oe → ⊥) × (u.mismatch ≡ t.mismatch)) → ((e : SubtypeError) × ReasonAt c Import gi n oi e × (t.mismatch ≡ Some (Import, e))) ⊎ ((MisfitsAt c Import gi n oi → ⊥) × (t.mismatch ≡ s.mismatch)) → ((e : SubtypeError) × (u.mismatch ≡ Some (k, e))) ↔ MismatchAt k
    of Export (inl x) y = ((λ h. reason_misfits c Export ge n oe x.0 x.1), λ h. (x.0, x.2))
    of Import (inl x) y = ((λ h. absurd (apart (same-kind Export Import x.0 h.0 (sym x.2 ∙ h.1)))), λ h. absurd (h.1 (reason_misfits c Export ge n oe x.0 x.1)))
    of Export (inr x) (inl y) = ((λ h. absurd (apart (same-kind Export Import h.0 y.0 (sym h.1 ∙ (x.1 ∙ y.2))))), λ h. absurd (x.0 h))
    of Import (inr x) (inl y) = ((λ h. (reason_misfits c Import gi n oi y.0 y.1, x.0)), λ h. (y.0, x.1 ∙ y.2))
    of Export (inr x) (inr y) = ((λ h. absurd (cc (sym h.1 ∙ (x.1 ∙ (y.1 ∙ none))))), λ h. absurd (x.0 h))
    of Import (inr x) (inr y) = ((λ h. absurd (cc (sym h.1 ∙ (x.1 ∙ (y.1 ∙ none))))), λ h. absurd (y.0 h.0))

  pub reason_here : s.mismatch ≡ None → (k : ExternKind) (e : SubtypeError) → u.mismatch ≡ Some (k, e) → ErrorAt k e
  reason_here none k e h = of k h (misfit-decided c Export ge n oe t u q) (misfit-decided c Import gi n oi s t p) where
    of : (k : ExternKind) → u.mismatch ≡ Some (k, e) → ((d : SubtypeError) × ReasonAt c Export ge n oe d × (u.mismatch ≡ Some (Export, d))) ⊎ ((MisfitsAt c Export ge n oe → ⊥) × (u.mismatch ≡ t.mismatch)) → ((d : SubtypeError) × ReasonAt c Import gi n oi d × (t.mismatch ≡ Some (Import, d))) ⊎ ((MisfitsAt c Import gi n oi → ⊥) × (t.mismatch ≡ s.mismatch)) → ErrorAt k e
    of Export h (inl x) y = let same : x.0 ≡ e = same-error Export Export x.0 e (sym x.2 ∙ h) in subst (λ d. ReasonAt c Export ge n oe d) same x.1
    of Import h (inl x) y = absurd (apart (same-kind Export Import x.0 e (sym x.2 ∙ h)))
    of Export h (inr x) (inl y) = absurd (apart (same-kind Export Import e y.0 (sym h ∙ (x.1 ∙ y.2))))
    of Import h (inr x) (inl y) = let same : y.0 ≡ e = same-error Import Import y.0 e (sym y.2 ∙ (sym x.1 ∙ h)) in subst (λ d. ReasonAt c Import gi n oi d) same y.1
    of k h (inr x) (inr y) = absurd (cc (sym h ∙ (x.1 ∙ (y.1 ∙ none))))
