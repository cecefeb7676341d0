-- Notes of names, one after another.
use Rattle.std.proofs.Common.{◌≡◌, ℕ, ◌+◌, Bool, true, false, cond, take, slice_get, Option, Some, None, refl, ap, ◌∙◌, subst}
use Rattle.std.specs.Cmp.Lexicographic.{bytes_decides}
use Rattle.std.specs.Str.{bytes_eq}
use Rattle.wac_model.specs.Text.{Text}
use Rattle.wac_component.specs.Collection.{Collection}
use Rattle.wac_component.specs.declared.items.ItemKind.{ItemKind}
use Rattle.wac_component.specs.declared.worlds.ExternKind.{ExternKind}
use Rattle.wac_component.specs.declared.worlds.ExternKind.TheVariants.{Import, Export}
use Rattle.wac_mismatch.specs.declared.error.SubtypeError.{SubtypeError}
use Rattle.wac_names.specs.Pairs.{HasDistinctTexts, value_at}
use Rattle.wac_targets.specs.Wanted.{NamedItems}
use Rattle.wac_targets.specs.Noting.{Note, with_lack, with_mismatch, noted, IsVerdict, IsNameNoted, NotesAt, AreNoted}
use Rattle.wac_targets.proofs.Distinct.{before-apart, value_at-more}

-- a change of one part of a note
pub mismatch-changes : (b : Bool) (s : Note) (k : ExternKind) (e : SubtypeError) (m : Option (ExternKind × SubtypeError)) → m ≡ cond b (Some (k, e)) s.mismatch → record { absent = s.absent; missing = s.missing; mismatch = m } ≡ cond b (with_mismatch k e s) s
mismatch-changes true s k e m h = rw h refl
mismatch-changes false s k e m h = rw h refl

pub absent-changes : (b : Bool) (s : Note) (i : ItemKind) (x : Bool) → x ≡ cond b true s.absent → record { absent = x; missing = s.missing; mismatch = s.mismatch } ≡ cond b (with_lack Import i s) s
absent-changes true s i x h = rw h refl
absent-changes false s i x h = rw h refl

pub missing-changes : (b : Bool) (s : Note) (i : ItemKind) (x : Option ItemKind) → x ≡ cond b (Some i) s.missing → record { absent = s.absent; missing = x; mismatch = s.mismatch } ≡ cond b (with_lack Export i s) s
missing-changes true s i x h = rw h refl
missing-changes false s i x h = rw h refl

module _ (c : Collection) (k : ExternKind) (given : NamedItems) where
  -- one name more is noted
  pub AreNoted-more : (ws : NamedItems) (i : ℕ) (n : Text) (b : ItemKind) (before mid after : Text → Note) → HasDistinctTexts ws → slice_get ws i ≡ Some (n, b) → AreNoted c k given (take i ws) before mid → NotesAt c k given n b mid after → AreNoted c k given (take (i + 1) ws) before after
  AreNoted-more ws i n b before mid after u at noted_before (v, verdict, changes) m = by_name (bytes_eq n m) refl where
    none : value_at (take i ws) n ≡ None
    none = before-apart ws i n b u at

    by_name : (d : Bool) → bytes_eq n m ≡ d → IsNameNoted c k given m (value_at (take (i + 1) ws) m) (before m) (after m)
    by_name true e =
        let same = (bytes_decides n m).0 e in
        let wanted : value_at (take (i + 1) ws) m ≡ Some b = value_at-more ws i n b m at none ∙ ap (λ d. cond d (Some b) (value_at (take i ws) m)) e in
        let kept : mid n ≡ before n = subst (λ o. IsNameNoted c k given n o (before n) (mid n)) none (noted_before n) in
        let now : after m ≡ noted k b v (mid m) = changes m ∙ ap (λ d. cond d (noted k b v (mid m)) (mid m)) e in
        let then : mid m ≡ before m = subst (λ (t : Text). mid t ≡ before t) same kept in
        rw wanted (v, subst (λ (t : Text). IsVerdict c k given t b v) same verdict, now ∙ ap (noted k b v) then)
    by_name false e =
        let wanted : value_at (take (i + 1) ws) m ≡ value_at (take i ws) m = value_at-more ws i n b m at none ∙ ap (λ d. cond d (Some b) (value_at (take i ws) m)) e in
        let now : after m ≡ mid m = changes m ∙ ap (λ d. cond d (noted k b v (mid m)) (mid m)) e in
        rw (wanted, now) (noted_before m)
