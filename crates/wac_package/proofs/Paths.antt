-- Where the code cuts the name of an interface.
use Rattle.std.proofs.Common.{◌≡◌, ◌==◌, ◌||◌, ℕ, Bool, true, List, ◌∷◌, ◌++◌, refl, sym, ap, subst, ◌∙◌, arith, inl, inr, Option, Result, Ok, Err}
use Rattle.std.proofs.lemmas.List.Folds.{list_all-append}
use Rattle.std.proofs.lemmas.Str.Pattern.{IsSplitOnceResult, split_after}
use Rattle.std.specs.Borrow.{Bor}
use Rattle.std.specs.List.{list_all}
use Rattle.std.specs.Option.{is_some}
use Rattle.std.specs.Prelude.{IfOk, IsTrue, MatchOption, Some, None, ◌↔◌}
use Rattle.semver.specs.Identifiers.{parts_of}
use Rattle.semver.specs.Parse.{Parts}
use Rattle.semver.specs.declared.Version.{Version}
use Rattle.wac_model.specs.Text.{Text}
use Rattle.wac_names.specs.Reading.{IsNoVersionText, IsVersionText}
use Rattle.wac_names.specs.Track.{HasNoAt}
use Rattle.wac_names.proofs.Cuts.{Cuts, no_at, version_after, versioned_at}
use Rattle.wac_names.proofs.Tracks.{split_same}
use Rattle.wac_package.specs.InterfaceName.{IsInterfaceName, IsInterfacePath, IsLabel}
use Rattle.wac_package.proofs.Labels.{absent, all_mono, is_label_byte, label_bytes}

-- the text of a path is cut at its first `:`
pub path_cut : (text : List ℕ) (r : Option (Bor (List ℕ) × Bor (List ℕ))) → IsSplitOnceResult 58 text r → (p : IsInterfacePath text)
    → Cuts r p.namespace (p.«package» ++ 47 ∷ p.interface)
path_cut text r s p = split_after 58 text p.namespace (p.«package» ++ 47 ∷ p.interface) r s (omega arith) p.written
    (absent is_label_byte 58 refl p.namespace (label_bytes p.namespace p.namespace_label))

-- and the rest at its first `/`
pub rest_cut : (text rest : List ℕ) (r : Option (Bor (List ℕ) × Bor (List ℕ))) (p : IsInterfacePath text) → rest ≡ p.«package» ++ 47 ∷ p.interface
    → IsSplitOnceResult 47 rest r → Cuts r p.«package» p.interface
rest_cut text rest r p e s = split_after 47 rest p.«package» p.interface r s (omega arith) e
    (absent is_label_byte 47 refl p.«package» (label_bytes p.«package» p.package_label))

-- what the code finds where both cuts are made
pub path_at : (text n p i : List ℕ) → text ≡ n ++ 58 ∷ (p ++ 47 ∷ i) → IsLabel n → IsLabel p → IsLabel i → IsInterfacePath text
path_at text n p i e a b c = record { namespace = n; «package» = p; interface = i; written = e; namespace_label = a; package_label = b; interface_label = c }

pub labels_at : (text n p i : List ℕ) (q : IsInterfacePath text) → n ≡ q.namespace → p ≡ q.«package» → i ≡ q.interface → IsLabel n × IsLabel p × IsLabel i
labels_at text n p i q a b c = (subst IsLabel (sym a) q.namespace_label, subst IsLabel (sym b) q.package_label, subst IsLabel (sym c) q.interface_label)

-- a byte that a path may have
abbrev is_path_byte : ℕ → Bool
is_path_byte b = is_label_byte b || ((b == 58) || (b == 47))

path_byte : (b : ℕ) → is_label_byte b ≡ true → is_path_byte b ≡ true
path_byte b h = rw h refl

label_path_bytes : (text : List ℕ) → IsLabel text → list_all is_path_byte text ≡ true
label_path_bytes text l = all_mono is_label_byte is_path_byte path_byte text (label_bytes text l)

path_bytes : (text : List ℕ) → IsInterfacePath text → list_all is_path_byte text ≡ true
path_bytes text p =
    let a = label_path_bytes p.namespace p.namespace_label in
    let b = label_path_bytes p.«package» p.package_label in
    let c = label_path_bytes p.interface p.interface_label in
    let two : list_all is_path_byte (p.«package» ++ 47 ∷ p.interface) ≡ true = list_all-append is_path_byte p.«package» (47 ∷ p.interface) ∙ rw (b, c) refl in
    ap (list_all is_path_byte) p.written ∙ list_all-append is_path_byte p.namespace (58 ∷ (p.«package» ++ 47 ∷ p.interface)) ∙ rw (a, two) refl

-- a path has no `@`
pub path_has_no_at : (text : List ℕ) → IsInterfacePath text → HasNoAt text
path_has_no_at text p = absent is_path_byte 64 refl text (path_bytes text p)

module _ (name path version : List ℕ) (cut : name ≡ path ++ 64 ∷ version) (plain : HasNoAt path) where
  -- what stands before the `@` of an interface's name is a path
  pub path_before : IsInterfaceName name → IsInterfacePath path
  path_before (inl p) = absurd (no_at name path version (path_has_no_at name p) cut)
  path_before (inr v) =
      let same = (split_same path v.0 _ _ plain v.3.plain (sym cut ∙ v.3.written)).0 in
      subst IsInterfacePath (sym same) v.2

  -- and what stands after it a version
  pub version_behind : IsInterfaceName name → (parts : Parts) × IsVersionText version parts
  version_behind (inl p) = absurd (no_at name path version (path_has_no_at name p) cut)
  version_behind (inr v) = (v.1, version_after name path version v.0 v.1 cut plain v.3)

  answer : {E : Type 0} (r : Result Bool E) → IsInterfacePath path → IfOk r (λ b. IsTrue b ↔ ((parts : Parts) × IsVersionText version parts)) → IfOk r (λ b. IsTrue b ↔ IsInterfaceName name)
  answer (Ok b) p h = (λ t. let v = h.0 t in inr (path, v.0, p, versioned_at name path version v.0 cut plain v.1), λ n. h.1 (version_behind n))
  answer (Err e) p h = h

  pub name_answer : {E : Type 0} (r : Result Bool E) → IsInterfacePath path → IfOk r (λ b. IsTrue b ↔ ((parts : Parts) × IsVersionText version parts)) → IfOk r (λ b. IsTrue b ↔ IsInterfaceName name)
  name_answer = answer

-- a text was read as a version exactly where there is one
pub version_answer : (text : Text) (read : Option Version) (r : Bool) → MatchOption read (IsNoVersionText text) (λ v. IsVersionText text (parts_of v)) → r ≡ is_some read
    → IsTrue r ↔ ((p : Parts) × IsVersionText text p)
version_answer text (Some v) r read e = (λ h. (parts_of v, read), λ h. e)
version_answer text None r none e = (λ h. cc (e, h), λ h. absurd (none h.0 h.1))
