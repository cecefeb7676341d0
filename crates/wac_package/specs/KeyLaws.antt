-- The laws of comparisons and of hashes of keys.
use Rattle.std.proofs.Common.{◌≡◌, ◌==◌, true, Option, None, Some, refl, sym, ap, ◌∙◌}
use Rattle.std.specs.Bool.{Decides}
use Rattle.std.specs.Cmp.{Equal-is, IsEquivalence, IsTotalOrder, both_ways, first_so, second_so, on_total, then_total, unsigned_Decides}
use Rattle.std.specs.Cmp.Lexicographic.{bytes_decides, nat_list_cmp_total, options_total}
use Rattle.std.specs.FinMap.{nat_cmp-IsAntisymmetric, slice_cmp-IsAntisymmetric}
use Rattle.std.specs.Option.{option_cmp, option_eq}
use Rattle.std.specs.Ordering.{eq_by_cmp, ordering_then, ordering_reverse}
use Rattle.std.specs.Str.{bytes_eq}
use Rattle.std.specs.declared.cmp.Ordering.{Ordering}
use Rattle.std.specs.declared.cmp.Ordering.TheVariants.{Less, Equal, Greater}
use Rattle.semver.specs.Parse.{Parts}
use Rattle.wac_names.specs.Track.{version_cmp}
use Rattle.wac_names.proofs.Standing.{version_total}
use Rattle.wac_names.proofs.Tracks.{parts_path, version_cmp-anti}
use Rattle.wac_package.specs.Key.{KeyContent, key_cmp, key_eq, key_writes, version_eq}

module _ (v w : Parts) where
  version_same : version_eq v w ≡ true → v ≡ w
  version_same h =
      let a = first_so (v.0 == w.0) _ h in
      let h1 = second_so (v.0 == w.0) _ h in
      let b = first_so (v.1 == w.1) _ h1 in
      let h2 = second_so (v.1 == w.1) _ h1 in
      let c = first_so (v.2 == w.2) _ h2 in
      let h3 = second_so (v.2 == w.2) _ h2 in
      let d = first_so (bytes_eq v.3 w.3) (bytes_eq v.4 w.4) h3 in
      let e = second_so (bytes_eq v.3 w.3) (bytes_eq v.4 w.4) h3 in
      parts_path _ _ _ _ _ _ _ _ _ _ ((unsigned_Decides v.0 w.0).0 a) ((unsigned_Decides v.1 w.1).0 b) ((unsigned_Decides v.2 w.2).0 c)
      ((bytes_decides v.3 w.3).0 d) ((bytes_decides v.4 w.4).0 e)

version_self : (v : Parts) → version_eq v v ≡ true
version_self v =
    let a : (v.0 == v.0) ≡ true = (unsigned_Decides v.0 v.0).1 refl in
    let b : (v.1 == v.1) ≡ true = (unsigned_Decides v.1 v.1).1 refl in
    let c : (v.2 == v.2) ≡ true = (unsigned_Decides v.2 v.2).1 refl in
    let d : bytes_eq v.3 v.3 ≡ true = (bytes_decides v.3 v.3).1 refl in
    let e : bytes_eq v.4 v.4 ≡ true = (bytes_decides v.4 v.4).1 refl in
    rw (a, b, c, d, e) refl

optional_same : (o p : Option Parts) → option_eq version_eq o p ≡ true → o ≡ p
optional_same None None h = refl
optional_same None (Some w) h = cc h
optional_same (Some v) None h = cc h
optional_same (Some v) (Some w) h = ap Some (version_same v w h)

optional_self : (o : Option Parts) → option_eq version_eq o o ≡ true
optional_self None = refl
optional_self (Some v) = version_self v

key_path : (j k : KeyContent) → j.name ≡ k.name → j.version ≡ k.version → j ≡ k
key_path j k p q = λ i. record { name = p i; version = q i }

key_same : (j k : KeyContent) → key_eq j k ≡ true → j ≡ k
key_same j k h = key_path j k ((bytes_decides j.name k.name).0 (first_so (bytes_eq j.name k.name) _ h)) (optional_same j.version k.version (second_so (bytes_eq j.name k.name) _ h))

key_self : (k : KeyContent) → key_eq k k ≡ true
key_self k =
    let a : bytes_eq k.name k.name ≡ true = (bytes_decides k.name k.name).1 refl in
    rw (a, optional_self k.version) refl

-- equality of keys is that of their names and versions
pub keys_decided : (j k : KeyContent) → Decides (key_eq j k) (j ≡ k)
keys_decided j k = (key_same j k, λ e. ap (key_eq j) (sym e) ∙ key_self j)

pub key_eq_equiv : IsEquivalence key_eq
key_eq_equiv = record {
  refl = key_self;
  symm = λ j k. both_ways (key_eq j k) (key_eq k j) (λ h. rw (key_same j k h) (key_self k)) (λ h. rw (key_same k j h) (key_self j));
  congr = λ j k l h. ap (λ (m : KeyContent). key_eq m l) (key_same j k h);
}

pub key_cmp_total : IsTotalOrder key_cmp
key_cmp_total = then_total (on_total (λ (k : KeyContent). k.name) nat_list_cmp_total) (on_total (λ (k : KeyContent). k.version) (options_total version_total))

then_first : (r s : Ordering) → ordering_then r s ≡ Equal → r ≡ Equal
then_first Less s e = cc e
then_first Equal s e = refl
then_first Greater s e = cc e

then_second : (r s : Ordering) → ordering_then r s ≡ Equal → s ≡ Equal
then_second Less s e = cc e
then_second Equal s e = e
then_second Greater s e = cc e

optional_anti : (o p : Option Parts) → option_cmp version_cmp o p ≡ Equal → o ≡ p
optional_anti None None e = refl
optional_anti None (Some w) e = cc e
optional_anti (Some v) None e = cc e
optional_anti (Some v) (Some w) e = ap Some (version_cmp-anti v w e)

-- keys that tie are the same
pub key_cmp-anti : (j k : KeyContent) → key_cmp j k ≡ Equal → j ≡ k
key_cmp-anti j k e = key_path j k (slice_cmp-IsAntisymmetric nat_cmp-IsAntisymmetric j.name k.name (then_first _ _ e)) (optional_anti j.version k.version (then_second _ _ e))

self_equal : (r : Ordering) → r ≡ ordering_reverse r → r ≡ Equal
self_equal Less e = cc e
self_equal Equal e = refl
self_equal Greater e = cc e

-- a key ties with itself
pub key_cmp-self : (k : KeyContent) → key_cmp k k ≡ Equal
key_cmp-self k = self_equal (key_cmp k k) (key_cmp_total.antisymm k k)

-- equality holds exactly where the order ties
pub key_ties : (j k : KeyContent) → key_eq j k ≡ eq_by_cmp key_cmp j k
key_ties j k = both_ways (key_eq j k) (eq_by_cmp key_cmp j k)
    (λ h. rw (key_same j k h) ((Equal-is (key_cmp k k)).1 (key_cmp-self k)))
    (λ h. rw (key_cmp-anti j k ((Equal-is (key_cmp j k)).0 h)) (key_self k))

-- equal keys feed a hasher the same
pub keys_fed_alike : (j k : KeyContent) → key_eq j k ≡ true → key_writes j ≡ key_writes k
keys_fed_alike j k h = ap key_writes (key_same j k h)
