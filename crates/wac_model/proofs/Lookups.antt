-- Names: when they are equal, when those that keys show are distinct, and look-ups by them
-- in the first entries of a list.
use Rattle.std.proofs.Common.{◌≡◌, ℕ, suc, zero, List, [], ◌∷◌, map, take, Some, slice_get, Bool, true, false, cond, refl, ap, sym, subst, ◌∙◌}
use Rattle.std.specs.Bool.{Decides}
use Rattle.std.specs.List.{IsDistinct, AllByRecursion}
use Rattle.std.specs.Option.{option_map}
use Rattle.std.specs.Map.{keys_of, lookup as lookup_by}
use Rattle.std.specs.Str.{bytes_eq}
use Rattle.std.proofs.lemmas.Bool.Decides.{Decides-and, Decides-like}
use Rattle.std.proofs.lemmas.Slice.Eq.{bytes_eq-Decides}
use Rattle.wac_model.specs.Text.{ImportName, import_name_eq, lookup}
use Rattle.wac_model.specs.CoreTree.{Serves}

pub import_name_eq-Decides : (m n : ImportName) → Decides (import_name_eq m n) (m ≡ n)
import_name_eq-Decides m n =
    Decides-like (import_name_eq m n) (λ p. λ i. (p.0 i, p.1 i)) (λ e. (ap (λ p. p.0) e, ap (λ p. p.1) e))
    (Decides-and (bytes_eq m.0 n.0) (bytes_eq m.1 n.1) (bytes_eq-Decides m.0 n.0) (bytes_eq-Decides m.1 n.1))

-- keys that are distinct show names that are
module _ {K L : Type 0} (show_key : K → L) (eq : K → K → Bool) (is_same : L → L → Bool) (agree : (k l : K) → eq k l ≡ is_same (show_key k) (show_key l)) where
  keys_apart : (k : K) (ks : List K) → AllByRecursion (λ l. eq k l ≡ false) ks → AllByRecursion (λ l. is_same (show_key k) l ≡ false) (map show_key ks)
  keys_apart k [] h = tt
  keys_apart k (l ∷ ks) h = (sym (agree k l) ∙ h.0, keys_apart k ks h.1)

  pub IsDistinct-shown_keys : (ks : List K) → IsDistinct eq ks → IsDistinct is_same (map show_key ks)
  unfolding IsDistinct
  IsDistinct-shown_keys [] h = tt
  IsDistinct-shown_keys (k ∷ ks) h = (keys_apart k ks h.0, IsDistinct-shown_keys ks h.1)

  -- the names in entries of any values
  pub IsDistinct-names : {V : Type 0} (es : List (K × V)) → IsDistinct eq (keys_of es) → IsDistinct is_same (map (λ (e : K × V). show_key e.0) es)
  IsDistinct-names {V} es h = subst (λ l. IsDistinct is_same l) (same es) (IsDistinct-shown_keys (keys_of es) h)
    where
      same : (es : List (K × V)) → map show_key (keys_of es) ≡ map (λ (e : K × V). show_key e.0) es
      same [] = refl
      same (e ∷ es) = ap (λ l. show_key e.0 ∷ l) (same es)

  pub IsDistinct-shown : {V W : Type 0} (show : V → W) (es : List (K × V)) → IsDistinct eq (keys_of es) → IsDistinct is_same (keys_of (map {A = K × V} {B = L × W} (λ e. (show_key e.0, show e.1)) es))
  IsDistinct-shown {V} {W} show es h = subst (λ l. IsDistinct is_same l) (same es) (IsDistinct-shown_keys (keys_of es) h)
    where
      same : (es : List (K × V)) → map show_key (keys_of es) ≡ keys_of (map {A = K × V} {B = L × W} (λ e. (show_key e.0, show e.1)) es)
      same [] = refl
      same (e ∷ es) = ap (λ l. show_key e.0 ∷ l) (same es)

-- what a test of keys finds, a look-up of what the keys show finds
pub lookup-shown : {K L V W : Type 0} (show_key : K → L) (show : V → W) (test : K → Bool) (is_same : L → L → Bool) (name : L) → ((k : K) → test k ≡ is_same name (show_key k)) → (es : List (K × V)) → option_map show (lookup_by test es) ≡ lookup {K = L} {V = W} is_same (map (λ (e : K × V). (show_key e.0, show e.1)) es) name
lookup-shown show_key show test is_same name agree [] = refl
lookup-shown {K} {L} {V} {W} show_key show test is_same name agree (e ∷ es) = rw (agree e.0) (at_first (is_same name (show_key e.0)) (lookup-shown show_key show test is_same name agree es))
  where
    at_first : (b : Bool) → option_map show (lookup_by test es) ≡ lookup {K = L} {V = W} is_same (map (λ (e : K × V). (show_key e.0, show e.1)) es) name → option_map show (cond b (Some e.1) (lookup_by test es)) ≡ cond b (Some (show e.1)) (lookup {K = L} {V = W} is_same (map (λ (e : K × V). (show_key e.0, show e.1)) es) name)
    at_first true h = refl
    at_first false h = h

module _ {K : Type 0} (is_same : K → K → Bool) (decides : (m n : K) → Decides (is_same m n) (m ≡ n)) where
  turn : (n q : K) → is_same n q ≡ false → is_same q n ≡ false
  turn n q h = go (is_same q n) refl
    where
      go : (b : Bool) → is_same q n ≡ b → b ≡ false
      go true g = let there : is_same n q ≡ true = (decides n q).1 (sym ((decides q n).0 g)) in absurd (cc)
      go false g = refl

  -- what the name at a place has, in the first entries up to that place
  lookup-take_here : {V : Type 0} (es : List (K × V)) (i : ℕ) (n : K) (s : V) → slice_get es i ≡ Some (n, s) → lookup is_same es n ≡ Some s → lookup is_same (take (suc i) es) n ≡ Some s
  lookup-take_here [] i n s at h = absurd (cc)
  lookup-take_here {V} (e ∷ es) zero n s at h =
      let same : e ≡ (n, s) = cc in
      let first : is_same n e.0 ≡ true = rw same ((decides n n).1 refl) in
      rw first (ap (λ (x : K × V). Some x.1) same)
  lookup-take_here (e ∷ es) (suc i) n s at h = go (is_same n e.0) h (λ g. lookup-take_here es i n s at g)
    where
      go : (b : Bool) → cond b (Some e.1) (lookup is_same es n) ≡ Some s → (lookup is_same es n ≡ Some s → lookup is_same (take (suc i) es) n ≡ Some s) → cond b (Some e.1) (lookup is_same (take (suc i) es) n) ≡ Some s
      go true g f = g
      go false g f = f g

  lookup-take_past : {V : Type 0} (es : List (K × V)) (i : ℕ) (n q : K) (s : V) → slice_get es i ≡ Some (n, s) → is_same q n ≡ false → lookup is_same (take (suc i) es) q ≡ lookup is_same (take i es) q
  lookup-take_past [] i n q s at h = absurd (cc)
  lookup-take_past (e ∷ es) zero n q s at h =
      let same : e ≡ (n, s) = cc in
      let past : is_same q e.0 ≡ false = rw same h in
      rw past refl
  lookup-take_past (e ∷ es) (suc i) n q s at h = ap (λ o. cond (is_same q e.0) (Some e.1) o) (lookup-take_past es i n q s at h)

  -- one name more is served
  pub one_more_served : {V : Type 0} (R : V → V → Type 0) (es ts : List (K × V)) (i : ℕ) (n : K) (s t : V) → slice_get ts i ≡ Some (n, t) → lookup is_same ts n ≡ Some t → lookup is_same es n ≡ Some s → R s t
      → ((q : K) → Serves R (lookup is_same es q) (lookup is_same (take i ts) q)) → (q : K) → Serves R (lookup is_same es q) (lookup is_same (take (suc i) ts) q)
  one_more_served R es ts i n s t at called there fit met q = go (is_same n q) refl
    where
      go : (b : Bool) → is_same n q ≡ b → Serves R (lookup is_same es q) (lookup is_same (take (suc i) ts) q)
      go true g =
          subst (λ r. Serves R (lookup is_same es r) (lookup is_same (take (suc i) ts) r)) ((decides n q).0 g)
          (subst (λ o. Serves R o (lookup is_same (take (suc i) ts) n)) (sym there)
          (subst (λ o. Serves R (Some s) o) (sym (lookup-take_here ts i n t at called)) fit))
      go false g = subst (λ o. Serves R (lookup is_same es q) o) (sym (lookup-take_past ts i n q t at (turn n q g))) (met q)
