-- How many pairs of entries there can be.
use Rattle.std.proofs.Common.{◌≡◌, ◌≤◌, ◌<◌, ◌+◌, ◌*◌, ◌⊎◌, inl, inr, ℕ, zero, suc, List, [], ◌∷◌, ◌++◌, length, map, Bool, true, false, Contains, refl, ap, sym, subst, ◌∙◌, length-append, arith}
use Rattle.std.proofs.lemmas.List.{length-map}
use Rattle.std.proofs.lemmas.List.Elements.{Contains-append_left, Contains-append_right}
use Rattle.std.proofs.lemmas.Nat.{mul-le}
use Rattle.std.proofs.Math.Nat.{zero-mul, add-mul, mul-add, mul_assoc, mul_comm, suc-mul}
use Rattle.wac_component.specs.Id.{Id}
use Rattle.wac_component.specs.Collection.{Collection}
use Rattle.wac_component.specs.Sound.{entry_count}
use Rattle.wac_component.proofs.Among.{Contains-first, Contains-later, Contains-cases}
use Rattle.wac_checker_parts.specs.Pairs.{ArePairsDistinct, ArePairsOf, EntriesStand, IsStanding, entries_by, id_in, left_of, right_of}
use Rattle.wac_checker_parts.specs.declared.parts.EntryPair.{EntryPair}
use Rattle.wac_checker_parts.specs.declared.parts.PairSort.{PairSort}
use Rattle.wac_checker_parts.specs.declared.parts.PairSort.TheVariants as sort

-- ---- distinct elements of a list are no more than it has

pub without : {A : Type 0} (ys : List A) (x : A) → Contains ys x → (zs : List A) × (length ys ≡ suc (length zs)) × ((q : A) → Contains ys q → (x ≡ q → ⊥) → Contains zs q)
without [] x m = absurd (omega (arith, m.1))
without {A} (y ∷ ys) x m = elim (Contains-cases x y ys m) [
  | inl same ↦ (ys, refl, λ q mq other. elim (Contains-cases q y ys mq) [ inl e ↦ absurd (other (sym same ∙ e)) | inr later ↦ later ])
  | inr later ↦ let rest = without ys x later in (y ∷ rest.0, ap suc rest.1, λ q mq other. elim (Contains-cases q y ys mq) [ inl e ↦ subst (λ (z : A). Contains (y ∷ rest.0) z) e (Contains-first y rest.0) | inr more ↦ Contains-later q y rest.0 (rest.2 q more other) ])
]

no_more : (ps qs : List EntryPair) → ArePairsDistinct ps → ((p : EntryPair) → Contains ps p → Contains qs p) → length ps ≤ length qs
no_more [] qs h all = omega arith
no_more (p ∷ ps) qs h all =
    let rest = without qs p (all p (Contains-first p ps)) in
    let fewer : length ps ≤ length rest.0 = no_more ps rest.0 h.1 (λ q m. rest.2 q (all q (Contains-later q p ps m)) (λ same. h.0 (subst (λ (r : EntryPair). Contains ps r) (sym same) m))) in
    let one_more = rest.1 in
    omega arith

-- ---- all pairs of two collections

abbrev pub ids : ℕ → ℕ → List Id
ids n zero = []
ids n (suc k) = record { number = n; index = k } ∷ ids n k

pub length-ids : (n k : ℕ) → length (ids n k) ≡ k
length-ids n zero = refl
length-ids n (suc k) = ap suc (length-ids n k)

pub last_or_before : (i k : ℕ) → i < suc k → (i ≡ k) ⊎ (i < k)
last_or_before zero zero h = inl refl
last_or_before zero (suc k) h = inr (omega arith)
last_or_before (suc i) zero h = absurd (omega arith)
last_or_before (suc i) (suc k) h = elim (last_or_before i k (omega arith)) [ inl e ↦ inl (ap suc e) | inr l ↦ inr (omega arith) ]

pub id_among : (n k : ℕ) (p : Id) → p.number ≡ n → p.index < k → Contains (ids n k) p
id_among n zero p e l = absurd (omega arith)
id_among n (suc k) p e l = elim (last_or_before p.index k l) [
  | inl last ↦ (let same : record { number = n; index = k } ≡ p = λ j. record { number = sym e j; index = sym last j } in subst (λ (q : Id). Contains (record { number = n; index = k } ∷ ids n k) q) same (Contains-first (record { number = n; index = k }) (ids n k)))
  | inr before ↦ Contains-later p (record { number = n; index = k }) (ids n k) (id_among n k p e before)
]

pub contains_map : {A B : Type 0} (f : A → B) (xs : List A) (x : A) → Contains xs x → Contains (map f xs) (f x)
contains_map f [] x m = absurd (omega (arith, m.1))
contains_map {A} {B} f (y ∷ xs) x m = elim (Contains-cases x y xs m) [ inl e ↦ subst (λ (z : A). Contains (map f (y ∷ xs)) (f z)) e (Contains-first (f y) (map f xs)) | inr later ↦ Contains-later (f x) (f y) (map f xs) (contains_map f xs x later) ]

abbrev pub paired : {A : Type 0} → (Id → Id → A) → List Id → List Id → List A
paired f [] bs = []
paired f (a ∷ as') bs = map (f a) bs ++ paired f as' bs

pub length-paired : {A : Type 0} (f : Id → Id → A) (as' bs : List Id) → length (paired f as' bs) ≡ length as' * length bs
length-paired f [] bs = omega (arith, zero-mul (length bs))
length-paired f (a ∷ as') bs =
    let rest = length-paired f as' bs in
    let more = suc-mul (length as') (length bs) in
    simp (length-append, length-map) (omega (arith, rest, more))

pub paired_among : {A : Type 0} (f : Id → Id → A) (as' bs : List Id) (a b : Id) → Contains as' a → Contains bs b → Contains (paired f as' bs) (f a b)
paired_among f [] bs a b m n = absurd (omega (arith, m.1))
paired_among f (x ∷ as') bs a b m n = elim (Contains-cases a x as' m) [
  | inl e ↦ Contains-append_left (map (f x) bs) (paired f as' bs) (f a b) (subst (λ (z : Id). Contains (map (f x) bs) (f z b)) e (contains_map (f x) bs b n))
  | inr later ↦ Contains-append_right (map (f x) bs) (paired f as' bs) (f a b) (paired_among f as' bs a b later n)
]

-- a pair of a sort, swapped or not, by the ids
abbrev by_ids : PairSort → Bool → Id → Id → EntryPair
by_ids s w a b = record { left = a.index; right = b.index; sort = s; swapped = w }

abbrev all_entries : Bool → Collection → Collection → List EntryPair
all_entries w c d = paired (by_ids sort.Defined w) (ids c.number (length c.defined)) (ids d.number (length d.defined)) ++ (paired (by_ids sort.Func w) (ids c.number (length c.funcs)) (ids d.number (length d.funcs)) ++ (paired (by_ids sort.Interface w) (ids c.number (length c.interfaces)) (ids d.number (length d.interfaces)) ++ (paired (by_ids sort.World w) (ids c.number (length c.worlds)) (ids d.number (length d.worlds)) ++ (paired (by_ids sort.Module w) (ids c.number (length c.modules)) (ids d.number (length d.modules))))))

entries_among : (w : Bool) (c d : Collection) (s : PairSort) (i j : ℕ) → EntriesStand c d (entries_by s (id_in c i) (id_in d j)) → Contains (all_entries w c d) (by_ids s w (id_in c i) (id_in d j))
entries_among w c d sort.Defined i j h =
    Contains-append_left (paired (by_ids sort.Defined w) (ids c.number (length c.defined)) (ids d.number (length d.defined))) (paired (by_ids sort.Func w) (ids c.number (length c.funcs)) (ids d.number (length d.funcs)) ++ (paired (by_ids sort.Interface w) (ids c.number (length c.interfaces)) (ids d.number (length d.interfaces)) ++ (paired (by_ids sort.World w) (ids c.number (length c.worlds)) (ids d.number (length d.worlds)) ++ (paired (by_ids sort.Module w) (ids c.number (length c.modules)) (ids d.number (length d.modules)))))) (by_ids sort.Defined w (id_in c i) (id_in d j)) (paired_among (by_ids sort.Defined w) (ids c.number (length c.defined)) (ids d.number (length d.defined)) (id_in c i) (id_in d j) (id_among c.number (length c.defined) (id_in c i) refl (simp length-map at h.0.1)) (id_among d.number (length d.defined) (id_in d j) refl (simp length-map at h.1.1)))
entries_among w c d sort.Func i j h =
    Contains-append_right (paired (by_ids sort.Defined w) (ids c.number (length c.defined)) (ids d.number (length d.defined))) (paired (by_ids sort.Func w) (ids c.number (length c.funcs)) (ids d.number (length d.funcs)) ++ (paired (by_ids sort.Interface w) (ids c.number (length c.interfaces)) (ids d.number (length d.interfaces)) ++ (paired (by_ids sort.World w) (ids c.number (length c.worlds)) (ids d.number (length d.worlds)) ++ (paired (by_ids sort.Module w) (ids c.number (length c.modules)) (ids d.number (length d.modules)))))) (by_ids sort.Func w (id_in c i) (id_in d j)) (Contains-append_left (paired (by_ids sort.Func w) (ids c.number (length c.funcs)) (ids d.number (length d.funcs))) (paired (by_ids sort.Interface w) (ids c.number (length c.interfaces)) (ids d.number (length d.interfaces)) ++ (paired (by_ids sort.World w) (ids c.number (length c.worlds)) (ids d.number (length d.worlds)) ++ (paired (by_ids sort.Module w) (ids c.number (length c.modules)) (ids d.number (length d.modules))))) (by_ids sort.Func w (id_in c i) (id_in d j)) (paired_among (by_ids sort.Func w) (ids c.number (length c.funcs)) (ids d.number (length d.funcs)) (id_in c i) (id_in d j) (id_among c.number (length c.funcs) (id_in c i) refl (simp length-map at h.0.1)) (id_among d.number (length d.funcs) (id_in d j) refl (simp length-map at h.1.1))))
entries_among w c d sort.Interface i j h =
    Contains-append_right (paired (by_ids sort.Defined w) (ids c.number (length c.defined)) (ids d.number (length d.defined))) (paired (by_ids sort.Func w) (ids c.number (length c.funcs)) (ids d.number (length d.funcs)) ++ (paired (by_ids sort.Interface w) (ids c.number (length c.interfaces)) (ids d.number (length d.interfaces)) ++ (paired (by_ids sort.World w) (ids c.number (length c.worlds)) (ids d.number (length d.worlds)) ++ (paired (by_ids sort.Module w) (ids c.number (length c.modules)) (ids d.number (length d.modules)))))) (by_ids sort.Interface w (id_in c i) (id_in d j)) (Contains-append_right (paired (by_ids sort.Func w) (ids c.number (length c.funcs)) (ids d.number (length d.funcs))) (paired (by_ids sort.Interface w) (ids c.number (length c.interfaces)) (ids d.number (length d.interfaces)) ++ (paired (by_ids sort.World w) (ids c.number (length c.worlds)) (ids d.number (length d.worlds)) ++ (paired (by_ids sort.Module w) (ids c.number (length c.modules)) (ids d.number (length d.modules))))) (by_ids sort.Interface w (id_in c i) (id_in d j)) (Contains-append_left (paired (by_ids sort.Interface w) (ids c.number (length c.interfaces)) (ids d.number (length d.interfaces))) (paired (by_ids sort.World w) (ids c.number (length c.worlds)) (ids d.number (length d.worlds)) ++ (paired (by_ids sort.Module w) (ids c.number (length c.modules)) (ids d.number (length d.modules)))) (by_ids sort.Interface w (id_in c i) (id_in d j)) (paired_among (by_ids sort.Interface w) (ids c.number (length c.interfaces)) (ids d.number (length d.interfaces)) (id_in c i) (id_in d j) (id_among c.number (length c.interfaces) (id_in c i) refl (simp length-map at h.0.1)) (id_among d.number (length d.interfaces) (id_in d j) refl (simp length-map at h.1.1)))))
entries_among w c d sort.World i j h =
    Contains-append_right (paired (by_ids sort.Defined w) (ids c.number (length c.defined)) (ids d.number (length d.defined))) (paired (by_ids sort.Func w) (ids c.number (length c.funcs)) (ids d.number (length d.funcs)) ++ (paired (by_ids sort.Interface w) (ids c.number (length c.interfaces)) (ids d.number (length d.interfaces)) ++ (paired (by_ids sort.World w) (ids c.number (length c.worlds)) (ids d.number (length d.worlds)) ++ (paired (by_ids sort.Module w) (ids c.number (length c.modules)) (ids d.number (length d.modules)))))) (by_ids sort.World w (id_in c i) (id_in d j)) (Contains-append_right (paired (by_ids sort.Func w) (ids c.number (length c.funcs)) (ids d.number (length d.funcs))) (paired (by_ids sort.Interface w) (ids c.number (length c.interfaces)) (ids d.number (length d.interfaces)) ++ (paired (by_ids sort.World w) (ids c.number (length c.worlds)) (ids d.number (length d.worlds)) ++ (paired (by_ids sort.Module w) (ids c.number (length c.modules)) (ids d.number (length d.modules))))) (by_ids sort.World w (id_in c i) (id_in d j)) (Contains-append_right (paired (by_ids sort.Interface w) (ids c.number (length c.interfaces)) (ids d.number (length d.interfaces))) (paired (by_ids sort.World w) (ids c.number (length c.worlds)) (ids d.number (length d.worlds)) ++ (paired (by_ids sort.Module w) (ids c.number (length c.modules)) (ids d.number (length d.modules)))) (by_ids sort.World w (id_in c i) (id_in d j)) (Contains-append_left (paired (by_ids sort.World w) (ids c.number (length c.worlds)) (ids d.number (length d.worlds))) (paired (by_ids sort.Module w) (ids c.number (length c.modules)) (ids d.number (length d.modules))) (by_ids sort.World w (id_in c i) (id_in d j)) (paired_among (by_ids sort.World w) (ids c.number (length c.worlds)) (ids d.number (length d.worlds)) (id_in c i) (id_in d j) (id_among c.number (length c.worlds) (id_in c i) refl (simp length-map at h.0.1)) (id_among d.number (length d.worlds) (id_in d j) refl (simp length-map at h.1.1))))))
entries_among w c d sort.Module i j h =
    Contains-append_right (paired (by_ids sort.Defined w) (ids c.number (length c.defined)) (ids d.number (length d.defined))) (paired (by_ids sort.Func w) (ids c.number (length c.funcs)) (ids d.number (length d.funcs)) ++ (paired (by_ids sort.Interface w) (ids c.number (length c.interfaces)) (ids d.number (length d.interfaces)) ++ (paired (by_ids sort.World w) (ids c.number (length c.worlds)) (ids d.number (length d.worlds)) ++ (paired (by_ids sort.Module w) (ids c.number (length c.modules)) (ids d.number (length d.modules)))))) (by_ids sort.Module w (id_in c i) (id_in d j)) (Contains-append_right (paired (by_ids sort.Func w) (ids c.number (length c.funcs)) (ids d.number (length d.funcs))) (paired (by_ids sort.Interface w) (ids c.number (length c.interfaces)) (ids d.number (length d.interfaces)) ++ (paired (by_ids sort.World w) (ids c.number (length c.worlds)) (ids d.number (length d.worlds)) ++ (paired (by_ids sort.Module w) (ids c.number (length c.modules)) (ids d.number (length d.modules))))) (by_ids sort.Module w (id_in c i) (id_in d j)) (Contains-append_right (paired (by_ids sort.Interface w) (ids c.number (length c.interfaces)) (ids d.number (length d.interfaces))) (paired (by_ids sort.World w) (ids c.number (length c.worlds)) (ids d.number (length d.worlds)) ++ (paired (by_ids sort.Module w) (ids c.number (length c.modules)) (ids d.number (length d.modules)))) (by_ids sort.Module w (id_in c i) (id_in d j)) (Contains-append_right (paired (by_ids sort.World w) (ids c.number (length c.worlds)) (ids d.number (length d.worlds))) (paired (by_ids sort.Module w) (ids c.number (length c.modules)) (ids d.number (length d.modules))) (by_ids sort.Module w (id_in c i) (id_in d j)) (paired_among (by_ids sort.Module w) (ids c.number (length c.modules)) (ids d.number (length d.modules)) (id_in c i) (id_in d j) (id_among c.number (length c.modules) (id_in c i) refl (simp length-map at h.0.1)) (id_among d.number (length d.modules) (id_in d j) refl (simp length-map at h.1.1))))))

-- products of parts are within the product of the wholes
pub within : (a x k m n : ℕ) → k ≤ m * n → a * x + k ≤ (a + m) * (x + n)
within a x k m n h = omega (arith, add-mul a m (x + n), mul-add a x n, mul-add m x n)

length-all_entries : (w : Bool) (c d : Collection) → length (all_entries w c d) ≤ entry_count c * entry_count d
length-all_entries w c d =
    let defined_pairs = length-paired (by_ids sort.Defined w) (ids c.number (length c.defined)) (ids d.number (length d.defined)) in
    let funcs_pairs = length-paired (by_ids sort.Func w) (ids c.number (length c.funcs)) (ids d.number (length d.funcs)) in
    let interfaces_pairs = length-paired (by_ids sort.Interface w) (ids c.number (length c.interfaces)) (ids d.number (length d.interfaces)) in
    let worlds_pairs = length-paired (by_ids sort.World w) (ids c.number (length c.worlds)) (ids d.number (length d.worlds)) in
    let modules_pairs = length-paired (by_ids sort.Module w) (ids c.number (length c.modules)) (ids d.number (length d.modules)) in
    let defined_left = length-ids c.number (length c.defined) in
    let defined_right = length-ids d.number (length d.defined) in
    let funcs_left = length-ids c.number (length c.funcs) in
    let funcs_right = length-ids d.number (length d.funcs) in
    let interfaces_left = length-ids c.number (length c.interfaces) in
    let interfaces_right = length-ids d.number (length d.interfaces) in
    let worlds_left = length-ids c.number (length c.worlds) in
    let worlds_right = length-ids d.number (length d.worlds) in
    let modules_left = length-ids c.number (length c.modules) in
    let modules_right = length-ids d.number (length d.modules) in
    let bound_3 : length c.worlds * length d.worlds + (length c.modules * length d.modules) ≤ (length c.worlds + (length c.modules)) * (length d.worlds + (length d.modules)) = within (length c.worlds) (length d.worlds) (length c.modules * length d.modules) (length c.modules) (length d.modules) (omega arith) in
    let bound_2 : length c.interfaces * length d.interfaces + (length c.worlds * length d.worlds + (length c.modules * length d.modules)) ≤ (length c.interfaces + (length c.worlds + (length c.modules))) * (length d.interfaces + (length d.worlds + (length d.modules))) = within (length c.interfaces) (length d.interfaces) (length c.worlds * length d.worlds + (length c.modules * length d.modules)) (length c.worlds + (length c.modules)) (length d.worlds + (length d.modules)) (bound_3) in
    let bound_1 : length c.funcs * length d.funcs + (length c.interfaces * length d.interfaces + (length c.worlds * length d.worlds + (length c.modules * length d.modules))) ≤ (length c.funcs + (length c.interfaces + (length c.worlds + (length c.modules)))) * (length d.funcs + (length d.interfaces + (length d.worlds + (length d.modules)))) = within (length c.funcs) (length d.funcs) (length c.interfaces * length d.interfaces + (length c.worlds * length d.worlds + (length c.modules * length d.modules))) (length c.interfaces + (length c.worlds + (length c.modules))) (length d.interfaces + (length d.worlds + (length d.modules))) (bound_2) in
    let bound_0 : length c.defined * length d.defined + (length c.funcs * length d.funcs + (length c.interfaces * length d.interfaces + (length c.worlds * length d.worlds + (length c.modules * length d.modules)))) ≤ (length c.defined + (length c.funcs + (length c.interfaces + (length c.worlds + (length c.modules))))) * (length d.defined + (length d.funcs + (length d.interfaces + (length d.worlds + (length d.modules))))) = within (length c.defined) (length d.defined) (length c.funcs * length d.funcs + (length c.interfaces * length d.interfaces + (length c.worlds * length d.worlds + (length c.modules * length d.modules)))) (length c.funcs + (length c.interfaces + (length c.worlds + (length c.modules)))) (length d.funcs + (length d.interfaces + (length d.worlds + (length d.modules)))) (bound_1) in
    let all = mul-le (length c.defined + (length c.funcs + (length c.interfaces + (length c.worlds + (length c.modules))))) (length d.defined + (length d.funcs + (length d.interfaces + (length d.worlds + (length d.modules))))) (entry_count c) (entry_count d) (omega arith) (omega arith) in
    simp length-append (rw (defined_pairs, defined_left, defined_right, funcs_pairs, funcs_left, funcs_right, interfaces_pairs, interfaces_left, interfaces_right, worlds_pairs, worlds_left, worlds_right, modules_pairs, modules_left, modules_right) (omega (arith, bound_0, all)))

pair_among : (c d : Collection) (p : EntryPair) → IsStanding c d p → Contains (all_entries false c d ++ all_entries true d c) p
pair_among c d p h = by_side p.swapped h
  where
    by_side : (w : Bool) → EntriesStand (left_of c d w) (right_of c d w) (entries_by p.sort (id_in (left_of c d w) p.left) (id_in (right_of c d w) p.right)) → Contains (all_entries false c d ++ all_entries true d c) (record { left = p.left; right = p.right; sort = p.sort; swapped = w })
    by_side false k = Contains-append_left (all_entries false c d) (all_entries true d c) (by_ids p.sort false (id_in c p.left) (id_in d p.right)) (entries_among false c d p.sort p.left p.right k)
    by_side true k = Contains-append_right (all_entries false c d) (all_entries true d c) (by_ids p.sort true (id_in d p.left) (id_in c p.right)) (entries_among true d c p.sort p.left p.right k)

-- pairs of two collections are no more than four times the product of the numbers of their entries
pub pairs_bounded : (c d : Collection) (ps : List EntryPair) → ArePairsOf c d ps → length ps ≤ 4 * entry_count c * entry_count d
pairs_bounded c d ps h =
    let few = no_more ps (all_entries false c d ++ all_entries true d c) h.0 (λ p m. pair_among c d p (h.1 p m)) in
    let total : length (all_entries false c d ++ all_entries true d c) ≡ length (all_entries false c d) + length (all_entries true d c) = simp length-append in
    let left = length-all_entries false c d in
    let right = length-all_entries true d c in
    let turned : entry_count d * entry_count c ≡ entry_count c * entry_count d = mul_comm (entry_count d) (entry_count c) in
    let four : 4 * entry_count c * entry_count d ≡ 4 * (entry_count c * entry_count d) = mul_assoc 4 (entry_count c) (entry_count d) in
    omega (arith, few, total, left, right, turned, four)
