-- Imports found by their names, and by the tracks of these.
use Rattle.std.proofs.Common.{◌≡◌, ◌⊎◌, inl, inr, refl, subst, sym, ap, ◌∙◌, Bool, true, false, cond, arith, List, [], ◌∷◌, map, Option, Some, None, IsSome, Contains}
use Rattle.std.specs.List.{AllByRecursion, IsDistinct}
use Rattle.std.specs.Map.{keys_of}
use Rattle.std.proofs.lemmas.Map.Keys.{IsDistinct-head, IsDistinct-tail}
use Rattle.std.specs.Str.{bytes_eq}
use Rattle.std.proofs.lemmas.List.Elements.{All-contains}
use Rattle.std.proofs.lemmas.Slice.Eq.{bytes_eq-Decides}
use Rattle.wac_model.specs.Text.{Text, lookup}
use Rattle.wac_model.specs.ItemTree.{ItemTree}
use Rattle.wac_component.specs.Tree.{item_tree}
use Rattle.wac_component.specs.declared.items.ItemKind.{ItemKind}
use Rattle.wac_component.proofs.Among.{Contains-first, Contains-later, Contains-cases}
use Rattle.wac_names.specs.Class.{Class, class_of, class_eq}
use Rattle.wac_names.proofs.Classes.{classes_decided}
use Rattle.wac_aggregator_promises.specs.Aggregated.{Aggregated, IsByTrack, track_imports}
use Rattle.wac_aggregator_promises.specs.Due.{IsDue, IsImportName}
use Rattle.wac_aggregator_promises.specs.Laws.{NamesLeadToTracks, NamedImportsAreDue}
use Rattle.wac_aggregator_promises.proofs.Read.{lookup_contains}

same_value : {V : Type 0} {k l : V} → ◌≡◌ {A = Option V} (Some k) (Some l) → k ≡ l
same_value e = cc e

module _ (f : ItemKind → ItemTree) where
  abbrev pub by_track : List (Text × ItemKind) → Class → Option ItemTree
  by_track es t = lookup class_eq (map (λ (e : Text × ItemKind). (class_of e.0, f e.1)) es) t

  -- the first import on a track
  record IsFirstOn (es : List (Text × ItemKind)) (t : Class) (tree : ItemTree) : Type 0 where
    pub name : Text
    pub import : ItemKind
    pub found : lookup bytes_eq es name ≡ Some import
    pub on_track : class_of name ≡ t
    pub is_tree : tree ≡ f import

  first_on : (es : List (Text × ItemKind)) (t : Class) (tree : ItemTree) → by_track es t ≡ Some tree → IsFirstOn es t tree
  first_on [] t tree h = cc h
  first_on (e ∷ es) t tree h = at_first (class_eq t (class_of e.0)) refl (first_on es t tree) h
    where
      later : class_eq t (class_of e.0) ≡ false → IsFirstOn es t tree → IsFirstOn (e ∷ es) t tree
      later q k = record { name = k.name; import = k.import; found = past (bytes_eq k.name e.0) refl; on_track = k.on_track; is_tree = k.is_tree }
        where
          past : (b : Bool) → bytes_eq k.name e.0 ≡ b → cond b (Some e.1) (lookup bytes_eq es k.name) ≡ Some k.import
          past true r =
              let same : t ≡ class_of e.0 = sym k.on_track ∙ ap class_of ((bytes_eq-Decides k.name e.0).0 r) in
              let there = (classes_decided t (class_of e.0)).1 same in
              absurd (cc (q, there))
          past false r = k.found

      at_first : (b : Bool) → class_eq t (class_of e.0) ≡ b → (by_track es t ≡ Some tree → IsFirstOn es t tree) → cond b (Some (f e.1)) (by_track es t) ≡ Some tree → IsFirstOn (e ∷ es) t tree
      at_first true q g r = record { name = e.0; import = e.1; found = rw ((bytes_eq-Decides e.0 e.0).1 refl) refl; on_track = sym ((classes_decided t (class_of e.0)).0 q); is_tree = sym (same_value r) }
      at_first false q g r = later q (g r)

  some_on : (es : List (Text × ItemKind)) (t : Class) → Contains (map class_of (keys_of es)) t → IsSome (by_track es t)
  some_on [] t m = absurd (omega (arith, m.1))
  some_on (e ∷ es) t m = by_cases (some_on es t) (class_eq t (class_of e.0)) refl (Contains-cases t (class_of e.0) (map class_of (keys_of es)) m)
    where
      by_cases : (Contains (map class_of (keys_of es)) t → IsSome (by_track es t)) → (b : Bool) → class_eq t (class_of e.0) ≡ b → (class_of e.0 ≡ t) ⊎ Contains (map class_of (keys_of es)) t → IsSome (cond b (Some (f e.1)) (by_track es t))
      by_cases g true q c = refl
      by_cases g false q (inl r) = let there = (classes_decided t (class_of e.0)).1 (sym r) in absurd (cc (q, there))
      by_cases g false q (inr n) = g n

  key_contained : (es : List (Text × ItemKind)) (n : Text) (i : ItemKind) → Contains es (n, i) → Contains (keys_of es) n
  key_contained [] n i m = absurd (omega (arith, m.1))
  key_contained (e ∷ es) n i m = by_cases (key_contained es n i) (Contains-cases (n, i) e es m)
    where
      by_cases : (Contains es (n, i) → Contains (keys_of es) n) → ◌≡◌ {A = Text × ItemKind} e (n, i) ⊎ Contains es (n, i) → Contains (e.0 ∷ keys_of es) n
      by_cases g (inl r) = subst (λ (x : Text). Contains (e.0 ∷ keys_of es) x) (ap (λ (x : Text × ItemKind). x.0) r) (Contains-first e.0 (keys_of es))
      by_cases g (inr k) = Contains-later n e.0 (keys_of es) (g k)

  class_contained : (names : List Text) (n : Text) → Contains names n → Contains (map class_of names) (class_of n)
  class_contained [] n m = absurd (omega (arith, m.1))
  class_contained (x ∷ names) n m = by_cases (class_contained names n) (Contains-cases n x names m)
    where
      by_cases : (Contains names n → Contains (map class_of names) (class_of n)) → (x ≡ n) ⊎ Contains names n → Contains (class_of x ∷ map class_of names) (class_of n)
      by_cases g (inl r) = subst (λ (y : Text). Contains (class_of x ∷ map class_of names) (class_of y)) r (Contains-first (class_of x) (map class_of names))
      by_cases g (inr k) = Contains-later (class_of n) (class_of x) (map class_of names) (g k)

-- a name whose class differs from those of all these is on another track than each
apart_from : (x : Text) (names : List Text) → AllByRecursion (λ t. class_eq (class_of x) t ≡ false) (map class_of names) → (n : Text) → Contains names n → class_of x ≡ class_of n → ⊥
apart_from x [] differ n m same = absurd (omega (arith, m.1))
apart_from x (y ∷ names) differ n m same = by (apart_from x names differ.1 n) (Contains-cases n y names m)
  where
    by : (Contains names n → class_of x ≡ class_of n → ⊥) → (y ≡ n) ⊎ Contains names n → ⊥
    by rest (inl p) = let is = (classes_decided (class_of x) (class_of y)).1 (same ∙ ap class_of (sym p)) in let no = differ.0 in absurd (cc (is, no))
    by rest (inr k) = rest k same

-- names whose classes are distinct are one where they are on one track
on_one_track : (names : List Text) → IsDistinct class_eq (map class_of names) → (m n : Text) → Contains names m → Contains names n → class_of m ≡ class_of n → m ≡ n
on_one_track [] distinct m n hm hn same = absurd (omega (arith, hm.1))
on_one_track (x ∷ names) distinct m n hm hn same =
    by (on_one_track names (IsDistinct-tail class_eq (class_of x) (map class_of names) distinct) m n) (Contains-cases m x names hm) (Contains-cases n x names hn)
  where
    apart : (k : Text) → Contains names k → class_of x ≡ class_of k → ⊥
    apart = apart_from x names (IsDistinct-head class_eq (class_of x) (map class_of names) distinct)

    by : (Contains names m → Contains names n → class_of m ≡ class_of n → m ≡ n) → (x ≡ m) ⊎ Contains names m → (x ≡ n) ⊎ Contains names n → m ≡ n
    by rest (inl p) (inl q) = sym p ∙ q
    by rest (inl p) (inr k) = absurd (apart n k (ap class_of p ∙ same))
    by rest (inr k) (inl q) = absurd (apart m k (ap class_of q ∙ sym same))
    by rest (inr k) (inr l) = rest k l same

-- imports on one track have one name
pub one_on : (a : Aggregated) → IsByTrack a → (m n : Text) (i j : ItemKind) → lookup bytes_eq a.imports m ≡ Some i → lookup bytes_eq a.imports n ≡ Some j → class_of m ≡ class_of n → m ≡ n
one_on a by m n i j at_m at_n same = on_one_track (keys_of a.imports) by.one_each m n
    (key_contained (item_tree a.types) a.imports m i (lookup_contains a.imports m i at_m)) (key_contained (item_tree a.types) a.imports n j (lookup_contains a.imports n j at_n)) same

to_some : {V : Type 0} (o : Option V) → IsSome o → (v : V) × (o ≡ Some v)
to_some None h = absurd (cc h)
to_some (Some v) h = (v, refl)

pub names_lead : NamesLeadToTracks
names_lead a name import by e =
    let m = key_contained (item_tree a.types) a.imports (a.canonical name) import (lookup_contains a.imports (a.canonical name) import e) in
    let n = subst (λ (t : Class). Contains (map class_of (keys_of a.imports)) t) (by.canonical name) (class_contained (item_tree a.types) (keys_of a.imports) (a.canonical name) m) in
    let s = to_some (track_imports a (class_of name)) (some_on (item_tree a.types) a.imports (class_of name) n) in
    let k = first_on (item_tree a.types) a.imports (class_of name) s.0 s.1 in
    let names = one_on a by k.name (a.canonical name) k.import import k.found e (k.on_track ∙ sym (by.canonical name)) in
    let same : k.import ≡ import = same_value (sym k.found ∙ ap (lookup bytes_eq a.imports) names ∙ e) in
    s.1 ∙ ap (λ (t : ItemTree). Some t) (k.is_tree ∙ ap (item_tree a.types) same)

pub imports_due : NamedImportsAreDue
imports_due calls a names t = (λ d. some_on (item_tree a.types) a.imports t (names.all_due t d), back)
  where
    back : IsSome (track_imports a t) → IsDue calls t
    back h =
        let s = to_some (track_imports a t) h in
        let k = first_on (item_tree a.types) a.imports t s.0 s.1 in
        let m = key_contained (item_tree a.types) a.imports k.name k.import (lookup_contains a.imports k.name k.import k.found) in
        let n = All-contains (IsImportName calls) (keys_of a.imports) k.name names.named m in
        subst (λ (x : Class). IsDue calls x) k.on_track n.due
