-- How many entries one call can make.
use Rattle.std.proofs.Common.{◌≡◌, ◌≤◌, ◌+◌, ◌*◌, List, [], ◌∷◌, ◌++◌, length, map, Contains, sym, subst, length-append, arith}
use Rattle.std.proofs.lemmas.List.{length-map}
use Rattle.std.proofs.lemmas.List.Elements.{Contains-append_left, Contains-append_right}
use Rattle.std.proofs.lemmas.Nat.{mul-le}
use Rattle.std.proofs.Math.Nat.{mul_assoc}
use Rattle.wac_component.specs.Collection.{Collection}
use Rattle.wac_component.specs.Key.{Stands}
use Rattle.wac_component.specs.Sound.{entry_count}
use Rattle.wac_component.proofs.Among.{Contains-first, Contains-later}
use Rattle.wac_checker_parts.proofs.CountLemmas.{without, ids, length-ids, id_among, contains_map, paired, length-paired, paired_among, within}
use Rattle.wac_merge.specs.Built.{Origins}
use Rattle.wac_merge.specs.Memo.{asked_for, Made, AreMadeOnce, first_key, second_key}
use Rattle.wac_merge.specs.Runs.{AreMadeOn}
use Rattle.wac_merge.specs.declared.memo.Asked.{Asked}
use Rattle.wac_merge.specs.declared.memo.Bound.{Bound}
use Rattle.wac_merge.specs.declared.memo.Bound.TheVariants.{Meet, Join}
use Rattle.wac_merge.specs.declared.memo.BoundId.{BoundId}
use Rattle.wac_merge.specs.declared.memo.BoundPair.{BoundPair}
use Rattle.wac_merge.specs.declared.memo.BoundPair.TheVariants.{Interfaces, Worlds, Modules}

-- what is made once, each for one of these, is no more than these
no_more : (ms : Made) (qs : List Asked) → AreMadeOnce ms → ((x : Asked × BoundId) → Contains ms x → Contains qs x.0) → length ms ≤ length qs
no_more [] qs h all = omega arith
no_more (x ∷ xs) qs h all =
    let rest = without qs x.0 (all x (Contains-first x xs)) in
    let fewer : length xs ≤ length rest.0 = no_more xs rest.0 h.1 (λ y m. rest.2 y.0 (all y (Contains-later y x xs m)) (λ same. h.0 y.1 (subst (λ (a : Asked). Contains xs (a, y.1)) (sym same) m))) in
    let one_more = rest.1 in
    omega arith

-- ---- all that can be asked for

abbrev all_pairs : Collection → List BoundPair
all_pairs c = paired Interfaces (ids c.number (length c.interfaces)) (ids c.number (length c.interfaces)) ++ (paired Worlds (ids c.number (length c.worlds)) (ids c.number (length c.worlds)) ++ paired Modules (ids c.number (length c.modules)) (ids c.number (length c.modules)))

pair_among : (c : Collection) (p : BoundPair) → Stands c (first_key p) → Stands c (second_key p) → Contains (all_pairs c) p
pair_among c (Interfaces x y) sx sy =
    Contains-append_left (paired Interfaces (ids c.number (length c.interfaces)) (ids c.number (length c.interfaces))) (paired Worlds (ids c.number (length c.worlds)) (ids c.number (length c.worlds)) ++ paired Modules (ids c.number (length c.modules)) (ids c.number (length c.modules))) (Interfaces x y)
    (paired_among Interfaces (ids c.number (length c.interfaces)) (ids c.number (length c.interfaces)) x y (id_among c.number (length c.interfaces) x sx.0 (simp length-map at sx.1)) (id_among c.number (length c.interfaces) y sy.0 (simp length-map at sy.1)))
pair_among c (Worlds x y) sx sy =
    Contains-append_right (paired Interfaces (ids c.number (length c.interfaces)) (ids c.number (length c.interfaces))) (paired Worlds (ids c.number (length c.worlds)) (ids c.number (length c.worlds)) ++ paired Modules (ids c.number (length c.modules)) (ids c.number (length c.modules))) (Worlds x y)
    (Contains-append_left (paired Worlds (ids c.number (length c.worlds)) (ids c.number (length c.worlds))) (paired Modules (ids c.number (length c.modules)) (ids c.number (length c.modules))) (Worlds x y)
    (paired_among Worlds (ids c.number (length c.worlds)) (ids c.number (length c.worlds)) x y (id_among c.number (length c.worlds) x sx.0 (simp length-map at sx.1)) (id_among c.number (length c.worlds) y sy.0 (simp length-map at sy.1))))
pair_among c (Modules x y) sx sy =
    Contains-append_right (paired Interfaces (ids c.number (length c.interfaces)) (ids c.number (length c.interfaces))) (paired Worlds (ids c.number (length c.worlds)) (ids c.number (length c.worlds)) ++ paired Modules (ids c.number (length c.modules)) (ids c.number (length c.modules))) (Modules x y)
    (Contains-append_right (paired Worlds (ids c.number (length c.worlds)) (ids c.number (length c.worlds))) (paired Modules (ids c.number (length c.modules)) (ids c.number (length c.modules))) (Modules x y)
    (paired_among Modules (ids c.number (length c.modules)) (ids c.number (length c.modules)) x y (id_among c.number (length c.modules) x sx.0 (simp length-map at sx.1)) (id_among c.number (length c.modules) y sy.0 (simp length-map at sy.1))))

length-all_pairs : (c : Collection) → length (all_pairs c) ≤ entry_count c * entry_count c
length-all_pairs c =
    let interfaces_pairs = length-paired Interfaces (ids c.number (length c.interfaces)) (ids c.number (length c.interfaces)) in
    let worlds_pairs = length-paired Worlds (ids c.number (length c.worlds)) (ids c.number (length c.worlds)) in
    let modules_pairs = length-paired Modules (ids c.number (length c.modules)) (ids c.number (length c.modules)) in
    let interfaces = length-ids c.number (length c.interfaces) in
    let worlds = length-ids c.number (length c.worlds) in
    let modules = length-ids c.number (length c.modules) in
    let two : length c.worlds * length c.worlds + length c.modules * length c.modules ≤ (length c.worlds + length c.modules) * (length c.worlds + length c.modules) = within (length c.worlds) (length c.worlds) (length c.modules * length c.modules) (length c.modules) (length c.modules) (omega arith) in
    let three : length c.interfaces * length c.interfaces + (length c.worlds * length c.worlds + length c.modules * length c.modules) ≤ (length c.interfaces + (length c.worlds + length c.modules)) * (length c.interfaces + (length c.worlds + length c.modules)) =
    within (length c.interfaces) (length c.interfaces) (length c.worlds * length c.worlds + length c.modules * length c.modules) (length c.worlds + length c.modules) (length c.worlds + length c.modules) two in
    let all = mul-le (length c.interfaces + (length c.worlds + length c.modules)) (length c.interfaces + (length c.worlds + length c.modules)) (entry_count c) (entry_count c) (omega arith) (omega arith) in
    simp length-append (rw (interfaces_pairs, interfaces, worlds_pairs, worlds, modules_pairs, modules) (omega (arith, three, all)))

asked_among : (c : Collection) (a : Asked) → Contains (all_pairs c) a.pair → Contains (map (asked_for Meet) (all_pairs c) ++ map (asked_for Join) (all_pairs c)) a
asked_among c a m = by_bound a.bound a.pair m
  where
    by_bound : (b : Bound) (p : BoundPair) → Contains (all_pairs c) p → Contains (map (asked_for Meet) (all_pairs c) ++ map (asked_for Join) (all_pairs c)) (asked_for b p)
    by_bound Meet p m = Contains-append_left (map (asked_for Meet) (all_pairs c)) (map (asked_for Join) (all_pairs c)) (asked_for Meet p) (contains_map (asked_for Meet) (all_pairs c) p m)
    by_bound Join p m = Contains-append_right (map (asked_for Meet) (all_pairs c)) (map (asked_for Join) (all_pairs c)) (asked_for Join p) (contains_map (asked_for Join) (all_pairs c) p m)

-- what is made of pairs that stood before is no more than two for each ordered pair
pub made_bounded : (c d e : Collection) (o : Origins) (ms : Made) → AreMadeOnce ms → AreMadeOn c d o ms → entry_count e ≡ entry_count c + length ms → entry_count e ≤ entry_count c + 2 * entry_count c * entry_count c
made_bounded c d e o ms once made counted =
    let few = no_more ms (map (asked_for Meet) (all_pairs c) ++ map (asked_for Join) (all_pairs c)) once (λ x m. asked_among c x.0 (pair_among c x.0.pair (made.each x m).first (made.each x m).second)) in
    let total : length (map (asked_for Meet) (all_pairs c) ++ map (asked_for Join) (all_pairs c)) ≡ length (all_pairs c) + length (all_pairs c) = simp (length-append, length-map) in
    let pairs = length-all_pairs c in
    let twice : 2 * entry_count c * entry_count c ≡ 2 * (entry_count c * entry_count c) = mul_assoc 2 (entry_count c) (entry_count c) in
    omega (arith, few, total, pairs, twice, counted)
