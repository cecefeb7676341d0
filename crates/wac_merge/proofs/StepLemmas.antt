-- Steps of a meet or a join, one after another.
use Rattle.std.proofs.Common.{◌≡◌, ◌≤◌, ◌+◌, ◌*◌, ap, ◌∷◌, [], ◌++◌, List, length, Some, Option, Result, Ok, Err, IfOk, IfSome, arith}
use Rattle.std.specs.declared.alloc.AllocError.{AllocError}
use Rattle.std.proofs.lemmas.List.Elements.{All-nil, All-same, All-weaker, All-pop}
use Rattle.std.specs.Option.{option_map, option_to_list}
use Rattle.wac_model.specs.Order.{Fits}
use Rattle.wac_bounds.specs.Bounds.{IsMeetIfAny}
use Rattle.wac_bounds.proofs.Bounds.{meet_of_two}
use Rattle.wac_component.specs.Collection.{Collection}
use Rattle.wac_component.specs.Growth.{Extends}
use Rattle.wac_component.specs.Key.{Key, Stands, AllStand, item_keys}
use Rattle.wac_component.specs.Sound.{IsSound, entry_count}
use Rattle.wac_component.specs.Tree.{item_tree}
use Rattle.wac_component.specs.declared.items.ItemKind.{ItemKind}
use Rattle.wac_component.proofs.Extended.{AllStand-Extends}
use Rattle.wac_component.proofs.Keys.{Each-append}
use Rattle.wac_merge.specs.Built.{Origins, IsBuilt, Builds}
use Rattle.wac_merge.specs.Memo.{made_of, first_key, second_key, IsTrueMemo, Grows}
use Rattle.wac_merge.specs.Runs.{Runs, StepsStand, IsUnderWay}
use Rattle.wac_merge.specs.Told.{IsToldIn, LacksOnly, LacksStand}
use Rattle.wac_merge.specs.declared.memo.Bound.{Bound}
use Rattle.wac_merge.specs.declared.memo.Bound.TheVariants.{Meet}
use Rattle.wac_merge.specs.declared.memo.BoundMemo.{BoundMemo}
use Rattle.wac_merge.specs.declared.memo.Untold.{Untold}
use Rattle.wac_merge.specs.declared.memo.Untold.TheVariants.{Memory, Lacks}
use Rattle.wac_merge.specs.declared.steps.BoundStep.{BoundStep}
use Rattle.wac_merge.proofs.BoundLemmas.{bound_before}
use Rattle.wac_merge.proofs.BuiltLemmas.{nothing_built, nothing_made}
use Rattle.wac_merge.proofs.CountLemmas.{made_bounded}
use Rattle.wac_merge.proofs.OneLemmas.{ones}

-- at first nothing was built
pub underway_first : (c : Collection) (m : BoundMemo) → IsTrueMemo c m → made_of m ≡ [] → IsUnderWay c c m
underway_first c m known none =
    let o : Origins = λ k. (k, k) in
    let empty : length (made_of m) ≡ 0 = ap length none in
    record { ran = record { origins = o; only = nothing_built c o; made = rw none (nothing_made c o) }; counted = omega (arith, empty); true_memo = known }

-- a run goes on from what was built
pub underway_run : (c d e : Collection) (m n : BoundMemo) (x y : Key) → IsSound c → AllStand c (x ∷ y ∷ []) → Grows d m e n → Runs (x ∷ y ∷ []) d (made_of m) e (made_of n) → IsUnderWay c d m → IsUnderWay c e n
underway_run c d e m n x y sound stand grows run h =
    let before = h.counted in
    let more = grows.counted in
    record { ran = run c h.ran.origins sound stand h.ran.only h.ran.made; counted = omega (arith, before, more); true_memo = grows.true_memo }

-- and stays where only what is compared changes
pub underway_compared : (c d : Collection) (m n : BoundMemo) → made_of n ≡ made_of m → IsTrueMemo d n → IsUnderWay c d m → IsUnderWay c d n
underway_compared c d m n same known h = record { ran = rw same h.ran; counted = rw same h.counted; true_memo = known }

-- of all steps the last one, and the others
pub steps_popped : (c : Collection) (ss ts : List BoundStep) (r : Option BoundStep) (s : BoundStep) → ss ≡ ts ++ option_to_list r → r ≡ Some s → StepsStand c ss → StepsStand c ts × AllStand c (first_key s.asked.pair ∷ second_key s.asked.pair ∷ [])
steps_popped c ss ts r s is last h =
    let parts = All-pop (λ (t : BoundStep). AllStand c (first_key t.asked.pair ∷ second_key t.asked.pair ∷ [])) ss ts r is h in
    (parts.0, rw last at parts.1)

pub no_steps_stand : (c : Collection) (ss : List BoundStep) → ss ≡ [] → StepsStand c ss
no_steps_stand c ss none = All-same (λ (t : BoundStep). AllStand c (first_key t.asked.pair ∷ second_key t.asked.pair ∷ [])) ss [] none (All-nil (λ (t : BoundStep). AllStand c (first_key t.asked.pair ∷ second_key t.asked.pair ∷ [])))

-- and they stand where the collection was added to
pub steps_stand_on : (c d : Collection) (ss : List BoundStep) → Extends c d → StepsStand c ss → StepsStand d ss
steps_stand_on c d ss grown h =
    All-weaker (λ (t : BoundStep). AllStand c (first_key t.asked.pair ∷ second_key t.asked.pair ∷ [])) (λ (t : BoundStep). AllStand d (first_key t.asked.pair ∷ second_key t.asked.pair ∷ []))
    (λ t st. AllStand-Extends c d grown (first_key t.asked.pair ∷ second_key t.asked.pair ∷ []) st) ss h

-- no more is added than what is made of ordered pairs
pub underway_bounded : (c d : Collection) (m : BoundMemo) → IsUnderWay c d m → entry_count d ≤ entry_count c + 2 * entry_count c * entry_count c
underway_bounded c d m way = made_bounded c d d way.ran.origins (made_of m) way.true_memo.once way.ran.made way.counted

-- what is lacking stood where the ids did that it is lacking for
pub lacking_stands : (c d : Collection) (ks : List Key) (u : Untold) → IsSound c → Extends c d → AllStand c ks → LacksOnly d ks u → LacksStand c u
lacking_stands c d ks Memory sound grown stand h = tt
lacking_stands c d ks (Lacks a) sound grown stand h = h c sound grown stand

-- what is told of two items that stood in c
pub builds : (u : Bound) (c d : Collection) (m : BoundMemo) (a b : ItemKind) → IsSound c → AllStand c (item_keys a) → AllStand c (item_keys b) → IsUnderWay c d m → (r : Result (Option ItemKind) AllocError) → IfOk r (IsToldIn u d m a b) → Builds c d a b r
builds u c d m a b sound sa sb way r told = record { origins = way.ran.origins; only = way.ran.only; ones = ones c d way.ran.origins m way.ran.only.extends way.true_memo way.ran.made; built = built r told }
  where
    built : (r : Result (Option ItemKind) AllocError) → IfOk r (IsToldIn u d m a b) → IfOk r (λ x. IfSome x (IsBuilt c d way.ran.origins a b))
    built (Ok x) told = told.built c way.ran.origins sound (Each-append (Stands c) (item_keys a) (item_keys b) sa sb) way.ran.only way.ran.made
    built (Err e) told = tt

-- the meet of two items is what is told of it later
pub meet_told : (c d : Collection) (m : BoundMemo) (a b : ItemKind) → Extends c d → AllStand c (item_keys a) → AllStand c (item_keys b) → (r : Option ItemKind) → IsToldIn Meet d m a b r → IsMeetIfAny (option_map (item_tree d) r) (item_tree c a ∷ item_tree c b ∷ [])
meet_told c d m a b grown sa sb r told = meet_of_two (item_tree c a) (item_tree c b) (option_map (item_tree d) r) (bound_before Fits c d grown a b sa sb (option_map (item_tree d) r) told.bound)
