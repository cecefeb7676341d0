-- What is so where an import and an item are to be merged, and where the start
-- and the call's collection differ.
use Rattle.std.proofs.Common.{◌≡◌, ◌⊎◌, inl, inr, List, ◌∷◌, Some}
use Rattle.wac_component.specs.Collection.{Collection}
use Rattle.wac_component.specs.Key.{Key, item_keys, AllStand}
use Rattle.wac_component.specs.Tree.{item_tree}
use Rattle.wac_component.specs.declared.items.ItemKind.{ItemKind}
use Rattle.wac_names.specs.Class.{class_of}
use Rattle.wac_aggregator_promises.specs.Attempt.{Attempt, Sources, Touches}
use Rattle.wac_aggregator_narrowing.specs.Narrows.{Narrows}
use Rattle.wac_aggregator_narrowing.specs.State.{State, IsStateKept}
use Rattle.wac_aggregator_narrowing.specs.Taking.{IsTakenItem}
use Rattle.wac_aggregator_narrowing.specs.Traced.{Root, here, there}
use Rattle.wac_aggregator_reasons.specs.Roots.{IsSourceRoot, RootsAreSources}
use Rattle.wac_aggregator_reasons.specs.Standing.{AreMerged, IsUntouched}
use Rattle.wac_aggregator_reasons.proofs.Narrowed.{narrowed_bare}
use Rattle.wac_aggregator_reasons.proofs.TakenParts.{taken_bare}

pub merges : (a : Attempt) (s t : State) (x y : ItemKind) → IsStateKept s → Narrows s.own s.shared t.own t.shared → AllStand s.own (item_keys x) → a.import ≡ Some (item_tree s.own x) → IsTakenItem class_of a.call.types t a.call.kind y
    → Touches a ⊎ IsUntouched a.call.types s t a.call.kind y → AreMerged a t.own x y
merges a s t x y kept narrows st stood taken h = record {
  tree = item_tree s.own x;
  stood = stood;
  import_bare = narrowed_bare s.own t.own s.shared t.shared kept.good narrows x st;
  item_bare = taken_bare a.call.types t a.call.kind y taken;
  same = elim h [ inl touches ↦ inl touches | inr u ↦ inr (u.extends.trees x st, u.same) ];
}

-- roots one by one
pub more_roots : (sources : Sources) (c : Collection) (k : Key) (rs : List Root) → IsSourceRoot sources c k → RootsAreSources sources rs → RootsAreSources sources (record { of = c; at = k } ∷ rs)
more_roots sources c k rs h rest _ _ here = h
more_roots sources c k rs h rest d j (there m) = rest d j m
