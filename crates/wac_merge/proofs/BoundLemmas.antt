-- Meets and joins of items, while a collection grows, and where there is none.
use Rattle.std.proofs.Common.{sym, subst, Option, Some, None, IsTrue}
use Rattle.wac_model.specs.CoreTree.{ModuleContent, is_valid_module}
use Rattle.wac_model.specs.ItemTree.{ItemTree, item, type_item, interface, world}
use Rattle.wac_model.specs.Order.{Fits, leaves, modules, composites}
use Rattle.wac_model.proofs.ItemOrder.{Fits-refl}
use Rattle.wac_bounds.specs.MeetIn.{IsMeetIn}
use Rattle.wac_component.specs.Collection.{Collection}
use Rattle.wac_component.specs.Growth.{Extends}
use Rattle.wac_component.specs.Key.{AllStand, item_keys}
use Rattle.wac_component.specs.Tree.{item_tree}
use Rattle.wac_component.specs.declared.items.ItemKind.{ItemKind}
use Rattle.wac_merge.specs.Bounded.{AreIncomparable, AreUnlike}
use Rattle.wac_merge.specs.Told.{of_two, IsBoundIn, IsModuleBoundIn}
use Rattle.wac_merge.specs.declared.memo.Bound.{Bound}
use Rattle.wac_merge.specs.declared.memo.Bound.TheVariants.{Meet, Join}

-- in any relation R of trees
module _ (R : ItemTree → ItemTree → Type 0) where
  -- a bound of two items in d is one of them in c, where they stood
  pub bound_before : (c d : Collection) → Extends c d → (a b : ItemKind) → AllStand c (item_keys a) → AllStand c (item_keys b) → (o : Option ItemTree)
      → IsMeetIn R (item_tree d a) (item_tree d b) o → IsMeetIn R (item_tree c a) (item_tree c b) o
  bound_before c d grown a b sa sb o h =
      subst (λ s. IsMeetIn R s (item_tree c b) o) (grown.trees a sa) (subst (λ t. IsMeetIn R (item_tree d a) t o) (grown.trees b sb) h)

  -- and the other way round
  pub bound_later : (c d : Collection) → Extends c d → (a b : ItemKind) → AllStand c (item_keys a) → AllStand c (item_keys b) → (o : Option ItemTree)
      → IsMeetIn R (item_tree c a) (item_tree c b) o → IsMeetIn R (item_tree d a) (item_tree d b) o
  bound_later c d grown a b sa sb o h =
      subst (λ s. IsMeetIn R s (item_tree d b) o) (sym (grown.trees a sa)) (subst (λ t. IsMeetIn R (item_tree c a) t o) (sym (grown.trees b sb)) h)

  -- the bound stays one while the collection grows
  pub bound_after : (d e : Collection) → Extends d e → (s t : ItemTree) (m : ItemKind) → AllStand d (item_keys m) → IsMeetIn R s t (Some (item_tree d m)) → IsMeetIn R s t (Some (item_tree e m))
  bound_after d e grown s t m sm h = subst (λ x. IsMeetIn R s t (Some x)) (sym (grown.trees m sm)) h

-- two that don't compare in d didn't in c, where they stood
pub incomparable_before : (c d : Collection) → Extends c d → (a b : ItemKind) → AllStand c (item_keys a) → AllStand c (item_keys b) → AreIncomparable (item_tree d a) (item_tree d b) → AreIncomparable (item_tree c a) (item_tree c b)
incomparable_before c d grown a b sa sb h = subst (λ s. AreIncomparable s (item_tree c b)) (grown.trees a sa) (subst (λ t. AreIncomparable (item_tree d a) t) (grown.trees b sb) h)

-- of two that fit one way
pub bound_of_ordered : (u : Bound) (c : Collection) (a b : ItemKind) → Fits (item_tree c a) (item_tree c b) → IsBoundIn u c c a b (Some (of_two u a b))
bound_of_ordered Meet c a b h = (Fits-refl (item_tree c a), h, λ u p q. p)
bound_of_ordered Join c a b h = (h, Fits-refl (item_tree c b), λ u p q. q)

-- the bound of two is that of the two exchanged
pub bound_exchanged : (u : Bound) (c d : Collection) (a b : ItemKind) (m : ItemKind) → IsBoundIn u c d b a (Some m) → IsBoundIn u c d a b (Some m)
bound_exchanged u c d a b m h = (h.1, h.0, λ t p q. h.2 t q p)

-- what fits where each of two is asked for, one of which has items below it
none_below : (s t u : ItemTree) → AreUnlike s t → Fits u s → Fits u t → Fits s t
none_below s t u h leaves leaves = leaves
none_below s t u h (modules {k = item} p) (modules q) = elim h [ ]
none_below s t u h (modules {k = type_item} p) (modules q) = elim h [ ]
none_below s t u h (composites {k = item} {s = interface} p q) (composites p' q') = elim h [ ]
none_below s t u h (composites {k = item} {s = world} p q) (composites p' q') = elim h [ ]
none_below s t u h (composites {k = type_item} {s = interface} p q) (composites p' q') = elim h [ ]
none_below s t u h (composites {k = type_item} {s = world} p q) (composites p' q') = elim h [ ]

none_above : (s t u : ItemTree) → AreUnlike s t → Fits s u → Fits t u → Fits s t
none_above s t u h leaves leaves = leaves
none_above s t u h (modules {k = item} p) (modules q) = elim h [ ]
none_above s t u h (modules {k = type_item} p) (modules q) = elim h [ ]
none_above s t u h (composites {k = item} {s = interface} p q) (composites p' q') = elim h [ ]
none_above s t u h (composites {k = item} {s = world} p q) (composites p' q') = elim h [ ]
none_above s t u h (composites {k = type_item} {s = interface} p q) (composites p' q') = elim h [ ]
none_above s t u h (composites {k = type_item} {s = world} p q) (composites p' q') = elim h [ ]

pub none_bound : (u : Bound) (c : Collection) (a b : ItemKind) → ¬ (Fits (item_tree c a) (item_tree c b)) → AreUnlike (item_tree c a) (item_tree c b) → IsBoundIn u c c a b None
none_bound Meet c a b apart unlike = λ u p q. apart (none_below (item_tree c a) (item_tree c b) u unlike p q)
none_bound Join c a b apart unlike = λ u p q. apart (none_above (item_tree c a) (item_tree c b) u unlike p q)

-- the bound of two core modules is valid
pub valid_bound : (u : Bound) (s t m : ModuleContent) → IsModuleBoundIn u s t (Some m) → IsTrue (is_valid_module m)
valid_bound Meet s t m h = h.0.0
valid_bound Join s t m h = h.0.1
