-- What was taken in, and what was copied: ids, items, and named items one after another.
use Rattle.std.specs.Prelude.{◌≡◌, List, [], ◌∷◌, Some}
use Rattle.wac_model.specs.Text.{Text}
use Rattle.wac_model.specs.ItemTree.{Kind}
use Rattle.wac_model.specs.Order.{Fits}
use Rattle.wac_component.specs.Collection.{Collection}
use Rattle.wac_component.specs.Key.{Key, Each, AllStand, item_keys}
use Rattle.wac_component.specs.Tree.{item_tree}
use Rattle.wac_component.specs.declared.items.ItemKind.{ItemKind}
use Rattle.wac_component.specs.Entries.{identifier_at}
use Rattle.wac_aggregator_memo.specs.Memo.{Remembered}
use Rattle.wac_component.specs.Open.{OpenReaches}
use Rattle.wac_merge.specs.Items.{entry_item}
use Rattle.wac_aggregator_narrowing.specs.Apart.{AreKeysApart}
use Rattle.wac_aggregator_narrowing.specs.Identified.{IsQuiet, IsCovered}
use Rattle.wac_aggregator_narrowing.specs.Remembers.{IsRememberedAs}
use Rattle.wac_aggregator_narrowing.specs.Standing.{IsCopy}
use Rattle.wac_aggregator_narrowing.specs.State.{State}

-- the two entries have the same tree
abbrev pub SameTree : Collection → Collection → Key → Key → Type 0
SameTree f c theirs own = (k : Kind) → item_tree c (entry_item k own) ≡ item_tree f (entry_item k theirs)

-- each identified interface to which the id openly leads was taken in
abbrev pub IsClosedIn : Collection → Remembered → Key → Type 0
IsClosedIn f now theirs = (t : Key) (n : Text) → OpenReaches f theirs t → identifier_at f t ≡ Some n → (o : Key) × (now t ≡ Some o)

-- the own entry was taken in for the id, and may be remembered for it
pub record IsTakenKey {T : Type 0} (track : Text → T) (f : Collection) (s : State) (theirs own : Key) : Type 0 where
  pub remembered : IsRememberedAs track f s.own s.shared theirs own
  pub noted : s.taken theirs ≡ Some own
  pub covered : IsCovered s.own s.shared own
  pub closed : IsClosedIn f s.taken theirs

-- the own entry is a copy of the foreign one, and noted
pub record IsCopiedKey (f : Collection) (s : State) (theirs own : Key) : Type 0 where
  pub copy : IsCopy f s.own s.shared theirs own
  pub noted : s.copies theirs ≡ Some own

-- two lists of ids of this relation, one by one
pub data AreKeysPaired (R : Key → Key → Type 0) : List Key → List Key → Type 0 where
  no_keys : AreKeysPaired R [] []
  one_key : {i j : Key} {is js : List Key} → R i j → AreKeysPaired R is js → AreKeysPaired R (i ∷ is) (j ∷ js)

-- the second ids were taken in for the first; or are copies of these
abbrev pub AreTakenKeys : {T : Type 0} → (Text → T) → Collection → State → List Key → List Key → Type 0
AreTakenKeys track f s = AreKeysPaired (IsTakenKey track f s)

abbrev pub AreCopiedKeys : Collection → State → List Key → List Key → Type 0
AreCopiedKeys f s = AreKeysPaired (IsCopiedKey f s)

-- an own item that stands, fits where the foreign one is asked for, and names what may
-- be remembered for what that names; it has the same tree where the foreign one openly
-- leads to no identified interface
pub record IsTakenItem {T : Type 0} (track : Text → T) (f : Collection) (s : State) (x y : ItemKind) : Type 0 where
  pub stands : AllStand s.own (item_keys y)
  pub fits : Fits (item_tree s.own y) (item_tree f x)
  pub quiet : Each (IsQuiet f) (item_keys x) → item_tree s.own y ≡ item_tree f x
  pub keys : AreTakenKeys track f s (item_keys x) (item_keys y)

-- an own item that is a copy of the foreign one, and names copies of what that names
pub record IsCopiedItem (f : Collection) (s : State) (x y : ItemKind) : Type 0 where
  pub stands : AllStand s.own (item_keys y)
  pub apart : AreKeysApart s.own s.shared (item_keys y)
  pub keys : AreCopiedKeys f s (item_keys x) (item_keys y)
  pub same : item_tree s.own y ≡ item_tree f x

-- the same names in the same order, each with two values of this relation
pub data AreMapped {V W : Type 0} (R : V → W → Type 0) : List (Text × V) → List (Text × W) → Type 0 where
  none : AreMapped R [] []
  one : {n : Text} {x : V} {y : W} {xs : List (Text × V)} {ys : List (Text × W)} → R x y → AreMapped R xs ys → AreMapped R ((n, x) ∷ xs) ((n, y) ∷ ys)
