-- What is known of the pairs that were compared.
use Rattle.std.specs.Prelude.{◌≡◌, ◌⊎◌, List, [], ◌∷◌, Contains, Bool, true, false, Option, Some, None, Result, Ok, reverse, take}
use Rattle.wac_component.specs.Collection.{Collection}
use Rattle.wac_model.specs.Order.{Fits}
use Rattle.wac_component.specs.Tree.{item_tree}
use Rattle.wac_component.specs.declared.items.ItemKind.{ItemKind}
use Rattle.wac_checker.specs.Believed.{IsFittingBy, MayBelieve}
use Rattle.wac_checker.specs.Cache.{AreInOrder, Pair}
use Rattle.wac_checker_parts.specs.Listing.{AreItemsNamed}
use Rattle.wac_checker_parts.specs.Pairs.{AreOfItems, ArePairsOf, IsFitting, IsStanding, entries_of}
use Rattle.wac_checker_parts.specs.declared.parts.PairPart.{PairPart}
use Rattle.wac_checker.specs.Known.{pairs_of}
use Rattle.wac_mismatch.specs.declared.check.SubtypeCheck.{SubtypeCheck}
use Rattle.wac_mismatch.specs.declared.error.SubtypeError.{SubtypeError}
use Rattle.wac_checker.specs.Verdict.{IsItemVerdict}
use Rattle.wac_checker_parts.specs.declared.sides.Sides.{Sides}
use Rattle.wac_checker.specs.Walk.{EndsApart, IsAtStep, IsHaltNoted, IsOpen, IsPathTo, LeadFrom}
use Rattle.wac_checker.specs.declared.compared.Compared.{Compared}
use Rattle.wac_checker_parts.specs.declared.parts.EntryPair.{EntryPair}
use Rattle.wac_checker.specs.declared.walk.WalkStep.{WalkStep}
use Rattle.wac_checker.specs.declared.walk.Walk.{Walk}

-- what is known is true of two collections: each pair stands, and all fit but those that are said not to
pub record KnowsTruly (c d : Collection) (k : Compared) : Type 0 where
  pub pairs : ArePairsOf c d (pairs_of k.known)
  pub unfit : (p : EntryPair) → Contains (pairs_of k.unfit) p → IsStanding c d p × (¬ (IsFitting c d p))
  pub known : (p : EntryPair) → Contains (pairs_of k.known) p → IsFitting c d p ⊎ Contains (pairs_of k.unfit) p

-- the same but for the pairs of steps, which are known and being compared, and if what is believed is
-- in the order
pub record KnowsBut (ps : List Pair) (c d : Collection) (k : Compared) (ss : List WalkStep) : Type 0 where
  pub pairs : ArePairsOf c d (pairs_of k.known)
  pub unfit : (p : EntryPair) → Contains (pairs_of k.unfit) p → IsStanding c d p × (¬ (IsFitting c d p))
  pub known : (p : EntryPair) → Contains (pairs_of k.known) p → (IsFittingBy ps c d p ⊎ Contains (pairs_of k.unfit) p) ⊎ IsOpen c d ss p

-- a comparison is at a step
pub record IsComparing (ps : List Pair) (c d : Collection) (k : Compared) (w : Walk) (s : WalkStep) : Type 0 where
  pub knows : KnowsBut ps c d k (s ∷ reverse w.open.items)
  pub at : IsAtStep ps c d w.parts.before s s.next
  pub lead : LeadFrom ps c d w.asked (take s.first w.parts.before) (reverse w.open.items) s.part
  pub listed : w.parts.items ≡ []
  pub halt : IsHaltNoted c d w.halt (s ∷ reverse w.open.items)

-- what is known is true once the pairs of a path are noted not to fit
abbrev pub IsTrueOnceNoted : Collection → Collection → Compared → Compared → List WalkStep → Type 0
IsTrueOnceNoted c d k k' ss = (r : EntryPair) → KnowsBut [] c d k ss → IsPathTo c d r ss → KnowsTruly c d k'

-- it has come to an end: the pair that was asked about fits, or the open steps lead to one that
-- doesn't, of which it is noted why, if no pair was known not to fit
abbrev pub IsAnswered : List Pair → Collection → Collection → Compared → Walk → Bool → Type 0
IsAnswered ps c d k w true = AreInOrder c d ps → KnowsTruly c d k × IsFitting c d w.asked
IsAnswered ps c d k w false = KnowsBut ps c d k (reverse w.open.items) × IsPathTo c d w.asked (reverse w.open.items) × (pairs_of k.unfit ≡ [] → EndsApart c d w.halt (reverse w.open.items))

-- it goes on, or has come to an end
abbrev pub IsGoingOn : List Pair → Collection → Collection → Compared → Walk → WalkStep → Option Bool → Type 0
IsGoingOn ps c d k w s None = IsComparing ps c d k w s
IsGoingOn ps c d k w s (Some b) = IsAnswered ps c d k w b

-- what is named of two items that are asked about
abbrev pub AreNamedAlone : Collection → Collection → ItemKind → ItemKind → List PairPart → Type 0
AreNamedAlone c d x y ms = AreItemsNamed c d false 0 x y [] ms (Ok true)

-- two items fit, or the open steps lead from the pair that is named for them to one that doesn't, of
-- which it is noted why
abbrev pub AreAnswered : List Pair → Collection → Collection → ItemKind → ItemKind → Walk → Bool → Type 0
AreAnswered ps c d x y w true = MayBelieve ps c d x y → Fits (item_tree c x) (item_tree d y)
AreAnswered ps c d x y w false = (w.asked.swapped ≡ false) × AreOfItems c d x y (entries_of c d w.asked) × IsPathTo c d w.asked (reverse w.open.items) × EndsApart c d w.halt (reverse w.open.items)

-- a verdict on two items, by what is believed of them
abbrev pub IsVerdictOn : Sides → SubtypeCheck → List Pair → Pair → Result (Unit {0}) SubtypeError → Type 0
IsVerdictOn s check ps p r = IsItemVerdict r (MayBelieve ps s.left.now s.right.now p.0 p.1) check (item_tree s.left.now p.0) (item_tree s.right.now p.1)
