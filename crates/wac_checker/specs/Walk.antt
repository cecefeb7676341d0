-- How far a comparison of pairs is.
use Rattle.std.specs.Prelude.{◌≡◌, ◌==◌, ◌&&◌, ◌+◌, ◌<◌, ◌≤◌, ℕ, List, [], ◌∷◌, Bool, true, false, not, Option, Some, None, Err, slice_get, length, take, Contains}
use Rattle.wac_component.specs.Collection.{Collection}
use Rattle.wac_checker_parts.specs.Pairs.{IsFitting, IsStanding, IsBelowPair, PairHasPart, PairPath, two_of}
use Rattle.wac_mismatch.specs.declared.check.SubtypeCheck.{SubtypeCheck}
use Rattle.wac_mismatch.specs.declared.fault.Fault.{Fault}
use Rattle.wac_mismatch.specs.declared.frame.Frame.{Frame}
use Rattle.wac_checker.specs.Believed.{IsFittingBy}
use Rattle.wac_checker.specs.Cache.{Pair}
use Rattle.wac_checker_parts.specs.Listing.{AllFit, IsPairTurn}
use Rattle.wac_checker_parts.specs.declared.parts.EntryPair.{EntryPair}
use Rattle.wac_checker_parts.specs.declared.parts.Halt.{Halt}
use Rattle.wac_checker_parts.specs.declared.parts.Halt.TheVariants as halt
use Rattle.wac_checker_parts.specs.declared.parts.PairPart.{PairPart}
use Rattle.wac_checker_parts.specs.declared.sides.Sides.{Sides}
use Rattle.wac_checker.specs.declared.walk.WalkStep.{WalkStep}

-- a part of a pair: it is lower, and fits if the pair does
abbrev pub IsPartOfPair : Collection → Collection → EntryPair → PairPart → Type 0
IsPartOfPair c d p q = PairHasPart c d (two_of c d p) q.index × IsBelowPair c d (two_of c d p) q.index (two_of c d q.pair)

-- these are the parts of a pair, up to the first difference: after them the two differ or don't
pub record AreListed (c d : Collection) (p : EntryPair) (ms : List PairPart) (differs : Bool) : Type 0 where
  pub parts : (q : PairPart) → Contains ms q → IsPartOfPair c d p q
  pub same : differs ≡ false → AllFit c d ms → IsFitting c d p
  pub apart : differs ≡ true → ¬ (IsFitting c d p)

-- the pair of a step stands, its parts stand on the list from a place on, and those before another
-- place fit, if what is believed is in the order
pub record IsAtStep (ps : List Pair) (c d : Collection) (l : List PairPart) (s : WalkStep) (done : ℕ) : Type 0 where
  pub stands : IsStanding c d s.part.pair
  pub within : (s.first ≤ done) × (done ≤ length l)
  pub parts : (i : ℕ) (q : PairPart) → s.first ≤ i → slice_get l i ≡ Some q → IsPartOfPair c d s.part.pair q
  pub fit : (i : ℕ) (q : PairPart) → s.first ≤ i → i < done → slice_get l i ≡ Some q → IsFittingBy ps c d q.pair
  pub same : s.differs ≡ false → ((i : ℕ) (q : PairPart) → s.first ≤ i → slice_get l i ≡ Some q → IsFitting c d q.pair) → IsFitting c d s.part.pair
  pub apart : s.differs ≡ true → ¬ (IsFitting c d s.part.pair)

-- a step begins with the parts of a pair, which are put on the list
pub record IsBegun (ps : List Pair) (c d : Collection) (q : PairPart) (l m : List PairPart) (s : WalkStep) : Type 0 where
  pub part : s.part ≡ q
  pub first : s.first ≡ length l
  pub next : s.next ≡ length l
  pub before : take (length l) m ≡ l
  pub at : IsAtStep ps c d m s (length l)

-- a step leads to a part of its pair, which is the one before its next
pub record LeadsTo (ps : List Pair) (c d : Collection) (l : List PairPart) (s : WalkStep) (q : PairPart) : Type 0 where
  pub place : ℕ
  pub next : s.next ≡ place + 1
  pub at : IsAtStep ps c d l s place
  pub here : slice_get l place ≡ Some q

-- steps, the last one first, lead from a pair to a part: each stands on what is left of the list
-- without the parts of those after it
abbrev pub LeadFrom : List Pair → Collection → Collection → EntryPair → List PairPart → List WalkStep → PairPart → Type 0
LeadFrom ps c d r l [] q = q.pair ≡ r
LeadFrom ps c d r l (s ∷ ss) q = LeadsTo ps c d l s q × LeadFrom ps c d r (take s.first l) ss s.part

-- a pair as it is kept: of one collection, swapped entries are asked about as they stand
abbrev pub kept_pair : Collection → Collection → EntryPair → EntryPair
kept_pair c d p = record { left = p.left; right = p.right; sort = p.sort; swapped = p.swapped && not (c.number == d.number) }

-- the pair of one of the steps, as it is kept
abbrev pub IsOpen : Collection → Collection → List WalkStep → EntryPair → Type 0
IsOpen c d ss p = (s : WalkStep) × Contains ss s × (kept_pair c d s.part.pair ≡ p)

-- why the parts of a pair whose two differ aren't listed further
abbrev pub IsHaltOf : Collection → Collection → EntryPair → Halt → Type 0
IsHaltOf c d p halt.Memory = ⊥
IsHaltOf c d p h = (ms : List PairPart) × IsPairTurn c d p ms (Err h)

abbrev pub HasHalt : Collection → Collection → EntryPair → Option Halt → Type 0
HasHalt c d p None = ⊥
HasHalt c d p (Some h) = IsHaltOf c d p h

-- where the two of a step's pair differ, it is noted why; else what was noted stays
abbrev pub NotesHalt : Collection → Collection → WalkStep → Option Halt → Option Halt → Type 0
NotesHalt c d s before after = (s.differs ≡ true → HasHalt c d s.part.pair after) × (s.differs ≡ false → after ≡ before)

-- of the first of these steps whose two differ it is noted why they do
abbrev pub IsHaltNoted : Collection → Collection → Option Halt → List WalkStep → Type 0
IsHaltNoted c d o [] = Unit {0}
IsHaltNoted c d o (s ∷ ss) = (s.differs ≡ true → HasHalt c d s.part.pair o) × (s.differs ≡ false → IsHaltNoted c d o ss)

-- the two of the first of these steps differ, and it is noted why
abbrev pub EndsApart : Collection → Collection → Option Halt → List WalkStep → Type 0
EndsApart c d o [] = ⊥
EndsApart c d o (s ∷ ss) = HasHalt c d s.part.pair o

-- steps, the last one first, are a path from a pair to a part
abbrev pub PathFrom : Collection → Collection → EntryPair → List WalkStep → PairPart → Type 0
PathFrom c d r [] q = q.pair ≡ r
PathFrom c d r (s ∷ ss) q = IsStanding c d s.part.pair × IsPartOfPair c d s.part.pair q × PathFrom c d r ss s.part

-- steps, the last one first, are a path from a pair to one that doesn't fit
abbrev pub IsPathTo : Collection → Collection → EntryPair → List WalkStep → Type 0
IsPathTo c d r [] = ¬ (IsFitting c d r)
IsPathTo c d r (s ∷ ss) = IsStanding c d s.part.pair × (¬ (IsFitting c d s.part.pair)) × PathFrom c d r ss s.part

-- these frames and this fault are a path from a pair
abbrev pub IsWalkPath : Collection → Collection → SubtypeCheck → EntryPair → List Frame → Fault → Type 0
IsWalkPath c d check p frames f = PairPath check c d (two_of c d p) frames f

-- what is a path from one pair is one, with more frames, from another
abbrev pub LeadsFurther : Sides → EntryPair → List Frame → EntryPair → List Frame → Type 0
LeadsFurther s p fs q gs = (c : SubtypeCheck) (f : Fault) → IsWalkPath s.left.now s.right.now c p fs f → IsWalkPath s.left.now s.right.now c q gs f
