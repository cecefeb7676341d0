-- The error of a pair, and of the items that are asked about.
use Rattle.std.proofs.Common.{◌≡◌, ℕ, List, [], ◌∷◌, Bool, refl}
use Rattle.std.specs.Prelude.{Err}
use Rattle.wac_component.specs.Collection.{Collection}
use Rattle.wac_mismatch.specs.Steps.{IsHere, IsUnder}
use Rattle.wac_mismatch.specs.declared.check.SubtypeCheck.{SubtypeCheck}
use Rattle.wac_mismatch.specs.declared.error.SubtypeError.{SubtypeError}
use Rattle.wac_mismatch.specs.declared.error.SubtypeError.TheVariants.{Mismatch, Memory}
use Rattle.wac_mismatch.specs.declared.fault.Fault.{Fault}
use Rattle.wac_mismatch.specs.declared.frame.Frame.{Frame}
use Rattle.wac_mismatch.specs.Difference.{IsFaultOf}
use Rattle.wac_checker_parts.specs.Listing.{AreModules, IsPairTurn}
use Rattle.wac_checker_parts.specs.Pairs.{EntriesPath, Entries, ExplainsEntries, ExplainsPair, IsPairFrame, Modules, check_of, entries_by, entries_of, id_in, left_of, right_of, two_of}
use Rattle.wac_mismatch.specs.declared.difference.Difference.{Difference}
use Rattle.wac_checker_parts.specs.declared.parts.EntryPair.{EntryPair}
use Rattle.wac_checker_parts.specs.declared.parts.PairPart.{PairPart}
use Rattle.wac_checker_parts.specs.declared.parts.PairSort.{PairSort}
use Rattle.wac_checker_parts.specs.declared.parts.PairSort.TheVariants as sort
use Rattle.wac_component.specs.Id.{Id}
use Rattle.wac_checker_parts.specs.declared.parts.Halt.TheVariants as halt

module _ (check : SubtypeCheck) (l r : Collection) (e : Entries) where
  here_explained : (P : Fault → Type 0) (g : SubtypeError) → ((f : Fault) → P f → EntriesPath check l r e [] f) → IsHere P g → ExplainsEntries check l r e g
  here_explained P (Mismatch frames f) path h = λ k. rw h.0 (path f h.1 k)
  here_explained P Memory path h = λ k. tt

  under_explained : (P : Fault → Type 0) (f : Frame) (g h : SubtypeError) → ((x : Fault) → P x → EntriesPath check l r e (f ∷ []) x) → IsHere P g → IsUnder (λ y. y ≡ f) g h → ExplainsEntries check l r e h
  under_explained P f g Memory path here under = λ k. tt
  under_explained P f Memory (Mismatch frames x) path here under = absurd under
  under_explained P f (Mismatch inner y) (Mismatch frames x) path here under = λ k. rw (under.2, under.3, under.1, here.0) (path y here.1 k)

module _ (check : SubtypeCheck) (l r : Collection) (p : EntryPair) (ms : List PairPart) where
  -- the two of a pair differ
  pub refused_apart : (x : Difference) (g : SubtypeError) → IsPairTurn l r p ms (Err (halt.Apart x)) → IsHere (IsFaultOf (check_of check p.swapped) x) g → ExplainsPair check l r (two_of l r p) g
  refused_apart x g h here = here_explained (check_of check p.swapped) (left_of l r p.swapped) (right_of l r p.swapped) (entries_of (left_of l r p.swapped) (right_of l r p.swapped) p) (IsFaultOf (check_of check p.swapped) x) g (λ f is. h.1 (check_of check p.swapped) f is) here

  -- a part of it differs
  pub refused_part : (i : ℕ) (b : Bool) (x : Difference) (f : Frame) (g s : SubtypeError) → IsPairTurn l r p ms (Err (halt.PartApart i b x)) → IsHere (IsFaultOf (check_of (check_of check p.swapped) b) x) g → IsUnder (λ y. y ≡ f) g s → IsPairFrame l r (two_of l r p) i f → ExplainsPair check l r (two_of l r p) s
  refused_part i b x f g s h here under at = under_explained (check_of check p.swapped) (left_of l r p.swapped) (right_of l r p.swapped) (entries_of (left_of l r p.swapped) (right_of l r p.swapped) p) (IsFaultOf (check_of (check_of check p.swapped) b) x) f g s (λ y fault. h.2 (check_of check p.swapped) f y at fault) here under

-- the two are core modules

entries_modules : (s : PairSort) (a b : Id) → AreModules (entries_by s a b) → entries_by s a b ≡ Modules a b
entries_modules sort.Defined a b h = elim h [ ]
entries_modules sort.Func a b h = elim h [ ]
entries_modules sort.Interface a b h = elim h [ ]
entries_modules sort.World a b h = elim h [ ]
entries_modules sort.Module a b h = refl

pub modules_listed : (l r : Collection) (p : EntryPair) (ms : List PairPart) → IsPairTurn l r p ms (Err halt.Modules) → entries_of (left_of l r p.swapped) (right_of l r p.swapped) p ≡ Modules (id_in (left_of l r p.swapped) p.left) (id_in (right_of l r p.swapped) p.right)
modules_listed l r p ms h = entries_modules p.sort (id_in (left_of l r p.swapped) p.left) (id_in (right_of l r p.swapped) p.right) h.2
