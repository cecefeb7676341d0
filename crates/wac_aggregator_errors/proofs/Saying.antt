-- Every error but a failed allocation says something.
use Rattle.std.proofs.Common.{◌≡◌, ◌≢◌, List, Some, None, refl, ap, sym, ◌∙◌}
use Rattle.wac_model.specs.ItemTree.{ItemTree}
use Rattle.wac_aggregator_promises.specs.Reason.{CallRefusal, mismatch}
use Rattle.wac_mismatch.specs.declared.check.SubtypeCheck.{SubtypeCheck}
use Rattle.wac_mismatch.specs.declared.error.SubtypeError.{SubtypeError}
use Rattle.wac_mismatch.specs.declared.error.SubtypeError.TheVariants.{Mismatch as Disagree, Memory as NoMemory}
use Rattle.wac_aggregator_errors.specs.declared.error.AggregateError.{AggregateError}
use Rattle.wac_aggregator_errors.specs.declared.error.AggregateError.TheVariants.{Kinds, Mismatch, UsedInterface, UsedName, NoIdentifier, OwnerWithoutIdentifier, Taken as WasTaken, Cycle, Memory}
use Rattle.wac_aggregator_errors.specs.declared.frame.MergeFrame.{MergeFrame}
use Rattle.wac_aggregator_errors.specs.Clashes.{IsNo, IsMismatch, ClashesAt, here, in_modules, below}
use Rattle.wac_aggregator_errors.specs.Said.{said}

-- a refusal says why, unless an allocation fails
pub says_why : (e : AggregateError) → e ≢ Memory → (r : CallRefusal) × (said e ≡ Some r)
says_why (Kinds existing found) other = (_, refl)
says_why (Mismatch frames (Disagree path fault)) other = (_, refl)
says_why (Mismatch frames NoMemory) other = (_, refl)
says_why (UsedInterface used expected found) other = (_, refl)
says_why (UsedName used) other = (_, refl)
says_why (NoIdentifier used) other = (_, refl)
says_why (OwnerWithoutIdentifier resource) other = (_, refl)
says_why (WasTaken name) other = (_, refl)
says_why (Cycle interface) other = (_, refl)
says_why Memory other = absurd (other refl)

pub not_memory : (e : AggregateError) (r : CallRefusal) → said e ≡ Some r → e ≢ Memory
not_memory e r says memory = let none : None ≡ Some r = ap said (sym memory) ∙ says in cc

-- what is said where items clash is a no
clash_is_no : (check : SubtypeCheck) (e : SubtypeError) (frames : List MergeFrame) (a b : ItemTree) → ClashesAt check e frames a b → IsNo e
clash_is_no check e frames a b (here none no_core says) = says.0
clash_is_no check e frames a b (in_modules name x y alike first second apart says) = says.0
clash_is_no check e frames a b (below name x y more alike first second apart inner) = clash_is_no check e more x y inner

-- so a mismatch says where two items can't be met
pub says_mismatch : (before : List MergeFrame) (check : SubtypeCheck) (a b : ItemTree) (e : AggregateError) → IsMismatch before (λ more error. ClashesAt check error more a b) e → said e ≡ Some mismatch
says_mismatch before check a b (Kinds x y) h = absurd h
says_mismatch before check a b (Mismatch frames error) h = of_no error (clash_is_no check error h.0 a b h.2)
  where
    of_no : (error : SubtypeError) → IsNo error → said (Mismatch frames error) ≡ Some mismatch
    of_no (Disagree path fault) is = refl
    of_no NoMemory is = absurd is
says_mismatch before check a b (UsedInterface n x y) h = absurd h
says_mismatch before check a b (UsedName n) h = absurd h
says_mismatch before check a b (NoIdentifier n) h = absurd h
says_mismatch before check a b (OwnerWithoutIdentifier n) h = absurd h
says_mismatch before check a b (WasTaken n) h = absurd h
says_mismatch before check a b (Cycle n) h = absurd h
says_mismatch before check a b Memory h = absurd h
