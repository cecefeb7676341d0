-- What an error of merging says.
use Rattle.std.specs.Prelude.{Option, Some, None, string_bytes}
use Rattle.wac_aggregator_promises.specs.Reason.{CallRefusal, kinds, mismatch, unexplained, used_interface, used_name, no_identifier, owner_without_identifier, taken, cycle}
use Rattle.wac_mismatch.specs.declared.error.SubtypeError.TheVariants.{Mismatch as Disagree, Memory as NoMemory}
use Rattle.wac_aggregator_errors.specs.declared.error.AggregateError.{AggregateError}
use Rattle.wac_aggregator_errors.specs.declared.error.AggregateError.TheVariants.{Kinds, Mismatch, UsedInterface, UsedName, NoIdentifier, OwnerWithoutIdentifier, Taken, Cycle, Memory}

-- what is refused, unless an allocation fails; a mismatch says where types disagree
abbrev pub said : AggregateError → Option CallRefusal
said (Kinds existing found) = Some (kinds existing.now found.now)
said (Mismatch frames (Disagree path fault)) = Some mismatch
said (Mismatch frames NoMemory) = Some unexplained
said (UsedInterface used expected found) = Some (used_interface (string_bytes used) (string_bytes expected) (string_bytes found))
said (UsedName used) = Some (used_name (string_bytes used))
said (NoIdentifier used) = Some (no_identifier (string_bytes used))
said (OwnerWithoutIdentifier resource) = Some (owner_without_identifier (string_bytes resource))
said (Taken name) = Some (taken (string_bytes name))
said (Cycle interface) = Some (cycle (string_bytes interface))
said Memory = None
