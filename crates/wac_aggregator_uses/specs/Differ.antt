-- Uses of one name of which one can't stand for the other.
use Rattle.std.specs.Prelude.{◌≡◌, ◌≢◌, List, [], ◌∷◌, Contains, Some}
use Rattle.wac_model.specs.Text.{Text}
use Rattle.wac_component.specs.Collection.{Collection, UseContent}
use Rattle.wac_component.specs.Content.{use_content}
use Rattle.wac_component.specs.Entries.{uses_at}
use Rattle.wac_component.specs.Implicit.{identifier}
use Rattle.wac_component.specs.Key.{Key}
use Rattle.wac_component.specs.Reach.{IsAmong}
use Rattle.wac_component.specs.declared.interfaces.UsedType.{UsedType}
use Rattle.wac_aggregator_promises.specs.Reason.{used_interface, used_name}
use Rattle.wac_names.specs.Class.{class_of}
use Rattle.wac_aggregator_errors.specs.declared.error.AggregateError.{AggregateError}
use Rattle.wac_aggregator_errors.specs.declared.error.AggregateError.TheVariants.{Memory}
use Rattle.wac_aggregator_errors.specs.Said.{said}

-- uses of one name in the two lists are of interfaces on different tracks, or of
-- different names in these, it says
pub data SaysUsesDiffer (c : Collection) (us vs : List (Text × UseContent)) (e : AggregateError) : Type 0 where
  of_interfaces : (name expected found : Text) (u v : UseContent) → Contains us (name, u) → Contains vs (name, v) → identifier c u.interface ≡ Some expected → identifier c v.interface ≡ Some found → class_of expected ≢ class_of found → said e ≡ Some (used_interface name expected found) → SaysUsesDiffer c us vs e
  of_names : (name : Text) (u v : UseContent) → Contains us (name, u) → Contains vs (name, v) → u.name ≢ v.name → said e ≡ Some (used_name name) → SaysUsesDiffer c us vs e

-- such lists are refused, unless an allocation fails
abbrev pub AreRefusedLists : Collection → List (Text × UseContent) → List (Text × UseContent) → AggregateError → Type 0
AreRefusedLists c us vs e = e ≢ Memory → SaysUsesDiffer c us vs e

-- the same of one use of a name in each
abbrev pub IsRefusedUse : Collection → Text → UsedType → UsedType → AggregateError → Type 0
IsRefusedUse c name u v e = AreRefusedLists c ((name, use_content u) ∷ []) ((name, use_content v) ∷ []) e

-- the uses of an entry at one of the first ids, and of one at one of the others, differ so
pub record UsesDiffer (c : Collection) (ks js : List Key) (e : AggregateError) : Type 0 where
  pub first : Key
  pub second : Key
  pub among_first : IsAmong first ks
  pub among_second : IsAmong second js
  pub differ : SaysUsesDiffer c (uses_at c first) (uses_at c second) e

-- such entries are refused, unless an allocation fails
abbrev pub IsUsesRefusal : Collection → List Key → List Key → AggregateError → Type 0
IsUsesRefusal c ks js e = e ≢ Memory → UsesDiffer c ks js e
