-- What holds of the state of merging once the calls at the front of a list were made.
use Rattle.std.specs.Prelude.{◌≡◌, ◌⊎◌, List, Some, Contains, IsSome}
use Rattle.wac_model.specs.Text.{Text}
use Rattle.wac_model.specs.Order.{Fits}
use Rattle.wac_component.specs.Collection.{Collection}
use Rattle.wac_component.specs.Entries.{identifier_at}
use Rattle.wac_component.specs.Key.{Key}
use Rattle.wac_component.specs.Reach.{IsAmong}
use Rattle.wac_component.specs.Tree.{item_tree}
use Rattle.wac_names.specs.Class.{Class, class_of}
use Rattle.wac_aggregator_narrowing.specs.Remembers.{RemembersTruly}
use Rattle.wac_aggregator_promises.specs.Call.{Call, call_tree}
use Rattle.wac_aggregator_promises.specs.Due.{OwnsOn, IsReachedIdentifier, IsImportName}
use Rattle.wac_aggregator_imports.specs.Import.{ImportContent, ImportsContent, import_of, led_of}
use Rattle.wac_aggregator_taking.specs.Takes.{shared_keys, state_of, OwnersImported}
use Rattle.wac_aggregator_taking.specs.declared.state.Merging.{Merging}
use Rattle.wac_aggregator.specs.HandedIn.{IsOneOf}

-- the name leads to this import: it is its name, or is led to its class
pub record NameLeadsTo (is : ImportsContent) (n : Text) (i : ImportContent) : Type 0 where
  pub import : import_of is (class_of n) ≡ Some i
  pub leads : (n ≡ i.0) ⊎ IsSome (led_of is n)

-- each call at the front is served, owners in its item are imported, and each import and each
-- shared entry is named as it may be; what is remembered of the collections of all calls is true
pub record AreCallsServed (calls front : List Call) (a : Merging) : Type 0 where
  pub truly : (g : Collection) → IsOneOf calls g → RemembersTruly class_of g (state_of a)
  pub owners : (g : Collection) → IsOneOf calls g → OwnersImported g (state_of a)
  pub names : (q : Class) (i : ImportContent) → import_of a.imports q ≡ Some i → IsImportName front i.0
  pub shared : (e : Key) (n : Text) → IsAmong e (shared_keys a.shared.entries) → identifier_at a.types e ≡ Some n → IsReachedIdentifier front n
  pub served : (c : Call) → Contains front c → (i : ImportContent) × NameLeadsTo a.imports c.name i × Fits (item_tree a.types i.1) (call_tree c)
  pub owned : (c : Call) (t : Class) → Contains front c → OwnsOn c t → (i : ImportContent) × (import_of a.imports t ≡ Some i)
