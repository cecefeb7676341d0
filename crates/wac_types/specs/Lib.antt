-- What the clauses of the public calls name, and what that is defined by: where two crates have a
-- module of one name, the upper one's has another here. The types and their variants are in
-- `specs.declared`.

-- trees, and how they are ordered
pub use Rattle.wac_model.specs.Text
pub use Rattle.wac_model.specs.ValueTree
pub use Rattle.wac_model.specs.CoreTree
pub use Rattle.wac_model.specs.ItemTree
pub use Rattle.wac_model.specs.Order
pub use Rattle.wac_model.specs.Same
pub use Rattle.wac_model.specs.Desc
pub use Rattle.wac_model.specs.Laws as TreeLaws
pub use Rattle.wac_bounds.specs.Bounds
pub use Rattle.wac_bounds.specs.MeetIn
pub use Rattle.wac_bounds.specs.Valid
pub use Rattle.wac_bounds.specs.Laws as BoundLaws
-- core types
pub use Rattle.wac_core.specs.Content as CoreContent
pub use Rattle.wac_core.specs.Texts as CoreTexts
pub use Rattle.wac_core_merge.specs.Names as CoreNames
pub use Rattle.wac_core_merge.specs.NameOrder
pub use Rattle.wac_core_merge.specs.Origin
-- collections
pub use Rattle.wac_component.specs.Id
pub use Rattle.wac_component.specs.Collection
pub use Rattle.wac_component.specs.Content
pub use Rattle.wac_component.specs.View
pub use Rattle.wac_component.specs.Key
pub use Rattle.wac_component.specs.Naming
pub use Rattle.wac_component.specs.Parts
pub use Rattle.wac_component.specs.Entries
pub use Rattle.wac_component.specs.Items
pub use Rattle.wac_component.specs.Distinct
pub use Rattle.wac_component.specs.Sound
pub use Rattle.wac_component.specs.Height
pub use Rattle.wac_component.specs.Reach
pub use Rattle.wac_component.specs.Open
pub use Rattle.wac_component.specs.Unfolding
pub use Rattle.wac_component.specs.Tree
pub use Rattle.wac_component.specs.Aliases
pub use Rattle.wac_component.specs.Growth
pub use Rattle.wac_component.specs.Adding
pub use Rattle.wac_component.specs.Replacing
pub use Rattle.wac_component.specs.Borrow
pub use Rattle.wac_component.specs.Visits
pub use Rattle.wac_component.specs.Implicit
pub use Rattle.wac_component.specs.Texts
pub use Rattle.wac_component.specs.Laws as CollectionLaws
-- checks
pub use Rattle.wac_mismatch.specs.Place
pub use Rattle.wac_mismatch.specs.Part
pub use Rattle.wac_mismatch.specs.Path
pub use Rattle.wac_mismatch.specs.Steps
pub use Rattle.wac_mismatch.specs.Holds
pub use Rattle.wac_mismatch.specs.Error
pub use Rattle.wac_mismatch.specs.FrameText
pub use Rattle.wac_mismatch.specs.FaultText
pub use Rattle.wac_mismatch.specs.Laws as MismatchLaws
pub use Rattle.wac_checker.specs.Cache
pub use Rattle.wac_checker.specs.Checker
pub use Rattle.wac_checker_parts.specs.Externs
-- meets and joins
pub use Rattle.wac_merge.specs.Built
pub use Rattle.wac_merge.specs.Bounded
pub use Rattle.wac_merge.specs.Items as EntryItems
-- names
pub use Rattle.wac_names.specs.Track
pub use Rattle.wac_names.specs.Reading
pub use Rattle.wac_names.specs.Class
pub use Rattle.wac_names.specs.ClassLaws
pub use Rattle.wac_names.specs.Interner
pub use Rattle.wac_names.specs.InternerLaws
pub use Rattle.wac_names.specs.NameMap
pub use Rattle.wac_names.specs.Pairs
pub use Rattle.wac_names.specs.Placing
pub use Rattle.wac_names.specs.Lends
pub use Rattle.wac_names.specs.NameErrorText
pub use Rattle.wac_interners.specs.Places as InternedPlaces
pub use Rattle.wac_interners.specs.PlaceLaws as InternedPlaceLaws
-- lists of calls
pub use Rattle.wac_aggregator_promises.specs.Call
pub use Rattle.wac_aggregator_promises.specs.Entries as CalledEntries
pub use Rattle.wac_aggregator_promises.specs.OpenReach
pub use Rattle.wac_aggregator_promises.specs.TreeSets
pub use Rattle.wac_aggregator_promises.specs.Due
pub use Rattle.wac_aggregator_promises.specs.PlainList
pub use Rattle.wac_aggregator_promises.specs.WitList
pub use Rattle.wac_aggregator_promises.specs.Compatible
pub use Rattle.wac_aggregator_promises.specs.Answer
pub use Rattle.wac_aggregator_promises.specs.Aggregated
pub use Rattle.wac_aggregator_promises.specs.Holding
pub use Rattle.wac_aggregator_promises.specs.Imported
pub use Rattle.wac_aggregator_promises.specs.Attempt
pub use Rattle.wac_aggregator_promises.specs.Reason
pub use Rattle.wac_aggregator_promises.specs.Case
pub use Rattle.wac_aggregator_promises.specs.Clash
pub use Rattle.wac_aggregator_promises.specs.Leaves
pub use Rattle.wac_aggregator_promises.specs.Shared
pub use Rattle.wac_aggregator_promises.specs.TakingIn
pub use Rattle.wac_aggregator_promises.specs.PlainRun
pub use Rattle.wac_aggregator_promises.specs.WitRun
pub use Rattle.wac_aggregator_promises.specs.WitReason
pub use Rattle.wac_aggregator_promises.specs.Laws as ListLaws
-- what an aggregator remembers, shows, and refuses
pub use Rattle.wac_aggregator_narrowing.specs.State
pub use Rattle.wac_aggregator_narrowing.specs.Remembers
pub use Rattle.wac_aggregator_narrowing.specs.Standing
pub use Rattle.wac_aggregator_narrowing.specs.Identified
pub use Rattle.wac_aggregator_narrowing.specs.Apart
pub use Rattle.wac_aggregator_narrowing.specs.Imports
pub use Rattle.wac_aggregator_narrowing.specs.Narrows
pub use Rattle.wac_aggregator_narrowing.specs.Taking
pub use Rattle.wac_aggregator_narrowing.specs.Traced
pub use Rattle.wac_aggregator_narrowing.specs.Laws as NarrowingLaws
pub use Rattle.wac_aggregator_imports.specs.Import
pub use Rattle.wac_aggregator_imports.specs.Left
pub use Rattle.wac_aggregator_imports.specs.Places
pub use Rattle.wac_aggregator_errors.specs.Texts as RefusalTexts
pub use Rattle.wac_aggregator_errors.specs.Said
pub use Rattle.wac_aggregator_taking.specs.Refused
pub use Rattle.wac_aggregator_taking.specs.Takes
pub use Rattle.wac_aggregator.specs.Content as Aggregator
pub use Rattle.wac_aggregator.specs.HandedIn
pub use Rattle.wac_aggregator.specs.After
-- packages
pub use Rattle.wac_package.specs.Key as PackageKey
pub use Rattle.wac_package.specs.KeyLaws
pub use Rattle.wac_package.specs.Package
pub use Rattle.wac_package.specs.Definitions
pub use Rattle.wac_package.specs.InterfaceName
-- targets
pub use Rattle.wac_targets.specs.Report
pub use Rattle.wac_targets.specs.Parts as ReportParts
pub use Rattle.wac_targets.specs.Noting
pub use Rattle.wac_targets.specs.Wanted
