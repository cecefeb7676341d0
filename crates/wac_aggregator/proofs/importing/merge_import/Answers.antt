use Rattle.std.proofs.Common.{◌≡◌, Some, subst}
use Rattle.std.specs.Option.{option_map}
use Rattle.wac_aggregator_imports.specs.Import.{ImportContent, import_of}
use Rattle.wac_aggregator_promises.specs.Call.{Call}
use Rattle.wac_aggregator.proofs.Refusing.{cases_refused}
use Rattle.wac_aggregator.proofs.Members.{member_apart}
use Rattle.wac_aggregator.specs.HandedIn.{called}
use Rattle.wac_aggregator.proofs.importing.merge_import.Goals as goal

pub check_case-requires-clause-existing : goal.check_case-requires-clause-existing
check_case-requires-clause-existing c =
    let found = subst (λ q. option_map (λ (i : ImportContent). i.1) (import_of c.args.state.now.imports q) ≡ Some c.args.existing) c.requires.of c.requires.found in
    c.requires.state.kept.imports c.args.call.now.name.now c.args.existing found

pub returns-in-Err-clause-advances : goal.returns-in-Err-clause-advances
returns-in-Err-clause-advances c =
    let call : Call = called c.args.call.now in
    let found = subst (λ q. option_map (λ (i : ImportContent). i.1) (import_of c.args.state.now.imports q) ≡ Some c.args.existing) c.requires.of c.requires.found in
    cases_refused call c.args.state.now c.args.existing found c.in-Err.error c.in-Err.ensures.cases c.in-Err.ensures.says

pub returns-in-Err-clause-members : goal.returns-in-Err-clause-members
returns-in-Err-clause-members c = λ i hand taken wit has all. member_apart c.args.call.now.types.now _ taken c.in-Err.error _ c.in-Err.ensures.says (λ merging. merging)
