use Rattle.std.proofs.Common.{◌≡◌, ℕ, List, Some, IfOk, subst, string_bytes}
use Rattle.wac_aggregator_imports.specs.Import.{ImportContent, import_of, IsImportNoted}
use Rattle.wac_aggregator.proofs.Calls.{ok_each}
use Rattle.wac_aggregator.proofs.noting.note.Goals as goal

pub returns-clause-noted : goal.returns-clause-noted
returns-clause-noted c =
    let was = c.args.state.now.imports in
    let now = c.note.new.self in
    let noted : (n : List ℕ) → ImportContent → Type 0 = λ n i. IsImportNoted was now c.args.class i.0 n c.args.met in
    subst (λ n. IfOk c.note.result (λ u. (i : ImportContent) → import_of was c.args.class ≡ Some i → noted n i)) c.in_ok-name.ensures.ok
    (ok_each c.note.result (λ (i : ImportContent). import_of was c.args.class ≡ Some i) (noted (string_bytes c.in_ok-name.name)) c.note.ensures)
