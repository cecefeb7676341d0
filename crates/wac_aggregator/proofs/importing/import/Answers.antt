use Rattle.std.proofs.Common.{sym, ◌∙◌}
use Rattle.wac_aggregator_imports.specs.Import.{import_of}
use Rattle.wac_aggregator.proofs.Calls.{import_none}
use Rattle.wac_aggregator.proofs.importing.import.Goals as goal

pub merge_import-requires-clause-found : goal.merge_import-requires-clause-found
merge_import-requires-clause-found c = sym c.kind_of.ensures ∙ c.in-Some.is

pub add_import-requires-clause-new : goal.add_import-requires-clause-new
add_import-requires-clause-new c = import_none (import_of c.args.state.now.imports c.args.class) (sym c.kind_of.ensures ∙ c.in-None.is)
