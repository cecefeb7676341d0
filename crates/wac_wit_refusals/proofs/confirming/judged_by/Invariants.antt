use Rattle.std.specs.Prelude.{◌≡◌, IfSome}
use Rattle.wac_wit_scopes.specs.WitSources.{WitSources, sources_of}
use Rattle.wac_wit_refusals.specs.Judged.{AreJudged}
use Rattle.wac_wit_refusals_sites.specs.Judging.{Judges}
use Rattle.wac_wit_refusals.specs.Kept.{AreKeptRefusals}
use Rattle.wac_wit_refusals.proofs.confirming.judged_by.Given as goal

abbrev pub invariant-loop-refused : goal.invariant-loop-refused
invariant-loop-refused l = ((of : WitSources) → of ≡ sources_of l.sources.files.now l.sources.documents.now l.sources.features → IfSome l.judge (Judges of) → AreJudged of l.kept.items) × AreKeptRefusals l.yielded l.kept.items
