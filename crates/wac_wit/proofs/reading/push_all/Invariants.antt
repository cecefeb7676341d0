-- What isn't taken yet is refused too.
use Rattle.std.specs.Prelude.{List}
use Rattle.wac_wit_names.specs.declared.features.Features.{Features}
use Rattle.wac_wit_names.specs.declared.sources.SourceFile.{SourceFile}
use Rattle.wac_wit_refusals.specs.Reasons.{AllRefusedFor}
use Rattle.wac_wit.specs.Reading.{AreMisread}
use Rattle.wac_wit.proofs.reading.push_all.Given as goal

abbrev pub invariant-loop-refusal : goal.invariant-loop-refusal
invariant-loop-refusal l = (files : List SourceFile) (features : Features) → AreMisread files l.file l.fn.misread.items → AllRefusedFor files features l.initial.refusals.items
    → AreMisread files l.file l.refusal-iterator.rest.items × AllRefusedFor files features l.refusals.items
