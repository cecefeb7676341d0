-- Where no file is refused so far, there are the documents of the files so far.
use Rattle.std.proofs.Common.{◌≡◌, true, take}
use Rattle.wac_wit_names.specs.declared.features.Features.{Features}
use Rattle.wac_wit_refusals.specs.Reasons.{AllRefusedFor}
use Rattle.wac_wit_scopes.specs.Parsed.{AreParsed}
use Rattle.wac_wit.proofs.reading.parsed.Given as goal

abbrev pub invariant-loop-index : goal.invariant-loop-index
invariant-loop-index l = record {
  read : l.is_right ≡ true → AreParsed (take l.index l.files) l.documents.items;
  refused : (features : Features) → AllRefusedFor l.files features l.initial.refusals.items → AllRefusedFor l.files features l.refusals.items;
}
