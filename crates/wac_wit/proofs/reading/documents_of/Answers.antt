-- Nothing was refused before the files were looked at.
use Rattle.std.proofs.Common.{◌≡◌, [], List, ap, arith, length}
use Rattle.wac_wit_names.specs.declared.error.WitRefusal.{WitRefusal}
use Rattle.wac_wit_names.specs.declared.features.Features.{Features}
use Rattle.wac_wit_names.specs.declared.sources.SourceFile.{SourceFile}
use Rattle.wac_wit_refusals.specs.Reasons.{AllRefusedFor}
use Rattle.wac_wit.proofs.reading.documents_of.Goals as goal

none_refused : (files : List SourceFile) (features : Features) (rs : List WitRefusal) → rs ≡ [] → AllRefusedFor files features rs
none_refused files features rs none = λ r among. absurd (omega (arith, among.1, ap length none))

pub returns-in-Ok-None-clause-refused : goal.returns-in-Ok-None-clause-refused
returns-in-Ok-None-clause-refused c = λ features.
    c.told.ensures.refused features (c.in-Ok-None.ensures.refused features (none_refused c.args.files.now features c.new-refusals.result.items c.new-refusals.ensures.items))
