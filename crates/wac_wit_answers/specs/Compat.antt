-- Whether new texts serve whoever was built against old ones.
use Rattle.std.specs.Prelude.{◌↔◌, All, IsTrue, List}
use Rattle.wac_wit_answers.specs.declared.answer.Answer.{Answer}
use Rattle.wac_wit_changes.specs.Comparing.{KeepsPromise}
use Rattle.wac_wit_changes.specs.Texts.{ComparesTexts}
use Rattle.wac_wit_changes.specs.declared.texts.ComparedTexts.{ComparedTexts}
use Rattle.wac_wit_names.specs.declared.features.Features.{Features}
use Rattle.wac_wit_names.specs.declared.sources.SourceFile.{SourceFile}

-- the texts were compared, and the answer is a yes exactly where each old package keeps what its versions promise
pub record IsCompatAnswer (old new : List SourceFile) (features : Features) (a : Answer) : Type 0 where
  pub compared : ComparedTexts
  pub compares : ComparesTexts old new features compared
  pub yes : IsTrue a.is_yes ↔ All KeepsPromise compared.reports.items
