-- What is answered about texts that were compared.
use Rattle.std.proofs.Common.{◌↔◌, All, IfOk, IsTrue, List, Result, Ok, Err}
use Rattle.wac_wit_answers.specs.Compat.{IsCompatAnswer}
use Rattle.wac_wit_answers.specs.declared.answer.Answer.{Answer}
use Rattle.wac_wit_changes.specs.Comparing.{KeepsPromise}
use Rattle.wac_wit_changes.specs.Texts.{ComparesTexts}
use Rattle.wac_wit_changes.specs.declared.texts.ComparedTexts.{ComparedTexts}
use Rattle.wac_wit_names.specs.declared.features.Features.{Features}
use Rattle.wac_wit_names.specs.declared.sources.SourceFile.{SourceFile}

pub compat_answered : {E : Type 0} (old new : List SourceFile) (features : Features) (t : ComparedTexts) (r : Result Answer E)
    → ComparesTexts old new features t → IfOk r (λ a. IsTrue a.is_yes ↔ All KeepsPromise t.reports.items) → IfOk r (IsCompatAnswer old new features)
compat_answered old new features t (Ok a) compares kept = record { compared = t; compares = compares; yes = kept }
compat_answered old new features t (Err e) compares kept = tt
