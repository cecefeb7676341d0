use Rattle.std.proofs.Common.{List, subst}
use Rattle.wac_wit_answers.proofs.CompatLemmas.{compat_answered}
use Rattle.wac_wit_answers.proofs.comparing.compat.Goals as goal
use Rattle.wac_wit_changes.specs.Texts.{ComparesTexts}
use Rattle.wac_wit_names.specs.declared.sources.SourceFile.{SourceFile}

pub returns-in-Ok : goal.returns-in-Ok
returns-in-Ok c =
    let features = c.args.options.now.features in
    compat_answered c.args.old.files.items c.args.new.files.items features c.in-Ok.compared c.answer_of.result
    (subst (λ (fs : List SourceFile). ComparesTexts fs c.args.new.files.items features c.in-Ok.compared) c.deref.ensures.value
    (subst (λ (fs : List SourceFile). ComparesTexts c.deref.result.now fs features c.in-Ok.compared) c.deref-2.ensures.value c.in-Ok.ensures.compared))
    c.answer_of.ensures
