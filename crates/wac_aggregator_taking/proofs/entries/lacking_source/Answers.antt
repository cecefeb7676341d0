use Rattle.std.proofs.Common.{◌≡◌, None, Some, refl, sym, subst, ◌∙◌}
use Rattle.wac_component.specs.Collection.{AliasContent}
use Rattle.wac_component.specs.Content.{alias_content}
use Rattle.wac_aggregator_memo.specs.EntryOrder.{HasOwn}
use Rattle.wac_component.specs.Key.{resource_key}
use Rattle.wac_aggregator_memo.specs.Memo.{memo_of}
use Rattle.wac_aggregator_taking.proofs.StepAnswers.{noted_by}
use Rattle.wac_aggregator_taking.proofs.entries.lacking_source.Goals as goal

pub returns-in_default : goal.returns-in_default
returns-in_default c = λ x is. absurd (let no : None ≡ Some x = c.in_default.ensures ∙ is in cc)

pub returns-then-is_some : goal.returns-then-is_some
returns-then-is_some c = λ x is.
    let both : Some (alias_content c.in-Some.alias) ≡ Some x = c.in-Some.ensures ∙ is in
    let same : alias_content c.in-Some.alias ≡ x = cc in
    subst (λ (y : AliasContent). HasOwn (memo_of c.args.taken.now) (resource_key y.source)) same
    (noted_by resource_key c.resource.result (memo_of c.args.taken.now (resource_key c.in-Some.alias.source)) c.resource.ensures (sym c.is_some.ensures ∙ c.if-is_some.true))

pub returns : goal.returns
returns c = (alias_content c.in-Some.alias, sym c.in-Some.ensures, refl)
