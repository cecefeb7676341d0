use Rattle.std.proofs.Common.{◌∙◌, [], ◌∷◌, ◌++◌, refl, subst, sym}
use Rattle.std.proofs.lemmas.Iterator.Adapters.{YieldsList-from_vec}
use Rattle.std.proofs.lemmas.Iterator.Consumers.{YieldsList-end}
use Rattle.wac_wit_names.specs.declared.error.WitRefusal.{WitRefusal}
use Rattle.wac_wit_refusals.specs.Judged.{IsJudged}
use Rattle.wac_wit_refusals.specs.Kept.{AreKeptRefusals, none_kept}
use Rattle.wac_wit_refusals.proofs.KeptFacts.{all_kept, kept_pushed}
use Rattle.wac_wit_refusals_sites.proofs.Pushed.{each_none, each_pushed}
use Rattle.wac_wit_refusals.proofs.confirming.judged_by.Goals as goal

pub loop-refused-init : goal.loop-refused-init
loop-refused-init c = ((λ of is judges. each_none (IsJudged of) c.new-kept.result.items c.new-kept.ensures.items), subst (AreKeptRefusals []) (sym c.new-kept.ensures.items) none_kept)

pub loop-refused-preserved : goal.loop-refused-preserved
loop-refused-preserved c =
    let refused = c.in-Some.refused in
    let kept : WitRefusal = record { file = refused.file; refusal = refused.refusal; reason = c.in_ok-reason.reason } in (
      (λ of is judges. each_pushed (IsJudged of) c.loop-refused.kept.items c.push.new.self.items kept c.in_ok-push.ensures.items (c.loop-refused.invariant.0 of is judges) (c.in_ok-reason.ensures.holds of is judges)),
      subst (AreKeptRefusals (c.loop-refused.yielded ++ refused ∷ [])) (sym c.in_ok-push.ensures.items)
          (kept_pushed c.loop-refused.yielded c.loop-refused.kept.items refused kept c.loop-refused.invariant.1 (record { file = refl; refusal = refl; reason = c.in_ok-reason.ensures.keeps })),
    )

pub returns-clause-holds : goal.returns-clause-holds
returns-clause-holds c = c.loop-refused.invariant.0

pub returns-clause-keeps : goal.returns-clause-keeps
returns-clause-keeps c =
    let gives = c.into_iter-refused-iterator.ensures.into_iter_gives in
    let all = YieldsList-from_vec c.args.refusals.items gives.0 (gives.1 ∙ c.args.refusals.ok.0) in
    all_kept c.args.refusals.items c.loop-refused.yielded _ (YieldsList-end all c.loop-refused.yielded c.loop-refused.refused-iterator c.loop-refused.yielded_by c.next.result c.next.new.self c.in-None.is c.next.ensures.steps).0 c.loop-refused.invariant.1
