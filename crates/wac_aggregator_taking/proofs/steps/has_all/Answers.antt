use Rattle.std.proofs.Common.{◌≡◌, ◌≤◌, ◌+◌, ◌++◌, [], ◌∷◌, length, map, take, subst, sym, ◌∙◌, add-one, arith}
use Rattle.std.proofs.lemmas.List.{length-map, take_all}
use Rattle.wac_aggregator_memo.specs.EntryOrder.{HasOwn}
use Rattle.wac_component.specs.Key.{Each}
use Rattle.wac_aggregator_memo.specs.Memo.{memo_of}
use Rattle.wac_component.specs.Naming.{key_of}
use Rattle.wac_component.proofs.Keys.{Each-append}
use Rattle.wac_component.proofs.PartLemmas.{map_at}
use Rattle.wac_component.proofs.Reached.{take_next}
use Rattle.wac_aggregator_taking.proofs.StepAnswers.{read_at}
use Rattle.wac_aggregator_taking.proofs.steps.has_all.Goals as goal

pub loop-i-preserved : goal.loop-i-preserved
loop-i-preserved c =
    let ks = map key_of c.args.ids.now in
    let i = c.loop-i.i in
    let k = key_of c.index-ids-i.result in
    let at = map_at key_of c.args.ids.now i c.index-ids-i.result (read_at c.args.ids.now i c.index-ids-i.result c.loop-i-test.true c.index-ids-i.is) in
    let more : take (i + 1) ks ≡ take i ks ++ k ∷ [] = rw add-one (take_next ks i k at) in
    let P = HasOwn (memo_of c.args.taken.now) in
    subst (Each P) (sym more) (Each-append P (take i ks) (k ∷ []) c.loop-i.invariant (sym c.has.ensures ∙ c.if-not-has.false, tt))

pub returns : goal.returns
returns c = λ yes.
    let ks = map key_of c.args.ids.now in
    let all : length ks ≤ c.loop-i.i = omega (arith, length-map c.args.ids.now key_of, c.loop-i-test.false) in
    subst (Each (HasOwn (memo_of c.args.taken.now))) (take_all c.loop-i.i ks all) c.loop-i.invariant
