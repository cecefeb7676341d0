-- One call after another: what is remembered stays true, and what was served stays so.
use Rattle.std.proofs.Common.{◌≡◌, ◌<◌, ◌+◌, ℕ, inl, inr, List, [], ◌∷◌, ◌++◌, Some, Contains, take, length, slice_get, slice_index_or, ap, sym, subst, arith, add-one, ◌∙◌}
use Rattle.std.proofs.Math.Seq.{take-suc}
use Rattle.std.proofs.lemmas.List.{length-map, take_all}
use Rattle.std.proofs.lemmas.List.Elements.{Contains-get_or, Contains-push_cases}
use Rattle.std.proofs.lemmas.Option.{slice_get-map, slice_get_within, slice_get-get_or, get_or_from_slice_get}
use Rattle.std.specs.Option.{option_map}
use Rattle.wac_types.specs.Aggregated.{Aggregated, LeadsBelow, IsCallStep}
use Rattle.wac_types.specs.Aggregator.{shown}
use Rattle.wac_types.specs.Call.{Call, call_tree}
use Rattle.wac_types.specs.HandedIn.{called, handed_in}
use Rattle.wac_types.specs.Tree.{item_tree}
use Rattle.wac_types.specs.TreeLaws.{IsTransitive}
use Rattle.wac_types.specs.declared.Call.{Call as Handed}
use Rattle.wac_callers.proofs.merging.merge_each.Goals as goal

-- the call at an index
called_at : (calls : List Handed) (i : ℕ) (x : Handed) → i < length calls → x ≡ slice_index_or calls i x → slice_get (handed_in calls) i ≡ Some (called x)
called_at calls i x within is = slice_get-map called calls i ∙ ap (option_map called) (slice_get-get_or calls i x within ∙ ap (λ y. Some y) (sym is))

among : (calls : List Call) (i : ℕ) (x : Call) → slice_get calls i ≡ Some x → Contains calls x
among calls i x at = subst (Contains calls) (get_or_from_slice_get calls i x x at) (Contains-get_or calls i x (slice_get_within calls i x at))

-- what served the calls before serves them after one more, and that one too
one_more : IsTransitive → (a b : Aggregated) (calls : List Call) (i : ℕ) (x : Call) → slice_get calls i ≡ Some x → IsCallStep a b x
    → ((c : Call) → Contains (take i calls) c → LeadsBelow a c.name (call_tree c)) → (c : Call) → Contains (take (i + 1) calls) c → LeadsBelow b c.name (call_tree c)
one_more transitive a b calls i x at step before c m =
    let next : take (i + 1) calls ≡ take i calls ++ x ∷ [] = rw add-one (take-suc calls i x (slice_get_within calls i x at) ∙ ap (λ y. take i calls ++ y ∷ []) (get_or_from_slice_get calls i x x at)) in
    elim (Contains-push_cases (take i calls) x c (subst (λ cs. Contains cs c) next m)) [
      | inl old ↦
          let was = before c old in
          let now = step.kept c.name was.import was.is_import in
          record { import = now.import; is_import = now.is_import; fits = transitive (item_tree b.types now.import) (item_tree a.types was.import) (call_tree c) now.fits was.fits }
      | inr same ↦ subst (λ d. LeadsBelow b d.name (call_tree d)) same step.served
    ]

pub loop-call-init : goal.loop-call-init
loop-call-init c = record {
  number = c.new-merged.ensures.number;
  truly = λ d m. c.new-merged.ensures.remembers_nothing d.types;
  served = λ d m. let no : m.0 < 0 = m.1 in absurd (omega arith);
}

pub aggregate-requires-clause-source : goal.aggregate-requires-clause-source
aggregate-requires-clause-source c =
    let at = called_at c.args.calls.now c.loop-call.call-index c.call-item.result c.loop-call-test.true c.call-item.is in
    c.requires.source (called c.call-item.result) (among (handed_in c.args.calls.now) c.loop-call.call-index (called c.call-item.result) at)

pub aggregate-requires-clause-apart : goal.aggregate-requires-clause-apart
aggregate-requires-clause-apart c = λ same.
    let at = called_at c.args.calls.now c.loop-call.call-index c.call-item.result c.loop-call-test.true c.call-item.is in
    c.requires.apart (called c.call-item.result) (among (handed_in c.args.calls.now) c.loop-call.call-index (called c.call-item.result) at) (same ∙ c.loop-call.invariant.number)

pub aggregate-requires-clause-remembered : goal.aggregate-requires-clause-remembered
aggregate-requires-clause-remembered c =
    let at = called_at c.args.calls.now c.loop-call.call-index c.call-item.result c.loop-call-test.true c.call-item.is in
    c.loop-call.invariant.truly (called c.call-item.result) (among (handed_in c.args.calls.now) c.loop-call.call-index (called c.call-item.result) at)

pub loop-call-preserved : goal.loop-call-preserved
loop-call-preserved c =
    let calls = handed_in c.args.calls.now in
    let call = called c.call-item.result in
    let at = called_at c.args.calls.now c.loop-call.call-index c.call-item.result c.loop-call-test.true c.call-item.is in
    record {
      number = c.in_ok-merged.ensures.number ∙ c.loop-call.invariant.number;
      truly = λ d m. c.in_ok-merged.ensures.truly d.types (λ same. c.requires.one d call m (among calls c.loop-call.call-index call at) same) (c.loop-call.invariant.truly d m);
      served = one_more c.order_is_transitive.ensures (shown c.loop-call.merged) (shown c.in_ok-merged.merged) calls c.loop-call.call-index call at c.in_ok-merged.ensures.step c.loop-call.invariant.served;
    }

pub returns : goal.returns
returns c = λ d m. c.loop-call.invariant.served d (subst (λ cs. Contains cs d) (sym (take_all c.loop-call.call-index (handed_in c.args.calls.now) (simp length-map (omega arith)))) m)
