use Rattle.std.proofs.Common.{◌≡◌, ◌<◌, Some, length, slice_get, slice_set, refl, sym, ap, ◌∙◌, arith}
use Rattle.std.proofs.lemmas.Option.{slice_get_read}
use Rattle.wac_aggregator_memo.specs.Memo.{memo_of}
use Rattle.wac_aggregator_memo.specs.Renamed.{renamed_value}
use Rattle.wac_component.proofs.Firsts.{firsts_at, firsts_length, firsts_next, firsts_all}
use Rattle.wac_aggregator_memo.proofs.memo.Memo.rename_values.Goals as goal

pub loop-i-preserved : goal.loop-i-preserved
loop-i-preserved c =
    let h = renamed_value (memo_of c.args.self.now) in
    let count : length c.loop-i.types.items ≡ length c.args.types.now.items = ap length c.loop-i.invariant ∙ firsts_length h c.loop-i.i c.args.types.now.items in
    let within : c.loop-i.i < length c.loop-i.types.items = omega arith in
    let at : slice_get c.loop-i.types.items c.loop-i.i ≡ Some c.index.result.now = slice_get_read c.loop-i.types.items (length c.loop-i.types.items) c.loop-i.i c.index.result.now refl within c.index.ensures in
    let was : slice_get c.args.types.now.items c.loop-i.i ≡ Some c.index.result.now = sym (firsts_at h c.loop-i.i c.args.types.now.items) ∙ ap (λ xs. slice_get xs c.loop-i.i) (sym c.loop-i.invariant) ∙ at in
    ap (λ xs. slice_set xs c.loop-i.i c.renamed_value.result) c.loop-i.invariant
    ∙ ap (slice_set _ c.loop-i.i) c.renamed_value.ensures
    ∙ firsts_next h c.loop-i.i c.args.types.now.items c.index.result.now was

pub returns : goal.returns
returns c = c.loop-i.invariant ∙ firsts_all (renamed_value (memo_of c.args.self.now)) c.loop-i.i c.args.types.now.items (omega arith)
