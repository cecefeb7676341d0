use Rattle.std.proofs.Common.{◌≡◌, List, map, ap, subst, ◌∙◌}
use Rattle.std.proofs.lemmas.Result.{IfOk-weaker}
use Rattle.wac_model.specs.Text.{Text}
use Rattle.wac_component.specs.Content.{named}
use Rattle.wac_component.specs.Key.{item_keys, named_keys}
use Rattle.wac_aggregator_memo.specs.Memo.{memo_of}
use Rattle.wac_component.specs.Naming.{key_of}
use Rattle.wac_aggregator_memo.specs.Renamed.{renamed_item, with_values}
use Rattle.wac_component.specs.declared.items.ItemKind.{ItemKind}
use Rattle.wac_aggregator_narrowing.specs.Taking.{AreMapped, IsCopiedItem}
use Rattle.wac_aggregator_copies.specs.Copies.{HasCopies}
use Rattle.wac_aggregator_copies.proofs.CopyLemmas.{Copies-gives}
use Rattle.wac_aggregator_copies.proofs.Renamed.{each_both, items_renamed}
use Rattle.wac_aggregator_copies.proofs.copies.copy_externs.Goals as goal

pub copy_ids-requires : goal.copy_ids-requires
copy_ids-requires c = record { source = rw (c.deref.ensures.value, c.in_ok-ids.ensures) c.requires.source; state = c.requires.state }

pub returns : goal.returns
returns c =
    let f = c.args.types.now in
    let m = c.args.copies.now in
    let n = c.copy_ids.new.copies in
    let xs : List (Text × ItemKind) = named (λ k. k) c.args.externs.now.entries in
    let ks : map key_of c.deref.result.now ≡ named_keys item_keys xs = ap (map key_of) c.deref.ensures.value ∙ c.in_ok-ids.ensures in
    let h : HasCopies f c.args.own.now m c.copy_ids.new.own n (named_keys item_keys xs) = subst (HasCopies f c.args.own.now m c.copy_ids.new.own n) ks c.in_ok-copy_ids.ensures in
    IfOk-weaker c.renamed_items.result _ _
    (λ r made. rw made (Copies-gives f c.args.own.now c.copy_ids.new.own m n (named_keys item_keys xs) (λ t. AreMapped (IsCopiedItem f t) xs (with_values (renamed_item (memo_of n)) xs))
    (λ t is. items_renamed f c.copy_ids.new.own n t is xs (each_both f n (named_keys item_keys xs) c.requires.source h.has)) h.copies))
    c.renamed_items.ensures
