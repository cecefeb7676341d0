use Rattle.std.proofs.Common.{rules, ap, ◌∙◌}
use Rattle.std.proofs.lemmas.Map.Made.{map_same_pairs}
use Rattle.wac_component.specs.Content.{named}
use Rattle.wac_aggregator_memo.specs.Memo.{memo_of}
use Rattle.wac_aggregator_memo.specs.Renamed.{renamed_item}
use Rattle.wac_aggregator_memo.proofs.RenamedLemmas.{named-with}
use Rattle.wac_aggregator_memo.proofs.memo.Memo.rename_items.Goals as goal

pub returns : goal.returns
returns c = ap (named (λ k. k)) (map_same_pairs _ (renamed_item (memo_of c.args.self.now)) _ (λ k v b w f' t. search rules) c.args.items.now.entries c.retain.new.self.entries c.retain.ensures.filtered) ∙ named-with (renamed_item (memo_of c.args.self.now)) c.args.items.now.entries
