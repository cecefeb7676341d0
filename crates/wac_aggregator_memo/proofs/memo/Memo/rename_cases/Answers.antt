use Rattle.std.proofs.Common.{rules}
use Rattle.std.proofs.lemmas.Map.Made.{map_same_pairs}
use Rattle.wac_aggregator_memo.proofs.memo.Memo.rename_cases.Goals as goal

pub returns : goal.returns
returns c = map_same_pairs _ _ _ (λ k v b w f' t. search rules) c.args.cases.now.entries c.retain.new.self.entries c.retain.ensures.filtered
