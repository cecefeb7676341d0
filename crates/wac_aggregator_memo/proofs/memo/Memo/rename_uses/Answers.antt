use Rattle.std.proofs.Common.{rules, ap, ◌∙◌}
use Rattle.std.proofs.lemmas.Map.Made.{map_same_pairs}
use Rattle.wac_component.specs.Content.{named, use_content}
use Rattle.wac_aggregator_memo.specs.Memo.{memo_of}
use Rattle.wac_aggregator_memo.proofs.RenamedLemmas.{uses-with, with_interface}
use Rattle.wac_aggregator_memo.proofs.memo.Memo.rename_uses.Goals as goal

pub returns : goal.returns
returns c = ap (named use_content) (map_same_pairs _ (with_interface (memo_of c.args.self.now)) _ (λ k v b w f' t. search rules) c.args.uses.now.entries c.retain.new.self.entries c.retain.ensures.filtered) ∙ uses-with (memo_of c.args.self.now) c.args.uses.now.entries
