use Rattle.std.proofs.Common.{◌≡◌, [], ap}
use Rattle.std.proofs.lemmas.Result.{MatchResult-weaker}
use Rattle.std.specs.Option.{option_map_or}
use Rattle.wac_component.specs.Entries.{entry_uses, uses_at}
use Rattle.wac_component.specs.Key.{interface_key}
use Rattle.wac_component.proofs.Reading.{interface_at}
use Rattle.wac_aggregator_uses.proofs.UseLemmas.{uses_agree, uses_refusal}
use Rattle.wac_component.specs.Content.{interface_content}
use Rattle.wac_component.proofs.Members.{uses_stand}
use Rattle.wac_aggregator_uses.proofs.uses.check_interfaces.Goals as goal

pub check_uses-requires : goal.check_uses-requires
check_uses-requires c = record {
  existing = uses_stand c.args.types.now (interface_content c.index.result.now) c.index.ensures.standing;
  new = uses_stand c.args.types.now (interface_content c.index-2.result.now) c.index-2.ensures.standing;
}

pub returns : goal.returns
returns c =
    let k = interface_key c.args.existing in
    let j = interface_key c.args.new in
    let us = (interface_content c.index.result.now).uses in
    let vs = (interface_content c.index-2.result.now).uses in
    let at_k : uses_at c.args.types.now k ≡ us = ap (λ o. option_map_or entry_uses o []) (interface_at c.args.types.now c.args.existing (interface_content c.index.result.now) c.index.ensures.entry) in
    let at_j : uses_at c.args.types.now j ≡ vs = ap (λ o. option_map_or entry_uses o []) (interface_at c.args.types.now c.args.new (interface_content c.index-2.result.now) c.index-2.ensures.entry) in
    MatchResult-weaker c.check_uses.result c.check_uses.ensures (λ u. uses_agree c.args.types.now k j us vs at_k at_j) (λ e. uses_refusal c.args.types.now k j us vs e at_k at_j)
