use Rattle.wac_component.specs.Content.{named}
use Rattle.wac_component.specs.Key.{named_keys, optional_keys, value_keys}
use Rattle.wac_component.proofs.Members.{AllStand-left, AllStand-right}
use Rattle.wac_item_text.proofs.Keys.{param_keys, result_keys}
use Rattle.wac_item_text.proofs.values.begin_func.Goals as goal

pub push_fields-requires-clause-fields : goal.push_fields-requires-clause-fields
push_fields-requires-clause-fields c = rw (← param_keys c.args.func.now.params.entries) (AllStand-left c.args.types.now (named_keys value_keys (named (λ v. v) c.args.func.now.params.entries)) (optional_keys value_keys c.args.func.now.«result») c.requires.func)

pub push_result-requires-clause-ty : goal.push_result-requires-clause-ty
push_result-requires-clause-ty c = rw (result_keys c.args.func.now.«result») (AllStand-right c.args.types.now (named_keys value_keys (named (λ v. v) c.args.func.now.params.entries)) (optional_keys value_keys c.args.func.now.«result») c.requires.func)
