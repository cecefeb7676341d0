use Rattle.wac_component.specs.Content.{interface_content}
use Rattle.wac_aggregator_taking.proofs.Alike.{led_to_export}
use Rattle.wac_aggregator_taking.proofs.near.near_export.Goals as goal

pub returns : goal.returns
returns c = led_to_export c.args.own.now c.args.near c.in_ok-near.near (interface_content c.index.result.now) _ c.in_ok-near.was c.index.ensures.entry c.extern_named.result c.extern_named.ensures
