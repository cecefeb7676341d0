use Rattle.std.proofs.Common.{map}
use Rattle.wac_component.specs.Naming.{key_of}
use Rattle.wac_aggregator_copies.proofs.CopyLemmas.{HasCopies-ordered}
use Rattle.wac_aggregator_copies.proofs.copies.copy_ids.Goals as goal

pub copy_each-requires : goal.copy_each-requires
copy_each-requires c = record { state = c.requires.state; order = (map key_of c.args.ids.now, c.in_ok-order.ensures) }

pub returns : goal.returns
returns c = HasCopies-ordered c.args.types.now c.args.own.now c.copy_each.new.own c.args.copies.now c.copy_each.new.copies (map key_of c.args.ids.now) (map key_of c.in_ok-order.order.keys) c.sound.ensures c.requires.source c.in_ok-order.ensures c.requires.state c.in_ok-copy_each.ensures
