use Rattle.wac_component.specs.Content.{interface_content, named, use_content}
use Rattle.wac_merge.specs.Items.{extern_list}
use Rattle.wac_merge.proofs.ReadLemmas.{interface_stands, interface_made}
use Rattle.wac_merge.proofs.entries.add_interface_of.Goals as goal

pub add_interface-requires : goal.add_interface-requires
add_interface-requires c =
    interface_stands c.args.types.now (named use_content c.in_ok-uses.uses.entries) (extern_list c.args.exports) (interface_content c.index.result.now) (interface_content c.index-2.result.now)
    c.in_ok-uses.ensures c.index.ensures.standing c.index-2.ensures.standing c.requires.exports

pub returns-clause-made : goal.returns-clause-made
returns-clause-made c =
    interface_made c.add_interface.result c.args.types.now c.add_interface.new.self c.args.first c.args.second (named use_content c.in_ok-uses.uses.entries) (extern_list c.args.exports) (interface_content c.index.result.now) (interface_content c.index-2.result.now)
    c.in_ok-uses.ensures c.index.ensures.entry c.index-2.ensures.entry c.add_interface.ensures.added c.add_interface.ensures.id c.add_interface.ensures.stands c.add_interface.ensures.tree
