use Rattle.std.proofs.Common.{◌∙◌, ap}
use Rattle.wac_component.specs.Content.{interface_content}
use Rattle.wac_component.specs.Implicit.{instances}
use Rattle.wac_component.specs.declared.items.ItemKind.TheVariants.{Instance}
use Rattle.wac_component.proofs.ImplicitLemmas.{identifier-entry, instances-insert, insert-stands}
use Rattle.wac_component.proofs.implicit.add_instance.Goals as goal

pub returns-in-Ok-clause-adds : goal.returns-in-Ok-clause-adds
returns-in-Ok-clause-adds c =
    let named = identifier-entry c.args.types.now c.args.id (interface_content c.index.result.now) c.index.ensures.entry in
    (c.as_str.result.now, cc (named), ap instances c.in-Ok.ensures.entries ∙ instances-insert c.args.interfaces.now.entries c.as_str.result (Instance c.args.id))

pub returns-in-Ok-clause-items : goal.returns-in-Ok-clause-items
returns-in-Ok-clause-items c =
    let entries = ap instances c.in-Ok.ensures.entries ∙ instances-insert c.args.interfaces.now.entries c.as_str.result (Instance c.args.id) in
    rw entries (insert-stands c.args.types.now (instances c.args.interfaces.now.entries) c.as_str.result.now (Instance c.args.id) c.requires.items (c.requires.standing, tt))
