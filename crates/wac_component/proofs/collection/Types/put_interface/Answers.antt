use Rattle.std.proofs.Common.{refl}
use Rattle.std.proofs.lemmas.List.{map-set}
use Rattle.wac_component.specs.Content.{interface_content}
use Rattle.wac_component.specs.Key.{interface_entry}
use Rattle.wac_component.specs.View.{collection_of}
use Rattle.wac_component.proofs.ReplacedTrees.{can_put, sound}
use Rattle.wac_component.proofs.collection.Types.put_interface.Goals as goal

pub invariant_of-self : goal.invariant_of-self
invariant_of-self c = record { sound = rw (c.index.ensures, map-set interface_content) (sound (collection_of c.self.inside) c.args.id (interface_entry (interface_content c.args.interface)) (can_put (collection_of c.self.inside) c.args.self.now c.args.id (interface_entry (interface_content c.args.interface)) c.self.view_is c.self.invariant.sound c.requires.id c.requires.named c.requires.acyclic)); valid = c.self.invariant.valid }

pub returns : goal.returns
returns c = rw (c.index.ensures, map-set interface_content, ← c.self.view_is) refl
