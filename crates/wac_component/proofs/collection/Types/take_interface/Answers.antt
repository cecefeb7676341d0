use Rattle.std.proofs.Common.{◌≡◌, ◌<◌, [], Some, slice_get, length, map, refl, sym, ap, subst, ◌∙◌, arith}
use Rattle.std.proofs.lemmas.List.{length-map, map-set}
use Rattle.std.proofs.lemmas.Option.{slice_get_read}
use Rattle.std.specs.Option.{option_map}
use Rattle.wac_component.specs.Content.{interface_content}
use Rattle.wac_component.specs.Key.{Stands, interface_key, interface_entry}
use Rattle.wac_component.specs.TakenOut.{no_content}
use Rattle.wac_component.specs.View.{collection_of}
use Rattle.wac_component.proofs.Lists.{slice_get-map}
use Rattle.wac_component.proofs.ReplacedTrees.{can_put, sound}
use Rattle.wac_component.proofs.TakenOut.{reach_nothing}
use Rattle.wac_component.proofs.collection.Types.take_interface.Goals as goal

pub invariant_of-self : goal.invariant_of-self
invariant_of-self c =
    let left : interface_content c.replace.new.dest ≡ no_content = rw c.replace.ensures.after c.new-empty.ensures in
    record { sound = rw (c.index.ensures, map-set interface_content, left) (sound (collection_of c.self.inside) c.args.id (interface_entry no_content) (can_put (collection_of c.self.inside) c.args.self.now c.args.id (interface_entry no_content) c.self.view_is c.self.invariant.sound c.requires tt (reach_nothing c.args.self.now (interface_key c.args.id)))); valid = c.self.invariant.valid }

pub returns-clause-content : goal.returns-clause-content
returns-clause-content c =
    let st : Stands (collection_of c.self.inside) (interface_key c.args.id) = subst (λ x. Stands x (interface_key c.args.id)) (sym c.self.view_is) c.requires in
    let low = st.1 in
    let below : c.index.result < length c.self.inside.interfaces.items = omega (arith, low, c.index.ensures, length-map (map interface_content c.self.inside.interfaces.items) interface_entry, length-map c.self.inside.interfaces.items interface_content) in
    let found : slice_get c.self.inside.interfaces.items c.index.result ≡ Some c.index_mut.result.now = slice_get_read c.self.inside.interfaces.items (length c.self.inside.interfaces.items) c.index.result c.index_mut.result.now refl below c.index_mut.ensures.value in
    rw (← c.self.view_is, ← c.index.ensures, c.replace.ensures.value) (slice_get-map interface_content c.self.inside.interfaces.items c.index.result ∙ ap (option_map interface_content) found)

pub returns-clause-left : goal.returns-clause-left
returns-clause-left c =
    let left : interface_content c.replace.new.dest ≡ no_content = rw c.replace.ensures.after c.new-empty.ensures in
    rw (c.index.ensures, map-set interface_content, left, ← c.self.view_is) refl
