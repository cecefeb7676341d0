use Rattle.std.proofs.Common.{◌≡◌, ◌≤◌, ◌+◌, ◌++◌, [], ◌∷◌, length, map, take, subst, sym, arith, add-one}
use Rattle.std.proofs.lemmas.List.{length-map, take_all}
use Rattle.wac_component.specs.Key.{Stands, next}
use Rattle.wac_component.specs.Naming.{key_of}
use Rattle.wac_component.proofs.PartLemmas.{map_at}
use Rattle.wac_component.proofs.Among.{among_each}
use Rattle.wac_component.proofs.Reached.{take_next}
use Rattle.wac_component.proofs.Search.{among_at}
use Rattle.wac_aggregator_copies.specs.Copies.{HasCopies}
use Rattle.wac_aggregator_copies.proofs.CopyLemmas.{MayCopy-Copies, HasCopies-had, HasCopies-then, parts_copied}
use Rattle.wac_aggregator_copies.proofs.copies.copy_each.Goals as goal

pub loop-i-init : goal.loop-i-init
loop-i-init c = HasCopies-had c.args.types.now c.args.own.now c.args.copies.now [] tt

pub copy_entry-requires : goal.copy_entry-requires
copy_entry-requires c =
    let f = c.args.types.now in
    let order = map key_of c.args.order.now.keys in
    let k = key_of c.id_at.result in
    let at = map_at key_of c.args.order.now.keys c.loop-i.i c.id_at.result c.id_at.ensures in
    record {
      source = among_each (Stands f) k order (among_at order c.loop-i.i k at) c.requires.order.1.stand;
      state = MayCopy-Copies f c.args.own.now c.loop-i.own c.args.copies.now c.loop-i.copies (take c.loop-i.i order) (λ s. Unit {0}) c.requires.state c.loop-i.invariant.copies;
      parts = parts_copied f c.args.own.now c.loop-i.own c.args.copies.now c.loop-i.copies (take c.loop-i.i order) c.requires.state c.loop-i.invariant (next f k) (c.requires.order.1.after c.loop-i.i k at);
    }

pub loop-i-preserved : goal.loop-i-preserved
loop-i-preserved c =
    let f = c.args.types.now in
    let order = map key_of c.args.order.now.keys in
    let k = key_of c.id_at.result in
    let at = map_at key_of c.args.order.now.keys c.loop-i.i c.id_at.result c.id_at.ensures in
    let more : take (c.loop-i.i + 1) order ≡ take c.loop-i.i order ++ k ∷ [] = rw add-one (take_next order c.loop-i.i k at) in
    subst (HasCopies f c.args.own.now c.args.copies.now c.copy_entry.new.own c.copy_entry.new.copies) (sym more)
    (HasCopies-then f c.args.own.now c.loop-i.own c.copy_entry.new.own c.args.copies.now c.loop-i.copies c.copy_entry.new.copies (take c.loop-i.i order) (k ∷ []) c.requires.state c.loop-i.invariant c.in_ok-copy_entry.ensures)

pub returns : goal.returns
returns c =
    let order = map key_of c.args.order.now.keys in
    let all : length order ≤ c.loop-i.i = omega (arith, length-map c.args.order.now.keys key_of) in
    subst (HasCopies c.args.types.now c.args.own.now c.args.copies.now c.loop-i.own c.loop-i.copies) (take_all c.loop-i.i order all) c.loop-i.invariant
