use Rattle.std.proofs.Common.{◌≤◌, [], map, length, sym, subst, arith}
use Rattle.std.proofs.lemmas.List.{length-map}
use Rattle.wac_component.specs.Key.{Stands}
use Rattle.wac_component.specs.Naming.{key_of}
use Rattle.wac_component.specs.Sound.{entry_count}
use Rattle.wac_component.proofs.Among.{among_each, among_single}
use Rattle.wac_component.proofs.PartLemmas.{map_at}
use Rattle.wac_component.proofs.Reached.{Puts-inserted, few_stand}
use Rattle.wac_component.proofs.Search.{among_at, Searched-start, Searched-at, Searched-next}
use Rattle.wac_aggregator_alike.specs.Alike.{IsTypeMadeOf, itself}
use Rattle.wac_aggregator_alike.proofs.Noting.{made_on, walked_stand, walked_all}
use Rattle.wac_aggregator_alike.proofs.walk.made_of.Goals as goal

pub loop-next-init : goal.loop-next-init
loop-next-init c =
    rw (c.in_ok-insert.ensures.keys, c.new-reached.ensures.empty) (Searched-start _ (Puts-inserted [] c.args.id) (λ k m. subst (λ t. IsTypeMadeOf c.args.types.now (key_of c.args.id) t) (sym (among_single (key_of c.args.id) m)) itself))

pub put_parts-requires : goal.put_parts-requires
put_parts-requires c =
    let at = map_at key_of c.loop-next.reached.keys c.loop-next.next c.id_at-part.result c.id_at-part.ensures in
    among_each (Stands c.args.types.now) (key_of c.id_at-part.result) (map key_of c.loop-next.reached.keys) (among_at (map key_of c.loop-next.reached.keys) c.loop-next.next (key_of c.id_at-part.result) at)
    (walked_stand c.args.types.now (key_of c.args.id) c.loop-next.next (map key_of c.loop-next.reached.keys) c.loop-next.invariant c.sound.ensures c.requires)

pub loop-next-smaller : goal.loop-next-smaller
loop-next-smaller c =
    let stand = walked_stand c.args.types.now (key_of c.args.id) c.loop-next.next (map key_of c.loop-next.reached.keys) c.loop-next.invariant c.sound.ensures c.requires in
    let few : length c.loop-next.reached.keys ≤ entry_count c.args.types.now = few_stand c.args.types.now c.loop-next.reached.keys c.len.ensures.unique stand in
    omega (arith, few, c.len.ensures.len)

pub loop-next-preserved : goal.loop-next-preserved
loop-next-preserved c =
    let k = key_of c.args.id in
    let at = map_at key_of c.loop-next.reached.keys c.loop-next.next c.id_at-part.result c.id_at-part.ensures in
    Searched-next c.loop-next.invariant (key_of c.id_at-part.result) (map key_of c.put_parts.new.reached.keys) at tt
    (λ t m. made_on c.args.types.now k (key_of c.id_at-part.result) t (Searched-at c.loop-next.invariant c.loop-next.next (key_of c.id_at-part.result) at) m) c.in_ok-put_parts.ensures

pub returns : goal.returns
returns c =
    let all : length (map key_of c.loop-next.reached.keys) ≤ c.loop-next.next = omega (arith, c.len.ensures.len, length-map c.loop-next.reached.keys key_of) in
    walked_all c.args.types.now (key_of c.args.id) c.loop-next.next (map key_of c.loop-next.reached.keys) c.loop-next.invariant all
