use Rattle.std.proofs.Common.{◌≡◌, ◌↔◌, ◌++◌, List, true}
use Rattle.wac_component.specs.Key.{Key, Stands, AllStand}
use Rattle.wac_component.specs.Parts.{places, places_keys}
use Rattle.wac_component.proofs.PartLemmas.{all_keys}
use Rattle.wac_component.proofs.StandingLemmas.{then_second, else_neither}
use Rattle.wac_component.proofs.collection.Types.holds.Goals as goal
use Rattle.wac_component.proofs.collection.Types.holds.Goals.{then-parts_stand, else-parts_stand}

pub returns-then-parts_stand-2 : goal.returns-then-parts_stand-2
returns-then-parts_stand-2 c =
    let first : List Key = places_keys (places c.args.all.now.0) in
    let second : List Key = places_keys (places c.args.all.now.1) in
    let two : (c.if-parts_stand.value ≡ true) ↔ AllStand c.args.self.now (first ++ second) = elim c.if-parts_stand.branch [
      | then-parts_stand w ↦ rw w.value-is (then_second (Stands c.args.self.now) first second c.parts_stand.result w.parts_stand-then-parts_stand.result c.parts_stand.ensures w.if-parts_stand.true w.parts_stand-then-parts_stand.ensures)
      | else-parts_stand w ↦ rw w.value-is (else_neither (Stands c.args.self.now) first second c.parts_stand.result c.parts_stand.ensures w.if-parts_stand.false)
    ] in
    rw (all_keys (places c.args.all.now.0) (places c.args.all.now.1) (places c.args.all.now.2)) (then_second (Stands c.args.self.now) (first ++ second) (places_keys (places c.args.all.now.2)) c.if-parts_stand.value c.parts_stand-then-parts_stand-2.result two c.if-parts_stand-2.true c.parts_stand-then-parts_stand-2.ensures)

pub returns-else-parts_stand-2 : goal.returns-else-parts_stand-2
returns-else-parts_stand-2 c =
    let first : List Key = places_keys (places c.args.all.now.0) in
    let second : List Key = places_keys (places c.args.all.now.1) in
    let two : (c.if-parts_stand.value ≡ true) ↔ AllStand c.args.self.now (first ++ second) = elim c.if-parts_stand.branch [
      | then-parts_stand w ↦ rw w.value-is (then_second (Stands c.args.self.now) first second c.parts_stand.result w.parts_stand-then-parts_stand.result c.parts_stand.ensures w.if-parts_stand.true w.parts_stand-then-parts_stand.ensures)
      | else-parts_stand w ↦ rw w.value-is (else_neither (Stands c.args.self.now) first second c.parts_stand.result c.parts_stand.ensures w.if-parts_stand.false)
    ] in
    rw (all_keys (places c.args.all.now.0) (places c.args.all.now.1) (places c.args.all.now.2)) (else_neither (Stands c.args.self.now) (first ++ second) (places_keys (places c.args.all.now.2)) c.if-parts_stand.value two c.if-parts_stand-2.false)
