use Rattle.std.proofs.Common.{◌≡◌, rules, Ok, Err, arith}
use Rattle.std.proofs.lemmas.List.{length-map}
use Rattle.wac_component.specs.Content.{types_of}
use Rattle.wac_component.specs.Implicit.{instances, AddsInstance}
use Rattle.wac_component.proofs.ImplicitLemmas.{use_ids, used_by-uses, use-stands, adds-one}
use Rattle.wac_component.proofs.VisitLemmas.{Remains-after, Remains-refused, Remains-done}
use Rattle.wac_component.proofs.implicit.add_used.Goals as goal

pub add_instance-requires-clause-standing : goal.add_instance-requires-clause-standing
add_instance-requires-clause-standing c = use-stands c.args.types.now c.args.uses.now.entries c.loop-i.i c.value_at.result.now c.value_at.ensures c.requires.standing

pub returns-in_err-add_instance-clause-adds : goal.returns-in_err-add_instance-clause-adds
returns-in_err-add_instance-clause-adds c =
    let answer : c.from_residual.result ≡ Err c.in_err-add_instance.field-0.0 = search rules in
    let added = adds-one c.args.types.now (instances c.loop-i.interfaces.entries) (instances c.add_instance.new.interfaces.entries) c.value_at.result.now.interface (Err c.in_err-add_instance.field-0.0) c.in_err-add_instance.ensures.adds in
    rw (answer, used_by-uses c.args.uses.now.entries) (Remains-refused (AddsInstance c.args.types.now) use_ids (types_of c.args.uses.now.entries) c.loop-i.i c.value_at.result.now (instances c.args.interfaces.now.entries) (instances c.loop-i.interfaces.entries) (instances c.add_instance.new.interfaces.entries) c.in_err-add_instance.field-0.0 c.value_at.ensures c.loop-i.invariant.rest added)

pub loop-i-preserved : goal.loop-i-preserved
loop-i-preserved c =
    let added = adds-one c.args.types.now (instances c.loop-i.interfaces.entries) (instances c.add_instance.new.interfaces.entries) c.value_at.result.now.interface (Ok c.in_ok-add_instance.field-0) c.in_ok-add_instance.ensures.adds in
    record {
      items = c.add_instance.ensures.items;
      rest = Remains-after (AddsInstance c.args.types.now) use_ids (types_of c.args.uses.now.entries) c.loop-i.i c.value_at.result.now (instances c.args.interfaces.now.entries) (instances c.loop-i.interfaces.entries) (instances c.add_instance.new.interfaces.entries) c.value_at.ensures c.loop-i.invariant.rest added;
    }

pub returns-clause-adds : goal.returns-clause-adds
returns-clause-adds c = rw (used_by-uses c.args.uses.now.entries) (Remains-done (AddsInstance c.args.types.now) use_ids (types_of c.args.uses.now.entries) c.loop-i.i (instances c.args.interfaces.now.entries) (instances c.loop-i.interfaces.entries) (simp length-map (omega arith)) c.loop-i.invariant.rest)
