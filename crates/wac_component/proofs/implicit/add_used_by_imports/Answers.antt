use Rattle.std.proofs.Common.{◌≡◌, rules, Err, arith}
use Rattle.std.proofs.lemmas.List.{length-map}
use Rattle.wac_component.specs.Content.{types_of}
use Rattle.wac_component.specs.Implicit.{instances, used_by_import, AddsInstance}
use Rattle.wac_component.proofs.VisitLemmas.{Remains-after, Remains-refused, Remains-done, extern-stands}
use Rattle.wac_component.proofs.implicit.add_used_by_imports.Goals as goal

pub add_used_by_import-requires-clause-standing : goal.add_used_by_import-requires-clause-standing
add_used_by_import-requires-clause-standing c = extern-stands c.args.types.now c.args.imports.now.entries c.loop-i.i c.value_at.result.now c.value_at.ensures c.requires.standing

pub returns-in_err-add_used_by_import-clause-adds : goal.returns-in_err-add_used_by_import-clause-adds
returns-in_err-add_used_by_import-clause-adds c =
    let answer : c.from_residual.result ≡ Err c.in_err-add_used_by_import.field-0.0 = search rules in
    rw answer (Remains-refused (AddsInstance c.args.types.now) (used_by_import c.args.types.now) (types_of c.args.imports.now.entries) c.loop-i.i c.value_at.result.now (instances c.args.found.now.entries) (instances c.loop-i.found.entries) (instances c.add_used_by_import.new.interfaces.entries) c.in_err-add_used_by_import.field-0.0 c.value_at.ensures c.loop-i.invariant.rest c.in_err-add_used_by_import.ensures.adds)

pub loop-i-preserved : goal.loop-i-preserved
loop-i-preserved c = record {
  items = c.add_used_by_import.ensures.items;
  rest = Remains-after (AddsInstance c.args.types.now) (used_by_import c.args.types.now) (types_of c.args.imports.now.entries) c.loop-i.i c.value_at.result.now (instances c.args.found.now.entries) (instances c.loop-i.found.entries) (instances c.add_used_by_import.new.interfaces.entries) c.value_at.ensures c.loop-i.invariant.rest c.in_ok-add_used_by_import.ensures.adds;
}

pub returns-clause-adds : goal.returns-clause-adds
returns-clause-adds c = Remains-done (AddsInstance c.args.types.now) (used_by_import c.args.types.now) (types_of c.args.imports.now.entries) c.loop-i.i (instances c.args.found.now.entries) (instances c.loop-i.found.entries) (simp length-map (omega arith)) c.loop-i.invariant.rest
