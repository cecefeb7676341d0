use Rattle.std.proofs.Common.{◌≡◌, rules, Err}
use Rattle.wac_component.specs.Content.{types_of, func_content}
use Rattle.std.specs.List.{flat_map}
use Rattle.wac_component.specs.Visits.{own_id, optional_ids, CallsOn}
use Rattle.wac_component.proofs.VisitLemmas.{VisitsEach-append, VisitsEach-refused, MayVisit-front, MayVisit-rest, flat_map-named, referred-func}
use Rattle.wac_component.proofs.visits.visit_func.Goals as goal

pub returns-in_err-visit_fields : goal.returns-in_err-visit_fields
returns-in_err-visit_fields g c =
    let answer : c.from_residual.result ≡ Err c.in_err-visit_fields.field-0.0 = search rules in
    record { visited = rw (answer, referred-func c.args.types.now c.args.id (func_content c.index-func.result.now) c.sound.ensures c.requires.standing c.index-func.ensures.entry, flat_map-named own_id c.index-func.result.now.params.entries) (VisitsEach-refused (CallsOn g.F.FnMut c.args.types.now) (flat_map own_id (types_of c.index-func.result.now.params.entries)) (optional_ids c.index-func.result.now.«result») c.args.visitor.now c.visit_fields.new.visitor c.in_err-visit_fields.field-0.0 c.in_err-visit_fields.ensures.visited) }

pub returns : goal.returns
returns g c =
    record { visited = rw (referred-func c.args.types.now c.args.id (func_content c.index-func.result.now) c.sound.ensures c.requires.standing c.index-func.ensures.entry, flat_map-named own_id c.index-func.result.now.params.entries) (VisitsEach-append (CallsOn g.F.FnMut c.args.types.now) (flat_map own_id (types_of c.index-func.result.now.params.entries)) (optional_ids c.index-func.result.now.«result») c.args.visitor.now c.visit_fields.new.visitor c.visit_optional.new.visitor c.visit_optional.result c.in_ok-visit_fields.ensures.visited c.visit_optional.ensures.visited) }

pub visit_fields-requires : goal.visit_fields-requires
visit_fields-requires g c = MayVisit-front g.F.FnMut c.args.types.now (flat_map own_id (types_of c.index-func.result.now.params.entries)) (optional_ids c.index-func.result.now.«result») c.args.visitor.now (rw (referred-func c.args.types.now c.args.id (func_content c.index-func.result.now) c.sound.ensures c.requires.standing c.index-func.ensures.entry, flat_map-named own_id c.index-func.result.now.params.entries) at c.requires.callable)

pub visit_optional-requires : goal.visit_optional-requires
visit_optional-requires g c = MayVisit-rest g.F.FnMut c.args.types.now (flat_map own_id (types_of c.index-func.result.now.params.entries)) (optional_ids c.index-func.result.now.«result») c.args.visitor.now c.visit_fields.new.visitor (rw (referred-func c.args.types.now c.args.id (func_content c.index-func.result.now) c.sound.ensures c.requires.standing c.index-func.ensures.entry, flat_map-named own_id c.index-func.result.now.params.entries) at c.requires.callable) c.in_ok-visit_fields.ensures.visited
