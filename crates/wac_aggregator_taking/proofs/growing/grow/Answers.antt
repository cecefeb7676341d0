use Rattle.std.proofs.Common.{◌≡◌, string_bytes, refl, ap, sym, subst, ◌∙◌}
use Rattle.wac_component.specs.Collection.{InterfaceContent}
use Rattle.wac_component.specs.Content.{named, use_content, interface_content}
use Rattle.wac_component.specs.Key.{Stands, interface_key, named_keys, use_keys}
use Rattle.wac_component.proofs.Extended.{AllStand-Extends}
use Rattle.wac_component.proofs.Keys.{Each-left, Each-right}
use Rattle.wac_merge.specs.Built.{uses_of_both}
use Rattle.wac_merge.specs.Items.{ExternKinds, extern_keys, extern_list}
use Rattle.wac_merge.specs.Reads.{exports_at}
use Rattle.wac_merge.proofs.ReadLemmas.{interface_at, interface_exports_are}
use Rattle.wac_aggregator_promises.specs.Entries.{ReachesByUses}
use Rattle.wac_names.specs.Class.{class_of}
use Rattle.wac_aggregator_narrowing.proofs.Entering.{interface_named}
use Rattle.wac_aggregator_errors.specs.declared.error.AggregateError.TheVariants.{Memory}
use Rattle.wac_aggregator_taking.specs.Growing.{AreAllPut, AreMetWith, with_put}
use Rattle.wac_aggregator_taking.specs.Refused.{AreRefusedItems}
use Rattle.wac_aggregator_taking.specs.Takes.{state_of}
use Rattle.wac_aggregator_taking.proofs.GrowLemmas.{found_among}
use Rattle.wac_aggregator_taking.proofs.GrowReasons.{grown_uses_refused, grown_items_refused, grown_cycle_refused}
use Rattle.wac_aggregator_taking.proofs.Grows.{new_named, same_entry_still, Takes-grown}
use Rattle.wac_aggregator_taking.proofs.MemberGrows.{TakesMembers-grown, member_uses_refused, member_items_refused, member_cycle_refused, memory_apart}
use Rattle.wac_aggregator_taking.proofs.PutLemmas.{each_uses, each_was_put, reach_put}
use Rattle.wac_aggregator_errors.proofs.Passing.{passed_on}
use Rattle.wac_aggregator_taking.proofs.TakeLemmas.{lookup-shared, shared_stands}
use Rattle.wac_aggregator_taking.proofs.growing.grow.Goals as goal

pub index-entry-requires : goal.index-entry-requires
index-entry-requires c = shared_stands (state_of c.args.state.now) c.requires.state.kept (interface_key c.args.own) (lookup-shared (class_of (string_bytes c.args.name)) c.args.state.now.shared.entries c.args.own c.requires.shared)

pub check_uses-requires : goal.check_uses-requires
check_uses-requires c =
    let types = c.args.state.now.types in
    let old = interface_content c.index-entry.result.now in
    let us = named use_content c.args.uses.entries in
    let es = extern_list c.args.exports.now in
    record {
      existing = Each-left (Stands types) (named_keys use_keys old.uses) (extern_keys old.exports) c.index-entry.ensures.standing;
      new = Each-left (Stands types) (named_keys use_keys us) (extern_keys es) (interface_named class_of c.args.types.now (state_of c.args.state.now) c.requires.state.kept c.args.id c.requires.taken.content _ c.requires.taken.taken);
    }

pub met_exports-requires : goal.met_exports-requires
met_exports-requires c =
    let types = c.args.state.now.types in
    let us = named use_content c.args.uses.entries in
    let es = extern_list c.args.exports.now in
    record {
      own = shared_stands (state_of c.args.state.now) c.requires.state.kept (interface_key c.args.own) (lookup-shared (class_of (string_bytes c.args.name)) c.args.state.now.shared.entries c.args.own c.requires.shared);
      new = Each-right (Stands types) (named_keys use_keys us) (extern_keys es) (interface_named class_of c.args.types.now (state_of c.args.state.now) c.requires.state.kept c.args.id c.requires.taken.content _ c.requires.taken.taken);
    }

pub put_grown-requires : goal.put_grown-requires
put_grown-requires c =
    let a = c.args.state.now in
    let us = named use_content c.args.uses.entries in
    let es = extern_list c.args.exports.now in
    let met = c.in_ok-met.ensures.met in
    let d = c.met_exports.new.types in
    record {
      own = met.on.grows.standing (interface_key c.args.own) (shared_stands (state_of a) c.requires.state.kept (interface_key c.args.own) (lookup-shared (class_of (string_bytes c.args.name)) a.shared.entries c.args.own c.requires.shared));
      uses = AllStand-Extends a.types d met.on.grows (named_keys use_keys us) (Each-left (Stands a.types) (named_keys use_keys us) (extern_keys es) (interface_named class_of c.args.types.now (state_of a) c.requires.state.kept c.args.id c.requires.taken.content _ c.requires.taken.taken));
      exports = each_was_put (Stands d) (exports_at a.types (interface_key c.args.own)) (extern_list c.in_ok-met.met) c.in_ok-met.ensures.put met.stand;
    }

pub returns-clause-taken : goal.returns-clause-taken
returns-clause-taken c =
    let a = c.args.state.now in
    let own = c.args.own in
    let us = named use_content c.args.uses.entries in
    let es = extern_list c.args.exports.now in
    let d = c.met_exports.new.types in
    let ms = extern_list c.in_ok-met.met in
    let old = interface_content c.index-entry.result.now in
    let there : exports_at a.types (interface_key own) ≡ old.exports = interface_exports_are a.types own old (interface_at a.types own old c.index-entry.ensures.entry) in
    let stands = shared_stands (state_of a) c.requires.state.kept (interface_key own) (lookup-shared (class_of (string_bytes c.args.name)) a.shared.entries own c.requires.shared) in
    let g = c.in_ok-put_grown.ensures.grown in
    let same : g.old ≡ old = same_entry_still a.types d own old g.old c.in_ok-met.ensures.met.on.grows stands c.index-entry.ensures.entry g.was in
    let exports : g.new.exports ≡ with_put old.exports ms = g.exports ∙ ap (λ (o : InterfaceContent). with_put o.exports ms) same in
    let uses : g.new.uses ≡ uses_of_both old.uses us = g.uses ∙ ap (λ (o : InterfaceContent). uses_of_both o.uses us) same in
    let met : AreMetWith a.types d old.exports es g.new.exports = subst (λ (l : ExternKinds). AreMetWith a.types d old.exports es l) (sym exports) (subst (λ (l : ExternKinds). AreMetWith a.types d l es (with_put l ms)) there c.in_ok-met.ensures.met) in
    Takes-grown c.args.types.now a c.requires.state c.args.id own (string_bytes c.args.name) us es c.requires.taken c.requires.identified c.requires.shared old g.new c.index-entry.ensures.entry c.index-entry.ensures.standing (g.same_identifier ∙ ap (λ (o : InterfaceContent). o.id) same)
    (λ P h k. rw uses (each_uses P old.uses us h k)) d met uses c.in_ok-met.ensures.found (found_among g.new.exports g.distinct.1) c.put_grown.new.types c.put_interface.new.self g.acyclic g.grows (c.in_ok-put_interface.ensures c.requires.taken.absent)

pub returns-in_err-check_uses-clause-taken : goal.returns-in_err-check_uses-clause-taken
returns-in_err-check_uses-clause-taken c =
    let a = c.args.state.now in
    let old = interface_content c.index-entry.result.now in
    passed_on c.from_residual.result _ _ c.in_err-check_uses.field-0.0 c.from_residual.ensures
    (grown_uses_refused c.args.types.now a c.requires.state c.args.id c.args.own (string_bytes c.args.name) (named use_content c.args.uses.entries) (extern_list c.args.exports.now) c.requires.taken c.requires.identified c.requires.shared old c.index-entry.ensures.entry _ c.in_err-check_uses.ensures)

pub returns-in_err-met-clause-taken : goal.returns-in_err-met-clause-taken
returns-in_err-met-clause-taken c =
    let a = c.args.state.now in
    let old = interface_content c.index-entry.result.now in
    let there : exports_at a.types (interface_key c.args.own) ≡ old.exports = interface_exports_are a.types c.args.own old (interface_at a.types c.args.own old c.index-entry.ensures.entry) in
    passed_on c.from_residual-in_err-met.result _ _ c.in_err-met.field-0.0 c.from_residual-in_err-met.ensures
    (grown_items_refused c.args.types.now a c.requires.state c.args.id c.args.own (string_bytes c.args.name) (named use_content c.args.uses.entries) (extern_list c.args.exports.now) c.requires.taken c.requires.identified c.requires.shared old c.index-entry.ensures.entry _ c.met_exports.ensures.found
    (subst (λ (l : ExternKinds). AreRefusedItems a.types l (extern_list c.args.exports.now) c.in_err-met.field-0.0) there c.in_err-met.ensures.met))

pub returns-in_err-put_grown-clause-taken : goal.returns-in_err-put_grown-clause-taken
returns-in_err-put_grown-clause-taken c =
    let a = c.args.state.now in
    let own = c.args.own in
    let us = named use_content c.args.uses.entries in
    let es = extern_list c.args.exports.now in
    let d = c.met_exports.new.types in
    let ms = extern_list c.in_ok-met.met in
    let old = interface_content c.index-entry.result.now in
    let there : exports_at a.types (interface_key own) ≡ old.exports = interface_exports_are a.types own old (interface_at a.types own old c.index-entry.ensures.entry) in
    let new : InterfaceContent = record { id = old.id; uses = us; exports = with_put old.exports ms } in
    let met : AreMetWith a.types d old.exports es new.exports = subst (λ (l : ExternKinds). AreMetWith a.types d l es (with_put l ms)) there c.in_ok-met.ensures.met in
    let put : AreAllPut old.exports ms = subst (λ (l : ExternKinds). AreAllPut l ms) there c.in_ok-met.ensures.put in
    passed_on c.from_residual-in_err-put_grown.result _ _ c.in_err-put_grown.field-0.0 c.from_residual-in_err-put_grown.ensures
    (λ ne. grown_cycle_refused c.args.types.now a c.requires.state c.args.id own (string_bytes c.args.name) us es c.requires.taken c.requires.identified c.requires.shared old c.index-entry.ensures.entry new c.index-entry.ensures.standing refl (λ P h k. k) d met c.met_exports.ensures.found
    (reach_put d us old.exports ms (interface_key own) put (c.in_err-put_grown.ensures.cycle ne).0) _ (c.in_err-put_grown.ensures.cycle ne).1 ne)

pub returns-in_err-put_interface-clause-taken : goal.returns-in_err-put_interface-clause-taken
returns-in_err-put_interface-clause-taken c = passed_on c.from_residual-in_err-put_interface.result _ _ Memory c.from_residual-in_err-put_interface.ensures (λ ne. absurd (ne refl))

-- ---- what is answered of interfaces as WIT gives them

pub returns-clause-members : goal.returns-clause-members
returns-clause-members c = λ taken wit has all.
    let a = c.args.state.now in
    let own = c.args.own in
    let us = named use_content c.args.uses.entries in
    let es = extern_list c.args.exports.now in
    let d = c.met_exports.new.types in
    let ms = extern_list c.in_ok-met.met in
    let old = interface_content c.index-entry.result.now in
    let there : exports_at a.types (interface_key own) ≡ old.exports = interface_exports_are a.types own old (interface_at a.types own old c.index-entry.ensures.entry) in
    let stands = shared_stands (state_of a) c.requires.state.kept (interface_key own) (lookup-shared (class_of (string_bytes c.args.name)) a.shared.entries own c.requires.shared) in
    let g = c.in_ok-put_grown.ensures.grown in
    let same : g.old ≡ old = same_entry_still a.types d own old g.old c.in_ok-met.ensures.met.on.grows stands c.index-entry.ensures.entry g.was in
    let exports : g.new.exports ≡ with_put old.exports ms = g.exports ∙ ap (λ (o : InterfaceContent). with_put o.exports ms) same in
    let uses : g.new.uses ≡ uses_of_both old.uses us = g.uses ∙ ap (λ (o : InterfaceContent). uses_of_both o.uses us) same in
    let met : AreMetWith a.types d old.exports es g.new.exports = subst (λ (l : ExternKinds). AreMetWith a.types d old.exports es l) (sym exports) (subst (λ (l : ExternKinds). AreMetWith a.types d l es (with_put l ms)) there c.in_ok-met.ensures.met) in
    let same_id = g.same_identifier ∙ ap (λ (o : InterfaceContent). o.id) same in
    TakesMembers-grown c.args.types.now a c.requires.state c.args.id own (string_bytes c.args.name) us es c.requires.taken c.requires.identified c.requires.shared taken wit has old c.index-entry.ensures.entry g.new c.index-entry.ensures.standing same_id (λ P h k. rw uses (each_uses P old.uses us h k)) d met
    uses c.in_ok-check_uses.ensures g.distinct.0 (found_among g.new.exports g.distinct.1)
    (new_named c.args.types.now a c.requires.state c.args.id own (string_bytes c.args.name) us es c.requires.taken c.requires.identified c.requires.shared old g.new c.index-entry.ensures.entry c.index-entry.ensures.standing same_id (λ P h k. rw uses (each_uses P old.uses us h k)) d met)
    g.acyclic c.put_grown.new.types c.put_interface.new.self g.grows (c.in_ok-put_interface.ensures c.requires.taken.absent)

pub returns-in_err-check_uses-clause-members : goal.returns-in_err-check_uses-clause-members
returns-in_err-check_uses-clause-members c = λ taken wit has all.
    let old = interface_content c.index-entry.result.now in
    passed_on c.from_residual.result _ _ c.in_err-check_uses.field-0.0 c.from_residual.ensures
    (member_uses_refused c.args.types.now c.args.state.now c.requires.state c.args.id c.args.own (string_bytes c.args.name) (named use_content c.args.uses.entries) (extern_list c.args.exports.now) c.requires.taken c.requires.identified c.requires.shared taken wit has old c.index-entry.ensures.entry c.names_in_an_interface_are_distinct.ensures.0 _ c.in_err-check_uses.ensures)

pub returns-in_err-met-clause-members : goal.returns-in_err-met-clause-members
returns-in_err-met-clause-members c = λ taken wit has all.
    let a = c.args.state.now in
    let old = interface_content c.index-entry.result.now in
    let there : exports_at a.types (interface_key c.args.own) ≡ old.exports = interface_exports_are a.types c.args.own old (interface_at a.types c.args.own old c.index-entry.ensures.entry) in
    passed_on c.from_residual-in_err-met.result _ _ c.in_err-met.field-0.0 c.from_residual-in_err-met.ensures
    (member_items_refused c.args.types.now a c.requires.state c.args.id c.args.own (string_bytes c.args.name) (named use_content c.args.uses.entries) (extern_list c.args.exports.now) c.requires.taken c.requires.identified c.requires.shared taken wit has old c.index-entry.ensures.entry c.met_exports.ensures.found _
    (subst (λ (l : ExternKinds). AreRefusedItems a.types l (extern_list c.args.exports.now) c.in_err-met.field-0.0) there c.in_err-met.ensures.met))

pub returns-in_err-put_grown-clause-members : goal.returns-in_err-put_grown-clause-members
returns-in_err-put_grown-clause-members c = λ taken wit has all.
    let a = c.args.state.now in
    let own = c.args.own in
    let us = named use_content c.args.uses.entries in
    let es = extern_list c.args.exports.now in
    let d = c.met_exports.new.types in
    let ms = extern_list c.in_ok-met.met in
    let old = interface_content c.index-entry.result.now in
    let there : exports_at a.types (interface_key own) ≡ old.exports = interface_exports_are a.types own old (interface_at a.types own old c.index-entry.ensures.entry) in
    let new : InterfaceContent = record { id = old.id; uses = us; exports = with_put old.exports ms } in
    let met : AreMetWith a.types d old.exports es new.exports = subst (λ (l : ExternKinds). AreMetWith a.types d l es (with_put l ms)) there c.in_ok-met.ensures.met in
    let put : AreAllPut old.exports ms = subst (λ (l : ExternKinds). AreAllPut l ms) there c.in_ok-met.ensures.put in
    passed_on c.from_residual-in_err-put_grown.result _ _ c.in_err-put_grown.field-0.0 c.from_residual-in_err-put_grown.ensures
    (member_cycle_refused c.args.types.now a c.requires.state c.args.id own (string_bytes c.args.name) us es c.requires.taken c.requires.identified c.requires.shared taken wit has old c.index-entry.ensures.entry new c.index-entry.ensures.standing refl (λ P h k. k) d met
    _ (λ ne. reach_put d us old.exports ms (interface_key own) put (c.in_err-put_grown.ensures.cycle ne).0))

pub returns-in_err-put_interface-clause-members : goal.returns-in_err-put_interface-clause-members
returns-in_err-put_interface-clause-members c = λ taken wit has all. passed_on c.from_residual-in_err-put_interface.result _ _ Memory c.from_residual-in_err-put_interface.ensures (memory_apart c.args.types.now (ReachesByUses c.args.types.now c.args.id) taken)
