use Rattle.std.proofs.Common.{◌≡◌, ◌++◌, map, refl, ap, ◌∙◌}
use Rattle.wac_component.specs.Content.{named, use_content, interface_content}
use Rattle.wac_component.specs.Key.{Stands, interface_key, named_keys, use_keys}
use Rattle.wac_component.specs.Naming.{key_of}
use Rattle.wac_component.specs.Replacing.{NamesReach}
use Rattle.wac_component.proofs.Keys.{Each-append}
use Rattle.wac_merge.specs.Built.{uses_of_both}
use Rattle.wac_merge.specs.Items.{extern_keys, extern_list}
use Rattle.wac_aggregator_taking.proofs.GrowLemmas.{uses_put}
use Rattle.wac_aggregator_taking.proofs.PutGrown.{is_grown, still_acyclic, still_named, still_there}
use Rattle.wac_aggregator_taking.proofs.growing.put_grown.Goals as goal

pub lead_to-requires : goal.lead_to-requires
lead_to-requires c = rw (c.deref.ensures.value, c.in_ok-ids.ensures) (Each-append (Stands c.args.types.now) (named_keys use_keys (named use_content c.args.uses.entries)) (extern_keys (extern_list c.args.exports.now)) c.requires.uses c.requires.exports)

pub returns-then-branch-clause-cycle : goal.returns-then-branch-clause-cycle
returns-then-branch-clause-cycle c = λ ne.
    let names : map key_of c.deref.result.now ≡ named_keys use_keys (named use_content c.args.uses.entries) ++ extern_keys (extern_list c.args.exports.now) = rw c.deref.ensures.value c.in_ok-ids.ensures in
    (rw names at c.in_ok-lead_to.ensures.0 c.if-branch.true, refl)

pub put_back-requires : goal.put_back-requires
put_back-requires c =
    let types = c.args.types.now in
    let own = c.args.own in
    let us = named use_content c.args.uses.entries in
    let ms = extern_list c.args.exports.now in
    let entry = c.take_out-entry.result in
    let old = interface_content entry in
    let new = interface_content (record { id = entry.id; uses = c.add_new.new.first; exports = c.put_externs.new.externs }) in
    let uses : new.uses ≡ uses_of_both old.uses us = ap (named use_content) c.in_ok-add_new.ensures.entries ∙ uses_put entry.uses.entries c.args.uses.entries in
    let names : map key_of c.deref.result.now ≡ named_keys use_keys us ++ extern_keys ms = rw c.deref.ensures.value c.in_ok-ids.ensures in
    let none : ¬ (NamesReach types (named_keys use_keys us ++ extern_keys ms) (interface_key own)) = rw (← names) (λ n. let h = c.in_ok-lead_to.ensures.1 n in let no = c.if-branch.false in absurd (cc)) in
    record {
      id = still_there types own c.sound.ensures c.requires.own old c.take_out-entry.ensures.content us ms c.requires.uses c.requires.exports none new uses c.in_ok-put_externs.ensures c.take_out-entry.new.types c.take_out-entry.ensures.left;
      named = still_named types own c.sound.ensures c.requires.own old c.take_out-entry.ensures.content us ms c.requires.uses c.requires.exports none new uses c.in_ok-put_externs.ensures c.take_out-entry.new.types c.take_out-entry.ensures.left;
      acyclic = still_acyclic types own c.sound.ensures c.requires.own old c.take_out-entry.ensures.content us ms c.requires.uses c.requires.exports none new uses c.in_ok-put_externs.ensures c.take_out-entry.new.types c.take_out-entry.ensures.left;
    }

pub returns-clause-grown : goal.returns-clause-grown
returns-clause-grown c =
    let types = c.args.types.now in
    let own = c.args.own in
    let us = named use_content c.args.uses.entries in
    let ms = extern_list c.args.exports.now in
    let entry = c.take_out-entry.result in
    let old = interface_content entry in
    let new = interface_content (record { id = entry.id; uses = c.add_new.new.first; exports = c.put_externs.new.externs }) in
    let uses : new.uses ≡ uses_of_both old.uses us = ap (named use_content) c.in_ok-add_new.ensures.entries ∙ uses_put entry.uses.entries c.args.uses.entries in
    let names : map key_of c.deref.result.now ≡ named_keys use_keys us ++ extern_keys ms = rw c.deref.ensures.value c.in_ok-ids.ensures in
    let none : ¬ (NamesReach types (named_keys use_keys us ++ extern_keys ms) (interface_key own)) = rw (← names) (λ n. let h = c.in_ok-lead_to.ensures.1 n in let no = c.if-branch.false in absurd (cc)) in
    is_grown types own c.sound.ensures c.requires.own old c.take_out-entry.ensures.content us ms c.requires.uses c.requires.exports none new uses c.in_ok-put_externs.ensures refl c.names_in_an_interface_are_distinct.ensures c.take_out-entry.new.types c.put_back.new.types c.take_out-entry.ensures.left c.put_back.ensures
