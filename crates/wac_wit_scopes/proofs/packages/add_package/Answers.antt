use Rattle.std.proofs.Common.{◌∙◌, ap, string_bytes, Some}
use Rattle.std.proofs.lemmas.Map.Text.{hash_map_updates_text}
use Rattle.indexmap.specs.IndexMap.{get_by_text}
use Rattle.wac_wit_scopes.proofs.ScopeFacts.{keeps_names, knows_package}
use Rattle.wac_wit_scopes.proofs.packages.add_package.Goals as goal

pub returns-clause-keeps : goal.returns-clause-keeps
returns-clause-keeps c =
    let old = c.args.versions.now in
    let new = c.insert.new.self in
    let name = string_bytes c.in_ok-name.name in
    let with = c.with_version-with.result in
    keeps_names (get_by_text old) (get_by_text new) c.args.package.now name with c.in_ok-name.ensures (hash_map_updates_text name old new (Some with) c.in_ok-insert.ensures.updates) c.get.result (c.get.ensures.value ∙ ap (get_by_text old) c.as_str.ensures.value) c.with_version-with.ensures.keeps

pub returns-clause-knows : goal.returns-clause-knows
returns-clause-knows c =
    let old = c.args.versions.now in
    let new = c.insert.new.self in
    let name = string_bytes c.in_ok-name.name in
    let with = c.with_version-with.result in
    knows_package (get_by_text old) (get_by_text new) c.args.package.now name with c.in_ok-name.ensures (hash_map_updates_text name old new (Some with) c.in_ok-insert.ensures.updates) c.with_version-with.ensures.has
