use Rattle.std.proofs.Common.{string_bytes, Some}
use Rattle.std.proofs.lemmas.Map.Text.{hash_map_updates_text}
use Rattle.indexmap.specs.IndexMap.{get_by_text}
use Rattle.wac_wit_refusals_worlds.proofs.NeededFacts.{KeepsListed-put, put_there}
use Rattle.wac_wit_refusals_worlds.proofs.exports.put.Goals as goal

pub returns-clause-keeps : goal.returns-clause-keeps
returns-clause-keeps c =
    let old = c.args.listed.now in
    let new = c.insert.new.self in
    let key = string_bytes c.args.id in
    KeepsListed-put (get_by_text old) (get_by_text new) key c.args.index (hash_map_updates_text key old new (Some c.args.index) c.in_ok-insert.ensures.updates)

pub returns-clause-lists : goal.returns-clause-lists
returns-clause-lists c =
    let old = c.args.listed.now in
    let new = c.insert.new.self in
    let key = string_bytes c.args.id in
    put_there (get_by_text old) (get_by_text new) key c.args.index (hash_map_updates_text key old new (Some c.args.index) c.in_ok-insert.ensures.updates)
