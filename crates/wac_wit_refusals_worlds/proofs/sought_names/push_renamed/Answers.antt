use Rattle.wac_wit_refusals_worlds.proofs.SoughtFacts.{lacking_pushed, renamed_away, renamed_lack}
use Rattle.wac_wit_refusals_worlds.proofs.sought_names.push_renamed.Goals as goal

pub returns-in_ok-push : goal.returns-in_ok-push
returns-in_ok-push c of all =
    let split = lacking_pushed of c.push_new_names.new.all.items c.push.new.self.items _ c.in_ok-push.ensures.items all in
    let before = c.in_ok-push_new_names.ensures of split.0 in
    (before.0, renamed_lack of c.args.world.now c.args.renames.now c.args.name.now before.1 split.1)

pub returns-else-not-is_renamed : goal.returns-else-not-is_renamed
returns-else-not-is_renamed c of all =
    let before = c.in_ok-push_new_names.ensures of all in
    (before.0, renamed_away of c.args.world.now c.args.renames.now c.args.name.now before.1 (c.is_renamed.ensures.renamed c.if-not-is_renamed.false))
