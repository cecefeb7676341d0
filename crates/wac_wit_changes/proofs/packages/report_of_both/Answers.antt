use Rattle.wac_wit_changes.proofs.packages.report_of_both.Goals as goal

pub returns : goal.returns
returns c = (record { version = c.in_ok-version_in.ensures; promise = c.requires.promise; compared = c.in_ok-compared_items.ensures c.args.promise c.requires.own }, c.in_ok-clone.ensures.cases)
