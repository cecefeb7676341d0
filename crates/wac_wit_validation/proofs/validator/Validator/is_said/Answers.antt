use Rattle.std.proofs.Common.{refl}
use Rattle.wac_wit_validation.proofs.WorldFacts.{IfOk-map}
use Rattle.wac_wit_validation.proofs.validator.Validator.is_said.Goals as goal

pub returns-clause-marks : goal.returns-clause-marks
returns-clause-marks c = IfOk-map c.mark_extern.result _ _ c.mark_extern.ensures.marks (λ b told is one of w x rss comes among.
    told is one of w x rss comes (record { item = c.args.item.now; among = among; there = (c.if-not-is_there.ensures of comes.at.knows.interfaces).0 refl; what = refl }))

pub returns-clause-covers : goal.returns-clause-covers
returns-clause-covers c = IfOk-map c.mark_extern.result _ _ c.mark_extern.ensures.covers (λ b told is of rss knows renames there. told is rss renames)
