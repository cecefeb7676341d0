use Rattle.wac_wit_refusals_worlds.proofs.exports.export_there.Goals as goal

pub returns-in-Export : goal.returns-in-Export
returns-in-Export c = λ of judges. record { is = c.in-Export.is; there = (c.is_there.ensures of judges).0 c.if-is_there.true }
