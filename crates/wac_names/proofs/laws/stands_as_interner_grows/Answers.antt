use Rattle.wac_names.proofs.Standing.{stands_more}
use Rattle.wac_names.proofs.laws.stands_as_interner_grows.Goals as goal

pub returns : goal.returns
returns g c = λ f h ps law more s. stands_more g.met.K.Eq.laws c.args.map.now ps law more s
