use Rattle.wac_mismatch.proofs.PathLemmas.{path_refutes}
use Rattle.wac_mismatch.proofs.laws.a_path_refutes.Goals as goal

pub returns : goal.returns
returns c = path_refutes
