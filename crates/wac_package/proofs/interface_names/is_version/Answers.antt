use Rattle.wac_package.proofs.Paths.{version_answer}
use Rattle.wac_package.proofs.interface_names.is_version.Goals as goal

pub returns : goal.returns
returns c = version_answer _ _ _ c.in_ok-version.ensures.read c.is_some.ensures
