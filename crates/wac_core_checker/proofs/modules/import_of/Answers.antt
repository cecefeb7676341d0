use Rattle.std.proofs.Common.{refl, ap, ◌∙◌, String, Global}
use Rattle.std.specs.Option.{option_map}
use Rattle.wac_model.specs.Text.{import_name_eq}
use Rattle.wac_core.specs.Content.{core_tree, import_name}
use Rattle.wac_model.proofs.Lookups.{lookup-shown}
use Rattle.wac_core_checker.proofs.modules.import_of.Goals as goal

pub returns : goal.returns
returns c = ap (option_map core_tree) c.get.ensures.value ∙ lookup-shown import_name core_tree _ import_name_eq (import_name c.args.name.now) (λ (k : String Global × String Global). refl) c.args.of.now.imports.entries
