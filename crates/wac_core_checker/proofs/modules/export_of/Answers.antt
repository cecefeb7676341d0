use Rattle.std.proofs.Common.{refl, ap, ◌∙◌, string_bytes, String, Global}
use Rattle.std.specs.Str.{bytes_eq}
use Rattle.std.specs.Option.{option_map}
use Rattle.wac_core.specs.Content.{core_tree}
use Rattle.wac_model.proofs.Lookups.{lookup-shown}
use Rattle.wac_core_checker.proofs.modules.export_of.Goals as goal

pub returns : goal.returns
returns c = ap (option_map core_tree) c.get.ensures.value ∙ lookup-shown string_bytes core_tree _ bytes_eq (string_bytes c.args.name.now) (λ (k : String Global). refl) c.args.of.now.exports.entries
