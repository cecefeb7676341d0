use Rattle.std.proofs.Common.{refl, ap, sym, ◌∙◌, String, Global}
use Rattle.std.specs.Option.{option_map}
use Rattle.wac_model.specs.Text.{import_name_eq}
use Rattle.wac_core.specs.Content.{core_tree, import_name}
use Rattle.wac_model.proofs.Lookups.{lookup-shown}
use Rattle.wac_core_checker.proofs.modules.import_at.Goals as goal

pub returns-clause-named : goal.returns-clause-named
returns-clause-named c = sym (lookup-shown import_name core_tree _ import_name_eq (import_name c.unwrap.result.0.now) (λ (k : String Global × String Global). refl) c.args.of.now.imports.entries) ∙ ap (option_map core_tree) (rw c.unwrap.ensures at c.get_index.ensures.value)
