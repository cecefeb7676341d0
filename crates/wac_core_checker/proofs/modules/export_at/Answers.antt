use Rattle.std.proofs.Common.{refl, ap, sym, ◌∙◌, string_bytes, String, Global}
use Rattle.std.specs.Str.{bytes_eq}
use Rattle.std.specs.Option.{option_map}
use Rattle.wac_core.specs.Content.{core_tree}
use Rattle.wac_model.proofs.Lookups.{lookup-shown}
use Rattle.wac_core_checker.proofs.modules.export_at.Goals as goal

pub returns-clause-named : goal.returns-clause-named
returns-clause-named c = sym (lookup-shown string_bytes core_tree _ bytes_eq (string_bytes c.unwrap.result.0.now) (λ (k : String Global). refl) c.args.of.now.exports.entries) ∙ ap (option_map core_tree) (rw c.unwrap.ensures at c.get_index.ensures.value)
