-- The text of a `NameError`.
use Rattle.std.specs.Prelude.{◌++◌, codes, string_bytes}
use Rattle.wac_model.specs.Text.{Text}
use Rattle.wac_names.specs.declared.error.NameError.{NameError}
use Rattle.wac_names.specs.declared.error.NameError.TheVariants.{Memory, Twice}

abbrev pub name_error_text : NameError → Text
name_error_text (Twice name) = codes "map entry `" ++ string_bytes name ++ codes "` defined twice"
name_error_text Memory = codes "out of memory"
