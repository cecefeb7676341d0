-- How words write names.
use Rattle.std.specs.Prelude.{[], codes, if◌then◌else◌}
use Rattle.std.specs.Str.{bytes_eq}
use Rattle.percent_encoding.specs.Percent.{percent_encode}
use Rattle.wac_model.specs.Text.{Text}
use Rattle.wac_script_syntax.specs.declared.names.TheConstants.{ESCAPED}

-- the word that writes a name
abbrev pub written_name : Text → Text
written_name name =
    if bytes_eq name []
    then codes "%"
    else (if bytes_eq name (codes "-") then codes "%2D" else percent_encode ESCAPED name)
