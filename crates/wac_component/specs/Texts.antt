-- The texts that values print.
use Rattle.std.specs.Prelude.{codes}
use Rattle.wac_model.specs.Text.{Text}
use Rattle.wac_component.specs.declared.functions.FuncKind.{FuncKind}
use Rattle.wac_component.specs.declared.functions.FuncKind.TheVariants.{Free, Method, Static, Constructor}
use Rattle.wac_component.specs.declared.worlds.ExternKind.{ExternKind}
use Rattle.wac_component.specs.declared.worlds.ExternKind.TheVariants.{Import, Export}

abbrev pub func_kind_text : FuncKind → Text
func_kind_text Free = codes "function"
func_kind_text Method = codes "method"
func_kind_text Static = codes "static method"
func_kind_text Constructor = codes "constructor"

abbrev pub extern_kind_text : ExternKind → Text
extern_kind_text Import = codes "import"
extern_kind_text Export = codes "export"
