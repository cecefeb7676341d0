-- The order among core externs that are valid, and among modules of such
-- ones: these alone count as their bounds.
use Rattle.std.specs.Prelude.{IsTrue}
use Rattle.wac_model.specs.CoreTree.{CoreTree, CoreFits, is_valid_extern, ModuleContent, ModuleFits, is_valid_module}

-- a valid extern fits where another is asked for
abbrev pub ValidFits : CoreTree → CoreTree → Type 0
ValidFits a b = IsTrue (is_valid_extern a) × IsTrue (is_valid_extern b) × CoreFits a b

-- a module of valid externs fits where another is asked for
abbrev pub ValidModuleFits : ModuleContent → ModuleContent → Type 0
ValidModuleFits a b = IsTrue (is_valid_module a) × IsTrue (is_valid_module b) × ModuleFits a b
