-- Texts, and lists of named values.
use Rattle.std.specs.Prelude.{ℕ, List, [], ◌∷◌, ◌++◌, Option, Some, None, if◌then◌else◌, Bool, ◌&&◌}
use Rattle.std.specs.Str.{bytes_eq}

-- a text, by the bytes of its UTF-8
abbrev pub Text : Type 0
Text = List ℕ

-- the name of an import of a core module: the module that it is from, and its name there
-- (WebAssembly core specification, "Imports")
abbrev pub ImportName : Type 0
ImportName = Text × Text

abbrev pub import_name_eq : ImportName → ImportName → Bool
import_name_eq m n = bytes_eq m.0 n.0 && bytes_eq m.1 n.1

-- the value at a name in a list of named values: the first one
abbrev pub lookup : {K V : Type 0} → (K → K → Bool) → List (K × V) → K → Option V
lookup is_same [] n = None
lookup is_same (e ∷ es) n = if is_same n e.0 then Some e.1 else lookup is_same es n

-- the texts one after another
abbrev pub joined : List Text → Text
joined [] = []
joined (x ∷ []) = x
joined (x ∷ y ∷ zs) = x ++ joined (y ∷ zs)
