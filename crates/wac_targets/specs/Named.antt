-- What a map from names to items stands for, where each text is its own key.
use Rattle.std.specs.Prelude.{List, String, map, string_bytes}
use Rattle.std.specs.Borrow.{Bor}
use Rattle.std.specs.declared.alloc.Global.{Global}
use Rattle.std.specs.Str.{bytes_eq}
use Rattle.std.specs.String.{string_eq}
use Rattle.wac_model.specs.Text.{Text}
use Rattle.wac_names.specs.Interner.{Interning}
use Rattle.wac_names.specs.NameMap.{Represents}
use Rattle.wac_names.specs.declared.name_map.NameMap.{NameMap}

-- each text is its own key
abbrev pub text_keys : Interning (String Global)
text_keys text key = bytes_eq text (string_bytes key)

-- the map stands for these values under their names
abbrev pub IsMapOf : {V : Type 0} → NameMap (String Global) V → List (Text × V) → Type 0
IsMapOf m ps = Represents string_eq text_keys m ps

-- the entries of a map with borrowed names
abbrev pub borrowed : {V : Type 0} → List (Bor Text × V) → List (Text × V)
borrowed es = map (λ e. (e.0.now, e.1)) es
