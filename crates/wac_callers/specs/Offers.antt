-- What a map of offers stands for.
use Rattle.std.specs.Prelude.{ℕ, List, String, string_bytes}
use Rattle.std.specs.declared.alloc.Global.{Global}
use Rattle.std.specs.Str.{bytes_eq}
use Rattle.std.specs.String.{string_eq}
use Rattle.wac_types.specs.NameMap.{Represents}
use Rattle.wac_types.specs.Text.{Text}
use Rattle.wac_types.specs.declared.NameMap.{NameMap}

-- these pairs of a name and a value, in order, where each text is its own key
abbrev pub Offers : NameMap (String Global) ℕ → List (Text × ℕ) → Type 0
Offers m ps = Represents string_eq (λ text key. bytes_eq text (string_bytes key)) m ps
