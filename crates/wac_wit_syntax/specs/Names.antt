-- Names and keywords (WIT.md, "Keywords" and "Identifiers").
use Rattle.std.specs.Prelude.{Bool, ◌&&◌, ◌||◌, List, [], ◌∷◌, codes, slice_index}
use Rattle.std.specs.Char.{is_ascii_alphabetic}
use Rattle.std.specs.List.{list_all, slice_split}
use Rattle.wac_model.specs.Text.{Text}
use Rattle.wac_wit_syntax.specs.Bytes.{is_dash, is_lower_or_digit, is_nonempty, is_upper_or_digit}

-- word    ::= [0-9a-z]+
-- acronym ::= [0-9A-Z]+
-- One of the two: letters of one case and digits, at least one.
abbrev pub is_fragment : Text → Bool
is_fragment w = is_nonempty w && (list_all is_lower_or_digit w || list_all is_upper_or_digit w)

-- label ::= fragment | label '-' fragment
-- What stands between its dashes are fragments, and the first begins with a letter.
abbrev pub is_label : Text → Bool
is_label w = is_ascii_alphabetic (slice_index w 0) && list_all is_fragment (slice_split is_dash w)

-- keyword ::= 'as' | 'async' | ..
-- Names all the same, which stand for themselves after `%` alone. `map` is none: `map<` begins a type.
unfoldable pub keywords : List Text
keywords =
    codes "as" ∷ codes "async" ∷ codes "bool" ∷ codes "borrow" ∷ codes "char" ∷ codes "constructor" ∷
    codes "enum" ∷ codes "error-context" ∷ codes "export" ∷ codes "f32" ∷ codes "f64" ∷ codes "flags" ∷
    codes "from" ∷ codes "func" ∷ codes "future" ∷ codes "import" ∷ codes "include" ∷ codes "interface" ∷
    codes "list" ∷ codes "option" ∷ codes "own" ∷ codes "package" ∷ codes "record" ∷ codes "resource" ∷
    codes "result" ∷ codes "s16" ∷ codes "s32" ∷ codes "s64" ∷ codes "s8" ∷ codes "static" ∷ codes "stream" ∷
    codes "string" ∷ codes "tuple" ∷ codes "type" ∷ codes "u16" ∷ codes "u32" ∷ codes "u64" ∷ codes "u8" ∷
    codes "use" ∷ codes "variant" ∷ codes "with" ∷ codes "world" ∷ []
