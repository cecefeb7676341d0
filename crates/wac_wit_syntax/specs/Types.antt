-- Types (WIT.md, "Types").
use Rattle.std.specs.Prelude.{◌≡◌, ℕ, ◌+◌, ◌^◌, ◌<◌, Bool, true, false, codes, List, [], ◌∷◌, Some, None, Box, Vec}
use Rattle.std.specs.Str.Parse.{digits_value, without_leading_plus}
use Rattle.wac_model.specs.Text.{Text}
use Rattle.wac_model.specs.Desc.{primitive_desc}
use Rattle.wac_model.specs.declared.primitive.PrimitiveType.{PrimitiveType}
use Rattle.wac_model.specs.declared.primitive.PrimitiveType.TheVariants.{F32, F64, ErrorContext}
use Rattle.std.specs.declared.alloc.Global.{Global}
use Rattle.wac_wit_syntax.specs.Productions.{◌▸◌, IsKind, IsName, IsSpan, IsWord, Production, Source, token_at, token_text}
use Rattle.wac_wit_syntax.specs.declared.positions.Span.{Span}
use Rattle.wac_wit_syntax.specs.declared.token.TokenKind.TheVariants.{CloseAngle, Comma, Integer, OpenAngle, Underscore}
use Rattle.wac_wit_syntax.specs.declared.tree.Ident.{Ident}
use Rattle.wac_wit_syntax.specs.declared.tree.TypeExpr.{TypeExpr}
use Rattle.wac_wit_syntax.specs.declared.tree.TypeExpr.TheVariants as ty

-- a word and the angle behind it
abbrev pub Opens : Text → Production
Opens word = IsWord word ▸ IsKind OpenAngle

-- uint ::= [0-9]+
-- The number that the digits write, which is below 2^32; an integer has no plus in front of them.
abbrev pub SaysLength : Source → ℕ → ℕ → Type 0
SaysLength s i n = ((token_at s i).kind ≡ Integer) × (n ≡ digits_value 10 (without_leading_plus (token_text s i))) × (n < 2 ^ 32)

abbrev pub IsLength : ℕ → Production
IsLength n = λ s i j. SaysLength s i n × (j ≡ i + 1)

-- a primitive type that can be the key of a map
abbrev pub is_key : PrimitiveType → Bool
is_key F32 = false
is_key F64 = false
is_key ErrorContext = false
is_key primitive = true

-- kt ::= 'bool' | 'u8' | .. | 'char' | 'string'
abbrev pub IsKey : TypeExpr → Type 0
IsKey t = (primitive : PrimitiveType) × (span : Span) × (t ≡ ty.Primitive primitive span) × (is_key primitive ≡ true)

mutual
  -- ty ::= 'u8' | 'u16' | .. | tuple | list | option | result | map | future | stream | handle | id
  pub data IsType (s : Source) : TypeExpr → ℕ → ℕ → Type 0 where
    primitive : {p : PrimitiveType} {span : Span} {i j : ℕ} → IsWord (primitive_desc p) s i j → IsSpan span s i j → IsType s (ty.Primitive p span) i j
    name : {id : Ident} {i j : ℕ} → IsName id s i j → IsType s (ty.Name id) i j
    -- list ::= 'list' '<' ty '>' | 'list' '<' ty ',' uint '>'
    list : {t : Box TypeExpr Global} {i a b j : ℕ} → Opens (codes "list") s i a → IsType s t.value a b → IsKind CloseAngle s b j → IsType s (ty.List t) i j
    fixed_list : {t : Box TypeExpr Global} {n : ℕ} {span : Span} {i a b c d j : ℕ} → Opens (codes "list") s i a → IsType s t.value a b → IsKind Comma s b c → IsLength n s c d → IsKind CloseAngle s d j
        → IsSpan span s i j → IsType s (ty.FixedList t n span) i j
    -- option ::= 'option' '<' ty '>'
    option : {t : Box TypeExpr Global} {i a b j : ℕ} → Opens (codes "option") s i a → IsType s t.value a b → IsKind CloseAngle s b j → IsType s (ty.Option t) i j
    -- result ::= 'result' | 'result' '<' ty '>' | 'result' '<' '_' ',' ty '>' | 'result' '<' ty ',' ty '>'
    result : {i j : ℕ} → IsWord (codes "result") s i j → IsType s (ty.Result None None) i j
    result_ok : {t : Box TypeExpr Global} {i a b j : ℕ} → Opens (codes "result") s i a → IsType s t.value a b → IsKind CloseAngle s b j → IsType s (ty.Result (Some t) None) i j
    result_err : {e : Box TypeExpr Global} {i a b c d j : ℕ} → Opens (codes "result") s i a → IsKind Underscore s a b → IsKind Comma s b c → IsType s e.value c d → IsKind CloseAngle s d j
        → IsType s (ty.Result None (Some e)) i j
    result_both : {t e : Box TypeExpr Global} {i a b c d j : ℕ} → Opens (codes "result") s i a → IsType s t.value a b → IsKind Comma s b c → IsType s e.value c d → IsKind CloseAngle s d j
        → IsType s (ty.Result (Some t) (Some e)) i j
    -- tuple ::= 'tuple' '<' tuple-list '>'
    tuple : (ts : Vec TypeExpr Global) {span : Span} {i a b j : ℕ} → Opens (codes "tuple") s i a → AreTypes s ts.items a b → IsKind CloseAngle s b j → IsSpan span s i j → IsType s (ty.Tuple ts span) i j
    -- map ::= 'map' '<' kt ',' ty '>'
    map : {k v : Box TypeExpr Global} {span : Span} {i a b c d j : ℕ} → Opens (codes "map") s i a → IsType s k.value a b → IsKey k.value → IsKind Comma s b c → IsType s v.value c d → IsKind CloseAngle s d j
        → IsSpan span s i j → IsType s (ty.Map k v span) i j
    -- future ::= 'future' '<' ty '>' | 'future', stream ::= 'stream' '<' ty '>' | 'stream'
    future : {i j : ℕ} → IsWord (codes "future") s i j → IsType s (ty.Future None) i j
    future_of : {t : Box TypeExpr Global} {i a b j : ℕ} → Opens (codes "future") s i a → IsType s t.value a b → IsKind CloseAngle s b j → IsType s (ty.Future (Some t)) i j
    stream : {i j : ℕ} → IsWord (codes "stream") s i j → IsType s (ty.Stream None) i j
    stream_of : {t : Box TypeExpr Global} {i a b j : ℕ} → Opens (codes "stream") s i a → IsType s t.value a b → IsKind CloseAngle s b j → IsType s (ty.Stream (Some t)) i j
    -- handle ::= 'own' '<' id '>' | 'borrow' '<' id '>'
    own : {id : Ident} {i a b j : ℕ} → Opens (codes "own") s i a → IsName id s a b → IsKind CloseAngle s b j → IsType s (ty.Own id) i j
    borrow : {id : Ident} {i a b j : ℕ} → Opens (codes "borrow") s i a → IsName id s a b → IsKind CloseAngle s b j → IsType s (ty.Borrow id) i j

  -- tuple-list ::= ty | ty ',' tuple-list?
  pub data AreTypes (s : Source) : List TypeExpr → ℕ → ℕ → Type 0 where
    last : {t : TypeExpr} {i j : ℕ} → IsType s t i j → AreTypes s (t ∷ []) i j
    last_comma : {t : TypeExpr} {i a j : ℕ} → IsType s t i a → IsKind Comma s a j → AreTypes s (t ∷ []) i j
    more : {t : TypeExpr} {ts : List TypeExpr} {i a b j : ℕ} → IsType s t i a → IsKind Comma s a b → AreTypes s ts b j → AreTypes s (t ∷ ts) i j

-- the type, as a production
abbrev pub IsTypeOf : TypeExpr → Production
IsTypeOf t = λ s i j. IsType s t i j
