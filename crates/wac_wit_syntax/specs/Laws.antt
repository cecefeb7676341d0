-- What follows from the grammar.
use Rattle.std.specs.Prelude.{◌≡◌, ◌≤◌, true, List, ◌++◌, length}
use Rattle.std.specs.List.{list_all}
use Rattle.wac_model.specs.Text.{Text}
use Rattle.wac_wit_syntax.specs.Names.{is_label, keywords}
use Rattle.wac_wit_syntax.specs.Parts.{IsOfSort, IsRead, PartSort, token}
use Rattle.wac_wit_syntax.specs.Tokens.{IsToken}
use Rattle.wac_wit_syntax.specs.declared.token.Token.{Token}
use Rattle.wac_wit_syntax.specs.declared.token.TokenKind.{TokenKind}

-- one part at most begins a text: it has one sort and one end
abbrev pub HasOnePart : Type 0
HasOnePart = (s t : PartSort) (v w a b : Text) → IsOfSort s v a → IsOfSort t w b → v ++ a ≡ w ++ b → (s ≡ t) × (v ≡ w) × (a ≡ b)

-- no longer front of a text is a token than the one that begins it
abbrev pub HasLongestTokens : Type 0
HasLongestTokens = (kind other : TokenKind) (v w a b : Text) → IsOfSort (token kind) v a → IsToken other w → v ++ a ≡ w ++ b → length w ≤ length v

-- a text is read as one list of tokens at most
abbrev pub HasOneReading : Type 0
HasOneReading = (text : Text) (ts us : List Token) → IsRead text ts → IsRead text us → ts ≡ us

-- each keyword is a name by its form
abbrev pub KeywordsAreNames : Type 0
KeywordsAreNames = list_all is_label keywords ≡ true
