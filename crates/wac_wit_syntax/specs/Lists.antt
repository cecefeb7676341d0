-- What stands one after another.
use Rattle.std.specs.Prelude.{◌≡◌, ◌⊎◌, List, [], ◌∷◌}
use Rattle.wac_wit_syntax.specs.Productions.{◌▸◌, IsKind, Nothing, Production}
use Rattle.wac_wit_syntax.specs.declared.token.TokenKind.{TokenKind}
use Rattle.wac_wit_syntax.specs.declared.token.TokenKind.TheVariants.{CloseBrace, Comma, OpenBrace}

-- a comma, which may be missing
abbrev pub MayBeComma : Production
MayBeComma = λ s i j. (j ≡ i) ⊎ IsKind Comma s i j

-- items one after another
abbrev pub InOrder : {X : Type 0} → (X → Production) → List X → Production
InOrder P [] = Nothing
InOrder P (x ∷ xs) = P x ▸ InOrder P xs

-- members with a comma between them, one of which may stand behind the last
abbrev pub Separated : {X : Type 0} → (X → Production) → List X → Production
Separated P [] = Nothing
Separated P (x ∷ []) = P x ▸ MayBeComma
Separated P (x ∷ xs) = P x ▸ IsKind Comma ▸ Separated P xs

-- members between what opens a list and what closes it
abbrev pub IsListing : {X : Type 0} → TokenKind → (X → Production) → TokenKind → List X → Production
IsListing opener P close xs = IsKind opener ▸ Separated P xs ▸ IsKind close

-- items between braces
abbrev pub IsBlock : {X : Type 0} → (X → Production) → List X → Production
IsBlock P xs = IsKind OpenBrace ▸ InOrder P xs ▸ IsKind CloseBrace
