-- What the reader of types has between two steps, behind the word with which a type begins: the parts
-- that stand between the angles. The grammar is told apart from this (`Types`).
use Rattle.std.specs.Prelude.{◌≡◌, ◌≢◌, ◌⊎◌, ℕ, ◌+◌, ◌<◌, ◌≤◌, ⊤, length, Bool, true, false, codes, List, [], ◌∷◌, ◌++◌, Option, Some, None, Box, Result, IfOk, IfErr}
use Rattle.std.specs.declared.alloc.Global.{Global}
use Rattle.wac_model.specs.Text.{Text}
use Rattle.wac_wit_syntax.specs.Completing.{AnyOf, AreOpen, IsReadable, NotBefore}
use Rattle.wac_wit_syntax.specs.Cursors.{source}
use Rattle.wac_wit_syntax.specs.Productions.{◌▸◌, IsKind, IsSpan, IsWord, Nothing, Production, SaysWord, Source, token_at}
use Rattle.wac_wit_syntax.specs.Types.{AreTypes, IsKey, IsLength, IsType, IsTypeOf}
use Rattle.wac_wit_syntax.specs.declared.types.TheConstants.{MAX_DEPTH}
use Rattle.wac_wit_syntax.specs.declared.cursor.Cursor.{Cursor}
use Rattle.wac_wit_syntax.specs.declared.error.Fault.{Fault}
use Rattle.wac_wit_syntax.specs.declared.error.Fault.TheVariants.{Memory}
use Rattle.wac_wit_syntax.specs.declared.positions.Span.{Span}
use Rattle.wac_wit_syntax.specs.declared.token.TokenKind.TheVariants.{CloseAngle, Comma, OpenAngle, Underscore}
use Rattle.wac_wit_syntax.specs.declared.tree.TypeExpr.{TypeExpr}
use Rattle.wac_wit_syntax.specs.declared.types.Parts.{Parts}
use Rattle.wac_wit_syntax.specs.declared.types.TypeWord.{TypeWord}
use Rattle.wac_wit_syntax.specs.declared.types.TypeWord.TheVariants as word

abbrev pub word_text : TypeWord → Text
word_text word.List = codes "list"
word_text word.Option = codes "option"
word_text word.Result = codes "result"
word_text word.Tuple = codes "tuple"
word_text word.Map = codes "map"
word_text word.Future = codes "future"
word_text word.Stream = codes "stream"

-- no word that makes types comes next; `map` makes one before `<` alone
abbrev pub BeginsPlain : Source → ℕ → Type 0
BeginsPlain s i = (w : TypeWord) → SaysWord s i (word_text w) → (w ≡ word.Map) × ((token_at s (i + 1)).kind ≢ OpenAngle)

-- a type that begins with none
abbrev pub IsPlainType : Production
IsPlainType = λ s i j. AnyOf IsTypeOf s i j × BeginsPlain s i

-- there is no part yet
abbrev pub is_empty : List TypeExpr → Bool → Bool
is_empty [] false = true
is_empty ts lacks = false

-- the only part is a type
abbrev pub is_first : List TypeExpr → Bool → Option ℕ → Bool
is_first (t ∷ []) false None = true
is_first ts lacks n = false

-- the next part is a type, or `_`
abbrev pub next_is_type : TypeWord → List TypeExpr → Bool → Bool
next_is_type word.List ts lacks = is_empty ts lacks
next_is_type w ts lacks = true

-- another part may follow
abbrev pub may_go_on : TypeWord → List TypeExpr → Bool → Option ℕ → Bool
may_go_on word.Tuple ts lacks n = true
may_go_on word.Map ts lacks n = is_first ts lacks n
may_go_on word.List ts lacks n = is_first ts lacks n
may_go_on word.Result [] lacks n = true
may_go_on word.Result ts lacks n = is_first ts lacks n
may_go_on w ts lacks n = false

-- no part needs to follow
abbrev pub may_end : TypeWord → List TypeExpr → Bool → Option ℕ → Bool
may_end word.Map (t ∷ []) false None = false
may_end word.Result [] lacks n = false
may_end w ts lacks n = true

-- none
abbrev pub Never : Production
Never = λ s i j. ⊥

-- types with a comma behind each
abbrev pub WithCommas : List TypeExpr → Production
WithCommas [] = Nothing
WithCommas (t ∷ ts) = IsTypeOf t ▸ IsKind Comma ▸ WithCommas ts

-- types with a comma behind each but the last
abbrev pub Listed : List TypeExpr → Production
Listed [] = Never
Listed (t ∷ []) = IsTypeOf t
Listed (t ∷ ts) = IsTypeOf t ▸ IsKind Comma ▸ Listed ts

-- the angle, and parts with a comma behind each
abbrev pub Begun : TypeWord → List TypeExpr → Bool → Option ℕ → Production
Begun word.Tuple ts false None = IsKind OpenAngle ▸ WithCommas ts
Begun w [] false None = IsKind OpenAngle
Begun word.Result [] true None = IsKind OpenAngle ▸ IsKind Underscore ▸ IsKind Comma
Begun word.Result (t ∷ []) false None = IsKind OpenAngle ▸ IsTypeOf t ▸ IsKind Comma
Begun word.List (t ∷ []) false None = IsKind OpenAngle ▸ IsTypeOf t ▸ IsKind Comma
Begun word.Map (t ∷ []) false None = IsKind OpenAngle ▸ IsTypeOf t ▸ IsKind Comma
Begun w ts lacks n = Never

-- the angle, and parts with a comma behind each but the last
abbrev pub Parted : TypeWord → List TypeExpr → Bool → Option ℕ → Production
Parted word.Tuple ts false None = IsKind OpenAngle ▸ Listed ts
Parted word.Result [] true None = IsKind OpenAngle ▸ IsKind Underscore
Parted word.Result (t ∷ []) true None = IsKind OpenAngle ▸ IsKind Underscore ▸ IsKind Comma ▸ IsTypeOf t
Parted word.Result (t ∷ u ∷ []) false None = IsKind OpenAngle ▸ IsTypeOf t ▸ IsKind Comma ▸ IsTypeOf u
Parted word.Map (t ∷ u ∷ []) false None = IsKind OpenAngle ▸ IsTypeOf t ▸ IsKind Comma ▸ IsTypeOf u
Parted word.List (t ∷ []) false (Some n) = IsKind OpenAngle ▸ IsTypeOf t ▸ IsKind Comma ▸ IsLength n
Parted w (t ∷ []) false None = IsKind OpenAngle ▸ IsTypeOf t
Parted w ts lacks n = Never

-- all that stands behind the word
abbrev pub Whole : TypeWord → List TypeExpr → Bool → Option ℕ → Production
Whole word.Tuple ts false None = IsKind OpenAngle ▸ (λ s i j. AreTypes s ts i j) ▸ IsKind CloseAngle
Whole word.Result [] false None = Nothing
Whole word.Result (t ∷ []) true None = IsKind OpenAngle ▸ IsKind Underscore ▸ IsKind Comma ▸ IsTypeOf t ▸ IsKind CloseAngle
Whole word.Result (t ∷ u ∷ []) false None = IsKind OpenAngle ▸ IsTypeOf t ▸ IsKind Comma ▸ IsTypeOf u ▸ IsKind CloseAngle
Whole word.Map (t ∷ u ∷ []) false None = IsKind OpenAngle ▸ IsTypeOf t ▸ IsKind Comma ▸ IsTypeOf u ▸ IsKind CloseAngle
Whole word.Map ts false None = Never
Whole word.List (t ∷ []) false (Some n) = IsKind OpenAngle ▸ IsTypeOf t ▸ IsKind Comma ▸ IsLength n ▸ IsKind CloseAngle
Whole word.Future [] false None = Nothing
Whole word.Stream [] false None = Nothing
Whole w (t ∷ []) false None = IsKind OpenAngle ▸ IsTypeOf t ▸ IsKind CloseAngle
Whole w ts lacks n = Never

-- whether more follows, or this is all
abbrev pub Stage : Bool → TypeWord → List TypeExpr → Bool → Option ℕ → Production
Stage true w ts lacks n = Begun w ts lacks n
Stage false w ts lacks n = Whole w ts lacks n

-- what was read behind the word: the reader's parts, before the next one, behind one, and at a stage
abbrev pub AreBegun : TypeWord → Parts → Production
AreBegun w p = Begun w p.types.items p.lacks_first p.length

abbrev pub AreParted : TypeWord → Parts → Production
AreParted w p = Parted w p.types.items p.lacks_first p.length

abbrev pub AreAtStage : Bool → TypeWord → Parts → Production
AreAtStage more w p = Stage more w p.types.items p.lacks_first p.length

-- the type that is made of a word and all that stands behind it, on this place
abbrev pub IsTypeMade : TypeWord → List TypeExpr → Bool → Option ℕ → Span → TypeExpr → Type 0
IsTypeMade w ts lacks n span t = (s : Source) (i k j : ℕ) → IsWord (word_text w) s i k → Whole w ts lacks n s k j → IsSpan span s i j → IsType s t i j

-- a list without its last, and that in a box, if there is one
abbrev pub TakesLast : List TypeExpr → List TypeExpr → Option (Box TypeExpr Global) → Type 0
TakesLast before after None = (before ≡ []) × (after ≡ [])
TakesLast before after (Some b) = before ≡ after ++ b.value ∷ []

-- the first of the types can be the key of a map
abbrev pub HasMapKey : List TypeExpr → Type 0
HasMapKey [] = ⊥
HasMapKey (t ∷ ts) = IsKey t

-- the parts that a word needs are there
abbrev pub AreEnough : TypeWord → List TypeExpr → Type 0
AreEnough word.Map ts = (1 < length ts) × HasMapKey ts
AreEnough word.List ts = 0 < length ts
AreEnough word.Option ts = 0 < length ts
AreEnough w ts = ⊤

-- ---- what is left to be read

-- a type of which no more stands behind these words
abbrev pub stands_alone : TypeWord → Bool
stands_alone word.Result = true
stands_alone word.Future = true
stands_alone word.Stream = true
stands_alone w = false

-- behind these parts, what stands from the next part on, up to behind the angle that closes them, and what
-- stands behind a part; where so many angles are open. Whichever type is read for one of them, the rest is so.
mutual
  pub data IsPartNext (s : Source) (w : TypeWord) (n : ℕ) : List TypeExpr → Bool → Option ℕ → ℕ → ℕ → Type 0 where
    ty : {ts : List TypeExpr} {lacks : Bool} {l : Option ℕ} {t : TypeExpr} {i k j : ℕ} → next_is_type w ts lacks ≡ true → AreOpen s i n → IsType s t i k
        → ((u : TypeExpr) → (IsKey t → IsKey u) → IsBehind s w n (ts ++ u ∷ []) lacks l k j) → IsPartNext s w n ts lacks l i j
    lack : {l : Option ℕ} {i k j : ℕ} → w ≡ word.Result → IsKind Underscore s i k → IsBehind s w n [] true l k j → IsPartNext s w n [] false l i j
    length_of : {ts : List TypeExpr} {lacks : Bool} {l : Option ℕ} {m i k j : ℕ} → next_is_type w ts lacks ≡ false → IsLength m s i k → ((u : ℕ) → IsBehind s w n ts lacks (Some u) k j) → IsPartNext s w n ts lacks l i j

  pub data IsBehind (s : Source) (w : TypeWord) (n : ℕ) : List TypeExpr → Bool → Option ℕ → ℕ → ℕ → Type 0 where
    end : {ts : List TypeExpr} {lacks : Bool} {l : Option ℕ} {i j : ℕ} → may_end w ts lacks l ≡ true → AreEnough w ts → IsKind CloseAngle s i j → IsBehind s w n ts lacks l i j
    comma : {ts : List TypeExpr} {lacks : Bool} {l : Option ℕ} {i k j : ℕ} → may_go_on w ts lacks l ≡ true → IsKind Comma s i k → IsPartNext s w n ts lacks l k j → IsBehind s w n ts lacks l i j
    comma_end : {ts : List TypeExpr} {lacks : Bool} {l : Option ℕ} {i k j : ℕ} → w ≡ word.Tuple → IsKind Comma s i k → IsKind CloseAngle s k j → IsBehind s w n ts lacks l i j

-- all that stands behind a word
abbrev pub IsRest : Source → TypeWord → ℕ → ℕ → ℕ → Type 0
IsRest s w n i j = ((stands_alone w ≡ true) × (j ≡ i) × ((token_at s j).kind ≢ OpenAngle)) ⊎ ((k : ℕ) × IsKind OpenAngle s i k × IsPartNext s w (n + 1) [] false None k j)

-- the reader goes on to where so much is left: the parts from the next on, or none where they are closed
pub record GoesTo (is_open : Bool) (w : TypeWord) (n : ℕ) (ts : List TypeExpr) (lacks : Bool) (l : Option ℕ) (c d : Cursor) (j : ℕ) : Type 0 where
  pub same : d ≡ record c { next = d.next }
  pub further : c.next ≤ d.next
  pub left : is_open ≡ true → IsPartNext (source c) w n ts lacks l d.next j
  pub closed : is_open ≡ false → (d.next ≡ j) × AreEnough w ts

-- a type stands in front of what is left
pub record IsTypeNext (s : Source) (w : TypeWord) (n : ℕ) (ts : List TypeExpr) (lacks : Bool) (l : Option ℕ) (i j : ℕ) : Type 0 where
  pub first : TypeExpr
  pub end : ℕ
  pub are_open : AreOpen s i n
  pub is_type : IsType s first i end
  pub behind : (u : TypeExpr) → (IsKey first → IsKey u) → IsBehind s w n (ts ++ u ∷ []) lacks l end j

-- a part is taken, or a type comes next
pub record GoesBehind (is_other : Bool) (w : TypeWord) (n : ℕ) (p q : Parts) (c d : Cursor) (j : ℕ) : Type 0 where
  pub same : d ≡ record c { next = d.next }
  pub further : is_other ≡ true → c.next < d.next
  pub behind : is_other ≡ true → IsBehind (source c) w n q.types.items q.lacks_first q.length d.next j
  pub ty : is_other ≡ false → IsTypeNext (source c) w n p.types.items p.lacks_first p.length c.next j

-- what the three steps of the reader answer where so much is left
abbrev pub OpensParts : Cursor → Cursor → TypeWord → Result Bool Fault → Type 0
OpensParts c d w r = IsReadable (source c) → (n j : ℕ) → IsRest (source c) w n c.next j → IfOk r (λ is_open. GoesTo is_open w (n + 1) [] false None c d j) × IfErr r (λ fault. fault ≡ Memory)

abbrev pub ReadsOther : Cursor → Cursor → TypeWord → Parts → Parts → Result Bool Fault → Type 0
ReadsOther c d w p q r = IsReadable (source c) → (n j : ℕ) → IsPartNext (source c) w n p.types.items p.lacks_first p.length c.next j
    → IfOk r (λ is_other. GoesBehind is_other w n p q c d j) × IfErr r (λ fault. fault ≡ Memory)

abbrev pub EndsPart : Cursor → Cursor → TypeWord → Parts → Result Bool Fault → Type 0
EndsPart c d w p r = IsReadable (source c) → (n j : ℕ) → IsBehind (source c) w n p.types.items p.lacks_first p.length c.next j
    → IfOk r (λ is_open. GoesTo is_open w n p.types.items p.lacks_first p.length c d j) × IfErr r (λ fault. fault ≡ Memory)

-- a type stands ahead, where so many may nest, and no `<` behind it
pub record IsTypeAhead (c : Cursor) (depth j : ℕ) : Type 0 where
  pub readable : IsReadable (source c)
  pub is_type : NotBefore OpenAngle (AnyOf IsTypeOf) (source c) c.next j
  pub count : ℕ
  pub are_open : AreOpen (source c) c.next count
  pub deep : count + depth ≡ MAX_DEPTH

-- what is read is the key of a map where the grammar derives one
abbrev pub KeepsKey : Cursor → TypeExpr → Type 0
KeepsKey c u = IsReadable (source c) → (t : TypeExpr) (k : ℕ) → IsType (source c) t c.next k → IsKey t → IsKey u
