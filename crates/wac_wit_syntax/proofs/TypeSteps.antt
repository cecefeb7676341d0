-- From one step of the reader of types to the next.
use Rattle.std.proofs.Common.{◌≡◌, ℕ, Bool, true, false, List, [], ◌∷◌, ◌++◌, Option, Some, None, refl, sym, subst}
use Rattle.wac_wit_syntax.specs.Productions.{◌▸◌, IsKind, Source}
use Rattle.wac_wit_syntax.specs.Types.{AreTypes, IsType, IsTypeOf, last, last_comma, more}
use Rattle.wac_wit_syntax.specs.TypeParts.{Begun, Listed, Parted, Whole, WithCommas, may_end, may_go_on, next_is_type}
use Rattle.wac_wit_syntax.specs.declared.token.TokenKind.TheVariants.{CloseAngle, Comma, Underscore}
use Rattle.wac_wit_syntax.specs.declared.tree.TypeExpr.{TypeExpr}
use Rattle.wac_wit_syntax.specs.declared.types.TypeWord.{TypeWord}
use Rattle.wac_wit_syntax.specs.declared.types.TypeWord.TheVariants as word

-- ---- tuples

-- a type behind types that have commas
listed_more : (ts : List TypeExpr) (t : TypeExpr) (s : Source) (i j : ℕ) → (WithCommas ts ▸ IsTypeOf t) s i j → Listed (ts ++ t ∷ []) s i j
listed_more [] t s i j h = subst (λ k. IsType s t k j) h.1 h.2
listed_more (u ∷ []) t s i j h = (h.1.0, h.1.1, (h.1.2.0, h.1.2.1, subst (λ k. IsType s t k j) h.1.2.2 h.2))
listed_more (u ∷ v ∷ us) t s i j h = (h.1.0, h.1.1, (h.1.2.0, h.1.2.1, listed_more (v ∷ us) t s h.1.2.0 j (h.0, h.1.2.2, h.2)))

-- a comma behind listed types
listed_comma : (ts : List TypeExpr) (s : Source) (i j : ℕ) → (Listed ts ▸ IsKind Comma) s i j → WithCommas ts s i j
listed_comma [] s i j h = absurd h.1
listed_comma (t ∷ []) s i j h = (h.0, h.1, (j, h.2, refl))
listed_comma (t ∷ u ∷ us) s i j h = (h.1.0, h.1.1, (h.1.2.0, h.1.2.1, listed_comma (u ∷ us) s h.1.2.0 j (h.0, h.1.2.2, h.2)))

listed_types : (ts : List TypeExpr) (s : Source) (i j : ℕ) → Listed ts s i j → AreTypes s ts i j
listed_types [] s i j h = absurd h
listed_types (t ∷ []) s i j h = last h
listed_types (t ∷ u ∷ us) s i j h = more h.1 h.2.1 (listed_types (u ∷ us) s h.2.0 j h.2.2)

-- with a comma at their end too, which some types have
comma_types : (ts : List TypeExpr) (s : Source) (i j : ℕ) → (Listed ts ▸ IsKind Comma) s i j → AreTypes s ts i j
comma_types [] s i j h = absurd h.1
comma_types (t ∷ []) s i j h = last_comma h.1 h.2
comma_types (t ∷ u ∷ us) s i j h = more h.1.1 h.1.2.1 (comma_types (u ∷ us) s h.1.2.0 j (h.0, h.1.2.2, h.2))

-- ---- any word

-- a type is the next part
pub with_type : (w : TypeWord) (ts : List TypeExpr) (lacks : Bool) (n : Option ℕ) (t : TypeExpr) (s : Source) (i j : ℕ) → next_is_type w ts lacks ≡ true → (Begun w ts lacks n ▸ IsTypeOf t) s i j → Parted w (ts ++ t ∷ []) lacks n s i j
with_type word.Tuple ts false None t s i j e h = (h.1.0, h.1.1, listed_more ts t s h.1.0 j (h.0, h.1.2, h.2))
with_type word.Tuple ts true n t s i j e h = absurd h.1
with_type word.Tuple ts false (Some m) t s i j e h = absurd h.1
with_type word.List [] false None t s i j e h = h
with_type word.List (u ∷ us) lacks n t s i j e h = absurd (let f : false ≡ true = e in cc)
with_type word.List [] true n t s i j e h = absurd h.1
with_type word.List [] false (Some m) t s i j e h = absurd h.1
with_type word.Option [] false None t s i j e h = h
with_type word.Option [] false (Some m) t s i j e h = absurd h.1
with_type word.Option [] true n t s i j e h = absurd h.1
with_type word.Option (u ∷ us) lacks n t s i j e h = absurd h.1
with_type word.Future [] false None t s i j e h = h
with_type word.Future [] false (Some m) t s i j e h = absurd h.1
with_type word.Future [] true n t s i j e h = absurd h.1
with_type word.Future (u ∷ us) lacks n t s i j e h = absurd h.1
with_type word.Stream [] false None t s i j e h = h
with_type word.Stream [] false (Some m) t s i j e h = absurd h.1
with_type word.Stream [] true n t s i j e h = absurd h.1
with_type word.Stream (u ∷ us) lacks n t s i j e h = absurd h.1
with_type word.Result [] false None t s i j e h = h
with_type word.Result [] true None t s i j e h = (h.1.0, h.1.1, (h.1.2.0, h.1.2.1, (h.0, h.1.2.2, h.2)))
with_type word.Result (u ∷ []) false None t s i j e h = (h.1.0, h.1.1, (h.1.2.0, h.1.2.1, (h.0, h.1.2.2, h.2)))
with_type word.Result (u ∷ v ∷ us) lacks n t s i j e h = absurd h.1
with_type word.Result [] false (Some m) t s i j e h = absurd h.1
with_type word.Result [] true (Some m) t s i j e h = absurd h.1
with_type word.Result (u ∷ []) true n t s i j e h = absurd h.1
with_type word.Result (u ∷ []) false (Some m) t s i j e h = absurd h.1
with_type word.Map [] false None t s i j e h = h
with_type word.Map (u ∷ []) false None t s i j e h = (h.1.0, h.1.1, (h.1.2.0, h.1.2.1, (h.0, h.1.2.2, h.2)))
with_type word.Map (u ∷ v ∷ us) lacks n t s i j e h = absurd h.1
with_type word.Map [] true n t s i j e h = absurd h.1
with_type word.Map [] false (Some m) t s i j e h = absurd h.1
with_type word.Map (u ∷ []) true n t s i j e h = absurd h.1
with_type word.Map (u ∷ []) false (Some m) t s i j e h = absurd h.1

-- a result's `_` is the first part
pub with_lack : (n : Option ℕ) (s : Source) (i j : ℕ) → (Begun word.Result [] false n ▸ IsKind Underscore) s i j → Parted word.Result [] true n s i j
with_lack None s i j h = h
with_lack (Some m) s i j h = absurd h.1

-- a comma behind a part that isn't the last
pub with_comma : (w : TypeWord) (ts : List TypeExpr) (lacks : Bool) (n : Option ℕ) (s : Source) (i j : ℕ) → may_go_on w ts lacks n ≡ true → (Parted w ts lacks n ▸ IsKind Comma) s i j → Begun w ts lacks n s i j
with_comma word.Tuple ts false None s i j e h = (h.1.0, h.1.1, listed_comma ts s h.1.0 j (h.0, h.1.2, h.2))
with_comma word.Tuple ts true n s i j e h = absurd h.1
with_comma word.Tuple ts false (Some m) s i j e h = absurd h.1
with_comma word.Option ts lacks n s i j e h = absurd (let f : false ≡ true = e in cc)
with_comma word.Future ts lacks n s i j e h = absurd (let f : false ≡ true = e in cc)
with_comma word.Stream ts lacks n s i j e h = absurd (let f : false ≡ true = e in cc)
with_comma word.List [] lacks n s i j e h = absurd (let f : false ≡ true = e in cc)
with_comma word.List (t ∷ []) false None s i j e h = (h.1.0, h.1.1, (h.0, h.1.2, h.2))
with_comma word.List (t ∷ []) false (Some m) s i j e h = absurd (let f : false ≡ true = e in cc)
with_comma word.List (t ∷ []) true n s i j e h = absurd (let f : false ≡ true = e in cc)
with_comma word.List (t ∷ u ∷ us) lacks n s i j e h = absurd (let f : false ≡ true = e in cc)
with_comma word.Map [] lacks n s i j e h = absurd (let f : false ≡ true = e in cc)
with_comma word.Map (t ∷ []) false None s i j e h = (h.1.0, h.1.1, (h.0, h.1.2, h.2))
with_comma word.Map (t ∷ []) false (Some m) s i j e h = absurd (let f : false ≡ true = e in cc)
with_comma word.Map (t ∷ []) true n s i j e h = absurd (let f : false ≡ true = e in cc)
with_comma word.Map (t ∷ u ∷ us) lacks n s i j e h = absurd (let f : false ≡ true = e in cc)
with_comma word.Result [] true None s i j e h = (h.1.0, h.1.1, (h.0, h.1.2, h.2))
with_comma word.Result [] true (Some m) s i j e h = absurd h.1
with_comma word.Result [] false n s i j e h = absurd h.1
with_comma word.Result (t ∷ []) false None s i j e h = (h.1.0, h.1.1, (h.0, h.1.2, h.2))
with_comma word.Result (t ∷ []) false (Some m) s i j e h = absurd (let f : false ≡ true = e in cc)
with_comma word.Result (t ∷ []) true n s i j e h = absurd (let f : false ≡ true = e in cc)
with_comma word.Result (t ∷ u ∷ us) lacks n s i j e h = absurd (let f : false ≡ true = e in cc)

-- the angle behind the last part
pub with_end : (w : TypeWord) (ts : List TypeExpr) (lacks : Bool) (n : Option ℕ) (s : Source) (i j : ℕ) → may_end w ts lacks n ≡ true → (Parted w ts lacks n ▸ IsKind CloseAngle) s i j → Whole w ts lacks n s i j
with_end word.Tuple ts false None s i j e h = (h.1.0, h.1.1, (h.0, listed_types ts s h.1.0 h.0 h.1.2, h.2))
with_end word.Tuple ts true n s i j e h = absurd h.1
with_end word.Tuple ts false (Some m) s i j e h = absurd h.1
with_end word.Option [] lacks n s i j e h = absurd h.1
with_end word.Option (t ∷ []) false None s i j e h = (h.1.0, h.1.1, (h.0, h.1.2, h.2))
with_end word.Option (t ∷ []) false (Some m) s i j e h = absurd h.1
with_end word.Option (t ∷ []) true n s i j e h = absurd h.1
with_end word.Option (t ∷ u ∷ us) lacks n s i j e h = absurd h.1
with_end word.Future [] lacks n s i j e h = absurd h.1
with_end word.Future (t ∷ []) false None s i j e h = (h.1.0, h.1.1, (h.0, h.1.2, h.2))
with_end word.Future (t ∷ []) false (Some m) s i j e h = absurd h.1
with_end word.Future (t ∷ []) true n s i j e h = absurd h.1
with_end word.Future (t ∷ u ∷ us) lacks n s i j e h = absurd h.1
with_end word.Stream [] lacks n s i j e h = absurd h.1
with_end word.Stream (t ∷ []) false None s i j e h = (h.1.0, h.1.1, (h.0, h.1.2, h.2))
with_end word.Stream (t ∷ []) false (Some m) s i j e h = absurd h.1
with_end word.Stream (t ∷ []) true n s i j e h = absurd h.1
with_end word.Stream (t ∷ u ∷ us) lacks n s i j e h = absurd h.1
with_end word.List [] lacks n s i j e h = absurd h.1
with_end word.List (t ∷ []) false None s i j e h = (h.1.0, h.1.1, (h.0, h.1.2, h.2))
with_end word.List (t ∷ []) false (Some m) s i j e h = (h.1.0, h.1.1, (h.1.2.0, h.1.2.1, (h.1.2.2.0, h.1.2.2.1, (h.0, h.1.2.2.2, h.2))))
with_end word.List (t ∷ []) true n s i j e h = absurd h.1
with_end word.List (t ∷ u ∷ us) lacks n s i j e h = absurd h.1
with_end word.Map [] lacks n s i j e h = absurd h.1
with_end word.Map (t ∷ []) false None s i j e h = absurd (let f : false ≡ true = e in cc)
with_end word.Map (t ∷ []) false (Some m) s i j e h = absurd h.1
with_end word.Map (t ∷ []) true n s i j e h = absurd h.1
with_end word.Map (t ∷ u ∷ []) false None s i j e h = (h.1.0, h.1.1, (h.1.2.0, h.1.2.1, (h.1.2.2.0, h.1.2.2.1, (h.0, h.1.2.2.2, h.2))))
with_end word.Map (t ∷ u ∷ []) false (Some m) s i j e h = absurd h.1
with_end word.Map (t ∷ u ∷ []) true n s i j e h = absurd h.1
with_end word.Map (t ∷ u ∷ v ∷ vs) lacks n s i j e h = absurd h.1
with_end word.Result [] lacks n s i j e h = absurd (let f : false ≡ true = e in cc)
with_end word.Result (t ∷ []) false None s i j e h = (h.1.0, h.1.1, (h.0, h.1.2, h.2))
with_end word.Result (t ∷ []) true None s i j e h = (h.1.0, h.1.1, (h.1.2.0, h.1.2.1, (h.1.2.2.0, h.1.2.2.1, (h.0, h.1.2.2.2, h.2))))
with_end word.Result (t ∷ []) false (Some m) s i j e h = absurd h.1
with_end word.Result (t ∷ []) true (Some m) s i j e h = absurd h.1
with_end word.Result (t ∷ u ∷ []) false None s i j e h = (h.1.0, h.1.1, (h.1.2.0, h.1.2.1, (h.1.2.2.0, h.1.2.2.1, (h.0, h.1.2.2.2, h.2))))
with_end word.Result (t ∷ u ∷ []) false (Some m) s i j e h = absurd h.1
with_end word.Result (t ∷ u ∷ []) true n s i j e h = absurd h.1
with_end word.Result (t ∷ u ∷ v ∷ vs) lacks n s i j e h = absurd h.1

-- a comma and the angle, behind the last type of a tuple
pub with_comma_end : (ts : List TypeExpr) (lacks : Bool) (n : Option ℕ) (s : Source) (i j : ℕ) → (Parted word.Tuple ts lacks n ▸ IsKind Comma ▸ IsKind CloseAngle) s i j → Whole word.Tuple ts lacks n s i j
with_comma_end ts false None s i j h = (h.1.0, h.1.1, (h.2.0, comma_types ts s h.1.0 h.2.0 (h.0, h.1.2, h.2.1), h.2.2))
with_comma_end ts false (Some m) s i j h = absurd h.1
with_comma_end ts true n s i j h = absurd h.1

pub with_tuple_end : (w : TypeWord) (ts : List TypeExpr) (lacks : Bool) (n : Option ℕ) (s : Source) (i j : ℕ) → w ≡ word.Tuple → (Parted w ts lacks n ▸ IsKind Comma ▸ IsKind CloseAngle) s i j → Whole w ts lacks n s i j
with_tuple_end w ts lacks n s i j e h = subst (λ v. Whole v ts lacks n s i j) (sym e) (with_comma_end ts lacks n s i j (subst (λ v. (Parted v ts lacks n ▸ IsKind Comma ▸ IsKind CloseAngle) s i j) e h))
