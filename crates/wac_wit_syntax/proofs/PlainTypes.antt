-- Types with which no word begins that makes types.
use Rattle.std.proofs.Common.{◌≡◌, ℕ, ◌+◌, List, get_or, arith, true, false, codes, string_bytes, inl, inr, refl, sym, ap, ◌∙◌}
use Rattle.wac_model.specs.Desc.{primitive_desc}
use Rattle.wac_model.specs.declared.primitive.PrimitiveType.{PrimitiveType}
use Rattle.wac_model.specs.declared.primitive.PrimitiveType.TheVariants as prim
use Rattle.wac_wit_syntax.specs.Completing.{AnyOf}
use Rattle.wac_wit_syntax.specs.Names.{keywords}
use Rattle.wac_wit_syntax.specs.Productions.{◌▸◌, IsKind, IsName, IsNameAt, SaysWord, Source, is_keyword, token_at}
use Rattle.wac_wit_syntax.specs.TypeParts.{BeginsPlain}
use Rattle.wac_wit_syntax.specs.Types.{IsType, borrow, fixed_list, future, future_of, list, map, name, option, own, primitive, result, result_both, result_err, result_ok, stream, stream_of, tuple}
use Rattle.wac_wit_syntax.specs.declared.token.TokenKind.TheVariants.{CloseAngle, Escaped, OpenAngle, Word}
use Rattle.wac_wit_syntax.specs.declared.tree.Ident.{Ident}
use Rattle.wac_wit_syntax.specs.declared.tree.TypeExpr.{TypeExpr}
use Rattle.wac_wit_syntax.specs.declared.types.TypeWord.TheVariants as word

not_own : (p : PrimitiveType) → codes "own" ≡ primitive_desc p → ⊥
not_own prim.U8 e = let x = ap (λ (t : List ℕ). get_or t 0 0) e in omega (arith, x)
not_own prim.S8 e = let x = ap (λ (t : List ℕ). get_or t 0 0) e in omega (arith, x)
not_own prim.U16 e = let x = ap (λ (t : List ℕ). get_or t 0 0) e in omega (arith, x)
not_own prim.S16 e = let x = ap (λ (t : List ℕ). get_or t 0 0) e in omega (arith, x)
not_own prim.U32 e = let x = ap (λ (t : List ℕ). get_or t 0 0) e in omega (arith, x)
not_own prim.S32 e = let x = ap (λ (t : List ℕ). get_or t 0 0) e in omega (arith, x)
not_own prim.U64 e = let x = ap (λ (t : List ℕ). get_or t 0 0) e in omega (arith, x)
not_own prim.S64 e = let x = ap (λ (t : List ℕ). get_or t 0 0) e in omega (arith, x)
not_own prim.F32 e = let x = ap (λ (t : List ℕ). get_or t 0 0) e in omega (arith, x)
not_own prim.F64 e = let x = ap (λ (t : List ℕ). get_or t 0 0) e in omega (arith, x)
not_own prim.Char e = let x = ap (λ (t : List ℕ). get_or t 0 0) e in omega (arith, x)
not_own prim.Bool e = let x = ap (λ (t : List ℕ). get_or t 0 0) e in omega (arith, x)
not_own prim.String e = let x = ap (λ (t : List ℕ). get_or t 0 0) e in omega (arith, x)
not_own prim.ErrorContext e = let x = ap (λ (t : List ℕ). get_or t 0 0) e in omega (arith, x)

own_is_keyword : is_keyword (codes "own") ≡ true
unfolding keywords
own_is_keyword = refl

own_no_name : (s : Source) (i j : ℕ) (id : Ident) → SaysWord s i (codes "own") → IsName id s i j → ⊥
own_no_name s i j id says n = by n.0
  where
    by : IsNameAt s i (string_bytes id.name) → ⊥
    by (inl k) = let e : true ≡ false = sym own_is_keyword ∙ ap is_keyword (sym says.1 ∙ k.0.1) ∙ k.1 in cc
    by (inr k) = let e : Word ≡ Escaped = sym says.0 ∙ k.0 in cc

-- the handle that begins with its word
pub own_handle : (s : Source) (i j : ℕ) (t : TypeExpr) → SaysWord s i (codes "own") → IsType s t i j → (IsKind Word ▸ IsKind OpenAngle ▸ AnyOf IsName ▸ IsKind CloseAngle) s i j
own_handle s i j t says (primitive {p} w r) = absurd (not_own p (sym says.1 ∙ w.0.1))
own_handle s i j t says (name {id} n) = absurd (own_no_name s i j id says n)
own_handle s i j t says (list o x y) = absurd (let x = ap (λ (t : List ℕ). get_or t 0 0) (sym says.1 ∙ o.1.0.1) in omega (arith, x))
own_handle s i j t says (fixed_list o x y z q r) = absurd (let x = ap (λ (t : List ℕ). get_or t 0 0) (sym says.1 ∙ o.1.0.1) in omega (arith, x))
own_handle s i j t says (option o x y) = absurd (let x = ap (λ (t : List ℕ). get_or t 1 0) (sym says.1 ∙ o.1.0.1) in omega (arith, x))
own_handle s i j t says (result_ok o x y) = absurd (let x = ap (λ (t : List ℕ). get_or t 0 0) (sym says.1 ∙ o.1.0.1) in omega (arith, x))
own_handle s i j t says (result_err o x y z q) = absurd (let x = ap (λ (t : List ℕ). get_or t 0 0) (sym says.1 ∙ o.1.0.1) in omega (arith, x))
own_handle s i j t says (result_both o x y z q) = absurd (let x = ap (λ (t : List ℕ). get_or t 0 0) (sym says.1 ∙ o.1.0.1) in omega (arith, x))
own_handle s i j t says (tuple ts o x y r) = absurd (let x = ap (λ (t : List ℕ). get_or t 0 0) (sym says.1 ∙ o.1.0.1) in omega (arith, x))
own_handle s i j t says (map o x k y z q r) = absurd (let x = ap (λ (t : List ℕ). get_or t 0 0) (sym says.1 ∙ o.1.0.1) in omega (arith, x))
own_handle s i j t says (future_of o x y) = absurd (let x = ap (λ (t : List ℕ). get_or t 0 0) (sym says.1 ∙ o.1.0.1) in omega (arith, x))
own_handle s i j t says (stream_of o x y) = absurd (let x = ap (λ (t : List ℕ). get_or t 0 0) (sym says.1 ∙ o.1.0.1) in omega (arith, x))
own_handle s i j t says (result w) = absurd (let x = ap (λ (t : List ℕ). get_or t 0 0) (sym says.1 ∙ w.0.1) in omega (arith, x))
own_handle s i j t says (future w) = absurd (let x = ap (λ (t : List ℕ). get_or t 0 0) (sym says.1 ∙ w.0.1) in omega (arith, x))
own_handle s i j t says (stream w) = absurd (let x = ap (λ (t : List ℕ). get_or t 0 0) (sym says.1 ∙ w.0.1) in omega (arith, x))
own_handle s i j t says (borrow o n z) = absurd (let x = ap (λ (t : List ℕ). get_or t 0 0) (sym says.1 ∙ o.1.0.1) in omega (arith, x))
own_handle s i j t says (own {id = id} {a = a} {b = b} o n z) = (o.0, (says.0, o.1.1), (a, o.2, (b, (id, n), z)))

not_borrow : (p : PrimitiveType) → codes "borrow" ≡ primitive_desc p → ⊥
not_borrow prim.U8 e = let x = ap (λ (t : List ℕ). get_or t 0 0) e in omega (arith, x)
not_borrow prim.S8 e = let x = ap (λ (t : List ℕ). get_or t 0 0) e in omega (arith, x)
not_borrow prim.U16 e = let x = ap (λ (t : List ℕ). get_or t 0 0) e in omega (arith, x)
not_borrow prim.S16 e = let x = ap (λ (t : List ℕ). get_or t 0 0) e in omega (arith, x)
not_borrow prim.U32 e = let x = ap (λ (t : List ℕ). get_or t 0 0) e in omega (arith, x)
not_borrow prim.S32 e = let x = ap (λ (t : List ℕ). get_or t 0 0) e in omega (arith, x)
not_borrow prim.U64 e = let x = ap (λ (t : List ℕ). get_or t 0 0) e in omega (arith, x)
not_borrow prim.S64 e = let x = ap (λ (t : List ℕ). get_or t 0 0) e in omega (arith, x)
not_borrow prim.F32 e = let x = ap (λ (t : List ℕ). get_or t 0 0) e in omega (arith, x)
not_borrow prim.F64 e = let x = ap (λ (t : List ℕ). get_or t 0 0) e in omega (arith, x)
not_borrow prim.Char e = let x = ap (λ (t : List ℕ). get_or t 0 0) e in omega (arith, x)
not_borrow prim.Bool e = let x = ap (λ (t : List ℕ). get_or t 2 0) e in omega (arith, x)
not_borrow prim.String e = let x = ap (λ (t : List ℕ). get_or t 0 0) e in omega (arith, x)
not_borrow prim.ErrorContext e = let x = ap (λ (t : List ℕ). get_or t 0 0) e in omega (arith, x)

borrow_is_keyword : is_keyword (codes "borrow") ≡ true
unfolding keywords
borrow_is_keyword = refl

borrow_no_name : (s : Source) (i j : ℕ) (id : Ident) → SaysWord s i (codes "borrow") → IsName id s i j → ⊥
borrow_no_name s i j id says n = by n.0
  where
    by : IsNameAt s i (string_bytes id.name) → ⊥
    by (inl k) = let e : true ≡ false = sym borrow_is_keyword ∙ ap is_keyword (sym says.1 ∙ k.0.1) ∙ k.1 in cc
    by (inr k) = let e : Word ≡ Escaped = sym says.0 ∙ k.0 in cc

-- the handle that begins with its word
pub borrow_handle : (s : Source) (i j : ℕ) (t : TypeExpr) → SaysWord s i (codes "borrow") → IsType s t i j → (IsKind Word ▸ IsKind OpenAngle ▸ AnyOf IsName ▸ IsKind CloseAngle) s i j
borrow_handle s i j t says (primitive {p} w r) = absurd (not_borrow p (sym says.1 ∙ w.0.1))
borrow_handle s i j t says (name {id} n) = absurd (borrow_no_name s i j id says n)
borrow_handle s i j t says (list o x y) = absurd (let x = ap (λ (t : List ℕ). get_or t 0 0) (sym says.1 ∙ o.1.0.1) in omega (arith, x))
borrow_handle s i j t says (fixed_list o x y z q r) = absurd (let x = ap (λ (t : List ℕ). get_or t 0 0) (sym says.1 ∙ o.1.0.1) in omega (arith, x))
borrow_handle s i j t says (option o x y) = absurd (let x = ap (λ (t : List ℕ). get_or t 0 0) (sym says.1 ∙ o.1.0.1) in omega (arith, x))
borrow_handle s i j t says (result_ok o x y) = absurd (let x = ap (λ (t : List ℕ). get_or t 0 0) (sym says.1 ∙ o.1.0.1) in omega (arith, x))
borrow_handle s i j t says (result_err o x y z q) = absurd (let x = ap (λ (t : List ℕ). get_or t 0 0) (sym says.1 ∙ o.1.0.1) in omega (arith, x))
borrow_handle s i j t says (result_both o x y z q) = absurd (let x = ap (λ (t : List ℕ). get_or t 0 0) (sym says.1 ∙ o.1.0.1) in omega (arith, x))
borrow_handle s i j t says (tuple ts o x y r) = absurd (let x = ap (λ (t : List ℕ). get_or t 0 0) (sym says.1 ∙ o.1.0.1) in omega (arith, x))
borrow_handle s i j t says (map o x k y z q r) = absurd (let x = ap (λ (t : List ℕ). get_or t 0 0) (sym says.1 ∙ o.1.0.1) in omega (arith, x))
borrow_handle s i j t says (future_of o x y) = absurd (let x = ap (λ (t : List ℕ). get_or t 0 0) (sym says.1 ∙ o.1.0.1) in omega (arith, x))
borrow_handle s i j t says (stream_of o x y) = absurd (let x = ap (λ (t : List ℕ). get_or t 0 0) (sym says.1 ∙ o.1.0.1) in omega (arith, x))
borrow_handle s i j t says (result w) = absurd (let x = ap (λ (t : List ℕ). get_or t 0 0) (sym says.1 ∙ w.0.1) in omega (arith, x))
borrow_handle s i j t says (future w) = absurd (let x = ap (λ (t : List ℕ). get_or t 0 0) (sym says.1 ∙ w.0.1) in omega (arith, x))
borrow_handle s i j t says (stream w) = absurd (let x = ap (λ (t : List ℕ). get_or t 0 0) (sym says.1 ∙ w.0.1) in omega (arith, x))
borrow_handle s i j t says (own o n z) = absurd (let x = ap (λ (t : List ℕ). get_or t 0 0) (sym says.1 ∙ o.1.0.1) in omega (arith, x))
borrow_handle s i j t says (borrow {id = id} {a = a} {b = b} o n z) = (o.0, (says.0, o.1.1), (a, o.2, (b, (id, n), z)))

-- the token of a primitive type
pub primitive_next : (s : Source) (i j : ℕ) (t : TypeExpr) (p : PrimitiveType) → SaysWord s i (primitive_desc p) → BeginsPlain s i → IsType s t i j → j ≡ i + 1
primitive_next s i j t p says plain (primitive w r) = w.1
primitive_next s i j t p says plain (name n) = n.2
primitive_next s i j t p says plain (own o n z) = absurd (not_own p (sym o.1.0.1 ∙ says.1))
primitive_next s i j t p says plain (borrow o n z) = absurd (not_borrow p (sym o.1.0.1 ∙ says.1))
primitive_next s i j t p says plain (list o x y) = absurd (let e : word.List ≡ word.Map = (plain word.List o.1.0).0 in cc)
primitive_next s i j t p says plain (fixed_list o x y z q r) = absurd (let e : word.List ≡ word.Map = (plain word.List o.1.0).0 in cc)
primitive_next s i j t p says plain (option o x y) = absurd (let e : word.Option ≡ word.Map = (plain word.Option o.1.0).0 in cc)
primitive_next s i j t p says plain (result_ok o x y) = absurd (let e : word.Result ≡ word.Map = (plain word.Result o.1.0).0 in cc)
primitive_next s i j t p says plain (result_err o x y z q) = absurd (let e : word.Result ≡ word.Map = (plain word.Result o.1.0).0 in cc)
primitive_next s i j t p says plain (result_both o x y z q) = absurd (let e : word.Result ≡ word.Map = (plain word.Result o.1.0).0 in cc)
primitive_next s i j t p says plain (tuple ts o x y r) = absurd (let e : word.Tuple ≡ word.Map = (plain word.Tuple o.1.0).0 in cc)
primitive_next s i j t p says plain (map o x l y z q r) = absurd ((plain word.Map o.1.0).1 (sym (ap (λ k. (token_at s k).kind) o.1.1) ∙ o.2.0))
primitive_next s i j t p says plain (future_of o x y) = absurd (let e : word.Future ≡ word.Map = (plain word.Future o.1.0).0 in cc)
primitive_next s i j t p says plain (stream_of o x y) = absurd (let e : word.Stream ≡ word.Map = (plain word.Stream o.1.0).0 in cc)
primitive_next s i j t p says plain (result w) = absurd (let e : word.Result ≡ word.Map = (plain word.Result w.0).0 in cc)
primitive_next s i j t p says plain (future w) = absurd (let e : word.Future ≡ word.Map = (plain word.Future w.0).0 in cc)
primitive_next s i j t p says plain (stream w) = absurd (let e : word.Stream ≡ word.Map = (plain word.Stream w.0).0 in cc)

-- what is none of these is a name
pub name_next : (s : Source) (i j : ℕ) (t : TypeExpr) → ((p : PrimitiveType) → SaysWord s i (primitive_desc p) → ⊥) → (SaysWord s i (codes "own") → ⊥) → (SaysWord s i (codes "borrow") → ⊥) → BeginsPlain s i → IsType s t i j
    → AnyOf IsName s i j
name_next s i j t f g h plain (primitive {p} w r) = absurd (f p w.0)
name_next s i j t f g h plain (name {id} n) = (id, n)
name_next s i j t f g h plain (own o n z) = absurd (g o.1.0)
name_next s i j t f g h plain (borrow o n z) = absurd (h o.1.0)
name_next s i j t f g h plain (list o x y) = absurd (let e : word.List ≡ word.Map = (plain word.List o.1.0).0 in cc)
name_next s i j t f g h plain (fixed_list o x y z q r) = absurd (let e : word.List ≡ word.Map = (plain word.List o.1.0).0 in cc)
name_next s i j t f g h plain (option o x y) = absurd (let e : word.Option ≡ word.Map = (plain word.Option o.1.0).0 in cc)
name_next s i j t f g h plain (result_ok o x y) = absurd (let e : word.Result ≡ word.Map = (plain word.Result o.1.0).0 in cc)
name_next s i j t f g h plain (result_err o x y z q) = absurd (let e : word.Result ≡ word.Map = (plain word.Result o.1.0).0 in cc)
name_next s i j t f g h plain (result_both o x y z q) = absurd (let e : word.Result ≡ word.Map = (plain word.Result o.1.0).0 in cc)
name_next s i j t f g h plain (tuple ts o x y r) = absurd (let e : word.Tuple ≡ word.Map = (plain word.Tuple o.1.0).0 in cc)
name_next s i j t f g h plain (map o x l y z q r) = absurd ((plain word.Map o.1.0).1 (sym (ap (λ k. (token_at s k).kind) o.1.1) ∙ o.2.0))
name_next s i j t f g h plain (future_of o x y) = absurd (let e : word.Future ≡ word.Map = (plain word.Future o.1.0).0 in cc)
name_next s i j t f g h plain (stream_of o x y) = absurd (let e : word.Stream ≡ word.Map = (plain word.Stream o.1.0).0 in cc)
name_next s i j t f g h plain (result w) = absurd (let e : word.Result ≡ word.Map = (plain word.Result w.0).0 in cc)
name_next s i j t f g h plain (future w) = absurd (let e : word.Future ≡ word.Map = (plain word.Future w.0).0 in cc)
name_next s i j t f g h plain (stream w) = absurd (let e : word.Stream ≡ word.Map = (plain word.Stream w.0).0 in cc)
