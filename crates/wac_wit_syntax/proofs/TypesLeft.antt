-- What of a type is left behind its word.
use Rattle.std.proofs.Common.{◌≡◌, ◌≢◌, ◌⊎◌, ℕ, ◌+◌, ◌*◌, ◌==◌, ◌<◌, if◌then◌else◌, Bool, true, false, codes, string_bytes, List, [], ◌∷◌, ◌++◌, Option, Some, None, get_or, inl, inr, refl, sym, ap, ◌∙◌, subst, arith}
use Rattle.wac_model.specs.Desc.{primitive_desc}
use Rattle.wac_model.specs.Text.{Text}
use Rattle.wac_model.specs.declared.primitive.PrimitiveType.{PrimitiveType}
use Rattle.wac_model.specs.declared.primitive.PrimitiveType.TheVariants as prim
use Rattle.wac_wit_syntax.specs.Completing.{AreOpen, opened, closed, other}
use Rattle.wac_wit_syntax.specs.Names.{keywords}
use Rattle.wac_wit_syntax.specs.Productions.{IsKind, IsName, IsNameAt, IsWord, SaysWord, Source, is_keyword, token_at}
use Rattle.wac_wit_syntax.specs.Types.{AreTypes, IsLength, IsType, Opens, borrow, fixed_list, future, future_of, last, last_comma, list, map, more, name, option, own, primitive, result, result_both, result_err, result_ok, stream, stream_of, tuple}
use Rattle.wac_wit_syntax.specs.TypeParts.{IsPartNext, IsRest, comma, comma_end, end, lack, length_of, ty, word_text}
use Rattle.wac_wit_syntax.specs.declared.token.TokenKind.{TokenKind}
use Rattle.wac_wit_syntax.specs.declared.token.TokenKind.TheVariants.{CloseAngle, Comma, Escaped, Integer, OpenAngle, Underscore, Word}
use Rattle.wac_wit_syntax.specs.declared.tree.Ident.{Ident}
use Rattle.wac_wit_syntax.specs.declared.tree.TypeExpr.{TypeExpr}
use Rattle.wac_wit_syntax.specs.declared.types.TypeWord.{TypeWord}
use Rattle.wac_wit_syntax.specs.declared.types.TypeWord.TheVariants as word

-- ---- a type takes a token at least

opens_longer : (w : Text) (s : Source) (i j : ℕ) → Opens w s i j → i < j
opens_longer w s i j o = let a = o.1.1 in let b = o.2.1 in omega arith

mutual
  pub type_longer : (s : Source) (t : TypeExpr) (i j : ℕ) → IsType s t i j → i < j
  type_longer s t i j (primitive w r) = let a = w.1 in omega arith
  type_longer s t i j (name n) = let a = n.2 in omega arith
  type_longer s t i j (list {t = e} {a = a} {b = b} o x y) = let p = opens_longer _ s i a o in let q = type_longer s e.value a b x in let r = y.1 in omega arith
  type_longer s t i j (fixed_list {t = e} {a = a} {b = b} o x y z q r) = let p = opens_longer _ s i a o in let u = type_longer s e.value a b x in let v = y.1 in let w = z.1 in let l = q.1 in omega arith
  type_longer s t i j (option {t = e} {a = a} {b = b} o x y) = let p = opens_longer _ s i a o in let q = type_longer s e.value a b x in let r = y.1 in omega arith
  type_longer s t i j (result w) = let a = w.1 in omega arith
  type_longer s t i j (result_ok {t = e} {a = a} {b = b} o x y) = let p = opens_longer _ s i a o in let q = type_longer s e.value a b x in let r = y.1 in omega arith
  type_longer s t i j (result_err {e = e} {a = a} {c = c} {d = d} o x y z q) = let p = opens_longer _ s i a o in let u = x.1 in let v = y.1 in let w = type_longer s e.value c d z in let l = q.1 in omega arith
  type_longer s t i j (result_both {t = e} {e = f} {a = a} {b = b} {c = c} {d = d} o x y z q) = let p = opens_longer _ s i a o in let u = type_longer s e.value a b x in let v = y.1 in let w = type_longer s f.value c d z in let l = q.1 in omega arith
  type_longer s t i j (tuple ts {a = a} {b = b} o x y r) = let p = opens_longer _ s i a o in let q = types_longer s ts.items a b x in let u = y.1 in omega arith
  type_longer s t i j (map {k = k} {v = v} {a = a} {b = b} {c = c} {d = d} o x l y z q r) = let p = opens_longer _ s i a o in let u = type_longer s k.value a b x in let m = y.1 in let w = type_longer s v.value c d z in let n = q.1 in omega arith
  type_longer s t i j (future w) = let a = w.1 in omega arith
  type_longer s t i j (future_of {t = e} {a = a} {b = b} o x y) = let p = opens_longer _ s i a o in let q = type_longer s e.value a b x in let r = y.1 in omega arith
  type_longer s t i j (stream w) = let a = w.1 in omega arith
  type_longer s t i j (stream_of {t = e} {a = a} {b = b} o x y) = let p = opens_longer _ s i a o in let q = type_longer s e.value a b x in let r = y.1 in omega arith
  type_longer s t i j (own {a = a} o n z) = let p = opens_longer _ s i a o in let q = n.2 in let r = z.1 in omega arith
  type_longer s t i j (borrow {a = a} o n z) = let p = opens_longer _ s i a o in let q = n.2 in let r = z.1 in omega arith

  types_longer : (s : Source) (ts : List TypeExpr) (i j : ℕ) → AreTypes s ts i j → i < j
  types_longer s ts i j (last {t = t} x) = type_longer s t i j x
  types_longer s ts i j (last_comma {t = t} {a = a} x y) = let p = type_longer s t i a x in let q = y.1 in omega arith
  types_longer s ts i j (more {t = t} {ts = us} {a = a} {b = b} x y z) = let p = type_longer s t i a x in let q = y.1 in let r = types_longer s us b j z in omega arith

-- ---- how many angles are open

past : (s : Source) (kind : TokenKind) (i j n : ℕ) → kind ≢ OpenAngle → kind ≢ CloseAngle → IsKind kind s i j → AreOpen s i n → AreOpen s j n
past s kind i j n a b h are = subst (λ k. AreOpen s k n) (sym h.1) (other (λ e. a (sym h.0 ∙ e)) (λ e. b (sym h.0 ∙ e)) are)

past_word : (s : Source) (w : Text) (i j n : ℕ) → IsWord w s i j → AreOpen s i n → AreOpen s j n
past_word s w i j n h are = past s Word i j n (λ e. cc) (λ e. cc) (h.0.0, h.1) are

past_comma : (s : Source) (i j n : ℕ) → IsKind Comma s i j → AreOpen s i n → AreOpen s j n
past_comma s i j n h are = past s Comma i j n (λ e. cc) (λ e. cc) h are

past_name : (s : Source) (id : Ident) (i j n : ℕ) → IsName id s i j → AreOpen s i n → AreOpen s j n
past_name s id i j n h are = by h.0
  where
    by : IsNameAt s i (string_bytes id.name) → AreOpen s j n
    by (inl k) = past s Word i j n (λ e. cc) (λ e. cc) (k.0.0, h.2) are
    by (inr k) = past s Escaped i j n (λ e. cc) (λ e. cc) (k.0, h.2) are

behind_open : (s : Source) (i j n : ℕ) → IsKind OpenAngle s i j → AreOpen s i n → AreOpen s j (n + 1)
behind_open s i j n h are = subst (λ k. AreOpen s k (n + 1)) (sym h.1) (opened h.0 are)

pub past_opens : (s : Source) (w : Text) (i j n : ℕ) → Opens w s i j → AreOpen s i n → AreOpen s j (n + 1)
past_opens s w i j n o are = behind_open s o.0 j n o.2 (past_word s w i o.0 n o.1 are)

past_close : (s : Source) (i j n : ℕ) → IsKind CloseAngle s i j → AreOpen s i (n + 1) → AreOpen s j n
past_close s i j n h are = subst (λ k. AreOpen s k n) (sym h.1) (closed h.0 are)

past_length : (s : Source) (m i j n : ℕ) → IsLength m s i j → AreOpen s i n → AreOpen s j n
past_length s m i j n h are = past s Integer i j n (λ e. cc) (λ e. cc) (h.0.0, h.1) are

mutual
  pub past_type : (s : Source) (t : TypeExpr) (i j n : ℕ) → IsType s t i j → AreOpen s i n → AreOpen s j n
  past_type s t i j n (primitive w r) h = past_word s _ i j n w h
  past_type s t i j n (name {id = id} x) h = past_name s id i j n x h
  past_type s t i j n (list {t = e} {a = a} {b = b} o x y) h = past_close s b j n y (past_type s e.value a b (n + 1) x (past_opens s _ i a n o h))
  past_type s t i j n (fixed_list {t = e} {n = m} {a = a} {b = b} {c = c} {d = d} o x y z q r) h =
      past_close s d j n q (past_length s m c d (n + 1) z (past_comma s b c (n + 1) y (past_type s e.value a b (n + 1) x (past_opens s _ i a n o h))))
  past_type s t i j n (option {t = e} {a = a} {b = b} o x y) h = past_close s b j n y (past_type s e.value a b (n + 1) x (past_opens s _ i a n o h))
  past_type s t i j n (result w) h = past_word s _ i j n w h
  past_type s t i j n (result_ok {t = e} {a = a} {b = b} o x y) h = past_close s b j n y (past_type s e.value a b (n + 1) x (past_opens s _ i a n o h))
  past_type s t i j n (result_err {e = e} {a = a} {b = b} {c = c} {d = d} o x y z q) h =
      past_close s d j n q (past_type s e.value c d (n + 1) z (past_comma s b c (n + 1) y (past s Underscore a b (n + 1) (λ f. cc) (λ f. cc) x (past_opens s _ i a n o h))))
  past_type s t i j n (result_both {t = e} {e = f} {a = a} {b = b} {c = c} {d = d} o x y z q) h =
      past_close s d j n q (past_type s f.value c d (n + 1) z (past_comma s b c (n + 1) y (past_type s e.value a b (n + 1) x (past_opens s _ i a n o h))))
  past_type s t i j n (tuple ts {a = a} {b = b} o x y r) h = past_close s b j n y (past_types s ts.items a b (n + 1) x (past_opens s _ i a n o h))
  past_type s t i j n (map {k = k} {v = v} {a = a} {b = b} {c = c} {d = d} o x l y z q r) h =
      past_close s d j n q (past_type s v.value c d (n + 1) z (past_comma s b c (n + 1) y (past_type s k.value a b (n + 1) x (past_opens s _ i a n o h))))
  past_type s t i j n (future w) h = past_word s _ i j n w h
  past_type s t i j n (future_of {t = e} {a = a} {b = b} o x y) h = past_close s b j n y (past_type s e.value a b (n + 1) x (past_opens s _ i a n o h))
  past_type s t i j n (stream w) h = past_word s _ i j n w h
  past_type s t i j n (stream_of {t = e} {a = a} {b = b} o x y) h = past_close s b j n y (past_type s e.value a b (n + 1) x (past_opens s _ i a n o h))
  past_type s t i j n (own {id = id} {a = a} {b = b} o x y) h = past_close s b j n y (past_name s id a b (n + 1) x (past_opens s _ i a n o h))
  past_type s t i j n (borrow {id = id} {a = a} {b = b} o x y) h = past_close s b j n y (past_name s id a b (n + 1) x (past_opens s _ i a n o h))

  past_types : (s : Source) (ts : List TypeExpr) (i j n : ℕ) → AreTypes s ts i j → AreOpen s i n → AreOpen s j n
  past_types s ts i j n (last {t = t} x) h = past_type s t i j n x h
  past_types s ts i j n (last_comma {t = t} {a = a} x y) h = past_comma s a j n y (past_type s t i a n x h)
  past_types s ts i j n (more {t = t} {ts = us} {a = a} {b = b} x y z) h = past_types s us b j n z (past_comma s a b n y (past_type s t i a n x h))

-- ---- which word it is

-- two bytes tell the words from each other, and from those of other types
abbrev coded : Text → ℕ
coded t = get_or t 0 0 * 256 + get_or t 3 0

abbrev with_code : ℕ → Option TypeWord
with_code n =
    if n == 27764 then Some word.List else (if n == 28521 then Some word.Option else (if n == 29301 then Some word.Result else (if n == 29804 then Some word.Tuple
    else (if n == 27904 then Some word.Map else (if n == 26229 then Some word.Future else (if n == 29541 then Some word.Stream else None))))))

abbrev word_in : Text → Option TypeWord
word_in t = with_code (coded t)

told : (w : TypeWord) → word_in (word_text w) ≡ Some w
told word.List = refl
told word.Option = refl
told word.Result = refl
told word.Tuple = refl
told word.Map = refl
told word.Future = refl
told word.Stream = refl

no_primitive : (p : PrimitiveType) → word_in (primitive_desc p) ≡ None
no_primitive prim.U8 = refl
no_primitive prim.S8 = refl
no_primitive prim.U16 = refl
no_primitive prim.S16 = refl
no_primitive prim.U32 = refl
no_primitive prim.S32 = refl
no_primitive prim.U64 = refl
no_primitive prim.S64 = refl
no_primitive prim.F32 = refl
no_primitive prim.F64 = refl
no_primitive prim.Char = refl
no_primitive prim.Bool = refl
no_primitive prim.String = refl
no_primitive prim.ErrorContext = refl

same_word : (v w : TypeWord) (s : Source) (i : ℕ) → SaysWord s i (word_text v) → SaysWord s i (word_text w) → v ≡ w
same_word v w s i a b = let e : Some v ≡ Some w = sym (told v) ∙ ap word_in (sym a.1 ∙ b.1) ∙ told w in cc

other_word : (w : TypeWord) (x : Text) (s : Source) (i : ℕ) → word_in x ≡ None → SaysWord s i (word_text w) → SaysWord s i x → ⊥
other_word w x s i none a b = let e : Some w ≡ None = sym (told w) ∙ ap word_in (sym a.1 ∙ b.1) ∙ none in cc

pub no_word_primitive : (w : TypeWord) (p : PrimitiveType) (s : Source) (i : ℕ) → SaysWord s i (word_text w) → SaysWord s i (primitive_desc p) → ⊥
no_word_primitive w p s i a b = other_word w (primitive_desc p) s i (no_primitive p) a b

-- but for `map` each is a keyword
is_reserved : (w : TypeWord) → (w ≡ word.Map) ⊎ (is_keyword (word_text w) ≡ true)
unfolding keywords
is_reserved word.List = inr refl
is_reserved word.Option = inr refl
is_reserved word.Result = inr refl
is_reserved word.Tuple = inr refl
is_reserved word.Map = inl refl
is_reserved word.Future = inr refl
is_reserved word.Stream = inr refl

no_word_name : (w : TypeWord) (id : Ident) (s : Source) (i j : ℕ) → SaysWord s i (word_text w) → (w ≡ word.Map → (token_at s (i + 1)).kind ≡ OpenAngle) → (token_at s j).kind ≢ OpenAngle → IsName id s i j → ⊥
no_word_name w id s i j says opens ends n = by n.0 (is_reserved w)
  where
    by : IsNameAt s i (string_bytes id.name) → (w ≡ word.Map) ⊎ (is_keyword (word_text w) ≡ true) → ⊥
    by (inl k) (inl e) = ends (subst (λ m. (token_at s m).kind ≡ OpenAngle) (sym n.2) (opens e))
    by (inl k) (inr e) = let f : true ≡ false = sym e ∙ ap is_keyword (sym says.1 ∙ k.0.1) ∙ k.1 in cc
    by (inr k) e = let f : Word ≡ Escaped = sym says.0 ∙ k.0 in cc

-- ---- what is left behind the word

at_word : (s : Source) (w : Text) (i j : ℕ) → Opens w s i j → IsKind OpenAngle s (i + 1) j
at_word s w i j o = subst (λ k. IsKind OpenAngle s k j) o.1.1 o.2

alone : (s : Source) (w : Text) (i j : ℕ) → IsWord w s i j → (token_at s j).kind ≢ OpenAngle → (j ≡ i + 1) × ((token_at s j).kind ≢ OpenAngle)
alone s w i j h ends = (h.1, ends)

-- types up to the angle behind them are left to a tuple
pub tuple_left : (s : Source) (n : ℕ) (ts us : List TypeExpr) (lacks : Bool) (l : Option ℕ) (i k j : ℕ) → AreOpen s i n → AreTypes s us i k → IsKind CloseAngle s k j → IsPartNext s word.Tuple n ts lacks l i j
tuple_left s n ts us lacks l i k j h (last x) y = ty refl h x (λ u f. end refl tt y)
tuple_left s n ts us lacks l i k j h (last_comma x z) y = ty refl h x (λ u f. comma_end refl z y)
tuple_left s n ts us lacks l i k j h (more {t = t} {ts = vs} {a = a} {b = b} x z r) y =
    ty refl h x (λ u f. comma refl z (tuple_left s n (ts ++ u ∷ []) vs lacks l b k j (past_comma s a b n z (past_type s t i a n x h)) r y))

pub rest_left : (s : Source) (t : TypeExpr) (w : TypeWord) (i j n : ℕ) → SaysWord s i (word_text w) → (w ≡ word.Map → (token_at s (i + 1)).kind ≡ OpenAngle) → (token_at s j).kind ≢ OpenAngle
    → AreOpen s i n → IsType s t i j → IsRest s w n (i + 1) j
rest_left s t w i j n says opens ends h (primitive {p = p} x r) = absurd (no_word_primitive w p s i says x.0)
rest_left s t w i j n says opens ends h (name {id = id} x) = absurd (no_word_name w id s i j says opens ends x)
rest_left s t w i j n says opens ends h (own o x y) = absurd (other_word w (codes "own") s i refl says o.1.0)
rest_left s t w i j n says opens ends h (borrow o x y) = absurd (other_word w (codes "borrow") s i refl says o.1.0)
rest_left s t w i j n says opens ends h (result x) = subst (λ v. IsRest s v n (i + 1) j) (same_word word.Result w s i x.0 says) (inl (refl, x.1, ends))
rest_left s t w i j n says opens ends h (future x) = subst (λ v. IsRest s v n (i + 1) j) (same_word word.Future w s i x.0 says) (inl (refl, x.1, ends))
rest_left s t w i j n says opens ends h (stream x) = subst (λ v. IsRest s v n (i + 1) j) (same_word word.Stream w s i x.0 says) (inl (refl, x.1, ends))
rest_left s t w i j n says opens ends h (list {a = a} o x y) = subst (λ v. IsRest s v n (i + 1) j) (same_word word.List w s i o.1.0 says)
    (inr (a, at_word s _ i a o, ty refl (past_opens s _ i a n o h) x (λ u f. end refl (omega arith) y)))
rest_left s t w i j n says opens ends h (option {a = a} o x y) = subst (λ v. IsRest s v n (i + 1) j) (same_word word.Option w s i o.1.0 says)
    (inr (a, at_word s _ i a o, ty refl (past_opens s _ i a n o h) x (λ u f. end refl (omega arith) y)))
rest_left s t w i j n says opens ends h (result_ok {a = a} o x y) = subst (λ v. IsRest s v n (i + 1) j) (same_word word.Result w s i o.1.0 says)
    (inr (a, at_word s _ i a o, ty refl (past_opens s _ i a n o h) x (λ u f. end refl tt y)))
rest_left s t w i j n says opens ends h (future_of {a = a} o x y) = subst (λ v. IsRest s v n (i + 1) j) (same_word word.Future w s i o.1.0 says)
    (inr (a, at_word s _ i a o, ty refl (past_opens s _ i a n o h) x (λ u f. end refl tt y)))
rest_left s t w i j n says opens ends h (stream_of {a = a} o x y) = subst (λ v. IsRest s v n (i + 1) j) (same_word word.Stream w s i o.1.0 says)
    (inr (a, at_word s _ i a o, ty refl (past_opens s _ i a n o h) x (λ u f. end refl tt y)))
rest_left s t w i j n says opens ends h (fixed_list {n = m} {a = a} o x y z q r) = subst (λ v. IsRest s v n (i + 1) j) (same_word word.List w s i o.1.0 says)
    (inr (a, at_word s _ i a o, ty refl (past_opens s _ i a n o h) x (λ u f. comma refl y (length_of {m = m} refl z (λ m'. end refl (omega arith) q)))))
rest_left s t w i j n says opens ends h (result_err {a = a} {b = b} {c = c} o x y z q) = subst (λ v. IsRest s v n (i + 1) j) (same_word word.Result w s i o.1.0 says)
    (inr (a, at_word s _ i a o, lack refl x (comma refl y (ty refl (past_comma s b c (n + 1) y (past s Underscore a b (n + 1) (λ f. cc) (λ f. cc) x (past_opens s _ i a n o h))) z (λ u f. end refl tt q)))))
rest_left s t w i j n says opens ends h (result_both {t = e} {a = a} {b = b} {c = c} o x y z q) = subst (λ v. IsRest s v n (i + 1) j) (same_word word.Result w s i o.1.0 says)
    (inr (a, at_word s _ i a o, ty refl (past_opens s _ i a n o h) x (λ u f. comma refl y (ty refl (past_comma s b c (n + 1) y (past_type s e.value a b (n + 1) x (past_opens s _ i a n o h))) z (λ v g. end refl tt q)))))
rest_left s t w i j n says opens ends h (map {k = k} {a = a} {b = b} {c = c} o x l y z q r) = subst (λ v. IsRest s v n (i + 1) j) (same_word word.Map w s i o.1.0 says)
    (inr (a, at_word s _ i a o, ty refl (past_opens s _ i a n o h) x (λ u f. comma refl y (ty refl (past_comma s b c (n + 1) y (past_type s k.value a b (n + 1) x (past_opens s _ i a n o h))) z (λ v g. end refl (omega arith, f l) q)))))
rest_left s t w i j n says opens ends h (tuple ts {a = a} {b = b} o x y r) = subst (λ v. IsRest s v n (i + 1) j) (same_word word.Tuple w s i o.1.0 says)
    (inr (a, at_word s _ i a o, tuple_left s (n + 1) [] ts.items false None a b j (past_opens s _ i a n o h) x y))
