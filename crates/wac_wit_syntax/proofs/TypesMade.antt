-- The types that are made of a word and its parts.
use Rattle.std.proofs.Common.{◌≡◌, ◌≢◌, ℕ, ◌+◌, ◌-◌, Bool, true, false, List, [], ◌∷◌, ◌++◌, Option, Some, None, Box, Vec, codes, length, refl, sym, ap, ap₂, ◌∙◌, subst, arith}
use Rattle.std.specs.declared.alloc.Global.{Global}
use Rattle.wac_model.specs.Text.{Text}
use Rattle.wac_model.specs.Desc.{primitive_desc}
use Rattle.wac_model.specs.declared.primitive.PrimitiveType.{PrimitiveType}
use Rattle.wac_model.specs.declared.primitive.PrimitiveType.TheVariants as primitives
use Rattle.wac_wit_syntax.specs.Cursors.{Reads, source}
use Rattle.wac_wit_syntax.specs.Productions.{IsSpan, IsWord, SaysWord, Source, token_at}
use Rattle.wac_wit_syntax.specs.Types.{IsKey, IsType, IsTypeOf, primitive, list, fixed_list, option, result, result_ok, result_err, result_both, tuple, map, future, future_of, stream, stream_of}
use Rattle.wac_wit_syntax.specs.TypeParts.{HasMapKey, IsTypeMade, TakesLast}
use Rattle.wac_wit_syntax.specs.declared.cursor.Cursor.{Cursor}
use Rattle.wac_wit_syntax.specs.declared.positions.Span.{Span}
use Rattle.wac_wit_syntax.specs.declared.token.Token.{Token}
use Rattle.wac_wit_syntax.specs.declared.token.TokenKind.TheVariants.{End}
use Rattle.wac_wit_syntax.specs.declared.tree.TypeExpr.{TypeExpr}
use Rattle.wac_wit_syntax.specs.declared.tree.TypeExpr.TheVariants as ty
use Rattle.wac_wit_syntax.specs.declared.types.TypeWord.TheVariants as word
use Rattle.wac_wit_syntax.proofs.NameTokens.{reads_word}

desc_nonempty : (p : PrimitiveType) → primitive_desc p ≢ []
desc_nonempty primitives.U8 e = cc
desc_nonempty primitives.S8 e = cc
desc_nonempty primitives.U16 e = cc
desc_nonempty primitives.S16 e = cc
desc_nonempty primitives.U32 e = cc
desc_nonempty primitives.S32 e = cc
desc_nonempty primitives.U64 e = cc
desc_nonempty primitives.S64 e = cc
desc_nonempty primitives.F32 e = cc
desc_nonempty primitives.F64 e = cc
desc_nonempty primitives.Char e = cc
desc_nonempty primitives.Bool e = cc
desc_nonempty primitives.String e = cc
desc_nonempty primitives.ErrorContext e = cc

span_of_one : (t : Token) (s : Source) (i j : ℕ) → t ≡ token_at s i → j ≡ i + 1 → IsSpan t.span s i j
span_of_one t s i j e h =
    let k : i ≡ j - 1 = omega arith in
    ap₂ (λ (a b : Token). record { start = a.span.start; end = b.span.end }) e (e ∙ ap (token_at s) k)

pub says_primitive : (s : Source) (i : ℕ) (w : Text) (p : PrimitiveType) → w ≡ primitive_desc p → (w ≢ [] → SaysWord s i w) → SaysWord s i (primitive_desc p)
says_primitive s i w p e h = subst (SaysWord s i) e (h (λ z. desc_nonempty p (sym e ∙ z)))

pub reads_primitive : (c d : Cursor) (taken : Token) (p : PrimitiveType) (w : Text) → w ≡ primitive_desc p → (w ≢ [] → SaysWord (source c) c.next w) → taken ≡ token_at (source c) c.next
    → d ≡ record c { next = d.next } → (taken.kind ≢ End → d.next ≡ c.next + 1) → Reads c d (IsTypeOf (ty.Primitive p taken.span))
reads_primitive c d taken p w e h f g n =
    let says : SaysWord (source c) c.next (primitive_desc p) = subst (SaysWord (source c) c.next) e (h (λ z. desc_nonempty p (sym e ∙ z))) in
    let r = reads_word c d taken (primitive_desc p) says f g n in
    record { quiet = r.quiet; same = r.same; read = λ q. (let x = r.read q in primitive x (span_of_one taken (source c) c.next d.next f x.1)) }

-- ---- the last of a list

no_last : (v : TypeExpr) (xs : List TypeExpr) → [] ≡ xs ++ v ∷ [] → ⊥
no_last v [] e = cc
no_last v (x ∷ xs) e = cc

last_of_one : (t v : TypeExpr) (xs : List TypeExpr) → t ∷ [] ≡ xs ++ v ∷ [] → (t ≡ v) × (xs ≡ [])
last_of_one t v [] e = (cc, refl)
last_of_one t v (x ∷ xs) e = (let h : [] ≡ xs ++ v ∷ [] = cc in absurd (no_last v xs h))

last_of_two : (t u v : TypeExpr) (xs : List TypeExpr) → t ∷ u ∷ [] ≡ xs ++ v ∷ [] → (u ≡ v) × (xs ≡ t ∷ [])
last_of_two t u v [] e = absurd (let h : u ∷ [] ≡ [] = cc in cc)
last_of_two t u v (x ∷ xs) e =
    let h : u ∷ [] ≡ xs ++ v ∷ [] = cc in
    let p = last_of_one u v xs h in
    let y : x ≡ t = cc in
    (p.0, ap₂ (λ (a : TypeExpr) (as' : List TypeExpr). a ∷ as') y p.1)

-- ---- each word

pub made_tuple : (v : Vec TypeExpr Global) (lacks : Bool) (n : Option ℕ) (span : Span) → IsTypeMade word.Tuple v.items lacks n span (ty.Tuple v span)
made_tuple v false None span = λ s i k j w h e. tuple v (k, w, h.1) h.2.1 h.2.2 e
made_tuple v false (Some m) span = λ s i k j w h e. absurd h
made_tuple v true n span = λ s i k j w h e. absurd h

pub made_list : (ts xs : List TypeExpr) (lacks : Bool) (b : Box TypeExpr Global) (span : Span) → ts ≡ xs ++ b.value ∷ [] → IsTypeMade word.List ts lacks None span (ty.List b)
made_list [] xs lacks b span f = absurd (no_last b.value xs f)
made_list (t ∷ []) xs false b span f = λ s i k j w h e. list (k, w, h.1) (subst (λ u. IsType s u h.0 h.2.0) (last_of_one t b.value xs f).0 h.2.1) h.2.2
made_list (t ∷ []) xs true b span f = λ s i k j w h e. absurd h
made_list (t ∷ u ∷ us) xs lacks b span f = λ s i k j w h e. absurd h

pub made_fixed : (ts xs : List TypeExpr) (lacks : Bool) (n : ℕ) (b : Box TypeExpr Global) (span : Span) → ts ≡ xs ++ b.value ∷ [] → IsTypeMade word.List ts lacks (Some n) span (ty.FixedList b n span)
made_fixed [] xs lacks n b span f = absurd (no_last b.value xs f)
made_fixed (t ∷ []) xs false n b span f = λ s i k j w h e. fixed_list (k, w, h.1) (subst (λ u. IsType s u h.0 h.2.0) (last_of_one t b.value xs f).0 h.2.1) h.2.2.1 h.2.2.2.1 h.2.2.2.2 e
made_fixed (t ∷ []) xs true n b span f = λ s i k j w h e. absurd h
made_fixed (t ∷ u ∷ us) xs lacks n b span f = λ s i k j w h e. absurd h

pub made_option : (ts xs : List TypeExpr) (lacks : Bool) (n : Option ℕ) (b : Box TypeExpr Global) (span : Span) → ts ≡ xs ++ b.value ∷ [] → IsTypeMade word.Option ts lacks n span (ty.Option b)
made_option [] xs lacks n b span f = absurd (no_last b.value xs f)
made_option (t ∷ []) xs false None b span f = λ s i k j w h e. option (k, w, h.1) (subst (λ u. IsType s u h.0 h.2.0) (last_of_one t b.value xs f).0 h.2.1) h.2.2
made_option (t ∷ []) xs false (Some m) b span f = λ s i k j w h e. absurd h
made_option (t ∷ []) xs true n b span f = λ s i k j w h e. absurd h
made_option (t ∷ u ∷ us) xs lacks n b span f = λ s i k j w h e. absurd h

pub made_future : (ts xs : List TypeExpr) (lacks : Bool) (n : Option ℕ) (last : Option (Box TypeExpr Global)) (span : Span) → TakesLast ts xs last → IsTypeMade word.Future ts lacks n span (ty.Future last)
made_future [] xs false None None span f = λ s i k j w h e. future (subst (λ m. IsWord (codes "future") s i m) (sym h) w)
made_future [] xs false None (Some b) span f = absurd (no_last b.value xs f)
made_future [] xs false (Some m) last span f = λ s i k j w h e. absurd h
made_future [] xs true n last span f = λ s i k j w h e. absurd h
made_future (t ∷ []) xs false None None span f = absurd (let g : t ∷ [] ≡ [] = f.0 in cc)
made_future (t ∷ []) xs false None (Some b) span f = λ s i k j w h e. future_of (k, w, h.1) (subst (λ u. IsType s u h.0 h.2.0) (last_of_one t b.value xs f).0 h.2.1) h.2.2
made_future (t ∷ []) xs false (Some m) last span f = λ s i k j w h e. absurd h
made_future (t ∷ []) xs true n last span f = λ s i k j w h e. absurd h
made_future (t ∷ u ∷ us) xs lacks n last span f = λ s i k j w h e. absurd h

pub made_stream : (ts xs : List TypeExpr) (lacks : Bool) (n : Option ℕ) (last : Option (Box TypeExpr Global)) (span : Span) → TakesLast ts xs last → IsTypeMade word.Stream ts lacks n span (ty.Stream last)
made_stream [] xs false None None span f = λ s i k j w h e. stream (subst (λ m. IsWord (codes "stream") s i m) (sym h) w)
made_stream [] xs false None (Some b) span f = absurd (no_last b.value xs f)
made_stream [] xs false (Some m) last span f = λ s i k j w h e. absurd h
made_stream [] xs true n last span f = λ s i k j w h e. absurd h
made_stream (t ∷ []) xs false None None span f = absurd (let g : t ∷ [] ≡ [] = f.0 in cc)
made_stream (t ∷ []) xs false None (Some b) span f = λ s i k j w h e. stream_of (k, w, h.1) (subst (λ u. IsType s u h.0 h.2.0) (last_of_one t b.value xs f).0 h.2.1) h.2.2
made_stream (t ∷ []) xs false (Some m) last span f = λ s i k j w h e. absurd h
made_stream (t ∷ []) xs true n last span f = λ s i k j w h e. absurd h
made_stream (t ∷ u ∷ us) xs lacks n last span f = λ s i k j w h e. absurd h

pub made_map : (ts xs ys : List TypeExpr) (lacks : Bool) (n : Option ℕ) (key val : Box TypeExpr Global) (span : Span) → HasMapKey ts → ts ≡ xs ++ val.value ∷ [] → xs ≡ ys ++ key.value ∷ [] → IsTypeMade word.Map ts lacks n span (ty.Map key val span)
made_map [] xs ys lacks n key val span q f g = absurd q
made_map (t ∷ []) xs ys false None key val span q f g = λ s i k j w h e. absurd h
made_map (t ∷ []) xs ys false (Some m) key val span q f g = λ s i k j w h e. absurd h
made_map (t ∷ []) xs ys true n key val span q f g = λ s i k j w h e. absurd h
made_map (t ∷ u ∷ []) xs ys false None key val span q f g = λ s i k j w h e.
    let second = last_of_two t u val.value xs f in
    let first = last_of_one t key.value ys (sym second.1 ∙ g) in
    map (k, w, h.1) (subst (λ x. IsType s x h.0 h.2.0) first.0 h.2.1) (subst IsKey first.0 q) h.2.2.1 (subst (λ x. IsType s x h.2.2.0 h.2.2.2.0) second.0 h.2.2.2.1) h.2.2.2.2 e
made_map (t ∷ u ∷ []) xs ys false (Some m) key val span q f g = λ s i k j w h e. absurd h
made_map (t ∷ u ∷ []) xs ys true n key val span q f g = λ s i k j w h e. absurd h
made_map (t ∷ u ∷ v ∷ vs) xs ys false None key val span q f g = λ s i k j w h e. absurd h
made_map (t ∷ u ∷ v ∷ vs) xs ys false (Some m) key val span q f g = λ s i k j w h e. absurd h
made_map (t ∷ u ∷ v ∷ vs) xs ys true n key val span q f g = λ s i k j w h e. absurd h

pub made_ok : (ts xs : List TypeExpr) (lacks : Bool) (n : Option ℕ) (last : Option (Box TypeExpr Global)) (span : Span) → length ts ≡ 1 → lacks ≡ false → TakesLast ts xs last → IsTypeMade word.Result ts lacks n span (ty.Result last None)
made_ok [] xs lacks n last span one g f = absurd (omega arith)
made_ok (t ∷ []) xs true n last span one g f = absurd (let c : true ≡ false = g in cc)
made_ok (t ∷ []) xs false None None span one g f = absurd (let c : t ∷ [] ≡ [] = f.0 in cc)
made_ok (t ∷ []) xs false None (Some b) span one g f = λ s i k j w h e. result_ok (k, w, h.1) (subst (λ u. IsType s u h.0 h.2.0) (last_of_one t b.value xs f).0 h.2.1) h.2.2
made_ok (t ∷ []) xs false (Some m) last span one g f = λ s i k j w h e. absurd h
made_ok (t ∷ u ∷ us) xs lacks n last span one g f = absurd (omega arith)

pub made_both : (ts xs ys : List TypeExpr) (lacks : Bool) (n : Option ℕ) (first second : Option (Box TypeExpr Global)) (span : Span) → (length ts ≡ 1 → lacks ≡ true) → TakesLast ts xs second → TakesLast xs ys first
    → IsTypeMade word.Result ts lacks n span (ty.Result first second)
made_both [] xs ys lacks n first (Some b) span one f g = absurd (no_last b.value xs f)
made_both [] xs ys lacks n (Some b) None span one f g = absurd (no_last b.value ys (sym f.1 ∙ g))
made_both [] xs ys false None None None span one f g = λ s i k j w h e. result (subst (λ m. IsWord (codes "result") s i m) (sym h) w)
made_both [] xs ys false (Some m) None None span one f g = λ s i k j w h e. absurd h
made_both [] xs ys true n None None span one f g = λ s i k j w h e. absurd h
made_both (t ∷ ts) xs ys lacks n first None span one f g = absurd (let c : t ∷ ts ≡ [] = f.0 in cc)
made_both (t ∷ []) xs ys lacks n (Some a) (Some b) span one f g = absurd (no_last a.value ys (sym (last_of_one t b.value xs f).1 ∙ g))
made_both (t ∷ []) xs ys false n None (Some b) span one f g = absurd (let c : false ≡ true = one refl in cc)
made_both (t ∷ []) xs ys true None None (Some b) span one f g = λ s i k j w h e. result_err (k, w, h.1) h.2.1 h.2.2.1 (subst (λ u. IsType s u h.2.2.0 h.2.2.2.0) (last_of_one t b.value xs f).0 h.2.2.2.1) h.2.2.2.2
made_both (t ∷ []) xs ys true (Some m) None (Some b) span one f g = λ s i k j w h e. absurd h
made_both (t ∷ u ∷ []) xs ys lacks n None (Some b) span one f g = absurd (let c : t ∷ [] ≡ [] = sym (last_of_two t u b.value xs f).1 ∙ g.0 in cc)
made_both (t ∷ u ∷ []) xs ys false None (Some a) (Some b) span one f g = λ s i k j w h e.
    let second = last_of_two t u b.value xs f in
    let first = last_of_one t a.value ys (sym second.1 ∙ g) in
    result_both (k, w, h.1) (subst (λ x. IsType s x h.0 h.2.0) first.0 h.2.1) h.2.2.1 (subst (λ x. IsType s x h.2.2.0 h.2.2.2.0) second.0 h.2.2.2.1) h.2.2.2.2
made_both (t ∷ u ∷ []) xs ys false (Some m) (Some a) (Some b) span one f g = λ s i k j w h e. absurd h
made_both (t ∷ u ∷ []) xs ys true n (Some a) (Some b) span one f g = λ s i k j w h e. absurd h
made_both (t ∷ u ∷ v ∷ vs) xs ys lacks n first (Some b) span one f g = λ s i k j w h e. absurd h
