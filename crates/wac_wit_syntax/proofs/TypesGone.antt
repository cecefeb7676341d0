-- From one step of the reader of types to the next, where it is told what is left.
use Rattle.std.proofs.Common.{◌≡◌, ◌≢◌, ◌⊎◌, ℕ, ◌+◌, ◌-◌, ◌*◌, ◌==◌, if◌then◌else◌, get_or, ◌<◌, ◌≤◌, Bool, true, false, string_bytes, List, [], ◌∷◌, ◌++◌, length, Option, Some, None, Result, Ok, Err, IfOk, IfErr, IsErr, IsOk, inl, inr, refl, sym, ap, ◌∙◌, subst, arith, unwrap_or}
use Rattle.std.proofs.lemmas.Option.{slice_get_past}
use Rattle.std.specs.Result.{IsErrAnd}
use Rattle.wac_model.specs.Desc.{primitive_desc}
use Rattle.wac_model.specs.Text.{Text}
use Rattle.wac_model.specs.declared.primitive.PrimitiveType.{PrimitiveType}
use Rattle.wac_model.specs.declared.primitive.PrimitiveType.TheVariants as prim
use Rattle.wac_wit_syntax.specs.Completing.{AnyOf, Completes, Eats, ComesTo, IsReadable}
use Rattle.wac_wit_syntax.specs.Cursors.{source}
use Rattle.wac_wit_syntax.specs.Productions.{IsKind, IsNameAt, SaysWord, Source, token_at}
use Rattle.wac_wit_syntax.specs.Types.{IsKey, IsLength, IsType, borrow, fixed_list, future, future_of, list, map, name, option, own, primitive, result, result_both, result_err, result_ok, stream, stream_of, tuple, is_key}
use Rattle.wac_wit_syntax.specs.TypeParts.{AreEnough, EndsPart, GoesTo, IsBehind, IsPartNext, IsRest, IsTypeAhead, IsTypeNext, KeepsKey, OpensParts, ReadsOther, comma, comma_end, end, is_empty, lack, length_of, may_go_on, may_end, next_is_type, stands_alone, ty, word_text}
use Rattle.wac_wit_syntax.specs.declared.types.TheConstants.{MAX_DEPTH}
use Rattle.wac_wit_syntax.specs.declared.cursor.Cursor.{Cursor}
use Rattle.wac_wit_syntax.specs.declared.error.Fault.{Fault}
use Rattle.wac_wit_syntax.specs.declared.error.Fault.TheVariants.{Memory}
use Rattle.wac_wit_syntax.specs.declared.positions.Span.{Span}
use Rattle.wac_wit_syntax.specs.declared.token.Token.{Token}
use Rattle.wac_wit_syntax.specs.declared.token.TokenKind.{TokenKind}
use Rattle.wac_wit_syntax.specs.declared.token.TokenKind.TheVariants.{CloseAngle, Comma, End, Escaped, Integer, OpenAngle, Underscore, Word}
use Rattle.wac_wit_syntax.specs.declared.tree.TypeExpr.{TypeExpr}
use Rattle.wac_wit_syntax.specs.declared.tree.TypeExpr.TheVariants as tree
use Rattle.wac_wit_syntax.specs.declared.types.Parts.{Parts}
use Rattle.wac_wit_syntax.specs.declared.types.TypeWord.{TypeWord}
use Rattle.wac_wit_syntax.specs.declared.types.TypeWord.TheVariants as word
use Rattle.wac_wit_syntax.proofs.Finishing.{failed_memory}
use Rattle.wac_wit_syntax.proofs.TypesLeft.{no_word_primitive, rest_left, type_longer}

-- ---- how types begin

abbrev pub BeginsName : Source → ℕ → Type 0
BeginsName s i = ((token_at s i).kind ≡ Word) ⊎ ((token_at s i).kind ≡ Escaped)

pub name_begins : (s : Source) (i : ℕ) (n : List ℕ) → IsNameAt s i n → BeginsName s i
name_begins s i n (inl k) = inl k.0.0
name_begins s i n (inr k) = inr k.0

pub type_begins : (s : Source) (t : TypeExpr) (i j : ℕ) → IsType s t i j → BeginsName s i
type_begins s t i j (primitive w r) = inl w.0.0
type_begins s t i j (name {id = id} x) = name_begins s i (string_bytes id.name) x.0
type_begins s t i j (list o x y) = inl o.1.0.0
type_begins s t i j (fixed_list o x y z q r) = inl o.1.0.0
type_begins s t i j (option o x y) = inl o.1.0.0
type_begins s t i j (result w) = inl w.0.0
type_begins s t i j (result_ok o x y) = inl o.1.0.0
type_begins s t i j (result_err o x y z q) = inl o.1.0.0
type_begins s t i j (result_both o x y z q) = inl o.1.0.0
type_begins s t i j (tuple ts o x y r) = inl o.1.0.0
type_begins s t i j (map o x l y z q r) = inl o.1.0.0
type_begins s t i j (future w) = inl w.0.0
type_begins s t i j (future_of o x y) = inl o.1.0.0
type_begins s t i j (stream w) = inl w.0.0
type_begins s t i j (stream_of o x y) = inl o.1.0.0
type_begins s t i j (own o x y) = inl o.1.0.0
type_begins s t i j (borrow o x y) = inl o.1.0.0

begins_not : (s : Source) (i : ℕ) (kind : TokenKind) → Word ≢ kind → Escaped ≢ kind → BeginsName s i → (token_at s i).kind ≡ kind → ⊥
begins_not s i kind a b (inl e) f = absurd (a (sym e ∙ f))
begins_not s i kind a b (inr e) f = absurd (b (sym e ∙ f))

pub type_no : (s : Source) (t : TypeExpr) (i j : ℕ) (kind : TokenKind) → Word ≢ kind → Escaped ≢ kind → IsType s t i j → (token_at s i).kind ≡ kind → ⊥
type_no s t i j kind a b h f = begins_not s i kind a b (type_begins s t i j h) f

-- a part is left, so no angle closes here and the text doesn't end
next_no : (s : Source) (w : TypeWord) (n : ℕ) (ts : List TypeExpr) (lacks : Bool) (l : Option ℕ) (i j : ℕ) (kind : TokenKind) → Word ≢ kind → Escaped ≢ kind → Underscore ≢ kind → Integer ≢ kind
    → IsPartNext s w n ts lacks l i j → (token_at s i).kind ≡ kind → ⊥
next_no s w n ts lacks l i j kind a b c d (ty {t = t} {k = k} e h x f) g = type_no s t i k kind a b x g
next_no s w n ts lacks l i j kind a b c d (lack e u f) g = absurd (c (sym u.0 ∙ g))
next_no s w n ts lacks l i j kind a b c d (length_of e x f) g = absurd (d (sym x.0.0 ∙ g))

pub kind_past : (s : Source) (i : ℕ) → length s.tokens ≤ i → (token_at s i).kind ≡ End
kind_past s i past =
    let none = slice_get_past s.tokens i past in
    ap (λ (t : Option Token). (unwrap_or t (record { kind = End; span = record { start = length s.text; end = length s.text }; docs = None })).kind) none

-- behind a part stands no `<`
behind_no_open : (s : Source) (w : TypeWord) (n : ℕ) (ts : List TypeExpr) (lacks : Bool) (l : Option ℕ) (i j : ℕ) → IsBehind s w n ts lacks l i j → (token_at s i).kind ≢ OpenAngle
behind_no_open s w n ts lacks l i j (end e a h) = λ f. (let g : CloseAngle ≡ OpenAngle = sym h.0 ∙ f in cc)
behind_no_open s w n ts lacks l i j (comma e h x) = λ f. (let g : Comma ≡ OpenAngle = sym h.0 ∙ f in cc)
behind_no_open s w n ts lacks l i j (comma_end e h x) = λ f. (let g : Comma ≡ OpenAngle = sym h.0 ∙ f in cc)

-- ---- what is answered

if_failed : {T : Type 0} (r : Result T Fault) (P : T → Type 0) → IsErr r → IfOk r P
if_failed (Ok v) P e = absurd (let f : false ≡ true = e in cc)
if_failed (Err x) P e = tt

pub stays : (c d : Cursor) (k : ℕ) → d ≡ record c { next = k } → d ≡ record c { next = d.next }
stays c d k at = at ∙ ap (λ m. record c { next = m }) (sym (ap (λ (x : Cursor). x.next) at))

goes_open : (w : TypeWord) (n : ℕ) (ts : List TypeExpr) (lacks : Bool) (l : Option ℕ) (c d : Cursor) (k j : ℕ) → d ≡ record c { next = k } → c.next ≤ k → IsPartNext (source c) w n ts lacks l k j → GoesTo true w n ts lacks l c d j
goes_open w n ts lacks l c d k j at more next =
    let place : d.next ≡ k = ap (λ (x : Cursor). x.next) at in
    record {
      same = stays c d k at;
      further = omega arith;
      left = λ e. subst (λ m. IsPartNext (source c) w n ts lacks l m j) (sym place) next;
      closed = λ e. absurd (let f : true ≡ false = e in cc);
    }

goes_closed : (w : TypeWord) (n : ℕ) (ts : List TypeExpr) (lacks : Bool) (l : Option ℕ) (c d : Cursor) (j : ℕ) → d ≡ record c { next = j } → c.next ≤ j → AreEnough w ts → GoesTo false w n ts lacks l c d j
goes_closed w n ts lacks l c d j at more enough =
    let place : d.next ≡ j = ap (λ (x : Cursor). x.next) at in
    record {
      same = stays c d j at;
      further = omega arith;
      left = λ e. absurd (let f : false ≡ true = e in cc);
      closed = λ e. (place, enough);
    }

-- ---- the angle behind the word

enough_alone : (w : TypeWord) → stands_alone w ≡ true → AreEnough w []
enough_alone word.Result e = tt
enough_alone word.Future e = tt
enough_alone word.Stream e = tt
enough_alone word.List e = absurd (let f : false ≡ true = e in cc)
enough_alone word.Option e = absurd (let f : false ≡ true = e in cc)
enough_alone word.Tuple e = absurd (let f : false ≡ true = e in cc)
enough_alone word.Map e = absurd (let f : false ≡ true = e in cc)

pub opens_eaten : (c d : Cursor) (w : TypeWord) (eaten : Bool) → stands_alone w ≡ true → Eats c d eaten (IsKind OpenAngle) → (eaten ≡ false → d ≡ c) → (eaten ≡ true → (token_at (source c) c.next).kind ≡ OpenAngle) → OpensParts c d w (Ok eaten)
opens_eaten c d w true a eats left seen = λ cut n j rest. (by cut n j rest, tt)
  where
    by : IsReadable (source c) → (n j : ℕ) → IsRest (source c) w n c.next j → GoesTo true w (n + 1) [] false None c d j
    by cut n j (inl h) = absurd (h.2 (subst (λ m. (token_at (source c) m).kind ≡ OpenAngle) (sym h.1) (seen refl)))
    by cut n j (inr h) = goes_open w (n + 1) [] false None c d h.0 j (eats cut h.0 h.1).1 (let a = h.1.1 in omega arith) h.2
opens_eaten c d w false a eats left seen = λ cut n j rest. (by cut n j rest, tt)
  where
    by : IsReadable (source c) → (n j : ℕ) → IsRest (source c) w n c.next j → GoesTo false w (n + 1) [] false None c d j
    by cut n j (inl h) = goes_closed w (n + 1) [] false None c d j (left refl ∙ ap (λ m. record c { next = m }) (sym h.1)) (let a = h.1 in omega arith) (enough_alone w h.0)
    by cut n j (inr h) = absurd (let f : false ≡ true = (eats cut h.0 h.1).0 in cc)

pub opens_expected : {T : Type 0} {v : T} (c d : Cursor) (w : TypeWord) → stands_alone w ≡ false → Completes c d (Ok v) (IsKind OpenAngle) → OpensParts c d w (Ok true)
opens_expected {T} {v} c d w a h = λ cut n j rest. (by cut n j rest, tt)
  where
    by : IsReadable (source c) → (n j : ℕ) → IsRest (source c) w n c.next j → GoesTo true w (n + 1) [] false None c d j
    by cut n j (inl x) = absurd (let f : false ≡ true = sym a ∙ x.0 in cc)
    by cut n j (inr x) = goes_open w (n + 1) [] false None c d x.0 j (h.ends cut x.0 x.1).ok (let a = x.1.1 in omega arith) x.2

pub opens_failed : {T : Type 0} {x : Fault} (c d e : Cursor) (w : TypeWord) (r : Result Bool Fault) → stands_alone w ≡ false → Completes {T = T} c d (Err x) (IsKind OpenAngle) → IsErr r × IsErrAnd r (λ y. y ≡ x) → OpensParts c e w r
opens_failed {T} {x} c d e w r a h f = λ cut n j rest. (if_failed r _ f.0, failed_memory r x f (by cut n j rest))
  where
    by : IsReadable (source c) → (n j : ℕ) → IsRest (source c) w n c.next j → x ≡ Memory
    by cut n j (inl y) = absurd (let f : false ≡ true = sym a ∙ y.0 in cc)
    by cut n j (inr y) = (h.ends cut y.0 y.1).memory

-- ---- the next part

lack_next : (s : Source) (w : TypeWord) (n : ℕ) (ts : List TypeExpr) (lacks : Bool) (l : Option ℕ) (i j : ℕ) → IsPartNext s w n ts lacks l i j → w ≡ word.Result → (token_at s i).kind ≡ Underscore → IsBehind s w n ts true l (i + 1) j
lack_next s w n ts lacks l i j (ty {t = t} {k = k} e h x f) is u = absurd (type_no s t i k Underscore (λ e. cc) (λ e. cc) x u)
lack_next s w n ts lacks l i j (lack e x f) is u = subst (λ m. IsBehind s w n [] true l m j) x.1 f
lack_next s w n ts lacks l i j (length_of e x f) is u = absurd (let f : Integer ≡ Underscore = sym x.0.0 ∙ u in cc)

pub lack_taken : (c d : Cursor) (w : TypeWord) (p q : Parts) (eaten : Bool) → w ≡ word.Result → (token_at (source c) c.next).kind ≡ Underscore → Eats c d eaten (IsKind Underscore) → q ≡ record p { lacks_first = true } → ReadsOther c d w p q (Ok true)
lack_taken c d w p q eaten is seen eats set = λ cut n j next.
    let behind = lack_next (source c) w n p.types.items p.lacks_first p.length c.next j next is seen in
    let at : d ≡ record c { next = c.next + 1 } = (eats cut (c.next + 1) (seen, refl)).1 in
    let place : d.next ≡ c.next + 1 = ap (λ (x : Cursor). x.next) at in
    let there : IsBehind (source c) w n p.types.items true p.length d.next j = subst (λ m. IsBehind (source c) w n p.types.items true p.length m j) (sym place) behind in (
      record {
        same = stays c d (c.next + 1) at;
        further = λ e. omega arith;
        behind = λ e. subst (λ (x : Parts). IsBehind (source c) w n x.types.items x.lacks_first x.length d.next j) (sym set) there;
        ty = λ e. absurd (let f : true ≡ false = e in cc);
      },
      tt,
    )

is_no_result : (ts : List TypeExpr) (lacks : Bool) (w : TypeWord) → w ≡ word.Result → next_is_type w ts lacks ≡ true
is_no_result ts lacks w e = subst (λ v. next_is_type v ts lacks ≡ true) (sym e) refl

length_next : (s : Source) (w : TypeWord) (n : ℕ) (ts : List TypeExpr) (lacks : Bool) (l : Option ℕ) (i j : ℕ) → IsPartNext s w n ts lacks l i j → next_is_type w ts lacks ≡ false
    → (k : ℕ) × AnyOf IsLength s i k × ((u : ℕ) → IsBehind s w n ts lacks (Some u) k j)
length_next s w n ts lacks l i j (ty e h x f) none = absurd (let g : false ≡ true = sym none ∙ e in cc)
length_next s w n ts lacks l i j (lack e x f) none = absurd (let g : false ≡ true = sym none ∙ is_no_result [] false w e in cc)
length_next s w n ts lacks l i j (length_of {m = m} {k = k} e x f) none = (k, (m, x), f)

pub length_taken : (c d : Cursor) (w : TypeWord) (p q : Parts) (m : ℕ) → next_is_type w p.types.items p.lacks_first ≡ false → Completes c d (Ok m) (AnyOf IsLength) → q ≡ record p { length = Some m } → ReadsOther c d w p q (Ok true)
length_taken c d w p q m none h set = λ cut n j next.
    let x = length_next (source c) w n p.types.items p.lacks_first p.length c.next j next none in
    let at : d ≡ record c { next = x.0 } = (h.ends cut x.0 x.1).ok in
    let place : d.next ≡ x.0 = ap (λ (x : Cursor). x.next) at in
    let more : x.0 ≡ c.next + 1 = x.1.1.1 in
    let there : IsBehind (source c) w n p.types.items p.lacks_first (Some m) d.next j = subst (λ k. IsBehind (source c) w n p.types.items p.lacks_first (Some m) k j) (sym place) (x.2 m) in (
      record {
        same = stays c d x.0 at;
        further = λ e. omega arith;
        behind = λ e. subst (λ (x : Parts). IsBehind (source c) w n x.types.items x.lacks_first x.length d.next j) (sym set) there;
        ty = λ e. absurd (let f : true ≡ false = e in cc);
      },
      tt,
    )

pub length_failed : {x : Fault} (c d e : Cursor) (w : TypeWord) (p q : Parts) (r : Result Bool Fault) → next_is_type w p.types.items p.lacks_first ≡ false → Completes {T = ℕ} c d (Err x) (AnyOf IsLength) → IsErr r × IsErrAnd r (λ y. y ≡ x)
    → ReadsOther c e w p q r
length_failed {x} c d e w p q r none h f = λ cut n j next.
    let y = length_next (source c) w n p.types.items p.lacks_first p.length c.next j next none in
    (if_failed r _ f.0, failed_memory r x f (h.ends cut y.0 y.1).memory)

type_next : (s : Source) (w : TypeWord) (n : ℕ) (ts : List TypeExpr) (lacks : Bool) (l : Option ℕ) (i j : ℕ) → IsPartNext s w n ts lacks l i j → next_is_type w ts lacks ≡ true
    → (w ≡ word.Result → is_empty ts lacks ≡ true → (k : ℕ) → IsKind Underscore s i k → ⊥) → IsTypeNext s w n ts lacks l i j
type_next s w n ts lacks l i j (ty {t = t} {k = k} e h x f) is none = record { first = t; end = k; are_open = h; is_type = x; behind = f }
type_next s w n ts lacks l i j (lack {k = k} e x f) is none = absurd (none e refl k x)
type_next s w n ts lacks l i j (length_of e x f) is none = absurd (let g : false ≡ true = sym e ∙ is in cc)

pub type_comes : (c d e : Cursor) (w : TypeWord) (p q : Parts) (eaten : Bool) → next_is_type w p.types.items p.lacks_first ≡ true → (w ≡ word.Result → is_empty p.types.items p.lacks_first ≡ true → Eats c d eaten (IsKind Underscore)) → eaten ≡ false
    → e ≡ c → ReadsOther c e w p q (Ok false)
type_comes c d e w p q eaten is eats off same = λ cut n j next. (
  record {
    same = same ∙ ap (λ m. record c { next = m }) (sym (ap (λ (x : Cursor). x.next) same));
    further = λ e. absurd (let f : false ≡ true = e in cc);
    behind = λ e. absurd (let f : false ≡ true = e in cc);
    ty = λ e. type_next (source c) w n p.types.items p.lacks_first p.length c.next j next is (λ f g k x. (let h : false ≡ true = sym off ∙ (eats f g cut k x).0 in cc));
  },
  tt,
)

-- ---- what stands behind a part

-- a comma and an angle, which end a tuple
pub ends_tuple : (c d e : Cursor) (w : TypeWord) (p : Parts) (a b : Bool) → (token_at (source c) c.next).kind ≡ Comma → (token_at (source d) d.next).kind ≡ CloseAngle → (may_go_on w p.types.items p.lacks_first p.length ≡ true → Eats c d a (IsKind Comma))
    → may_go_on w p.types.items p.lacks_first p.length ≡ true → Eats d e b (IsKind CloseAngle) → w ≡ word.Tuple → EndsPart c e w p (Ok false)
ends_tuple c d e w p a b one two eats may eats_end is = λ cut n j behind. (by cut n j p.types.items p.lacks_first p.length behind, tt)
  where
    by : IsReadable (source c) → (n j : ℕ) → (ts : List TypeExpr) (lacks : Bool) (l : Option ℕ) → IsBehind (source c) w n ts lacks l c.next j → GoesTo false w n ts lacks l c e j
    by cut n j ts lacks l (end f g h) = absurd (let x : Comma ≡ CloseAngle = sym one ∙ h.0 in cc)
    by cut n j ts lacks l (comma {k = k} f h x) =
        let at : d ≡ record c { next = k } = (eats may cut k h).1 in
        absurd (next_no (source c) w n ts lacks l k j CloseAngle (λ e. cc) (λ e. cc) (λ e. cc) (λ e. cc) x (sym (ap (λ (x : Cursor). (token_at (source x) x.next).kind) at) ∙ two))
    by cut n j ts lacks l (comma_end {k = k} f h x) =
        let at : d ≡ record c { next = k } = (eats may cut k h).1 in
        let place : d.next ≡ k = ap (λ (x : Cursor). x.next) at in
        let same : source d ≡ source c = ap source at in
        let there : IsKind CloseAngle (source d) d.next j = subst (λ (s : Source). IsKind CloseAngle s d.next j) (sym same) (subst (λ m. IsKind CloseAngle (source c) m j) (sym place) x) in
        let to : e ≡ record d { next = j } = (eats_end (subst IsReadable (sym same) cut) j there).1 in
        goes_closed w n ts lacks l c e j (to ∙ ap (λ (x : Cursor). record x { next = j }) at) (let a = h.1 in let b = x.1 in omega arith) (subst (λ v. AreEnough v ts) (sym f) tt)

-- a comma, and another part behind it
pub goes_further : (c d e : Cursor) (w : TypeWord) (p : Parts) (a b : Bool) → (token_at (source c) c.next).kind ≡ Comma → (may_go_on w p.types.items p.lacks_first p.length ≡ true → Eats c d a (IsKind Comma))
    → may_go_on w p.types.items p.lacks_first p.length ≡ true → (w ≡ word.Tuple → Eats d e b (IsKind CloseAngle)) → b ≡ false → e ≡ d → EndsPart c e w p (Ok true)
goes_further c d e w p a b one eats may eats_end off same = λ cut n j behind. (by cut n j p.types.items p.lacks_first p.length behind, tt)
  where
    by : IsReadable (source c) → (n j : ℕ) → (ts : List TypeExpr) (lacks : Bool) (l : Option ℕ) → IsBehind (source c) w n ts lacks l c.next j → GoesTo true w n ts lacks l c e j
    by cut n j ts lacks l (end f g h) = absurd (let x : Comma ≡ CloseAngle = sym one ∙ h.0 in cc)
    by cut n j ts lacks l (comma {k = k} f h x) = goes_open w n ts lacks l c e k j (same ∙ (eats may cut k h).1) (let a = h.1 in omega arith) x
    by cut n j ts lacks l (comma_end {k = k} f h x) =
        let at : d ≡ record c { next = k } = (eats may cut k h).1 in
        let place : d.next ≡ k = ap (λ (x : Cursor). x.next) at in
        let from : source d ≡ source c = ap source at in
        let there : IsKind CloseAngle (source d) d.next j = subst (λ (s : Source). IsKind CloseAngle s d.next j) (sym from) (subst (λ m. IsKind CloseAngle (source c) m j) (sym place) x) in
        absurd (let g : false ≡ true = sym off ∙ (eats_end f (subst IsReadable (sym from) cut) j there).0 in cc)

tuples_go_on : (w : TypeWord) (ts : List TypeExpr) (lacks : Bool) (l : Option ℕ) → w ≡ word.Tuple → may_go_on w ts lacks l ≡ true
tuples_go_on w ts lacks l e = subst (λ v. may_go_on v ts lacks l ≡ true) (sym e) refl

-- no comma, so an angle
pub ends_here : (c d e : Cursor) (w : TypeWord) (p : Parts) (a b : Bool) → (may_go_on w p.types.items p.lacks_first p.length ≡ true → Eats c d a (IsKind Comma)) → a ≡ false → d ≡ c
    → (may_end w p.types.items p.lacks_first p.length ≡ true → Eats d e b (IsKind CloseAngle)) → may_end w p.types.items p.lacks_first p.length ≡ true → EndsPart c e w p (Ok false)
ends_here c d e w p a b eats off same eats_end may = λ cut n j behind. (by cut n j behind, tt)
  where
    by : IsReadable (source c) → (n j : ℕ) → IsBehind (source c) w n p.types.items p.lacks_first p.length c.next j → GoesTo false w n p.types.items p.lacks_first p.length c e j
    by cut n j (end f g h) =
        let there : IsKind CloseAngle (source d) d.next j = subst (λ (x : Cursor). IsKind CloseAngle (source x) x.next j) (sym same) h in
        let to : e ≡ record d { next = j } = (eats_end may (subst (λ (x : Cursor). IsReadable (source x)) (sym same) cut) j there).1 in
        goes_closed w n p.types.items p.lacks_first p.length c e j (to ∙ ap (λ (x : Cursor). record x { next = j }) same) (let a = h.1 in omega arith) g
    by cut n j (comma {k = k} f h x) = absurd (let g : false ≡ true = sym off ∙ (eats f cut k h).0 in cc)
    by cut n j (comma_end {k = k} f h x) = absurd (let g : false ≡ true = sym off ∙ (eats (tuples_go_on w p.types.items p.lacks_first p.length f) cut k h).0 in cc)

-- one of them comes
pub ends_somehow : (c d e : Cursor) (w : TypeWord) (p : Parts) (a b : Bool) → (may_go_on w p.types.items p.lacks_first p.length ≡ true → Eats c d a (IsKind Comma)) → a ≡ false → d ≡ c
    → (may_end w p.types.items p.lacks_first p.length ≡ true → Eats d e b (IsKind CloseAngle)) → b ≡ false → IsReadable (source c) → (n j : ℕ) → IsBehind (source c) w n p.types.items p.lacks_first p.length c.next j → ⊥
ends_somehow c d e w p a b eats off same eats_end none cut n j (end f g h) =
    let there : IsKind CloseAngle (source d) d.next j = subst (λ (x : Cursor). IsKind CloseAngle (source x) x.next j) (sym same) h in
    absurd (let x : false ≡ true = sym none ∙ (eats_end f (subst (λ (x : Cursor). IsReadable (source x)) (sym same) cut) j there).0 in cc)
ends_somehow c d e w p a b eats off same eats_end none cut n j (comma {k = k} f h x) = absurd (let g : false ≡ true = sym off ∙ (eats f cut k h).0 in cc)
ends_somehow c d e w p a b eats off same eats_end none cut n j (comma_end {k = k} f h x) = absurd (let g : false ≡ true = sym off ∙ (eats (tuples_go_on w p.types.items p.lacks_first p.length f) cut k h).0 in cc)

-- ---- all parts

-- where the reader stands between two parts, or behind them all: each turn has taken a token at least
pub record IsReadTo (a c : Cursor) (w : TypeWord) (p : Parts) (is_open : Bool) (turn depth j : ℕ) : Type 0 where
  pub count : ℕ
  pub deep : count + depth ≡ MAX_DEPTH
  pub turns : turn + a.next < c.next
  pub to : GoesTo is_open w (count + 1) p.types.items p.lacks_first p.length a c j

-- where it stands behind a part
pub record IsReadBehind (a c : Cursor) (w : TypeWord) (p : Parts) (turn depth j : ℕ) : Type 0 where
  pub count : ℕ
  pub deep : count + depth ≡ MAX_DEPTH
  pub turns : turn + a.next < c.next
  pub same : c ≡ record a { next = c.next }
  pub behind : IsBehind (source a) w (count + 1) p.types.items p.lacks_first p.length c.next j

-- a step on from where the tokens are the same
goes_from : (is_open : Bool) (w : TypeWord) (n : ℕ) (ts : List TypeExpr) (lacks : Bool) (l : Option ℕ) (a c d : Cursor) (j : ℕ) → c ≡ record a { next = c.next } → a.next ≤ c.next → GoesTo is_open w n ts lacks l c d j → GoesTo is_open w n ts lacks l a d j
goes_from is_open w n ts lacks l a c d j same more g = record {
  same = g.same ∙ ap (λ (x : Cursor). record x { next = d.next }) same;
  further = (let x = g.further in omega arith);
  left = λ e. subst (λ (s : Source). IsPartNext s w n ts lacks l d.next j) (ap source same) (g.left e);
  closed = g.closed;
}

readable_there : (a c : Cursor) → c ≡ record a { next = c.next } → IsReadable (source a) → IsReadable (source c)
readable_there a c same cut = subst IsReadable (sym (ap source same)) cut

pub rest_ahead : (a b : Cursor) (w : TypeWord) (depth j : ℕ) → IsTypeAhead a depth j → SaysWord (source a) a.next (word_text w) → (w ≡ word.Map → (token_at (source a) (a.next + 1)).kind ≡ OpenAngle) → b ≡ record a { next = b.next } → b.next ≡ a.next + 1
    → (count : ℕ) × (count + depth ≡ MAX_DEPTH) × IsRest (source b) w count b.next j
rest_ahead a b w depth j h says opens same place =
    let rest : IsRest (source a) w h.count (a.next + 1) j = rest_left (source a) h.is_type.0.0 w a.next j h.count says opens h.is_type.1 h.are_open h.is_type.0.1 in
    (h.count, h.deep, subst (λ (s : Source). IsRest s w h.count b.next j) (sym (ap source same)) (subst (λ m. IsRest (source a) w h.count m j) (sym place) rest))

-- the word is taken
pub word_taken : (a b : Cursor) (taken : Token) (w : List ℕ) → SaysWord (source a) a.next w → taken ≡ token_at (source a) a.next → (taken.kind ≢ End → b.next ≡ a.next + 1) → b.next ≡ a.next + 1
word_taken a b taken w says token next = next (λ e. (let k : Word ≡ End = sym says.0 ∙ sym (ap (λ (t : Token). t.kind) token) ∙ e in cc))

pub at_start : (a b d : Cursor) (w : TypeWord) (p : Parts) (is_open : Bool) (depth j : ℕ) → IsTypeAhead a depth j → SaysWord (source a) a.next (word_text w) → (w ≡ word.Map → (token_at (source a) (a.next + 1)).kind ≡ OpenAngle)
    → b ≡ record a { next = b.next } → b.next ≡ a.next + 1 → OpensParts b d w (Ok is_open) → p.types.items ≡ [] → p.lacks_first ≡ false → p.length ≡ None → IsReadTo a d w p is_open 0 depth j
at_start a b d w p is_open depth j h says opens same place steps e f g =
    let rest = rest_ahead a b w depth j h says opens same place in
    let to = (steps (readable_there a b same h.readable) rest.0 j rest.2).0 in
    let all : GoesTo is_open w (rest.0 + 1) [] false None a d j = goes_from is_open w (rest.0 + 1) [] false None a b d j same (omega arith) to in
    record {
      count = rest.0;
      deep = rest.1;
      turns = (let x = to.further in omega arith);
      to = subst (λ o. GoesTo is_open w (rest.0 + 1) p.types.items p.lacks_first o a d j) (sym g) (subst (λ b. GoesTo is_open w (rest.0 + 1) p.types.items b None a d j) (sym f) (subst (λ ts. GoesTo is_open w (rest.0 + 1) ts false None a d j) (sym e) all));
    }

next_at : (a c : Cursor) (w : TypeWord) (p : Parts) (is_open : Bool) (turn depth j : ℕ) → (h : IsReadTo a c w p is_open turn depth j) → is_open ≡ true → IsPartNext (source c) w (h.count + 1) p.types.items p.lacks_first p.length c.next j
next_at a c w p is_open turn depth j h e = subst (λ (s : Source). IsPartNext s w (h.count + 1) p.types.items p.lacks_first p.length c.next j) (sym (ap source h.to.same)) (h.to.left e)

pub other_read : (a c d e : Cursor) (w : TypeWord) (p q r : Parts) (is_open is_other : Bool) (turn depth j : ℕ) → IsReadable (source a) → IsReadTo a c w p is_open turn depth j → is_open ≡ true → ReadsOther c d w p q (Ok is_other) → is_other ≡ true
    → e ≡ d → r ≡ q → IsReadBehind a e w r (turn + 1) depth j
other_read a c d e w p q r is_open is_other turn depth j cut h o reads is at same =
    let g = (reads (readable_there a c h.to.same cut) (h.count + 1) j (next_at a c w p is_open turn depth j h o)).0 in
    let one : IsReadBehind a d w q (turn + 1) depth j = record {
      count = h.count;
      deep = h.deep;
      turns = (let x = g.further is in let y = h.turns in omega arith);
      same = g.same ∙ ap (λ (x : Cursor). record x { next = d.next }) h.to.same;
      behind = subst (λ (s : Source). IsBehind s w (h.count + 1) q.types.items q.lacks_first q.length d.next j) (ap source h.to.same) (g.behind is);
    } in
    subst (λ (x : Cursor). IsReadBehind a x w r (turn + 1) depth j) (sym at) (subst (λ (x : Parts). IsReadBehind a d w x (turn + 1) depth j) (sym same) one)

-- the type that comes next
pub type_there : (a c d : Cursor) (w : TypeWord) (p q : Parts) (is_open is_other : Bool) (turn depth j : ℕ) → IsReadable (source a) → (h : IsReadTo a c w p is_open turn depth j) → is_open ≡ true → ReadsOther c d w p q (Ok is_other) → is_other ≡ false
    → d ≡ c → IsTypeNext (source d) w (h.count + 1) p.types.items p.lacks_first p.length d.next j
type_there a c d w p q is_open is_other turn depth j cut h o reads is same =
    let g = (reads (readable_there a c h.to.same cut) (h.count + 1) j (next_at a c w p is_open turn depth j h o)).0 in
    subst (λ (x : Cursor). IsTypeNext (source x) w (h.count + 1) p.types.items p.lacks_first p.length x.next j) (sym same) (g.ty is)

pub type_ahead : (a c d : Cursor) (w : TypeWord) (p : Parts) (is_open : Bool) (turn depth j : ℕ) → IsReadable (source a) → (h : IsReadTo a c w p is_open turn depth j) → 0 < depth → d ≡ c
    → (n : IsTypeNext (source d) w (h.count + 1) p.types.items p.lacks_first p.length d.next j) → IsTypeAhead d (depth - 1) n.end
type_ahead a c d w p is_open turn depth j cut h deep same n = record {
  readable = subst (λ (x : Cursor). IsReadable (source x)) (sym same) (readable_there a c h.to.same cut);
  is_type = ((n.first, n.is_type), behind_no_open (source d) w (h.count + 1) _ p.lacks_first p.length n.end j (n.behind n.first (λ k. k)));
  count = h.count + 1;
  are_open = n.are_open;
  deep = (let x = h.deep in omega arith);
}

pub type_read : (a c d e f : Cursor) (w : TypeWord) (p q r : Parts) (u : TypeExpr) (is_open : Bool) (turn depth j : ℕ) → (h : IsReadTo a c w p is_open turn depth j) → IsReadable (source a) → d ≡ c
    → (n : IsTypeNext (source d) w (h.count + 1) p.types.items p.lacks_first p.length d.next j) → ComesTo n.end d e (Ok u) → KeepsKey d u → q ≡ p → r.types.items ≡ q.types.items ++ u ∷ [] → r.lacks_first ≡ q.lacks_first → r.length ≡ q.length → f ≡ e
    → IsReadBehind a f w r (turn + 1) depth j
type_read a c d e f w p q r u is_open turn depth j h cut same n ends key kept items lacks l at =
    let there = readable_there a c h.to.same cut in
    let place : e.next ≡ n.end = ap (λ (x : Cursor). x.next) ends.ok in
    let more = type_longer (source d) n.first d.next n.end n.is_type in
    let stood : d.next ≡ c.next = ap (λ (x : Cursor). x.next) same in
    let behind : IsBehind (source d) w (h.count + 1) (p.types.items ++ u ∷ []) p.lacks_first p.length n.end j = n.behind u (key (subst (λ (x : Cursor). IsReadable (source x)) (sym same) there) n.first n.end n.is_type) in
    let one = subst (λ ts. IsBehind (source d) w (h.count + 1) ts p.lacks_first p.length n.end j) (sym (items ∙ ap (λ (x : Parts). x.types.items ++ u ∷ []) kept)) behind in
    let two = subst (λ b. IsBehind (source d) w (h.count + 1) r.types.items b p.length n.end j) (sym (lacks ∙ ap (λ (x : Parts). x.lacks_first) kept)) one in
    let three = subst (λ o. IsBehind (source d) w (h.count + 1) r.types.items r.lacks_first o n.end j) (sym (l ∙ ap (λ (x : Parts). x.length) kept)) two in
    let from : d ≡ record a { next = d.next } = same ∙ h.to.same ∙ ap (λ m. record a { next = m }) (sym stood) in
    let all : IsReadBehind a e w r (turn + 1) depth j = record {
      count = h.count;
      deep = h.deep;
      turns = (let x = h.turns in omega arith);
      same = stays d e n.end ends.ok ∙ ap (λ (x : Cursor). record x { next = e.next }) from;
      behind = subst (λ (s : Source). IsBehind s w (h.count + 1) r.types.items r.lacks_first r.length e.next j) (ap source from) (subst (λ m. IsBehind (source d) w (h.count + 1) r.types.items r.lacks_first r.length m j) (sym place) three);
    } in
    subst (λ (x : Cursor). IsReadBehind a x w r (turn + 1) depth j) (sym at) all

pub behind_at : (a c : Cursor) (w : TypeWord) (p : Parts) (turn depth j : ℕ) → (h : IsReadBehind a c w p turn depth j) → IsBehind (source c) w (h.count + 1) p.types.items p.lacks_first p.length c.next j
behind_at a c w p turn depth j h = subst (λ (s : Source). IsBehind s w (h.count + 1) p.types.items p.lacks_first p.length c.next j) (sym (ap source h.same)) h.behind

pub read_further : (a c d : Cursor) (w : TypeWord) (p : Parts) (is_open : Bool) (turn depth j : ℕ) → IsReadable (source a) → IsReadBehind a c w p turn depth j → EndsPart c d w p (Ok is_open) → IsReadTo a d w p is_open turn depth j
read_further a c d w p is_open turn depth j cut h ends =
    let g = (ends (readable_there a c h.same cut) (h.count + 1) j (behind_at a c w p turn depth j h)).0 in
    record {
      count = h.count;
      deep = h.deep;
      turns = (let x = h.turns in let y = g.further in omega arith);
      to = goes_from is_open w (h.count + 1) p.types.items p.lacks_first p.length a c d j h.same (let x = h.turns in omega arith) g;
    }

-- ---- the ways out

pub memory_opens : {x : Fault} (a b d : Cursor) (w : TypeWord) (depth j : ℕ) → IsTypeAhead a depth j → SaysWord (source a) a.next (word_text w) → (w ≡ word.Map → (token_at (source a) (a.next + 1)).kind ≡ OpenAngle)
    → b ≡ record a { next = b.next } → b.next ≡ a.next + 1 → OpensParts b d w (Err x) → x ≡ Memory
memory_opens {x} a b d w depth j h says opens same place steps =
    let rest = rest_ahead a b w depth j h says opens same place in
    (steps (readable_there a b same h.readable) rest.0 j rest.2).1

pub memory_other : {x : Fault} (a c d : Cursor) (w : TypeWord) (p q : Parts) (is_open : Bool) (turn depth j : ℕ) → IsReadable (source a) → IsReadTo a c w p is_open turn depth j → is_open ≡ true → ReadsOther c d w p q (Err x) → x ≡ Memory
memory_other {x} a c d w p q is_open turn depth j cut h o reads = (reads (readable_there a c h.to.same cut) (h.count + 1) j (next_at a c w p is_open turn depth j h o)).1

pub memory_part : {x : Fault} (a c d : Cursor) (w : TypeWord) (p : Parts) (turn depth j : ℕ) → IsReadable (source a) → IsReadBehind a c w p turn depth j → EndsPart c d w p (Err x) → x ≡ Memory
memory_part {x} a c d w p turn depth j cut h ends = (ends (readable_there a c h.same cut) (h.count + 1) j (behind_at a c w p turn depth j h)).1

-- each part takes a token, and there are no more
pub never_open : (a c : Cursor) (w : TypeWord) (p : Parts) (turn depth j : ℕ) → IsReadTo a c w p true turn depth j → length (source c).tokens ≤ turn → ⊥
never_open a c w p turn depth j h all =
    next_no (source c) w (h.count + 1) p.types.items p.lacks_first p.length c.next j End (λ e. cc) (λ e. cc) (λ e. cc) (λ e. cc) (next_at a c w p true turn depth j h refl) (kind_past (source c) c.next (let x = h.turns in omega arith))

pub made_all : (a c e : Cursor) (w : TypeWord) (p : Parts) (is_open : Bool) (turn depth j : ℕ) (r : Result TypeExpr Fault) → IsReadTo a c w p is_open turn depth j → is_open ≡ false → (AreEnough w p.types.items → IfErr r (λ fault. fault ≡ Memory))
    → (IsOk r → e ≡ c) → ComesTo j a e r
made_all a c e w p is_open turn depth j (Ok t) h off fails rest =
    let at = h.to.closed off in
    record { ok = rest refl ∙ h.to.same ∙ ap (λ m. record a { next = m }) at.0; memory = tt }
made_all a c e w p is_open turn depth j (Err x) h off fails rest = record { ok = tt; memory = fails (h.to.closed off).1 }

-- the loop is over before the last part is read
pub over_open : (a b c : Cursor) (w : TypeWord) (p : Parts) (is_open : Bool) (turn depth j : ℕ) → b ≡ record a { next = b.next } → IsReadTo a c w p is_open turn depth j → is_open ≡ true → length (source b).tokens ≤ turn → ⊥
over_open a b c w p is_open turn depth j same h e all =
    let one : source c ≡ source b = ap source h.to.same ∙ sym (ap source same) in
    never_open a c w p turn depth j (subst (λ o. IsReadTo a c w p o turn depth j) e h) (subst (λ (s : Source). length s.tokens ≤ turn) (sym one) all)

-- ---- keys of maps

by_primitive : (s : Source) (p : PrimitiveType) (span : Span) (i k : ℕ) → IsType s (tree.Primitive p span) i k → SaysWord s i (primitive_desc p)
by_primitive s p span i k (primitive x r) = x.0

pub key_word : (s : Source) (t : TypeExpr) (i k : ℕ) → IsType s t i k → (key : IsKey t) → SaysWord s i (primitive_desc key.0)
key_word s t i k h key = by_primitive s key.0 key.1 i k (subst (λ x. IsType s x i k) key.2 h)

-- a word that makes types begins none
pub no_key : {T E : Type 0} (c : Cursor) (w : TypeWord) (r : Result T E) (f : T → TypeExpr) → SaysWord (source c) c.next (word_text w) → IfOk r (λ t. KeepsKey c (f t))
no_key {T} {E} c w (Ok v) f says = λ cut t k h key. absurd (no_word_primitive w key.0 (source c) c.next says (key_word (source c) t c.next k h key))
no_key {T} {E} c w (Err x) f says = tt

abbrev paired : Text → ℕ
paired t = get_or t 0 0 * 256 + get_or t 1 0

abbrev with_pair : ℕ → PrimitiveType
with_pair n =
    if n == 30008 then prim.U8 else (if n == 29496 then prim.S8 else (if n == 30001 then prim.U16 else (if n == 29489 then prim.S16 else (if n == 30003 then prim.U32
    else (if n == 29491 then prim.S32 else (if n == 30006 then prim.U64 else (if n == 29494 then prim.S64 else (if n == 26163 then prim.F32 else (if n == 26166 then prim.F64
    else (if n == 25448 then prim.Char else (if n == 25199 then prim.Bool else (if n == 29556 then prim.String else prim.ErrorContext))))))))))))

primitive_told : (p : PrimitiveType) → with_pair (paired (primitive_desc p)) ≡ p
primitive_told prim.U8 = refl
primitive_told prim.S8 = refl
primitive_told prim.U16 = refl
primitive_told prim.S16 = refl
primitive_told prim.U32 = refl
primitive_told prim.S32 = refl
primitive_told prim.U64 = refl
primitive_told prim.S64 = refl
primitive_told prim.F32 = refl
primitive_told prim.F64 = refl
primitive_told prim.Char = refl
primitive_told prim.Bool = refl
primitive_told prim.String = refl
primitive_told prim.ErrorContext = refl

pub same_primitive : (p q : PrimitiveType) → primitive_desc p ≡ primitive_desc q → p ≡ q
same_primitive p q e = sym (primitive_told p) ∙ ap (λ t. with_pair (paired t)) e ∙ primitive_told q

pub keeps_key : (p q : PrimitiveType) (span : Span) → primitive_desc p ≡ primitive_desc q → is_key q ≡ true → IsKey (tree.Primitive p span)
keeps_key p q span e h = (p, span, refl, ap is_key (same_primitive p q e) ∙ h)
