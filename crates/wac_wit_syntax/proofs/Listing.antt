-- Items and members one after another.
use Rattle.std.proofs.Common.{◌≡◌, ◌≢◌, ℕ, List, [], ◌∷◌, ◌++◌, Vec, refl, inl, inr, sym, ap, ◌∙◌, subst}
use Rattle.std.specs.declared.alloc.Global.{Global}
use Rattle.wac_wit_syntax.specs.Cursors.{Reads, ReadsKind}
use Rattle.wac_wit_syntax.specs.Lists.{InOrder, Separated}
use Rattle.wac_wit_syntax.specs.Productions.{◌▸◌, IsKind, Nothing, Production, Source}
use Rattle.wac_wit_syntax.specs.declared.cursor.Cursor.{Cursor}
use Rattle.wac_wit_syntax.specs.declared.token.TokenKind.{TokenKind}
use Rattle.wac_wit_syntax.specs.declared.token.TokenKind.TheVariants as kind
use Rattle.wac_wit_syntax.specs.declared.token.TokenKind.TheVariants.{Comma, OpenBrace}
use Rattle.wac_wit_syntax.proofs.Covering.{reads_as, reads_then}

pub reads_kind : (k : TokenKind) (c d : Cursor) → k ≢ kind.End → ReadsKind k c d → Reads c d (IsKind k)
reads_kind kind.End c d e h = absurd (e refl)
reads_kind kind.Word c d e h = h
reads_kind kind.Escaped c d e h = h
reads_kind kind.Integer c d e h = h
reads_kind kind.Version c d e h = h
reads_kind kind.Underscore c d e h = h
reads_kind kind.Equals c d e h = h
reads_kind kind.Comma c d e h = h
reads_kind kind.Colon c d e h = h
reads_kind kind.Semicolon c d e h = h
reads_kind kind.OpenParen c d e h = h
reads_kind kind.CloseParen c d e h = h
reads_kind kind.OpenBrace c d e h = h
reads_kind kind.CloseBrace c d e h = h
reads_kind kind.OpenAngle c d e h = h
reads_kind kind.CloseAngle c d e h = h
reads_kind kind.Star c d e h = h
reads_kind kind.Arrow c d e h = h
reads_kind kind.Slash c d e h = h
reads_kind kind.Dot c d e h = h
reads_kind kind.At c d e h = h
reads_kind kind.Invalid c d e h = h

pub in_order_more : {X : Type 0} (P : X → Production) (xs : List X) (x : X) (s : Source) (i j : ℕ) → (InOrder P xs ▸ P x) s i j → InOrder P (xs ++ x ∷ []) s i j
in_order_more P [] x s i j h = (j, subst (λ k. P x s k j) h.1 h.2, refl)
in_order_more P (y ∷ ys) x s i j h = (h.1.0, h.1.1, in_order_more P ys x s h.1.0 j (h.0, h.1.2, h.2))

-- members with a comma behind each
abbrev pub Terminated : {X : Type 0} → (X → Production) → List X → Production
Terminated P [] = Nothing
Terminated P (x ∷ xs) = P x ▸ IsKind Comma ▸ Terminated P xs

pub terminated_more : {X : Type 0} (P : X → Production) (xs : List X) (x : X) (s : Source) (i j : ℕ) → (Terminated P xs ▸ P x ▸ IsKind Comma) s i j → Terminated P (xs ++ x ∷ []) s i j
terminated_more P [] x s i j h = (h.2.0, subst (λ k. P x s k h.2.0) h.1 h.2.1, (j, h.2.2, refl))
terminated_more P (y ∷ ys) x s i j h = (h.1.0, h.1.1, (h.1.2.0, h.1.2.1, terminated_more P ys x s h.1.2.0 j (h.0, h.1.2.2, h.2)))

pub separated_all : {X : Type 0} (P : X → Production) (xs : List X) (s : Source) (i j : ℕ) → Terminated P xs s i j → Separated P xs s i j
separated_all P [] s i j h = h
separated_all P (x ∷ []) s i j h = (h.0, h.1, inr (subst (λ k. IsKind Comma s h.0 k) (sym h.2.2) h.2.1))
separated_all P (x ∷ y ∷ ys) s i j h = (h.0, h.1, (h.2.0, h.2.1, separated_all P (y ∷ ys) s h.2.0 j h.2.2))

pub separated_last : {X : Type 0} (P : X → Production) (xs : List X) (x : X) (s : Source) (i j : ℕ) → (Terminated P xs ▸ P x) s i j → Separated P (xs ++ x ∷ []) s i j
separated_last P [] x s i j h = (j, subst (λ k. P x s k j) h.1 h.2, inl refl)
separated_last P (y ∷ []) x s i j h = (h.1.0, h.1.1, (h.1.2.0, h.1.2.1, separated_last P [] x s h.1.2.0 j (h.0, h.1.2.2, h.2)))
separated_last P (y ∷ z ∷ zs) x s i j h = (h.1.0, h.1.1, (h.1.2.0, h.1.2.1, separated_last P (z ∷ zs) x s h.1.2.0 j (h.0, h.1.2.2, h.2)))

-- ---- between two states of a cursor

from : (a b c : Cursor) (P : Production) → b ≡ a → Reads b c P → Reads a c P
from a b c P e h = subst (λ (x : Cursor). Reads x c P) e h

-- one item more
pub block_more : {X : Type 0} (P : X → Production) (a b c d e : Cursor) (before after now : Vec X Global) (x : X) → Reads a b (IsKind OpenBrace ▸ InOrder P before.items) → c ≡ b → Reads c d (P x)
    → after.items ≡ before.items ++ x ∷ [] → now ≡ after → e ≡ d → Reads a e (IsKind OpenBrace ▸ InOrder P now.items)
block_more {X} P a b c d e before after now x h same g items is at =
    let all : Reads a d (IsKind OpenBrace ▸ InOrder P (before.items ++ x ∷ [])) = reads_as (reads_then h (from b c d (P x) same g)) (λ s i j r. (r.1.0, r.1.1, in_order_more P before.items x s r.1.0 j (r.0, r.1.2, r.2))) in
    let ys : before.items ++ x ∷ [] ≡ now.items = sym (ap (λ (v : Vec X Global). v.items) is ∙ items) in
    subst (λ (f : Cursor). Reads a f (IsKind OpenBrace ▸ InOrder P now.items)) (sym at) (subst (λ zs. Reads a d (IsKind OpenBrace ▸ InOrder P zs)) ys all)

-- the end of a list, behind a comma or with no member
pub list_closed : {X : Type 0} (P : X → Production) (a b c : Cursor) (left right : TokenKind) (xs : List X) → Reads a b (IsKind left ▸ Terminated P xs) → Reads b c (IsKind right) → Reads a c (IsKind left ▸ Separated P xs ▸ IsKind right)
list_closed P a b c left right xs h g = reads_as (reads_then h g) (λ s i j r. (r.1.0, r.1.1, (r.0, separated_all P xs s r.1.0 r.0 r.1.2, r.2)))

-- one behind its last member
pub list_ended : {X : Type 0} (P : X → Production) (a b c d e f : Cursor) (left right : TokenKind) (xs ys : List X) (x : X) → Reads a b (IsKind left ▸ Terminated P xs) → c ≡ b → Reads c d (P x) → e ≡ d → Reads e f (IsKind right)
    → ys ≡ xs ++ x ∷ [] → Reads a f (IsKind left ▸ Separated P ys ▸ IsKind right)
list_ended P a b c d e f left right xs ys x h same g unmoved k items =
    let all : Reads a f (IsKind left ▸ Separated P (xs ++ x ∷ []) ▸ IsKind right) = reads_as (reads_then h (reads_then (from b c d (P x) same g) (from d e f (IsKind right) unmoved k)))
    (λ s i j r. (r.1.0, r.1.1, (r.2.0, separated_last P xs x s r.1.0 r.2.0 (r.0, r.1.2, r.2.1), r.2.2))) in
    subst (λ zs. Reads a f (IsKind left ▸ Separated P zs ▸ IsKind right)) (sym items) all

-- one member more, and its comma
pub list_more : {X : Type 0} (P : X → Production) (a b c d e : Cursor) (left : TokenKind) (xs ys : List X) (x : X) → Reads a b (IsKind left ▸ Terminated P xs) → c ≡ b → Reads c d (P x) → Reads d e (IsKind Comma)
    → ys ≡ xs ++ x ∷ [] → Reads a e (IsKind left ▸ Terminated P ys)
list_more P a b c d e left xs ys x h same g k items =
    let all : Reads a e (IsKind left ▸ Terminated P (xs ++ x ∷ [])) = reads_as (reads_then h (reads_then (from b c d (P x) same g) k)) (λ s i j r. (r.1.0, r.1.1, terminated_more P xs x s r.1.0 j (r.0, r.1.2, r.2))) in
    subst (λ zs. Reads a e (IsKind left ▸ Terminated P zs)) (sym items) all
