-- What is listed of interfaces and worlds.
use Rattle.std.proofs.Common.{◌≡◌, ◌∙◌, inl, inr, ℕ, ◌+◌, ◌<◌, ◌≤◌, List, [], ◌∷◌, ◌++◌, Contains, Option, Some, None, Ok, Err, Result, IfOk, OnOk, IfSome, arith, length, get_or, take, refl, sym, ap, subst}
use Rattle.std.specs.Prelude.{All, slice_get}
use Rattle.std.proofs.lemmas.List.Elements.{Contains-append_left, Contains-push, Contains-push_cases}
use Rattle.std.proofs.lemmas.Option.{slice_get_read}
use Rattle.wac_wit_refusals_sites.specs.Judging.{IsKnownBody, body_syntax}
use Rattle.wac_wit_refusals_sites.specs.Sites.{BodySyntax, HasTypeItemIn, HasUseIn, interface_items, world_items, alias_ident}
use Rattle.wac_wit_refusals_sites.specs.TypeSites.{BodyAt, IsTypeAt, IsUseAt}
use Rattle.wac_wit_refusals_sites.specs.declared.bodies.PlacedBody.{PlacedBody}
use Rattle.wac_wit_scopes.proofs.PathFacts.{contains_at}
use Rattle.wac_wit_scopes.proofs.ScopeFacts.{All-end, All-next}
use Rattle.wac_wit_scopes.specs.Scopes.{scope_syntax}
use Rattle.wac_wit_scopes.specs.WitSources.{IsScopeAt, WitSources, given_name, ident_text}
use Rattle.wac_wit_syntax.specs.declared.tree.TypeItem.{TypeItem}
use Rattle.wac_wit_syntax.specs.declared.tree.UseItem.{UseItem}
use Rattle.wac_wit_syntax.specs.declared.tree.Ident.{Ident}

pub alias_given : (n : Ident) (a : Option Ident) → ident_text (alias_ident n a) ≡ given_name n a
alias_given n None = refl
alias_given n (Some a) = refl

pub if_some_all : {A : Type 0} (P : A → Type 0) (o : Option A) → ((x : A) → P x) → IfSome o P
if_some_all P None h = tt
if_some_all P (Some x) h = h x

-- what holds of each element, and of one that is put last
pub kept_push : {A : Type 0} (P : A → Type 0) (xs ys : List A) (x : A) → ys ≡ xs ++ x ∷ [] → ((y : A) → Contains xs y → P y) → P x → (y : A) → Contains ys y → P y
kept_push {A} P xs ys x is all here y among = elim (Contains-push_cases xs x y (subst (λ (l : List A). Contains l y) is among)) [ inl h ↦ all y h | inr e ↦ subst P e here ]

pub popped : {A : Type 0} (P : A → Type 0) (old new : List A) (x : A) → old ≡ new ++ x ∷ [] → ((y : A) → Contains old y → P y) → P x × ((y : A) → Contains new y → P y)
popped {A} P old new x is all = (all x (subst (λ (l : List A). Contains l x) (sym is) (Contains-push new x)), λ y among. all y (subst (λ (l : List A). Contains l y) (sym is) (Contains-append_left new (x ∷ []) y among)))

pub none_among : {A : Type 0} (P : A → Type 0) (ys : List A) → ys ≡ [] → (y : A) → Contains ys y → P y
none_among {A} P ys is y among = let none : Contains [] y = subst (λ (l : List A). Contains l y) is among in absurd (omega (arith, none.1))

pub ok_then : {T E P Q : Type 0} (r : Result T E) → OnOk r P → (P → Q) → OnOk r Q
ok_then (Ok x) p f = f p
ok_then (Err e) p f = p

pub ok_value_then : {T E : Type 0} (P Q : T → Type 0) (r : Result T E) → IfOk r P → ((x : T) → P x → Q x) → IfOk r Q
ok_value_then P Q (Ok x) p f = f x p
ok_value_then P Q (Err e) p f = p

pub if_some_then : {A : Type 0} (P Q : A → Type 0) (o : Option A) → IfSome o P → ((x : A) → P x → Q x) → IfSome o Q
if_some_then P Q (Some x) p f = f x p
if_some_then P Q None p f = p

pub some_fact : {A : Type 0} (P : A → Type 0) (o : Option A) (x : A) → o ≡ Some x → IfSome o P → P x
some_fact {A} P o x is h = subst (λ (v : Option A). IfSome v P) is h

-- an element that is read is among them
pub among_read : {A : Type 0} (xs : List A) (i : ℕ) (x : A) → i < length xs → x ≡ get_or xs i x → Contains xs x
among_read xs i x within at = (i, within, sym at)

pub among_from : {A : Type 0} (xs ys : List A) (i : ℕ) (x : A) → ys ≡ xs → i < length ys → x ≡ get_or ys i x → Contains xs x
among_from {A} xs ys i x same within at = subst (λ (l : List A). Contains l x) same (among_read ys i x within at)

pub at_read : {A : Type 0} (xs : List A) (i : ℕ) (x y : A) → i < length xs → x ≡ get_or xs i x → x ≡ y → slice_get xs i ≡ Some y
at_read xs i x y within at is = slice_get_read xs (length xs) i x refl within at ∙ ap Some is

-- elements of a form that are listed, with their indices
module _ {A B P : Type 0} (wrap : B → A) (index : P → ℕ) (value : P → B) where
  pub record ListsValue (ps : List P) (b : B) : Type 0 where
    pub placed : P
    pub among : Contains ps placed
    pub is : value placed ≡ b

  pub record ListedBelow (items : List A) (i : ℕ) (ps : List P) : Type 0 where
    pub at : (p : P) → Contains ps p → slice_get items (index p) ≡ Some (wrap (value p))
    pub all : All (λ (a : A). (b : B) → a ≡ wrap b → ListsValue ps b) (take i items)

  pub ListedBelow-none : (items : List A) (ps : List P) → ps ≡ [] → ListedBelow items 0 ps
  ListedBelow-none items ps is = record { at = none_among (λ (p : P). slice_get items (index p) ≡ Some (wrap (value p))) ps is; all = λ k d h. absurd (omega (arith, h)) }

  ListsValue-kept : (old new : List P) (p : P) → new ≡ old ++ p ∷ [] → (b : B) → ListsValue old b → ListsValue new b
  ListsValue-kept old new p is b h = record { placed = h.placed; among = subst (λ (l : List P). Contains l h.placed) (sym is) (Contains-append_left old (p ∷ []) h.placed h.among); is = h.is }

  pub ListedBelow-more : (items : List A) (i : ℕ) (a : A) (b : B) (p : P) (old new : List P) → i < length items → a ≡ get_or items i a → a ≡ wrap b → ((c d : B) → wrap c ≡ wrap d → c ≡ d) → index p ≡ i → value p ≡ b → new ≡ old ++ p ∷ [] → ListedBelow items i old → ListedBelow items (i + 1) new
  ListedBelow-more items i a b p old new within at is one placed same pushed below = record {
    at = kept_push (λ (q : P). slice_get items (index q) ≡ Some (wrap (value q))) old new p pushed below.at (ap (slice_get items) placed ∙ at_read items i a (wrap b) within at is ∙ ap (λ (c : B). Some (wrap c)) (sym same));
    all = All-next items i (λ (e : A). (c : B) → e ≡ wrap c → ListsValue old c) (λ (e : A). (c : B) → e ≡ wrap c → ListsValue new c) a within at (λ e all c h. ListsValue-kept old new p pushed c (all c h)) below.all
        (λ c h. record { placed = p; among = subst (λ (l : List P). Contains l p) (sym pushed) (Contains-push old p); is = same ∙ one b c (sym is ∙ h) });
  }

  pub ListedBelow-skip : (items : List A) (i : ℕ) (a : A) (old new : List P) → i < length items → a ≡ get_or items i a → ((b : B) → a ≡ wrap b → ⊥) → new ≡ old → ListedBelow items i old → ListedBelow items (i + 1) new
  ListedBelow-skip items i a old new within at other same below = subst (ListedBelow items (i + 1)) (sym same) (record {
    at = below.at;
    all = All-next items i (λ (e : A). (c : B) → e ≡ wrap c → ListsValue old c) (λ (e : A). (c : B) → e ≡ wrap c → ListsValue old c) a within at (λ e all. all) below.all (λ c h. absurd (other c h));
  })

  pub ListedBelow-end : (items : List A) (i : ℕ) (ps : List P) → length items ≤ i → ListedBelow items i ps → (b : B) → Contains items (wrap b) → ListsValue ps b
  ListedBelow-end items i ps past below b among = All-end items i (λ (e : A). (c : B) → e ≡ wrap c → ListsValue ps c) past below.all (wrap b) among b refl

-- what stands at an index is among the items
pub type_among : (b : BodySyntax) (i : ℕ) (t : TypeItem) → IsTypeAt b i t → HasTypeItemIn b t
type_among (interface_items is) i t at = contains_at is i _ at
type_among (world_items is) i t at = contains_at is i _ at

pub use_among : (b : BodySyntax) (i : ℕ) (u : UseItem) → IsUseAt b i u → HasUseIn b u
use_among (interface_items is) i u at = contains_at is i _ at
use_among (world_items is) i u at = contains_at is i _ at

-- the interface or the world that is looked at
abbrev pub site_of : (of : WitSources) (file : ℕ) (p : PlacedBody) → IsKnownBody of file p → BodyAt of file
site_of of file p known = record { scope = scope_syntax p.scope; at = subst (λ f. IsScopeAt of f (scope_syntax p.scope)) known.in_file known.scope.in_file; body = body_syntax p.body; has = known.has }
