-- Scopes that are found, names that are given once, and paths that lead to one interface or world at most.
use Rattle.std.proofs.Common.{◌≡◌, ◌∙◌, inl, inr, ℕ, ◌+◌, ◌<◌, ◌≤◌, Bool, true, false, arith, cond, List, Contains, Option, Some, None, length, get_or, is_some, not, refl, sym, ap, subst}
use Rattle.std.specs.Prelude.{IfOk, IsTrue, Result, slice_get}
use Rattle.std.specs.Borrow.{Bor}
use Rattle.std.specs.Option.{option_copied}
use Rattle.std.specs.Str.{bytes_eq}
use borrow.Author.Count.{below_more}
use Rattle.std.proofs.lemmas.Option.{same_Some, slice_get_within, slice_get_read, slice_get-get_or}
use Rattle.std.proofs.lemmas.Result.{IfOk-weaker}
use Rattle.std.proofs.lemmas.Slice.Eq.{bytes_eq-Decides}
use Rattle.wac_model.specs.Text.{Text}
use Rattle.wac_wit_syntax.specs.declared.tree.PackageName.{PackageName}
use Rattle.wac_wit_syntax.specs.declared.tree.Path.{Path}
use Rattle.wac_wit_syntax.specs.declared.tree.TopItem.{TopItem}
use Rattle.wac_wit_syntax.specs.declared.tree.TopItem.TheVariants as top
use Rattle.wac_wit_syntax.specs.declared.tree.TopUse.{TopUse}
use Rattle.wac_wit_scopes.proofs.PathFacts.{no_value}
use Rattle.wac_wit_validation_names.specs.Ambiguity.{GiveNamesOnce, HasFreeUses, IsFreeUse, KeepsNoted, NotesItems, item_identifier, item_use_name, use_name}
use Rattle.wac_wit_scopes.specs.Scopes.{HasScope, scope_syntax}
use Rattle.wac_wit_validation_types.specs.Placed.{HaveOwnIdentifiers, IsUnambiguous}
use Rattle.wac_wit_scopes.specs.WitSources.{HaveOneName, IsNamedPackage, IsOnlyVersion, IsPackageOf, IsScopeOf, PackageId, PathLeadsTo, ScopeSyntax, WitSources, by_use, directly, exactly}
use Rattle.wac_wit_scopes.specs.WitSources.{ident_text, interface_identifier, package_id, alone}
use Rattle.wac_wit_scopes.specs.declared.scopes.ScopeItems.{ScopeItems}
use Rattle.wac_wit_validation_names.specs.declared.places.ItemPlace.{ItemPlace}

-- an item that was noted where nothing was noted before
module _ {A : Type 0} (before after : Text → Option A) (k : Text) (p : A) (updates : (q : Text) → after q ≡ cond (bytes_eq k q) (Some p) (before q)) where
  at_key : (q : Text) (b : Bool) → bytes_eq k q ≡ b → after q ≡ cond b (Some p) (before q)
  at_key q b is = updates q ∙ ap (λ c. cond c (Some p) (before q)) is

  pub noted_at : after k ≡ Some p
  noted_at = at_key k true ((bytes_eq-Decides k k).1 refl)

  pub KeepsNoted-new : before k ≡ None → KeepsNoted before after
  KeepsNoted-new none q s h = by (bytes_eq k q) refl
    where
      by : (b : Bool) → bytes_eq k q ≡ b → after q ≡ Some s
      by true e = let same : k ≡ q = (bytes_eq-Decides k q).0 e in let no = sym none ∙ ap before same ∙ h in absurd (cc)
      by false e = at_key q false e ∙ h

-- nothing is there
pub none_told : {A : Type 0} (o : Option A) (b : Bool) → is_some o ≡ not b → b ≡ true → o ≡ None
none_told o b none is = no_value o (none ∙ ap not is)

pub none_copied : {A : Type 0} (o : Option (Bor A)) (b : Bool) → is_some o ≡ not b → b ≡ true → option_copied o ≡ None
none_copied o b none is = ap option_copied (none_told o b none is)

-- what is noted under an item's key
pub noted_under : {E : Type 0} (r : Result Bool E) (noted : Text → Option ItemPlace) (p : ItemPlace) (o : Option Text) (key : Text) → o ≡ Some key → IfOk r (λ is. IsTrue is → noted key ≡ Some p) → IfOk r (λ is. IsTrue is → (k : Text) → o ≡ Some k → noted k ≡ Some p)
noted_under r noted p o key is = IfOk-weaker r _ _ (λ b h yes k at. subst (λ (q : Text). noted q ≡ Some p) (same_Some key k (sym is ∙ at)) (h yes))

pub KeepsNoted-none : {A : Type 0} (a : Text → Option A) → KeepsNoted a a
KeepsNoted-none a k p h = h

pub KeepsNoted-then : {A : Type 0} (a b c : Text → Option A) → KeepsNoted a b → KeepsNoted b c → KeepsNoted a c
KeepsNoted-then a b c f g k p h = g k p (f k p h)

-- the items before an index are noted
module _ (key : TopItem → Option Text) (scope : ℕ) (items : List TopItem) where
  abbrev pub NotesBelow : (Text → Option ItemPlace) → ℕ → Type 0
  NotesBelow noted limit = (i : ℕ) → i < limit → (t : TopItem) (k : Text) → slice_get items i ≡ Some t → key t ≡ Some k → noted k ≡ Some (record { scope = scope; item = i })

  pub NotesBelow-none : (noted : Text → Option ItemPlace) → NotesBelow noted 0
  NotesBelow-none noted i h = absurd (omega (arith, h))

  pub NotesBelow-more : (before after : Text → Option ItemPlace) (i : ℕ) (t : TopItem) → i < length items → t ≡ get_or items i t → KeepsNoted before after → ((k : Text) → key t ≡ Some k → after k ≡ Some (record { scope = scope; item = i }))
      → NotesBelow before i → NotesBelow after (i + 1)
  NotesBelow-more before after i t below at grows here all j h = below_more (λ (m : ℕ). (s : TopItem) (k : Text) → slice_get items m ≡ Some s → key s ≡ Some k → after k ≡ Some (record { scope = scope; item = m })) i
      (λ m g s k got is. grows k _ (all m g s k got is))
      (λ s k got is. here k (ap key (same_Some _ _ (sym (slice_get_read items _ i t refl below at) ∙ got)) ∙ is)) j h

  pub NotesBelow-end : (noted : Text → Option ItemPlace) (limit : ℕ) → length items ≤ limit → NotesBelow noted limit → NotesItems noted key scope items
  NotesBelow-end noted limit past all i t k at is = all i (omega (arith, slice_get_within items i t at, past)) t k at is

-- what holds of each element that stands before an index
module _ {A : Type 0} (xs : List A) where
  abbrev pub EachBelow : (ℕ → A → Type 0) → ℕ → Type 0
  EachBelow P limit = (i : ℕ) → i < limit → (x : A) → slice_get xs i ≡ Some x → P i x

  pub EachBelow-none : (P : ℕ → A → Type 0) → EachBelow P 0
  EachBelow-none P i h = absurd (omega (arith, h))

  pub EachBelow-more : (P Q : ℕ → A → Type 0) (i : ℕ) (x : A) → i < length xs → x ≡ get_or xs i x → ((j : ℕ) (y : A) → P j y → Q j y) → Q i x → EachBelow P i → EachBelow Q (i + 1)
  EachBelow-more P Q i x below at keeps here all j h = below_more (λ (m : ℕ). (y : A) → slice_get xs m ≡ Some y → Q m y) i (λ m g y got. keeps m y (all m g y got)) (λ y got. subst (Q i) (same_Some _ _ (sym (slice_get_read xs _ i x refl below at) ∙ got)) here) j h

  pub EachBelow-end : (P : ℕ → A → Type 0) (limit : ℕ) → length xs ≤ limit → EachBelow P limit → (i : ℕ) (x : A) → slice_get xs i ≡ Some x → P i x
  EachBelow-end P limit past all i x at = all i (omega (arith, slice_get_within xs i x at, past)) x at

-- the interfaces and the worlds of a scope are noted
abbrev pub NotesScope : (Text → Option ItemPlace) → ℕ → ScopeItems → Type 0
NotesScope noted i w = NotesItems noted (item_identifier (package_id w.package.now)) i w.items.now

pub NotesScope-grown : (a b : Text → Option ItemPlace) → KeepsNoted a b → (i : ℕ) (w : ScopeItems) → NotesScope a i w → NotesScope b i w
NotesScope-grown a b grows i w notes j t k at is = grows k _ (notes j t k at is)

-- the uses of a scope are free
abbrev pub FreesScope : (Text → Option ItemPlace) → ℕ → ScopeItems → Type 0
FreesScope noted i w = HasFreeUses noted w

-- a `use` is free, if the item is one
abbrev pub IsFreeItem : (Text → Option ItemPlace) → PackageId → TopItem → Type 0
IsFreeItem noted p t = (u : TopUse) → t ≡ top.Use u → IsFreeUse noted p u

pub slice_get-among : {A : Type 0} (xs : List A) (x : A) (among : Contains xs x) → slice_get xs among.0 ≡ Some x
slice_get-among xs x among = slice_get-get_or xs among.0 x among.1 ∙ ap Some among.2

-- what is no `use` gives no name
pub no_use_name : {A : Type 0} (t : TopItem) (k : Text) → ((u : TopUse) → t ≡ top.Use u → ⊥) → item_use_name t ≡ Some k → A
no_use_name (top.Use u) k isnt at = absurd (isnt u refl)
no_use_name (top.Interface d) k isnt at = absurd (cc)
no_use_name (top.World d) k isnt at = absurd (cc)

-- names of uses that are noted are given once
pub uses_once : (noted : Text → Option ItemPlace) (scope : ℕ) (items : List TopItem) → NotesItems noted item_use_name scope items
    → (u x : TopUse) → Contains items (top.Use u) → Contains items (top.Use x) → use_name u ≡ use_name x → u ≡ x
uses_once noted scope items notes u x u_in x_in same =
    let a = notes u_in.0 (top.Use u) (use_name u) (slice_get-among items (top.Use u) u_in) refl in
    let b = notes x_in.0 (top.Use x) (use_name u) (slice_get-among items (top.Use x) x_in) (ap Some (sym same)) in
    let place = same_Some _ _ (sym a ∙ b) in
    let at = sym (slice_get-among items (top.Use u) u_in) ∙ ap (λ (p : ItemPlace). slice_get items p.item) place ∙ slice_get-among items (top.Use x) x_in in cc

-- ---- paths lead to one thing

module _ (ws : List ScopeItems) (d : GiveNamesOnce ws) where
  one_place : (w x : ScopeItems) (t s : TopItem) (k : Text) → Contains ws w → Contains ws x → Contains w.items.now t → Contains x.items.now s
      → item_identifier (package_id w.package.now) t ≡ Some k → item_identifier (package_id x.package.now) s ≡ Some k → (w ≡ x) × (t ≡ s)
  one_place w x t s k w_in x_in t_in s_in t_is s_is = (scopes, items)
    where
      place : ◌≡◌ {A = ItemPlace} (record { scope = w_in.0; item = t_in.0 }) (record { scope = x_in.0; item = s_in.0 })
      place = same_Some _ _ (sym (d.notes w_in.0 w (slice_get-among ws w w_in) t_in.0 t k (slice_get-among w.items.now t t_in) t_is) ∙ d.notes x_in.0 x (slice_get-among ws x x_in) s_in.0 s k (slice_get-among x.items.now s s_in) s_is)

      scopes : w ≡ x
      scopes = same_Some _ _ (sym (slice_get-among ws w w_in) ∙ ap (λ (p : ItemPlace). slice_get ws p.scope) place ∙ slice_get-among ws x x_in)

      items : t ≡ s
      items = same_Some _ _ (sym (slice_get-among w.items.now t t_in) ∙ ap (λ (p : ItemPlace × ScopeItems). slice_get p.1.items.now p.0.item) both ∙ slice_get-among x.items.now s s_in)
        where
          both : ◌≡◌ {A = ItemPlace × ScopeItems} (record { scope = w_in.0; item = t_in.0 }, w) (record { scope = x_in.0; item = s_in.0 }, x)
          both = λ i. (place i, scopes i)

  -- an interface or a world by its identifier
  one_item : (v x : ScopeSyntax) (t s : TopItem) (k : Text) → HasScope ws v → HasScope ws x → Contains v.items t → Contains x.items s → item_identifier v.package t ≡ Some k → item_identifier x.package s ≡ Some k → (v ≡ x) × (t ≡ s)
  one_item v x t s k v_in x_in t_in s_in t_is s_is =
      let at = sym v_in.is in
      let bt = sym x_in.is in
      let both = one_place v_in.scope x_in.scope t s k v_in.among x_in.among (subst (λ (y : ScopeSyntax). Contains y.items t) at t_in) (subst (λ (y : ScopeSyntax). Contains y.items s) bt s_in)
      (subst (λ (y : ScopeSyntax). item_identifier y.package t ≡ Some k) at t_is) (subst (λ (y : ScopeSyntax). item_identifier y.package s ≡ Some k) bt s_is) in
      (at ∙ ap scope_syntax both.0 ∙ x_in.is, both.1)

  noted_item : (v : ScopeSyntax) (t : TopItem) (k : Text) → HasScope ws v → Contains v.items t → item_identifier v.package t ≡ Some k → (p : ItemPlace) × (d.noted k ≡ Some p)
  noted_item v t k v_in t_in t_is =
      let at = sym v_in.is in
      let among = subst (λ (y : ScopeSyntax). Contains y.items t) at t_in in
      (_, d.notes v_in.among.0 v_in.scope (slice_get-among ws v_in.scope v_in.among) among.0 t k (slice_get-among v_in.scope.items.now t among) (subst (λ (y : ScopeSyntax). item_identifier y.package t ≡ Some k) at t_is))

  free_uses : (w : ScopeSyntax) → HasScope ws w → ((u x : TopUse) → Contains w.items (top.Use u) → Contains w.items (top.Use x) → use_name u ≡ use_name x → u ≡ x) × ((u : TopUse) → Contains w.items (top.Use u) → IsFreeUse d.noted w.package u)
  free_uses w w_in = let h = d.uses w_in.among.0 w_in.scope (slice_get-among ws w_in.scope w_in.among) in
      subst (λ (y : ScopeSyntax). ((u x : TopUse) → Contains y.items (top.Use u) → Contains y.items (top.Use x) → use_name u ≡ use_name x → u ≡ x) × ((u : TopUse) → Contains y.items (top.Use u) → IsFreeUse d.noted y.package u)) w_in.is (h.once, h.free)

-- a package is there
abbrev IsThere : WitSources → PackageId → Type 0
IsThere of p = (v : ScopeSyntax) × IsScopeOf of v × (v.package ≡ p)

only_named : (of : WitSources) (n : PackageName) (p q : PackageId) → HaveOneName p (package_id n) → HaveOneName q (package_id n) → IsOnlyVersion of q → IsThere of p → p ≡ q
only_named of n p q one other only there = sym there.2 ∙ only there.0 there.1 (record { namespace = ap (λ (r : PackageId). r.namespace) there.2 ∙ one.namespace ∙ sym other.namespace; name = ap (λ (r : PackageId). r.name) there.2 ∙ one.name ∙ sym other.name })

-- a name names one package
one_named : (of : WitSources) (n : PackageName) (p q : PackageId) → IsNamedPackage of n p → IsNamedPackage of n q → IsThere of p → IsThere of q → p ≡ q
one_named of n _ _ exactly exactly there also = refl
one_named of n _ q exactly (alone none same only) there also = only_named of n (package_id n) q (record { namespace = refl; name = refl }) same only there
one_named of n p _ (alone none same only) exactly there also = sym (only_named of n (package_id n) p (record { namespace = refl; name = refl }) same only also)
one_named of n p q (alone none same only) (alone _ other last) there also = only_named of n p q same other last there

one_package : (of : WitSources) (w : ScopeSyntax) (o : Option PackageName) (p q : PackageId) → IsPackageOf of w o p → IsPackageOf of w o q → IsThere of p → IsThere of q → p ≡ q
one_package of w None p q a b there also = a ∙ sym b
one_package of w (Some n) p q a b there also = one_named of n p q a b there also

-- something of this name is in the scope
record HasNamed (ws : List ScopeItems) (v : ScopeSyntax) (n : Text) : Type 0 where
  scope : HasScope ws v
  item : TopItem
  among : Contains v.items item
  is : item_identifier v.package item ≡ Some (interface_identifier v.package n)

module _ (of : WitSources) (ws : List ScopeItems) (d : GiveNamesOnce ws) (w : ScopeSyntax) (w_in : HasScope ws w) (path : Path) where
  -- a name of the scope's package, against what a `use` gives
  own_or_used : (u : TopUse) (v x : ScopeSyntax) → path.package ≡ None → Contains w.items (top.Use u) → use_name u ≡ ident_text path.name → v.package ≡ w.package → HasNamed ws v (ident_text path.name)
      → IsPackageOf of w u.path.package x.package → (v.package ≡ x.package) × (ident_text path.name ≡ ident_text u.path.name)
  own_or_used u v x none u_in given v_is has x_is = by ((free_uses ws d w w_in).1 u u_in)
    where
      by : IsFreeUse d.noted w.package u → (v.package ≡ x.package) × (ident_text path.name ≡ ident_text u.path.name)
      by (inl keeps) = (v_is ∙ sym (subst (λ (o : Option PackageName). IsPackageOf of w o x.package) keeps.own x_is), sym given ∙ keeps.same)
      by (inr free) =
          let at = noted_item ws d v has.item (interface_identifier v.package (ident_text path.name)) has.scope has.among has.is in
          let no = sym free ∙ ap d.noted (λ i. interface_identifier (sym v_is i) (given i)) ∙ at.1 in absurd (cc)

  one_led : (v x : ScopeSyntax) (n m : Text) → PathLeadsTo of w path v n → PathLeadsTo of w path x m → IsScopeOf of v → IsScopeOf of x → HasNamed ws v n → HasNamed ws x m → (v.package ≡ x.package) × (n ≡ m)
  one_led v x _ _ (directly a) (directly b) v_is x_is v_has x_has = (one_package of w path.package v.package x.package a b (v, v_is, refl) (x, x_is, refl), refl)
  one_led v x _ _ (directly a) (by_use u none u_in given b) v_is x_is v_has x_has = own_or_used u v x none u_in given (subst (λ (o : Option PackageName). IsPackageOf of w o v.package) none a) v_has b
  one_led v x _ _ (by_use u none u_in given a) (directly b) v_is x_is v_has x_has = let both = own_or_used u x v none u_in given (subst (λ (o : Option PackageName). IsPackageOf of w o x.package) none b) x_has a in (sym both.0, sym both.1)
  one_led v x _ _ (by_use u none u_in given a) (by_use t _ t_in also b) v_is x_is v_has x_has =
      let same : u ≡ t = (free_uses ws d w w_in).0 u t u_in t_in (given ∙ sym also) in
      (one_package of w t.path.package v.package x.package (subst (λ (y : TopUse). IsPackageOf of w y.path.package v.package) same a) b (v, v_is, refl) (x, x_is, refl), ap (λ (y : TopUse). ident_text y.path.name) same)

  one_leads : (v x : ScopeSyntax) (t s : TopItem) (n m : Text) → PathLeadsTo of w path v n → PathLeadsTo of w path x m → IsScopeOf of v → IsScopeOf of x → HasScope ws v → HasScope ws x → Contains v.items t → Contains x.items s
      → item_identifier v.package t ≡ Some (interface_identifier v.package n) → item_identifier x.package s ≡ Some (interface_identifier x.package m) → (v ≡ x) × (t ≡ s)
  one_leads v x t s n m to_v to_x v_is x_is v_in x_in t_in s_in t_has s_has =
      let both = one_led v x n m to_v to_x v_is x_is (record { scope = v_in; item = t; among = t_in; is = t_has }) (record { scope = x_in; item = s; among = s_in; is = s_has }) in
      one_item ws d v x t s (interface_identifier v.package n) v_in x_in t_in s_in t_has (s_has ∙ ap Some (λ i. interface_identifier (sym both.0 i) (sym both.1 i)))

-- where all scopes are among those whose names are given once, no path is ambiguous
pub unambiguous : (of : WitSources) (ws : List ScopeItems) → ((w : ScopeSyntax) → IsScopeOf of w → HasScope ws w) → GiveNamesOnce ws → IsUnambiguous of
unambiguous of ws all d = record {
  interfaces = λ w p i j w_is a b.
      let both = one_leads of ws d w (all w w_is) p i.scope j.scope (top.Interface i.decl) (top.Interface j.decl) a.name b.name a.leads b.leads a.has.scope b.has.scope (all i.scope a.has.scope) (all j.scope b.has.scope) a.has.item b.has.item
      (ap (λ (n : Text). Some (interface_identifier i.scope.package n)) a.has.named) (ap (λ (n : Text). Some (interface_identifier j.scope.package n)) b.has.named) in
      let decls : i.decl ≡ j.decl = let h = both.1 in cc in
      λ k. record { scope = both.0 k; decl = decls k };
  worlds = λ w p i j w_is a b.
      let both = one_leads of ws d w (all w w_is) p i.scope j.scope (top.World i.decl) (top.World j.decl) a.name b.name a.leads b.leads a.has.scope b.has.scope (all i.scope a.has.scope) (all j.scope b.has.scope) a.has.item b.has.item
      (ap (λ (n : Text). Some (interface_identifier i.scope.package n)) a.has.named) (ap (λ (n : Text). Some (interface_identifier j.scope.package n)) b.has.named) in
      let decls : i.decl ≡ j.decl = let h = both.1 in cc in
      λ k. record { scope = both.0 k; decl = decls k };
}

-- so no two interfaces have one identifier
pub own_identifiers : (of : WitSources) (ws : List ScopeItems) → ((w : ScopeSyntax) → IsScopeOf of w → HasScope ws w) → GiveNamesOnce ws → HaveOwnIdentifiers of
own_identifiers of ws all d i j n m a b same =
    let both = one_item ws d i.scope j.scope (top.Interface i.decl) (top.Interface j.decl) (interface_identifier i.scope.package (ident_text i.decl.name)) (all i.scope a.scope) (all j.scope b.scope) a.item b.item refl (ap Some (sym same)) in
    let decls : i.decl ≡ j.decl = let h = both.1 in cc in
    λ k. record { scope = both.0 k; decl = decls k }
