-- Interfaces that give each name once.
use Rattle.std.proofs.Common.{◌≡◌, ◌∙◌, ℕ, ◌+◌, List, Contains, Option, Some, Result, Ok, Err, IfOk, Vec, Global, refl, sym, ap, subst}
use Rattle.std.specs.Prelude.{slice_get}
use Rattle.std.proofs.lemmas.Option.{same_Some}
use Rattle.wac_model.specs.Text.{Text}
use Rattle.wac_wit_names.specs.declared.features.Features.{Features}
use Rattle.wac_wit_syntax.specs.declared.tree.FuncItem.{FuncItem}
use Rattle.wac_wit_syntax.specs.declared.tree.InterfaceDecl.{InterfaceDecl}
use Rattle.wac_wit_syntax.specs.declared.tree.InterfaceItem.{InterfaceItem}
use Rattle.wac_wit_syntax.specs.declared.tree.InterfaceItem.TheVariants as inside
use Rattle.wac_wit_syntax.specs.declared.tree.Method.{Method}
use Rattle.wac_wit_syntax.specs.declared.tree.Rename.{Rename}
use Rattle.wac_wit_syntax.specs.declared.tree.TopItem.TheVariants as top
use Rattle.wac_wit_syntax.specs.declared.tree.TypeDef.TheVariants as def
use Rattle.wac_wit_syntax.specs.declared.tree.TypeItem.{TypeItem}
use Rattle.wac_wit_syntax.specs.declared.tree.UseItem.{UseItem}
use Rattle.wac_wit_validation_names.proofs.AmbiguityFacts.{slice_get-among}
use Rattle.wac_wit_validation_types.proofs.ItemFacts.{offered_items}
use Rattle.wac_wit_validation_names.specs.Ambiguity.{KeepsNoted}
use Rattle.wac_wit_scopes.specs.Scopes.{HasScope}
use Rattle.wac_wit_validation_types.specs.Denoted.{Setting, funcs_in, interface_setting, types_in}
use Rattle.wac_wit_validation_types.specs.Functions.{method_name}
use Rattle.wac_wit_validation_names.proofs.GivenFacts.{GivesNewName-kept, GivesTypeItem-kept, GivesUseItem-kept}
use Rattle.wac_wit_validation_names.specs.GivenNames.{GivesNewName, HasFeatures}
use Rattle.wac_wit_validation_names.specs.Once.{GivesInnerAt, InsideGivesOnce, ItemsGiveOnce}
use Rattle.wac_wit_validation_types.specs.OneMeaning.{AllGiveOnce, GivesOnce, GivesType, GivesUse}
use Rattle.wac_wit_scopes.specs.WitSources.{HasInterface, IsEnabled, IsScopeOf, ScopeSyntax, WitSources, given_name, ident_text}
use Rattle.wac_wit_scopes.specs.declared.scopes.ScopeItems.{ScopeItems}
use Rattle.wac_wit_validation_names.specs.declared.given.NamePlace.{NamePlace}

pub IfOk-both : {X Y : Type 0} (r : Result X Y) (P Q R : X → Type 0) → ((x : X) → P x → Q x → R x) → IfOk r P → IfOk r Q → IfOk r R
IfOk-both (Ok x) P Q R f p q = f x p q
IfOk-both (Err e) P Q R f p q = tt

pub GivesInnerAt-kept : (of : WitSources) (a b : Text → Option NamePlace) → KeepsNoted a b → (i : ℕ) (t : InterfaceItem) → GivesInnerAt of a i t → GivesInnerAt of b i t
GivesInnerAt-kept of a b keeps i (inside.Use u) h = GivesUseItem-kept a b keeps of (λ n. Some n) (record { layer = 0; item = i; part = 0 }) u h
GivesInnerAt-kept of a b keeps i (inside.Type t) h = GivesTypeItem-kept a b keeps of (λ n. Some n) (record { layer = 0; item = i; part = 0 }) t h
GivesInnerAt-kept of a b keeps i (inside.Func f) h = λ there. GivesNewName-kept a b keeps (λ n. Some n) (ident_text f.name) (record { layer = 0; item = i; part = 0 }) (h there)

-- a name that stays
given_itself : (given : Text → Option NamePlace) (n m : Text) (p : NamePlace) → n ≡ m → GivesNewName given (λ k. Some k) n p → given m ≡ Some p
given_itself given n m p named h = ap given (sym named ∙ same_Some n h.becomes h.is) ∙ h.given_at.at

-- names that are noted are given once
module _ (of : WitSources) (w : ScopeSyntax) (is : List InterfaceItem) (all : InsideGivesOnce of is) where
  abbrev setting : Setting
  setting = interface_setting of w is

  pub type_place : (n : Text) (t : TypeItem) → GivesType setting n t → (i : ℕ) × (slice_get is i ≡ Some (inside.Type t)) × (all.given n ≡ Some (record { layer = 0; item = i; part = 0 }))
  type_place n t h =
      let among = offered_items of w is (inside.Type t) h.among in
      let at = slice_get-among is (inside.Type t) among in
      (among.0, at, given_itself all.given (ident_text t.name) n _ h.named (all.gives among.0 (inside.Type t) at h.there).own)

  pub use_place : (n : Text) (u : UseItem) (r : Rename) → GivesUse setting n u r → (i : ℕ) × (slice_get is i ≡ Some (inside.Use u)) × (j : ℕ) × (slice_get u.names.items j ≡ Some r) × (all.given n ≡ Some (record { layer = 0; item = i; part = j }))
  use_place n u r h =
      let among = offered_items of w is (inside.Use u) h.among in
      let at = slice_get-among is (inside.Use u) among in
      let within = slice_get-among u.names.items r h.within in
      (among.0, at, h.within.0, within, given_itself all.given (given_name r.name r.alias) n _ h.named (all.gives among.0 (inside.Use u) at h.there h.within.0 r within))

  pub func_place : (f : FuncItem) → Contains (funcs_in is) f → IsEnabled of f.gates → (i : ℕ) × (slice_get is i ≡ Some (inside.Func f)) × (all.given (ident_text f.name) ≡ Some (record { layer = 0; item = i; part = 0 }))
  func_place f f_in on =
      let among = offered_items of w is (inside.Func f) f_in in
      let at = slice_get-among is (inside.Func f) among in
      (among.0, at, given_itself all.given (ident_text f.name) (ident_text f.name) _ refl (all.gives among.0 (inside.Func f) at on))

  pub method_place : (t : TypeItem) (ms : Vec Method Global) (m : Method) → Contains (types_in is) t → IsEnabled of t.gates → t.def ≡ def.Resource ms → Contains ms.items m → IsEnabled of m.gates
      → (i : ℕ) × (slice_get is i ≡ Some (inside.Type t)) × (j : ℕ) × (slice_get ms.items j ≡ Some m) × (all.given (method_name m.kind (ident_text t.name) (ident_text m.name)) ≡ Some (record { layer = 0; item = i; part = j + 1 }))
  method_place t ms m t_in t_on is_resource m_in m_on =
      let among = offered_items of w is (inside.Type t) t_in in
      let at = slice_get-among is (inside.Type t) among in
      let within = slice_get-among ms.items m m_in in
      (among.0, at, m_in.0, within, ((all.gives among.0 (inside.Type t) at t_on).funcs ms is_resource (ident_text t.name) refl m_in.0 m within m_on).at)

  one_type : (t x : TypeItem) → inside.Type t ≡ inside.Type x → t ≡ x
  one_type t x e = cc

  one_use : (u v : UseItem) → inside.Use u ≡ inside.Use v → u ≡ v
  one_use u v e = cc

  one_sort : (t : TypeItem) (u : UseItem) → inside.Type t ≡ inside.Use u → ⊥
  one_sort t u e = absurd (cc)

  pub once_inside : GivesOnce setting
  once_inside = record {
    types = λ n t x a b.
        let p = type_place n t a in
        let q = type_place n x b in
        let place = same_Some _ _ (sym p.2 ∙ q.2) in
        one_type t x (same_Some _ _ (sym p.1 ∙ ap (λ (o : NamePlace). slice_get is o.item) place ∙ q.1));
    uses = λ n u v r s a b.
        let p = use_place n u r a in
        let q = use_place n v s b in
        let place = same_Some _ _ (sym p.4 ∙ q.4) in
        let same = one_use u v (same_Some _ _ (sym p.1 ∙ ap (λ (o : NamePlace). slice_get is o.item) place ∙ q.1)) in
        (same, same_Some _ _ (sym p.3 ∙ (λ k. slice_get (same k).names.items (place k).part) ∙ q.3));
    apart = λ n t u r a b.
        let p = type_place n t a in
        let q = use_place n u r b in
        let place = same_Some _ _ (sym p.2 ∙ q.4) in
        one_sort t u (same_Some _ _ (sym p.1 ∙ ap (λ (o : NamePlace). slice_get is o.item) place ∙ q.1));
  }

-- where all scopes are among those whose interfaces give names once, all do
module _ (of : WitSources) (features : Features) (ws : List ScopeItems) (on : HasFeatures features of) (scopes : (w : ScopeSyntax) → IsScopeOf of w → HasScope ws w) (all : (w : ScopeItems) → Contains ws w → ItemsGiveOnce features w.items.now) where
  pub all_inside : (w : ScopeSyntax) (n : Text) (d : InterfaceDecl) → HasInterface of w n d → InsideGivesOnce of d.items.items
  all_inside w n d has =
      let found = scopes w has.scope in
      let item = subst (λ (y : ScopeSyntax). Contains y.items (top.Interface d)) (sym found.is) has.item in
      all found.scope found.among (top.Interface d) item of on d refl has.there

  pub all_once : AllGiveOnce of
  all_once w n d has = once_inside of w d.items.items (all_inside w n d has)
