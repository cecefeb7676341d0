-- Types that are followed from name to name.
use Rattle.std.proofs.Common.{◌≡◌, ◌∙◌, ℕ, ◌++◌, ◌∷◌, [], Contains, List, Option, Some, ap, refl, subst, sym}
use Rattle.std.specs.Prelude.{Box}
use Rattle.std.specs.declared.alloc.Global.{Global}
use Rattle.wac_wit_refusals_types.specs.BorrowSteps.{AreSitesPut, IsAliased, IsContent, IsNameOf, IsSitePut, IsStreamed, SiteHas, as_alias, put_before, put_now}
use Rattle.wac_wit_refusals_types.specs.Borrows.{HasBorrow, IsSent, by_future, by_stream, in_definition, in_part, place_of_site}
use Rattle.wac_wit_refusals_types.specs.CharStreams.{IsCharStream, IsCharType, names_char}
use Rattle.wac_wit_refusals_types.specs.Definitions.{BodyPlace, NamesDefinition}
use Rattle.wac_wit_refusals_types.specs.Following.{body_place}
use Rattle.wac_wit_refusals_sites.specs.TypeSites.{BodyAt, HasTypeExpr, IsWritten, TypedSyntax, a_case, a_definition, a_field, a_parameter, a_part, a_result, an_alias}
use Rattle.wac_wit_refusals_sites.specs.declared.bodies.PlacedBody.{PlacedBody}
use Rattle.wac_wit_refusals_types.specs.declared.definitions.DefinitionSite.{DefinitionSite}
use Rattle.wac_wit_refusals_types.specs.declared.type_sites.TypeSite.{TypeSite}
use Rattle.wac_wit_refusals_types.specs.declared.wanted.Wanted.TheVariants.{Borrow, Char}
use Rattle.wac_wit_refusals_sites.proofs.Walks.{each_push}
use Rattle.wac_wit_scopes.specs.WitSources.{WitSources, ident_text}
use Rattle.wac_wit_syntax.specs.declared.positions.Span.{Span}
use Rattle.wac_wit_syntax.specs.declared.tree.Ident.{Ident}
use Rattle.wac_wit_syntax.specs.declared.tree.TypeExpr.{TypeExpr}
use Rattle.wac_wit_syntax.specs.declared.tree.TypeExpr.TheVariants as expr

-- one that is put behind others, or stands before
pub put_then : (P : TypeSite → Type 0) (old : List TypeSite) (p : PlacedBody) (E : TypeExpr → Type 0) (t : TypeSite) → IsSitePut old p E t → (Contains old t → P t) → (t.placed ≡ p → E t.ty.now → P t) → P t
put_then P old p E t (put_before among) before now = before among
put_then P old p E t (put_now at is) before now = now at is

pub put_weaker : (old new : List TypeSite) (p : PlacedBody) (E F : TypeExpr → Type 0) → ((e : TypeExpr) → E e → F e) → AreSitesPut old p E new → AreSitesPut old p F new
put_weaker old new p E F f put t among = put_then (IsSitePut old p F) old p E t (put t among) put_before (λ at is. put_now at (f t.ty.now is))

pub put_more : (old mid new : List TypeSite) (p : PlacedBody) (E F : TypeExpr → Type 0) → AreSitesPut old p F mid → AreSitesPut mid p E new → ((e : TypeExpr) → E e → F e) → AreSitesPut old p F new
put_more old mid new p E F first second f t among = put_then (IsSitePut old p F) mid p E t (second t among) (first t) (λ at is. put_now at (f t.ty.now is))

pub put_one : (old new : List TypeSite) (x : TypeSite) → new ≡ old ++ x ∷ [] → AreSitesPut old x.placed (λ (e : TypeExpr). x.ty.now ≡ e) new
put_one old new x same = each_push (IsSitePut old x.placed (λ (e : TypeExpr). x.ty.now ≡ e)) old new x same (λ t among. put_before among) (put_now refl refl)

-- what holds of all that are there, and of those that are put behind
pub each_put : (P : TypeSite → Type 0) (old new : List TypeSite) (p : PlacedBody) (E : TypeExpr → Type 0) → AreSitesPut old p E new → ((t : TypeSite) → Contains old t → P t) → ((t : TypeSite) → t.placed ≡ p → E t.ty.now → P t) → (t : TypeSite) → Contains new t → P t
each_put P old new p E put before now t among = put_then P old p E t (put t among) (before t) (now t)

same_alias : (e f : TypeExpr) → as_alias e ≡ as_alias f → e ≡ f
same_alias e f same = cc

written_borrow : (of : WitSources) (p : BodyPlace) (e : TypeExpr) (s : TypedSyntax) (x : TypeExpr) → IsWritten s x → s ≡ as_alias e → HasBorrow of p x → HasBorrow of p e
written_borrow of p e s x (an_alias f) same h = subst (HasBorrow of p) (same_alias f e same) h
written_borrow of p e s x (a_field fs f among) same h = absurd (cc)
written_borrow of p e s x (a_case cs k f among is) same h = absurd (cc)
written_borrow of p e s x (a_parameter t f among) same h = absurd (cc)
written_borrow of p e s x (a_result t f is) same h = absurd (cc)
written_borrow of p e s x (a_part t f q w part) same h = written_borrow of p e t f w same (in_part p f q part h)

-- a type has what a part of it has
pub part_borrow : (of : WitSources) (q p : PlacedBody) (e x : TypeExpr) → q ≡ p → IsWritten (as_alias e) x → HasBorrow of (body_place q) x → HasBorrow of (body_place p) e
part_borrow of q p e x same w h = written_borrow of (body_place p) e (as_alias e) x w refl (subst (λ (b : PlacedBody). HasBorrow of (body_place b) x) same h)

-- what a definition has, its name has
pub name_borrow : (of : WitSources) (from : TypeSite) (d : DefinitionSite) (t : TypeSite) → IsNameOf of from d → t.placed ≡ d.placed → IsWritten (a_definition d.ty.now.def) t.ty.now → SiteHas of Borrow t → SiteHas of Borrow from
name_borrow of from d t n same w h = subst (HasBorrow of (body_place from.placed)) (sym n.is)
    (in_definition (body_place from.placed) (body_place d.placed) n.name d.ty.now.def t.ty.now n.defines w (subst (λ (p : PlacedBody). HasBorrow of (body_place p) t.ty.now) same h))

pub name_char : (of : WitSources) (from : TypeSite) (d : DefinitionSite) (t : TypeSite) → IsNameOf of from d → t.placed ≡ d.placed → IsAliased d t.ty.now → SiteHas of Char t → SiteHas of Char from
name_char of from d t n same is h = subst (IsCharType of (body_place from.placed)) (sym n.is)
    (names_char (body_place from.placed) (body_place d.placed) n.name t.ty.now (subst (NamesDefinition of (body_place from.placed) (ident_text n.name) (body_place d.placed)) is n.defines)
    (subst (λ (p : PlacedBody). IsCharType of (body_place p) t.ty.now) same h))

pub same_char : (of : WitSources) (t : TypeSite) (p : PlacedBody) (e : TypeExpr) → t.placed ≡ p → e ≡ t.ty.now → SiteHas of Char t → IsCharType of (body_place p) e
same_char of t p e at is h = subst (IsCharType of (body_place p)) (sym is) (subst (λ (q : PlacedBody). IsCharType of (body_place q) t.ty.now) at h)

-- what a stream or a future has
module _ (e t : TypeExpr) (o : Option (Box TypeExpr Global)) where
  pub streamed_content : e ≡ expr.Stream o → IsContent o t → IsStreamed e t
  streamed_content is w = (w.0, is ∙ ap (λ (x : Option (Box TypeExpr Global)). expr.Stream x) w.1, w.2)

  pub sent_stream : e ≡ expr.Stream o → IsContent o t → IsSent e t
  sent_stream is w = subst (λ (x : TypeExpr). IsSent x t) (sym (is ∙ ap (λ (x : Option (Box TypeExpr Global)). expr.Stream x) w.1)) (subst (IsSent (expr.Stream (Some w.0))) w.2 (by_stream w.0))

  pub sent_future : e ≡ expr.Future o → IsContent o t → IsSent e t
  sent_future is w = subst (λ (x : TypeExpr). IsSent x t) (sym (is ∙ ap (λ (x : Option (Box TypeExpr Global)). expr.Future x) w.1)) (subst (IsSent (expr.Future (Some w.0))) w.2 (by_future w.0))

-- `stream<char>` is written in what has the name
pub char_stream : (of : WitSources) (file : ℕ) (span : Span) (site : BodyAt of file) (id : Ident) (e t : TypeExpr) → HasTypeExpr of site.body id e → id.span ≡ span → IsStreamed e t → IsCharType of (place_of_site of file site) t → IsCharStream of file span
char_stream of file span site id e t has at is char = record { site = site; inside = id; box = is.0; has = subst (HasTypeExpr of site.body id) is.1 has; is_at = at; char = subst (IsCharType of (place_of_site of file site)) (sym is.2) char }
