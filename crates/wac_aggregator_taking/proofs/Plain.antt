-- Ids that reach no interface with an identifier, no uses, and no resource with an owner.
use Rattle.std.proofs.Common.{◌≡◌, inl, inr, ℕ, zero, suc, List, [], ◌∷◌, Some, None, Contains, slice_get, String, Global, string_bytes, refl, sym, subst, ◌∙◌}
use Rattle.std.specs.Option.{option_map}
use Rattle.wac_model.specs.Text.{Text}
use Rattle.wac_component.specs.Collection.{Collection, UseContent}
use Rattle.wac_component.specs.Content.{named, types_of, use_content}
use Rattle.wac_component.specs.Entries.{identifier_at}
use Rattle.wac_component.specs.Id.{Id}
use Rattle.wac_component.specs.Key.{Key, Each, interface_key, resource_key}
use Rattle.wac_component.specs.declared.interfaces.UsedType.{UsedType}
use Rattle.wac_component.specs.Reach.{IsAmong, here, Reaches, stay}
use Rattle.wac_component.specs.Replacing.{NamesReach}
use Rattle.wac_component.proofs.Among.{each_among, Contains-first, Contains-later}
use Rattle.wac_component.proofs.Extended.{Extends-refl, Extends-trans}
use Rattle.wac_component.proofs.OpenWalks.{opens_reach}
use Rattle.wac_component.proofs.Returns.{Reaches-trans}
use Rattle.wac_aggregator_promises.specs.PlainList.{ArePlain}
use Rattle.wac_aggregator_narrowing.specs.Identified.{IsQuiet}
use Rattle.wac_aggregator_taking.proofs.Identifiers.{is_interface, has_identifier}
use Rattle.wac_aggregator_taking.specs.Takes.{AreWithin, LeadsToOwner, AreKnown, OnlyGrows}
use Rattle.wac_aggregator_taking.specs.declared.state.Merging.{Merging}

pub OnlyGrows-refl : (f : Collection) (a : Merging) → OnlyGrows f a a
OnlyGrows-refl f a = record { grows = Extends-refl a.types; shared = refl; noted = λ k o is. inl is }

pub OnlyGrows-trans : (f : Collection) (a b c : Merging) → OnlyGrows f a b → OnlyGrows f b c → OnlyGrows f a c
OnlyGrows-trans f a b c g h = record {
  grows = Extends-trans a.types b.types c.types g.grows h.grows;
  shared = h.shared ∙ g.shared;
  noted = λ k o is. elim (h.noted k o is) [ inl was ↦ g.noted k o was | inr new ↦ inr new ];
}

-- what stands at an index of a list is in it
pub contains_at : {A : Type 0} (xs : List A) (i : ℕ) (x : A) → slice_get xs i ≡ Some x → Contains xs x
contains_at [] i x h = absurd (cc)
contains_at (y ∷ xs) zero x h = let same : y ≡ x = cc in subst (Contains (y ∷ xs)) same (Contains-first y xs)
contains_at (y ∷ xs) (suc i) x h = Contains-later x y xs (contains_at xs i x h)

module _ (f : Collection) where
  reach_within : (ks js : List Key) (t : Key) → AreWithin f ks js → NamesReach f ks t → NamesReach f js t
  reach_within ks js t within r = let w = within r.0 r.1 in (w.0, w.1, Reaches-trans f w.0 r.0 t (opens_reach f w.0 r.0 w.2) r.2)

  -- ids to which plain ones openly lead are plain
  pub plain_within : (ks js : List Key) → AreWithin f ks js → ArePlain f js → ArePlain f ks
  plain_within ks js within p = record {
    no_identifier = λ i r. p.no_identifier i (reach_within ks js (interface_key i) within r);
    no_uses = λ k r. p.no_uses k (reach_within ks js k within r);
    no_owner = λ i r. p.no_owner i (reach_within ks js (resource_key i) within r);
  }

  -- none of them leads to an owner
  pub not_plain_owner : (ks : List Key) (from : Key) (n : Text) → IsAmong from ks → LeadsToOwner f from n → ArePlain f ks → ⊥
  not_plain_owner ks from n among leads p =
      let none = p.no_owner leads.resource (from, among, opens_reach f from (resource_key leads.resource) leads.walk) in
      let both : None ≡ Some leads.owner = sym none ∙ leads.owned in cc

  -- none is an interface with an identifier
  pub not_plain_interface : (i : Id) (n : Text) → identifier_at f (interface_key i) ≡ Some n → ArePlain f (interface_key i ∷ []) → ⊥
  not_plain_interface i n is p =
      let none = p.no_identifier i (interface_key i, here, stay) in
      let both : None ≡ Some n = sym none ∙ has_identifier f (interface_key i) n is in cc

  -- so there is nothing to take in before
  pub plain_known : (a : Merging) (ks : List Key) → ArePlain f ks → AreKnown f a ks
  plain_known a ks p t n walk is =
      let none = p.no_identifier t.id (subst (NamesReach f ks) (is_interface f t n is) (walk.0, walk.1, opens_reach f walk.0 t walk.2)) in
      let both : None ≡ Some n = sym none ∙ has_identifier f t n is in absurd (cc)

  -- none openly leads to one
  pub plain_quiet : (ks : List Key) → ArePlain f ks → Each (IsQuiet f) ks
  plain_quiet ks p = each_among (IsQuiet f) ks (λ k m t n w is.
      let at = is_interface f t n is in
      let none = p.no_identifier t.id (k, m, subst (Reaches f k) at (opens_reach f k t w)) in
      let both : None ≡ Some n = sym none ∙ has_identifier f t n is in absurd (cc))

-- the use at an index
pub used_named : (es : List (String Global × UsedType)) (i : ℕ) (p : Id) → option_map (λ u. u.interface) (slice_get (types_of es) i) ≡ Some p → (n : Text) × (u : UseContent) × (slice_get (named use_content es) i ≡ Some (n, u)) × (u.interface ≡ p)
used_named [] i p h = absurd (cc)
used_named (e ∷ es) zero p h = (string_bytes e.0, use_content e.1, refl, let same : e.1.interface ≡ p = cc in same)
used_named (e ∷ es) (suc i) p h = used_named es i p h
