-- Names that come into a world.
use Rattle.std.proofs.Common.{◌≡◌, ◌∙◌, ℕ, ◌+◌, ◌<◌, ◌≤◌, Bool, arith, List, Contains, Some, ap, length, subst, sym}
use Rattle.std.specs.Prelude.{slice_get}
use borrow.Author.Count.{below_more}
use Rattle.std.proofs.lemmas.Option.{same_Some, slice_get-get_or}
use Rattle.wac_wit_refusals_worlds.specs.Brought.{BringsTwice, ComesBy, HasSideName, an_included_name, an_own_name, by_included, by_own_item}
use Rattle.wac_wit_refusals_worlds.specs.BroughtSteps.{AreComing, AreSideNames, HasTwins}
use Rattle.wac_wit_refusals_worlds.specs.declared.coming.ComingName.{ComingName}
use Rattle.wac_wit_scopes.proofs.PathFacts.{contains_at}
use Rattle.wac_wit_scopes.specs.WitSources.{ScopeSyntax, WitSources, ident_text}
use Rattle.wac_wit_syntax.specs.declared.positions.Span.{Span}
use Rattle.wac_wit_syntax.specs.declared.tree.Ident.{Ident}
use Rattle.wac_wit_syntax.specs.declared.tree.IncludeItem.{IncludeItem}
use Rattle.wac_wit_syntax.specs.declared.tree.Rename.{Rename}
use Rattle.wac_wit_syntax.specs.declared.tree.WorldItem.{WorldItem}
use Rattle.wac_wit_syntax.specs.declared.tree.WorldItem.TheVariants as world_item

-- a name that comes into a world is one of its names
pub coming_has : (of : WitSources) (exports : Bool) (w : ScopeSyntax) (is : List WorldItem) (k : ℕ) (m n : Ident) → ComesBy of exports w is k m n → HasSideName of exports w is n
coming_has of exports w is k _ _ (by_own_item j n takes) = an_own_name w is k j n takes
coming_has of exports w is k _ _ (by_included i v d m n at there leads has renamed) = an_included_name w v is i d m n (contains_at is k _ at) there leads has renamed

pub coming_all : (of : WitSources) (exports : Bool) (w : ScopeSyntax) (is : List WorldItem) (cs : List ComingName) → AreComing of exports w is cs → AreSideNames of exports w is cs
coming_all of exports w is cs all c among = coming_has of exports w is c.index c.source.now c.name.now (all c among)

-- none of the first new names is for a name
abbrev pub NoneRenamedBelow : List Rename → ℕ → Ident → Type 0
NoneRenamedBelow rs i n = (j : ℕ) (q : Rename) → j < i → slice_get rs j ≡ Some q → ident_text q.name ≡ ident_text n → ⊥

pub renamed_none : (rs : List Rename) (n : Ident) → NoneRenamedBelow rs 0 n
renamed_none rs n j q less at same = absurd (omega (arith, less))

pub renamed_next : (rs : List Rename) (i : ℕ) (n : Ident) (r : Rename) → slice_get rs i ≡ Some r → (ident_text r.name ≡ ident_text n → ⊥)
    → NoneRenamedBelow rs i n → NoneRenamedBelow rs (i + 1) n
renamed_next rs i n r at other below k q less k_at same =
    below_more (λ (m : ℕ). (p : Rename) → slice_get rs m ≡ Some p → ident_text p.name ≡ ident_text n → ⊥) i (λ m under p p_at. below m p under p_at)
    (λ p p_at one. other (ap (λ (x : Rename). ident_text x.name) (same_Some _ _ (sym at ∙ p_at)) ∙ one)) k less q k_at same

pub renamed_end : (rs : List Rename) (i : ℕ) (n : Ident) → length rs ≤ i → NoneRenamedBelow rs i n → (r : Rename) → Contains rs r → ident_text r.name ≡ ident_text n → ⊥
renamed_end rs i n past below r among = below among.0 r (omega (arith, among.1, past)) (slice_get-get_or rs among.0 r among.1 ∙ ap Some among.2)

-- an `include` brings one of two names that are one
pub brought_twice : (of : WitSources) (exports : Bool) (w : ScopeSyntax) (is : List WorldItem) (span : Span) (k : ℕ) (i : IncludeItem) → slice_get is k ≡ Some (world_item.Include i) → i.path.name.span ≡ span
    → (cs : List ComingName) → AreComing of exports w is cs → HasTwins cs k → BringsTwice of exports w is span
brought_twice of exports w is span k i at place cs all h = record {
  index = k;
  item = i;
  at = at;
  place = place;
  source = h.one.source.now;
  name = h.one.name.now;
  comes = subst (λ (n : ℕ). ComesBy of exports w is n h.one.source.now h.one.name.now) h.are.by (all h.one h.among);
  other_index = h.other.index;
  other_source = h.other.source.now;
  other_name = h.other.name.now;
  other_comes = all h.other h.other_among;
  apart = λ same. h.are.twins.apart (h.are.by ∙ same);
  same = h.are.twins.same;
}
