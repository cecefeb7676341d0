-- Worlds that come with what others include, and what they export.
use Rattle.std.proofs.Common.{◌≡◌, ℕ, ◌+◌, ◌<◌, ◌≤◌, arith, ◌++◌, ◌∷◌, [], List, Contains, Option, Some, None, get_or, length, refl, subst, sym, take}
use Rattle.std.proofs.lemmas.List.Elements.{Contains-append_left, Contains-push}
use Rattle.std.specs.Prelude.{All}
use Rattle.wac_wit_refusals_sites.proofs.TypeFacts.{among_read, kept_push}
use Rattle.wac_wit_scopes.proofs.ScopeFacts.{All-end, All-next}
use Rattle.wac_wit_refusals_worlds.specs.IncludeSteps.{IsIncludeThere, IsNoInclude, LeadsToPlacedWorld, names_of_world}
use Rattle.wac_wit_refusals_worlds.specs.Includes.{NameSource, from_include}
use Rattle.wac_wit_refusals_worlds.specs.NeededSteps.{AddsWithin, AreAllWorlds, IsWithinWorld, KeepsWorlds, PutsWorlds, a_world_among, an_include_among}
use Rattle.wac_wit_refusals_worlds.specs.NeededTwice.{IsWithin, by_include_of}
use Rattle.wac_wit_refusals_worlds.specs.declared.worlds.PlacedWorld.{PlacedWorld}
use Rattle.wac_wit_scopes.specs.Scopes.{scope_syntax}
use Rattle.wac_wit_scopes.specs.WitSources.{IsEnabled, WitSources}
use Rattle.wac_wit_syntax.specs.declared.tree.IncludeItem.{IncludeItem}
use Rattle.wac_wit_syntax.specs.declared.tree.WorldItem.{WorldItem}
use Rattle.wac_wit_syntax.specs.declared.tree.WorldItem.TheVariants as world_item

-- what a world includes that comes with another comes with that
pub within_next : (of : WitSources) (w p q : PlacedWorld) (i : IncludeItem) → IsWithinWorld of w p → Contains p.items.now (world_item.Include i) → IsEnabled of i.gates → LeadsToPlacedWorld of (scope_syntax p.scope) i.path q → IsWithinWorld of w q
within_next of w p q i h among there to = subst (λ (l : List WorldItem). IsWithin of (scope_syntax w.scope) w.items.now (scope_syntax q.scope) l) to.items
    (by_include_of (scope_syntax p.scope) (scope_syntax q.scope) p.items.now i to.decl h among there to.leads)

same_include : (i k : IncludeItem) (t : WorldItem) → t ≡ world_item.Include i → t ≡ world_item.Include k → i ≡ k
same_include i k t is same = cc

-- all that come from somewhere do so among more
pub all_worlds_kept : (of : WitSources) (ps qs : List PlacedWorld) → KeepsWorlds ps qs → (s : NameSource) → AreAllWorlds of ps s → AreAllWorlds of qs s
all_worlds_kept of ps qs keeps _ (a_world_among p among each) = a_world_among p (keeps p among) (λ i inside there. all_worlds_kept of ps qs keeps (from_include (scope_syntax p.scope) i) (each i inside there))
all_worlds_kept of ps qs keeps _ (an_include_among w i p to all) = an_include_among w i p to (all_worlds_kept of ps qs keeps (names_of_world p) all)

pub nothing_else : {A : Type 0} (o : Option A) → ((x : A) → o ≡ Some x → ⊥) → o ≡ None
nothing_else None h = refl
nothing_else (Some x) h = absurd (h x refl)

-- an item includes nothing, or a world of which all are there
abbrev pub IncludesAll : WitSources → PlacedWorld → List PlacedWorld → WorldItem → Type 0
IncludesAll of w ps t = (i : IncludeItem) → t ≡ world_item.Include i → IsEnabled of i.gates → AreAllWorlds of ps (from_include (scope_syntax w.scope) i)

-- a world was put behind others, and what its first items include
pub record PutsFirst (of : WitSources) (w : PlacedWorld) (index : ℕ) (old new : List PlacedWorld) : Type 0 where
  pub keeps : KeepsWorlds old new
  pub among : Contains new w
  pub all : All (IncludesAll of w new) (take index w.items.now)
  pub adds : AddsWithin of w old new

pub puts_none : (of : WitSources) (w : PlacedWorld) (old new : List PlacedWorld) → new ≡ old ++ w ∷ [] → PutsFirst of w 0 new new
puts_none of w old new is = record {
  keeps = λ p among. among;
  among = subst (λ (l : List PlacedWorld). Contains l w) (sym is) (Contains-push old w);
  all = λ k d h. absurd (omega (arith, h));
  adds = λ v within each. each;
}

-- the next item includes nothing
pub puts_skip : (of : WitSources) (w : PlacedWorld) (index : ℕ) (t : WorldItem) (old new : List PlacedWorld) → index < length w.items.now → t ≡ get_or w.items.now index t → IsNoInclude of t → PutsFirst of w index old new → PutsFirst of w (index + 1) old new
puts_skip of w index t old new within at none puts = record {
  keeps = puts.keeps;
  among = puts.among;
  all = All-next w.items.now index (IncludesAll of w new) (IncludesAll of w new) t within at (λ x h. h) puts.all (λ i is there. absurd (none i is there));
  adds = puts.adds;
}

-- it includes a world, which was put there too
pub puts_more : (of : WitSources) (w : PlacedWorld) (index : ℕ) (t : WorldItem) (old mid new : List PlacedWorld) → index < length w.items.now → t ≡ get_or w.items.now index t
    → (i : IncludeItem) → IsIncludeThere of t i → (p : PlacedWorld) → LeadsToPlacedWorld of (scope_syntax w.scope) i.path p → PutsWorlds of p mid new → PutsFirst of w index old mid → PutsFirst of w (index + 1) old new
puts_more of w index t old mid new within at i is p to more puts =
    let items = w.items.now in
    let among = subst (λ (x : WorldItem). Contains items x) is.is (among_read items index t within at) in
    record {
      keeps = λ q among. more.keeps q (puts.keeps q among);
      among = more.keeps w puts.among;
      all = All-next items index (IncludesAll of w mid) (IncludesAll of w new) t within at (λ x h k same there. all_worlds_kept of mid new more.keeps (from_include (scope_syntax w.scope) k) (h k same there)) puts.all
          (λ k same there. let one : i ≡ k = same_include i k t is.is same in subst (λ (x : IncludeItem). AreAllWorlds of new (from_include (scope_syntax w.scope) x)) one (an_include_among (scope_syntax w.scope) i p to more.all));
      adds = λ v inside each. more.adds v (within_next of v w p i inside among is.there to) (puts.adds v inside each);
    }

-- all its items are done
pub puts_all : (of : WitSources) (w : PlacedWorld) (index : ℕ) (old mid new : List PlacedWorld) → mid ≡ old ++ w ∷ [] → length w.items.now ≤ index → PutsFirst of w index mid new → PutsWorlds of w old new
puts_all of w index old mid new is past puts = record {
  keeps = λ p among. puts.keeps p (subst (λ (l : List PlacedWorld). Contains l p) (sym is) (Contains-append_left old (w ∷ []) p among));
  all = a_world_among w puts.among (λ i among there. All-end w.items.now index (IncludesAll of w new) past puts.all (world_item.Include i) among i refl there);
  adds = λ v within each. puts.adds v within (kept_push (IsWithinWorld of v) old mid w is each within);
}
