-- What names become in worlds that come into others, and the layers of these.
use Rattle.std.proofs.Common.{◌≡◌, ◌⊎◌, ◌∙◌, inl, inr, ℕ, ◌+◌, ◌<◌, ◌≤◌, Bool, false, arith, List, [], ◌∷◌, ◌++◌, Contains, length, get_or, refl, sym, ap, subst}
use Rattle.std.specs.Prelude.{IsTrue}
use Rattle.std.specs.Borrow.{Bor}
use Rattle.std.proofs.lemmas.List.Elements.{Contains-append_left, Contains-push, Contains-push_cases}
use Rattle.wac_model.specs.Text.{Text}
use Rattle.wac_wit_syntax.specs.declared.tree.IncludeItem.{IncludeItem}
use Rattle.wac_wit_syntax.specs.declared.tree.Rename.{Rename}
use Rattle.wac_wit_syntax.specs.declared.tree.WorldDecl.{WorldDecl}
use Rattle.wac_wit_syntax.specs.declared.tree.WorldItem.{WorldItem}
use Rattle.wac_wit_syntax.specs.declared.tree.WorldItem.TheVariants as of_world
use Rattle.wac_wit_validation.proofs.WorldFacts.{no_truth, scope_of}
use Rattle.wac_wit_validation_names.proofs.AmbiguityFacts.{EachBelow, EachBelow-end, EachBelow-more, EachBelow-none, slice_get-among}
use Rattle.wac_wit_validation_types.specs.Denoted.{renamed}
use Rattle.wac_wit_validation_types.specs.Placed.{LeadsToWorld, PlacedWorld}
use Rattle.wac_wit_validation_types.specs.Reading.{AreNamesBy, new_name_or}
use Rattle.wac_wit_scopes.specs.WitSources.{IsEnabled, ScopeSyntax, WitSources}
use Rattle.wac_wit_validation.specs.WorldChecking.{AddsLayersIn, AreLayersOf, AreNamingItems, CoversInside, GivesNames, IsIndexedScope, IsLayerIn, IsLayerOf, IsTextAt, IsValidatedWorld, IsWorldAt}
use Rattle.wac_wit_validation_names.specs.Layers.{IsRenamedLayer}
use Rattle.wac_wit_validation.specs.WorldClauses.{LeadsToPlace}
use Rattle.wac_wit_validation_types.specs.Worlds.{BringsIn, by_include, itself}
use Rattle.wac_wit_validation_names.specs.declared.layers.Layer.{Layer}
use Rattle.wac_wit_validation_types.specs.declared.new_names.NewNames.{NewNames}
use Rattle.wac_wit_validation.specs.declared.validator.FoundWorld.{FoundWorld}
use Rattle.wac_wit_validation_names.specs.declared.places.ItemPlace.{ItemPlace}
use Rattle.wac_wit_validation.specs.declared.validator.Validator.{Validator}
use Rattle.wac_wit_validation.specs.declared.validator.WorldText.{WorldText}
use Rattle.wac_wit_validation_names.proofs.RenamedLayers.{AreRenamedLayers, GrowsLayers}

-- ---- items that give names

-- those before an index
pub record AreNamingBelow (of : WitSources) (is : List WorldItem) (bs : List (Bor WorldItem)) (limit : ℕ) : Type 0 where
  pub among : (b : Bor WorldItem) → Contains bs b → Contains is b.now
  pub all : EachBelow is (λ k t. GivesNames of t → (b : Bor WorldItem) × Contains bs b × (b.now ≡ t)) limit

module _ (of : WitSources) (is : List WorldItem) where
  abbrev HasNaming : List (Bor WorldItem) → ℕ → WorldItem → Type 0
  HasNaming bs k t = GivesNames of t → (b : Bor WorldItem) × Contains bs b × (b.now ≡ t)

  pub AreNamingBelow-none : AreNamingBelow of is [] 0
  AreNamingBelow-none = record { among = λ b h. absurd (omega (arith, h.1)); all = EachBelow-none is (HasNaming []) }

  pub AreNamingBelow-push : (bs : List (Bor WorldItem)) (b : Bor WorldItem) (i : ℕ) → i < length is → b.now ≡ get_or is i b.now → AreNamingBelow of is bs i → AreNamingBelow of is (bs ++ b ∷ []) (i + 1)
  AreNamingBelow-push bs b i within at h = record {
    among = λ a found. elim (Contains-push_cases bs b a found) [ inl among ↦ h.among a among | inr one ↦ subst (λ (x : Bor WorldItem). Contains is x.now) one (i, within, sym at) ];
    all = EachBelow-more is (HasNaming bs) (HasNaming (bs ++ b ∷ [])) i b.now within at
        (λ k t has gives. let a = has gives in (a.0, Contains-append_left bs (b ∷ []) a.0 a.1, a.2))
        (λ gives. (b, Contains-push bs b, refl)) h.all;
  }

  pub AreNamingBelow-skip : (bs : List (Bor WorldItem)) (t : WorldItem) (i : ℕ) → i < length is → t ≡ get_or is i t → (GivesNames of t → ⊥) → AreNamingBelow of is bs i → AreNamingBelow of is bs (i + 1)
  AreNamingBelow-skip bs t i within at none h = record {
    among = h.among;
    all = EachBelow-more is (HasNaming bs) (HasNaming bs) i t within at (λ k t has. has) (λ gives. absurd (none gives)) h.all;
  }

  pub AreNamingBelow-end : (bs : List (Bor WorldItem)) (i : ℕ) → length is ≤ i → AreNamingBelow of is bs i → AreNamingItems of is bs
  AreNamingBelow-end bs i past h = record {
    among = h.among;
    all = λ t among gives. EachBelow-end is (HasNaming bs) i past h.all among.0 t (slice_get-among is t among) gives;
  }

-- ---- layers under new names

module _ (of : WitSources) (v : Validator) where
  -- the layer of a world itself
  pub IsLayerOf-own : (text : WorldText) (w : PlacedWorld) (l : Layer) → l.place ≡ text.place → AreNamingItems of text.decl.now.items.items l.items.items → AreNamesBy l.names [] → IsTextAt v text of w → IsLayerOf of v l [] w
  IsLayerOf-own text w l place items names at = record {
    at = subst (λ (p : ItemPlace). IsWorldAt of v p w) (sym place) at.written;
    items = subst (λ (d : WorldDecl). AreNamingItems of d.items.items l.items.items) (sym at.decl) items;
    names = names;
  }

  IsLayerOf-renamed : (old new : Layer) (by : NewNames) (rs : List Rename) (rss : List (List Rename)) (x : PlacedWorld) → IsRenamedLayer old by new → ((n : Text) → new_name_or by n ≡ renamed rs n) → IsLayerOf of v old rss x → IsLayerOf of v new (rs ∷ rss) x
  IsLayerOf-renamed old new by rs rss x changed is h = record {
    at = subst (λ (p : ItemPlace). IsWorldAt of v p x) (sym changed.place) h.at;
    items = subst (λ (bs : List (Bor WorldItem)). AreNamingItems of x.decl.items.items bs) (sym changed.items) h.items;
    names = λ n z at. let y = changed.names n z at in ap (renamed rs) (h.names n y.0 y.1) ∙ sym (is y.0) ∙ y.2;
  }

pub not_false : (b : Bool) → b ≡ false → IsTrue b → ⊥
not_false b is so = no_truth (subst (λ (x : Bool). IsTrue x) is so)

module _ (of : WitSources) (v : Validator) (scope : ℕ) (item : IncludeItem) (f : FoundWorld) (by : NewNames) (valid : IsValidatedWorld of v f) (leads : LeadsToPlace v scope item.path f.place)
    (is : (n : Text) → new_name_or by n ≡ renamed item.renames.items n) (old new : List Layer) where
  pub AddsLayersIn-renamed : (w : PlacedWorld) → IsIndexedScope v scope of w.scope → Contains w.decl.items.items (of_world.Include item) → IsEnabled of item.gates → AreRenamedLayers f.layers.items by old new
      → ((l : Layer) → Contains old l → IsLayerIn of v w l) → (l : Layer) → Contains new l → IsLayerIn of v w l
  AddsLayersIn-renamed w at among there each before l found = in_case (each l found)
    where
      in_case : Contains old l ⊎ ((x : Layer) × Contains f.layers.items x × IsRenamedLayer x by l) → IsLayerIn of v w l
      in_case (inl h) = before l h
      in_case (inr h) = let inner = valid.layers.each h.0 h.1 in record {
        renames = item.renames.items ∷ inner.renames;
        inside = inner.inside;
        brings = by_include item (record { among = among; there = there; leads = leads of w.scope at valid.written valid.at }) inner.brings;
        is = IsLayerOf-renamed of v h.0 l by item.renames.items inner.renames inner.inside h.2 is inner.is;
      }

  pub CoversInside-renamed : (w : ScopeSyntax) → IsIndexedScope v scope of w → ((x : Layer) (t : Bor WorldItem) → Contains f.layers.items x → Contains x.items.items t → (l : Layer) × Contains new l × IsRenamedLayer x by l)
      → (u : PlacedWorld) → LeadsToWorld of w item.path u → (rss : List (List Rename)) (x : PlacedWorld) (t : WorldItem) → BringsIn of u rss x → Contains x.decl.items.items t → GivesNames of t
      → (l : Layer) × Contains new l × IsLayerOf of v l (item.renames.items ∷ rss) x
  CoversInside-renamed w at all u to rss x t brings among gives =
      let written = scope_of of v scope w at in
      let one : valid.written ≡ u = at.knows.interfaces.unambiguous.worlds w item.path valid.written u written (leads of w at valid.written valid.at) to in
      let inner = valid.layers.all rss x t (subst (λ (y : PlacedWorld). BringsIn of y rss x) (sym one) brings) among gives in
      let has = inner.2.items.all t among gives in
      let l = all inner.0 has.0 inner.1 has.1 in
      (l.0, l.1, IsLayerOf-renamed of v inner.0 l.0 by item.renames.items rss x l.2 is inner.2)

-- ---- layers of a world

CoversInside-grown : (v : Validator) (scope : ℕ) (i : IncludeItem) (old new : List Layer) → GrowsLayers old new → CoversInside v scope i old → CoversInside v scope i new
CoversInside-grown v scope i old new grows covers of w at there u leads rss x t brings among gives = let l = covers of w at there u leads rss x t brings among gives in (l.0, grows l.0 l.1, l.2)

pub same_include : (i j : IncludeItem) → of_world.Include i ≡ of_world.Include j → i ≡ j
same_include i j e = cc

-- where an item includes a world, the worlds inside have layers
abbrev pub CoversIncludes : Validator → ℕ → List Layer → ℕ → WorldItem → Type 0
CoversIncludes v scope ls k t = (i : IncludeItem) → t ≡ of_world.Include i → CoversInside v scope i ls

abbrev pub HasOwnLayer : Validator → WorldText → List Layer → Type 0
HasOwnLayer v text ls = (of : WitSources) (w : PlacedWorld) → IsTextAt v text of w → (l : Layer) × Contains ls l × IsLayerOf of v l [] w

abbrev pub AreLayersIn : Validator → WorldText → List Layer → Type 0
AreLayersIn v text ls = (of : WitSources) (w : PlacedWorld) → IsTextAt v text of w → (l : Layer) → Contains ls l → IsLayerIn of v w l

HasOwnLayer-grown : (v : Validator) (text : WorldText) (old new : List Layer) → GrowsLayers old new → HasOwnLayer v text old → HasOwnLayer v text new
HasOwnLayer-grown v text old new grows own of w at = let l = own of w at in (l.0, grows l.0 l.1, l.2)

abbrev pub IsOwnLayer : Validator → WorldText → Layer → Type 0
IsOwnLayer v text l = (of : WitSources) (w : PlacedWorld) → IsTextAt v text of w → IsLayerOf of v l [] w

HasOwnLayer-one : (v : Validator) (text : WorldText) (l : Layer) → IsOwnLayer v text l → HasOwnLayer v text ([] ++ l ∷ [])
HasOwnLayer-one v text l own of w at = (l, Contains-push [] l, own of w at)

AreLayersIn-one : (v : Validator) (text : WorldText) (l : Layer) → IsOwnLayer v text l → AreLayersIn v text ([] ++ l ∷ [])
AreLayersIn-one v text l own of w at m among = elim (Contains-push_cases [] l m among) [
  | inl none ↦ absurd (omega (arith, none.1))
  | inr one ↦ subst (λ (x : Layer). IsLayerIn of v w x) one (record { renames = []; inside = w; brings = itself; is = own of w at })
]

module _ (v : Validator) (text : WorldText) where
  AreLayersIn-more : (t : WorldItem) (old new : List Layer) → Contains text.decl.now.items.items t → AddsLayersIn v text.place.scope t old new → AreLayersIn v text old → AreLayersIn v text new
  AreLayersIn-more t old new among adds each of w at = adds of w at.at (subst (λ (d : WorldDecl). Contains d.items.items t) (sym at.decl) among) (each of w at)

  -- layers of the world itself, and of those that items before an index include
  pub record LayersBelow (ls : List Layer) (limit : ℕ) : Type 0 where
    pub own : HasOwnLayer v text ls
    pub each : AreLayersIn v text ls
    pub all : EachBelow text.decl.now.items.items (CoversIncludes v text.place.scope ls) limit

  pub LayersBelow-own : (l : Layer) → IsOwnLayer v text l → LayersBelow (l ∷ []) 0
  LayersBelow-own l own = record {
    own = HasOwnLayer-one v text l own;
    each = AreLayersIn-one v text l own;
    all = EachBelow-none text.decl.now.items.items (CoversIncludes v text.place.scope (l ∷ []));
  }

  -- an item of which the index is looked at
  module _ (ys : List WorldItem) (same : ys ≡ text.decl.now.items.items) (t : WorldItem) (k : ℕ) (within : k < length ys) (at : t ≡ get_or ys k t) where
    is_within : k < length text.decl.now.items.items
    is_within = subst (λ (l : List WorldItem). k < length l) same within

    is_at : t ≡ get_or text.decl.now.items.items k t
    is_at = subst (λ (l : List WorldItem). t ≡ get_or l k t) same at

    pub LayersBelow-more : (old new : List Layer) → GrowsLayers old new → AddsLayersIn v text.place.scope t old new → CoversIncludes v text.place.scope new k t → LayersBelow old k → LayersBelow new (k + 1)
    LayersBelow-more old new grows adds covers h = record {
      own = HasOwnLayer-grown v text old new grows h.own;
      each = AreLayersIn-more t old new (k, is_within, sym is_at) adds h.each;
      all = EachBelow-more text.decl.now.items.items (CoversIncludes v text.place.scope old) (CoversIncludes v text.place.scope new) k t is_within is_at
          (λ j s has i one. CoversInside-grown v text.place.scope i old new grows (has i one)) covers h.all;
    }

  pub AreLayersOf-all : (ys : List WorldItem) (ls : List Layer) (k : ℕ) → ys ≡ text.decl.now.items.items → length ys ≤ k → LayersBelow ls k → (of : WitSources) (w : PlacedWorld) → IsTextAt v text of w → AreLayersOf of v w ls
  AreLayersOf-all ys ls k same past h of w at = record {
    each = h.each of w at;
    all = λ rss x t brings among gives. brought w rss x t at brings among gives;
  }
    where
      brought : (w : PlacedWorld) (rss : List (List Rename)) (x : PlacedWorld) (t : WorldItem) → IsTextAt v text of w → BringsIn of w rss x → Contains x.decl.items.items t → GivesNames of t → (l : Layer) × Contains ls l × IsLayerOf of v l rss x
      brought w _ _ t at itself among gives = h.own of w at
      brought w _ x t at (by_include {rss = rss} i says inner) among gives =
          let found = subst (λ (d : WorldDecl). Contains d.items.items (of_world.Include i)) at.decl says.among in
          EachBelow-end text.decl.now.items.items (CoversIncludes v text.place.scope ls) k (subst (λ (l : List WorldItem). length l ≤ k) same past) h.all found.0 (of_world.Include i) (slice_get-among text.decl.now.items.items (of_world.Include i) found) i refl
          of w.scope at.at says.there _ says.leads rss x t inner among gives
