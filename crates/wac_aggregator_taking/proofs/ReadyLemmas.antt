-- What is taken in without a step.
use Rattle.std.proofs.Common.{◌≡◌, ◌≤◌, ◌<◌, ◌+◌, ◌⊎◌, ◌∙◌, suc, true, is_some, length, refl, ap, sym, subst, List, [], ◌∷◌, ◌++◌, ℕ, String, Global, Option, Some, None, slice_get, arith}
use Rattle.std.proofs.lemmas.List.Elements.{All-weaker}
use borrow.Author.Count.{below_more}
use Rattle.wac_component.specs.Collection.{Collection, InterfaceContent, WorldContent}
use Rattle.wac_component.specs.Content.{named, types_of}
use Rattle.wac_component.specs.Height.{height, keys_height}
use Rattle.wac_component.specs.Id.{Id}
use Rattle.wac_component.specs.Key.{Key, Each, Stands, item_keys, use_keys, named_keys, interface_key, world_key, type_keys}
use Rattle.wac_component.specs.Items.{type_of}
use Rattle.wac_component.specs.Reach.{IsAmong, here}
use Rattle.wac_component.specs.Sound.{IsSound}
use Rattle.wac_component.specs.declared.items.ItemKind.{ItemKind}
use Rattle.wac_component.specs.declared.items.ItemKind.TheVariants.{«Type» as OfType, Func, Instance, Component, Module, Value}
use Rattle.wac_component.specs.declared.items.Type.{«Type» as TypeOf}
use Rattle.wac_component.proofs.Keys.{Each-append, Each-left, Each-right, largest-append}
use Rattle.wac_component.proofs.Members.{world_exports_lower}
use Rattle.wac_component.proofs.Reading.{interface_lower, world_lower}
use Rattle.wac_aggregator_memo.specs.EntryOrder.{HasOwn}
use Rattle.wac_aggregator_memo.specs.Memo.{Remembered}
use Rattle.wac_aggregator_taking.specs.Steps.{AreItemsNoted, AreNext, IsNext, IsStepOf, step_key, step_near}
use Rattle.wac_aggregator_taking.specs.Takes.{MayTake, AreWithin, TakesBy, Takes}
use Rattle.wac_aggregator_taking.specs.declared.state.Merging.{Merging}
use Rattle.wac_aggregator_taking.specs.declared.steps.TakeStep.{TakeStep}
use Rattle.wac_aggregator_taking.proofs.PartHeights.{named_lower}
use Rattle.wac_aggregator_taking.proofs.TakeLemmas.{Takes-apart, Takes-more, Takes-then, near_none}
use Rattle.wac_aggregator_taking.proofs.Within.{within_all, within_named}

-- one more entry of a map
pub each_more : {V : Type 0} (P : Key → Type 0) (k : V → List Key) (es : List (String Global × V)) (e : String Global × V) → Each P (named_keys k (named (λ v. v) es)) → Each P (k e.1) → Each P (named_keys k (named (λ v. v) (es ++ e ∷ [])))
each_more P k [] e h g = Each-append P (k e.1) [] g tt
each_more P k (d ∷ es) e h g =
    let rest = named_keys k (named (λ v. v) es) in
    Each-append P (k d.1) (named_keys k (named (λ v. v) (es ++ e ∷ []))) (Each-left P (k d.1) rest h) (each_more P k es e (Each-right P (k d.1) rest h) g)

-- an item names what its type names
keys_of_type : (k : ItemKind) → item_keys k ≡ type_keys (type_of k)
keys_of_type (OfType t) = refl
keys_of_type (Func i) = refl
keys_of_type (Instance i) = refl
keys_of_type (Component i) = refl
keys_of_type (Module i) = refl
keys_of_type (Value v) = refl

-- the step that takes in what an item of this type names
pub typed_step : (k : ItemKind) (t : TypeOf) (near : Option Id) (s : TakeStep) → t ≡ type_of k → step_key s ∷ [] ≡ type_keys t → (step_near s ≡ None) ⊎ (step_near s ≡ near) → IsStepOf (item_keys k) near s
typed_step k t near s is keys by = record { among = subst (IsAmong (step_key s)) (keys ∙ ap type_keys is ∙ sym (keys_of_type k)) here; by = by }

-- what stands for ids is kept where a memo only gets more
module _ (m n : Remembered) (stays : (k o : Key) → m k ≡ Some o → n k ≡ Some o) where
  own_still : (k : Key) → HasOwn m k → HasOwn n k
  own_still k has = by (m k) refl has
    where
      by : (o : Option Key) → m k ≡ o → is_some o ≡ true → HasOwn n k
      by None is h = absurd (cc)
      by (Some o) is h = ap (λ q. is_some q) (stays k o is)

  each_still : (ks : List Key) → Each (HasOwn m) ks → Each (HasOwn n) ks
  each_still [] h = tt
  each_still (k ∷ ks) h = (own_still k h.0, each_still ks h.1)

  module _ (ks : List ItemKind) (from i : ℕ) where
    pub items_still : AreItemsNoted m ks from i → AreItemsNoted n ks from i
    items_still h j k after below at = each_still (item_keys k) (h j k after below at)

-- one more item of which that is so
pub items_next : (m n : Remembered) (ks : List ItemKind) (from i : ℕ) (k : ItemKind) → ((j o : Key) → m j ≡ Some o → n j ≡ Some o) → AreItemsNoted m ks from i → slice_get ks i ≡ Some k → Each (HasOwn n) (item_keys k) → AreItemsNoted n ks from (i + 1)
items_next m n ks from i k stays before at last j l after below is =
    below_more (λ j. (l : ItemKind) → from ≤ j → slice_get ks j ≡ Some l → Each (HasOwn n) (item_keys l)) i (λ j lower l after is. items_still m n stays ks from i before j l after lower is)
    (λ l after is. let same : k ≡ l = let both : Some k ≡ Some l = sym at ∙ is in cc in subst (λ x. Each (HasOwn n) (item_keys x)) same last) j below l after is

-- what all items of a map name was taken in
pub each_noted : (m : Remembered) (es : List (String Global × ItemKind)) → ((i : ℕ) (k : ItemKind) → i < length es → slice_get (types_of es) i ≡ Some k → Each (HasOwn m) (item_keys k)) → Each (HasOwn m) (named_keys item_keys (named (λ v. v) es))
each_noted m [] h = tt
each_noted m (e ∷ es) h = Each-append (HasOwn m) (item_keys e.1) (named_keys item_keys (named (λ v. v) es)) (h 0 e.1 (omega arith) refl) (each_noted m es (λ i k below at. h (suc i) k (omega arith) at))

-- the parts of an entry, taken in before it
module _ (f : Collection) (a b : Merging) (k : Key) (ks : List Key) (within : AreWithin f ks (k ∷ [])) (low : keys_height f ks ≤ height f k) (may : MayTake f a) (g : Takes f a b (keys_height f ks) ks (λ t. Unit {0})) where
  pub parts_take : Takes f a b (height f k) (k ∷ []) (λ t. Unit {0})
  parts_take = Takes-more f a b (keys_height f ks) (height f k) ks (k ∷ []) (λ t. Unit {0}) (λ t. Unit {0}) low within may (λ t kept q. tt) g

  pub parts_take_by : (near : List Key) → TakesBy near f a b (height f k) (k ∷ []) (λ t. Unit {0})
  parts_take_by near = Takes-apart f a b (height f k) (k ∷ []) (λ t. Unit {0}) parts_take

-- what comes next where nothing is near comes next whatever is
pub next_apart : (f : Collection) (a : Merging) (k : Key) (near : Option Id) (ss ts : List TakeStep) → AreNext f a k None ss ts → AreNext f a k near ss ts
next_apart f a k near ss ts h = record { more = h.more; put = h.put; steps = All-weaker (IsNext f a k None) (IsNext f a k near) (λ s is. record { walk = is.walk; own = is.own; by = λ at all _. is.by at all (near_none at a) }) h.more h.steps }

-- what interfaces and worlds export is lower than they are
pub exports_below : (f : Collection) (p : Id) (x : InterfaceContent) → IsSound f → Stands f (interface_key p) → slice_get f.interfaces p.index ≡ Some x → keys_height f (named_keys item_keys x.exports) < height f (interface_key p)
exports_below f p x sound st at = omega (arith, largest-append (height f) (named_keys use_keys x.uses) (named_keys item_keys x.exports), interface_lower f p x sound st at)

pub world_exports_below : (f : Collection) (p : Id) (x : WorldContent) → IsSound f → Stands f (world_key p) → slice_get f.worlds p.index ≡ Some x → keys_height f (named_keys item_keys x.exports) < height f (world_key p)
world_exports_below f p x sound st at = omega (arith, world_exports_lower f x, world_lower f p x sound st at)

-- what one of some items names, after what others name
module _ (f : Collection) (a b c : Merging) (es : List (String Global × ItemKind)) (i : ℕ) (k : ItemKind) (at : slice_get (types_of es) i ≡ Some k) where
  abbrev all_keys : List Key
  all_keys = named_keys item_keys (named (λ v. v) es)

  pub ready_next : MayTake f a → Takes f a b (keys_height f all_keys) all_keys (λ t. Unit {0}) → Takes f b c (keys_height f (item_keys k)) (item_keys k) (λ t. Unit {0}) → Takes f a c (keys_height f all_keys) all_keys (λ t. Unit {0})
  ready_next may g h =
      let top = keys_height f all_keys in
      Takes-more f a c top top all_keys all_keys (λ t. Unit {0} × Unit {0}) (λ t. Unit {0}) (omega arith) (within_all f all_keys) may (λ t kept q. tt)
      (Takes-then f a b c top (keys_height f (item_keys k)) top all_keys (item_keys k) all_keys (λ t. Unit {0}) (λ t. Unit {0}) (omega arith) (named_lower item_keys (λ v. v) f es i k at) (within_all f all_keys) (within_named f item_keys (λ v. v) es i k at) may (λ s t kept run q. q) g h)
