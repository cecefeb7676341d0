-- What is plain uses nothing, so that none of its uses differ from others.
use Rattle.std.proofs.Common.{◌≡◌, List, [], ◌∷◌, Option, Some, None, refl, ap, sym, subst, ◌∙◌}
use Rattle.std.specs.Option.{option_map_or}
use Rattle.wac_model.specs.Text.{Text}
use Rattle.wac_component.specs.Collection.{Collection, UseContent}
use Rattle.wac_component.specs.Entries.{identifier_at, entry_uses, uses_at}
use Rattle.wac_component.specs.Key.{Key, Entry, Each, entry_at, item_keys}
use Rattle.wac_component.specs.Reach.{here, Reaches, stay}
use Rattle.wac_component.specs.declared.items.ItemKind.{ItemKind}
use Rattle.wac_component.proofs.Among.{among_each}
use Rattle.wac_aggregator_promises.specs.PlainList.{ArePlain}
use Rattle.wac_names.specs.Class.{class_of}
use Rattle.wac_aggregator_narrowing.specs.Identified.{used_names, use_names, use_names_at}
use Rattle.wac_aggregator_narrowing.specs.State.{State}
use Rattle.wac_aggregator_narrowing.specs.Taking.{AreTakenKeys, no_keys, one_key, IsTakenItem, IsTakenKey}
use Rattle.wac_aggregator_errors.specs.declared.error.AggregateError.{AggregateError}
use Rattle.wac_aggregator_uses.specs.Differ.{UsesDiffer}
use Rattle.wac_aggregator_uses.proofs.UseLemmas.{second_uses}
use Rattle.wac_aggregator_taking.proofs.Identifiers.{is_interface, has_identifier}
use Rattle.wac_aggregator_taking.proofs.Plain.{plain_within}
use Rattle.wac_aggregator_taking.proofs.Within.{within_left, within_right}

-- what uses no names uses nothing
no_names : (us : List (Text × UseContent)) → used_names us ≡ [] → us ≡ []
no_names [] h = refl
no_names (u ∷ us) h = absurd (cc)

names_of : (o : Option Entry) → option_map_or use_names o [] ≡ used_names (option_map_or entry_uses o [])
names_of None = refl
names_of (Some e) = refl

-- what was taken in for plain ids uses nothing
module _ (f : Collection) (s : State) where
  unidentified : (k : Key) → ArePlain f (k ∷ []) → (o : Option Text) → identifier_at f k ≡ o → identifier_at f k ≡ None
  unidentified k p None is = is
  unidentified k p (Some n) is =
      let at = is_interface f k n is in
      let none = p.no_identifier k.id (k, here, subst (λ j. Reaches f k j) at stay) in
      absurd (let both : None ≡ Some n = sym none ∙ has_identifier f k n is in cc)

  no_uses : (i j : Key) → ArePlain f (i ∷ []) → IsTakenKey class_of f s i j → uses_at s.own j ≡ []
  no_uses i j p k =
      let names : use_names_at s.own j ≡ use_names_at f i = (k.remembered.plain (unidentified i p (identifier_at f i) refl)).uses in
      no_names (uses_at s.own j) (sym (names_of (entry_at s.own j)) ∙ names ∙ names_of (entry_at f i) ∙ ap used_names (p.no_uses i (i, here, stay)))

  none_uses : (is js : List Key) → ArePlain f is → AreTakenKeys class_of f s is js → Each (λ j. uses_at s.own j ≡ []) js
  none_uses is js p no_keys = tt
  none_uses is js p (one_key {i} {j} {is = ks} {js = ls} k rest) =
      (no_uses i j (plain_within f (i ∷ []) (i ∷ ks) (within_left f (i ∷ []) ks) p) k, none_uses ks ls (plain_within f ks (i ∷ ks) (within_right f (i ∷ []) ks) p) rest)

  pub plain_no_uses : (x y : ItemKind) → ArePlain f (item_keys x) → IsTakenItem class_of f s x y → (ks : List Key) (e : AggregateError) → UsesDiffer s.own ks (item_keys y) e → ⊥
  plain_no_uses x y p taken ks e h =
      second_uses s.own (uses_at s.own h.first) (uses_at s.own h.second) e h.differ (among_each (λ j. uses_at s.own j ≡ []) h.second (item_keys y) h.among_second (none_uses (item_keys x) (item_keys y) p taken.keys))
