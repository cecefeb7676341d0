-- Shared entries that stay as they are: what is merged into them changes nothing.
use Rattle.std.proofs.Common.{◌≡◌, ◌++◌, Bool, true, false, cond, filter, not, is_some, zero, suc, ℕ, slice_get, slice_set, List, [], ◌∷◌, Some, Option, String, Global, string_bytes, refl, ap, sym, subst, ◌∙◌, append-nil}
use Rattle.std.proofs.lemmas.List.Elements.{filter-append}
use Rattle.std.specs.Map.{lookup as lookup_by}
use Rattle.std.specs.Prelude.{Result, Ok, Err, MatchResult, is_ok}
use Rattle.std.specs.Str.{bytes_eq}
use Rattle.indexmap.specs.IndexMap.{insert_entry}
use Rattle.wac_model.specs.Text.{Text, lookup}
use Rattle.wac_model.specs.Order.{Fits}
use Rattle.wac_model.proofs.ItemOrder.{Fits-refl}
use Rattle.wac_component.specs.Collection.{Collection, InterfaceContent}
use Rattle.wac_component.specs.Id.{Id}
use Rattle.wac_component.specs.Key.{Key, Stands, AllStand, entry_keys, interface_key, interface_keys, next, optional_keys}
use Rattle.wac_component.specs.Reach.{IsAmong}
use Rattle.wac_component.specs.Replacing.{NamesReach}
use Rattle.wac_component.specs.Sound.{IsSound}
use Rattle.wac_component.specs.Tree.{item_tree}
use Rattle.wac_component.specs.declared.interfaces.UsedType.{UsedType}
use Rattle.wac_component.specs.declared.items.ItemKind.{ItemKind}
use Rattle.wac_component.proofs.Among.{each_found}
use Rattle.wac_component.proofs.Reading.{interface_at}
use Rattle.wac_component.proofs.Walks.{no_walk_returns}
use Rattle.wac_core_merge.specs.Names.{is_new, with_new}
use Rattle.wac_merge.specs.Items.{ExternKinds, extern_keys}
use Rattle.wac_aggregator_narrowing.specs.Identified.{IsCovered}
use Rattle.wac_aggregator_narrowing.specs.Traced.{LeadsAlongArrows}
use Rattle.wac_aggregator_narrowing.specs.Narrows.{grown}
use Rattle.wac_aggregator_reasons.proofs.Accounts.{accounted_none, none_roots}
use Rattle.wac_aggregator_taking.specs.Growing.{AreMetWith, with_own}
use Rattle.wac_aggregator_taking.proofs.GrowLemmas.{StepsOn-refl, met_put}

-- what stands under a name, put there again
put_same : (es : ExternKinds) (n : Text) (x : ItemKind) → lookup bytes_eq es n ≡ Some x → insert_entry bytes_eq es n x ≡ es
put_same [] n x h = absurd (cc)
put_same (e ∷ es) n x h = by_test (bytes_eq n e.0) h (λ g. put_same es n x g)
  where
    by_test : (b : Bool) → cond b (Some e.1) (lookup bytes_eq es n) ≡ Some x → (lookup bytes_eq es n ≡ Some x → insert_entry bytes_eq es n x ≡ es) → cond b ((e.0, x) ∷ es) (e ∷ insert_entry bytes_eq es n x) ≡ e ∷ es
    by_test true h g = let same : x ≡ e.1 = cc in ap (λ (y : ItemKind). (e.0, y) ∷ es) same
    by_test false h g = ap (λ (xs : ExternKinds). e ∷ xs) (g h)

-- exports stay as they are where what stands under a name fits where an item is asked for
pub met_kept : (c : Collection) (es : ExternKinds) (n : Text) (a b : ItemKind) → AllStand c (extern_keys es) → lookup bytes_eq es n ≡ Some b → Fits (item_tree c b) (item_tree c a) → AreMetWith c c es ((n, a) ∷ []) es
met_kept c es n a b st is fits = met_put c c es es n a b (StepsOn-refl c) st (each_found (Stands c) es n b is st) fits
    (λ x found. let both : Some b ≡ Some x = sym is ∙ found in let same : b ≡ x = cc in subst (λ y. Fits (item_tree c b) (item_tree c y)) same (Fits-refl (item_tree c b)))
    (λ t before this. before b is)
    (λ ss good h k. each_found (IsCovered c ss) es n b is h)
    (λ at s kept all hx new. (record { stays = accounted_none at (with_own s c) all; roots = none_roots at (with_own s c) all }, hx n b is))
    (λ ss rs from good h k. each_found (LeadsAlongArrows c ss rs from) es n b is h)
    (sym (put_same es n b is))

set_same : {A : Type 0} (xs : List A) (i : ℕ) (x : A) → slice_get xs i ≡ Some x → slice_set xs i x ≡ xs
set_same [] i x h = absurd (cc)
set_same {A} (y ∷ xs) zero x h = let same : x ≡ y = cc in ap (λ (z : A). z ∷ xs) same
set_same {A} (y ∷ xs) (suc i) x h = ap (λ (zs : List A). y ∷ zs) (set_same xs i x h)

-- an entry that grows to what it is, which doesn't lead back to it
pub grown_same : (c : Collection) (e : Id) (x : InterfaceContent) → slice_get c.interfaces e.index ≡ Some x → c ≡ grown c e x
grown_same c e x was = λ i. record c { interfaces = sym (set_same c.interfaces e.index x was) i }

pub never_back : (c : Collection) → IsSound c → (e : Id) (x : InterfaceContent) → Stands c (interface_key e) → slice_get c.interfaces e.index ≡ Some x → ¬ (NamesReach c (interface_keys x) (interface_key e))
never_back c sound e x stands was back =
    let named : next c (interface_key e) ≡ interface_keys x = ap (optional_keys entry_keys) (interface_at c e x was) in
    no_walk_returns c sound (interface_key e) back.0 stands (subst (λ (ks : List Key). IsAmong back.0 ks) (sym named) back.1) back.2

-- ---- names that are there

abbrev pub same_name : String Global → String Global → Bool
same_name s t = bytes_eq (string_bytes s) (string_bytes t)

-- the uses whose names others lack
abbrev pub new_uses : List (String Global × UsedType) → List (String Global × UsedType) → List (String Global × UsedType)
new_uses us vs = filter (λ (t : String Global × UsedType). is_new same_name us t.0) vs

looked_same : (us : List (String Global × UsedType)) (n : String Global) → lookup_by (λ (k : String Global). bytes_eq (string_bytes n) (string_bytes k)) us ≡ lookup same_name us n
looked_same [] n = refl
looked_same (e ∷ us) n = ap (λ (o : Option UsedType). cond (same_name n e.0) (Some e.1) o) (looked_same us n)

pub new_uses-has : (us vs : List (String Global × UsedType)) (e : String Global × UsedType) → new_uses us vs ≡ [] → is_some (lookup_by (λ (k : String Global). bytes_eq (string_bytes e.0) (string_bytes k)) us) ≡ true → new_uses us (vs ++ e ∷ []) ≡ []
new_uses-has us vs e none has =
    filter-append (λ (t : String Global × UsedType). is_new same_name us t.0) vs (e ∷ [])
    ∙ ap (λ (xs : List (String Global × UsedType)). xs ++ new_uses us (e ∷ [])) none
    ∙ ap (λ (b : Bool). cond (not b) (e ∷ []) []) (ap (λ (o : Option UsedType). is_some o) (sym (looked_same us e.0)) ∙ has)

pub with_new-none : (us vs : List (String Global × UsedType)) → new_uses us vs ≡ [] → with_new same_name us vs ≡ us
with_new-none us vs none = ap (λ (xs : List (String Global × UsedType)). us ++ xs) none ∙ append-nil us

-- ---- what says yes

pub when_ok : {A E : Type 0} (r : Result A E) (P : Type 0) (Q : E → Type 0) → MatchResult r (λ _. P) Q → is_ok r ≡ true → P
when_ok (Ok u) P Q h said = h
when_ok (Err e) P Q h said = absurd (cc (said))
