-- A call whose item was taken in advances the state.
use Rattle.std.proofs.Common.{◌≡◌, [], ◌∷◌, Option, Some, None, IsSome, IfSome, Result, Ok, Err, OnOk, IfOk, refl, ap, sym, ◌∙◌, subst}
use Rattle.std.specs.Option.{option_map}
use Rattle.wac_model.specs.Text.{Text}
use Rattle.wac_model.specs.ItemTree.{ItemTree}
use Rattle.wac_model.specs.Order.{Fits}
use Rattle.wac_model.proofs.ItemOrder.{Fits-refl}
use Rattle.wac_component.specs.Collection.{Collection}
use Rattle.wac_component.specs.Height.{keys_height}
use Rattle.wac_component.specs.Id.{Id}
use Rattle.wac_component.specs.Key.{Each, AllStand, item_keys, interface_key}
use Rattle.wac_component.specs.Tree.{item_tree}
use Rattle.wac_component.specs.declared.items.ItemKind.{ItemKind}
use Rattle.wac_names.specs.Class.{Class, class_of}
use Rattle.wac_aggregator_narrowing.specs.Identified.{IsCovered, IsUnstopped}
use Rattle.wac_aggregator_narrowing.specs.State.{IsStateKept}
use Rattle.wac_aggregator_narrowing.specs.Taking.{IsTakenItem}
use Rattle.wac_aggregator_narrowing.proofs.Mapped.{taken_each}
use Rattle.wac_aggregator_promises.specs.Call.{Call, call_track}
use Rattle.wac_aggregator_imports.specs.Import.{ImportContent, ImportsContent, import_of, import_at, IsImportNoted}
use Rattle.wac_aggregator_promises.specs.Attempt.{Attempt}
use Rattle.wac_aggregator_reasons.specs.Trial.{IsTrial, IsAccounted, IsOpenSource}
use Rattle.wac_aggregator_reasons.proofs.Accounts.{accounted_built}
use Rattle.wac_aggregator_taking.specs.Growing.{IsOwnMeet, with_own}
use Rattle.wac_aggregator_taking.specs.Takes.{shared_keys, state_of, MayTake, IsOwnEntry, IsNear, Takes}
use Rattle.wac_aggregator_taking.specs.declared.state.Merging.{Merging}
use Rattle.wac_aggregator_taking.proofs.GrowLemmas.{StepsOn-refl}
use Rattle.wac_aggregator_taking.proofs.MergeReasons.{met_sources}
use Rattle.wac_aggregator_taking.proofs.TakeLemmas.{near_none}
use Rattle.wac_aggregator.specs.Advances.{added, noted, Advances, PutsLast, IsMerged}
use Rattle.wac_aggregator.proofs.Unstopped.{met_unstopped}
use Rattle.wac_aggregator.proofs.Trying.{import_open, own_open, taken_accounted}

-- the import of which this is the item
pub import_with : (o : Option ImportContent) (x : ItemKind) → option_map (λ (i : ImportContent). i.1) o ≡ Some x → (i : ImportContent) × (o ≡ Some i) × (i.1 ≡ x)
import_with None x h = absurd (cc)
import_with (Some i) x h = let same : i.1 ≡ x = cc in (i, refl, same)

-- the interface that an import is stands, and openly leads to shared ones alone
pub near_import : (a : Merging) (name : Text) (existing : ItemKind) → IsStateKept (state_of a) → import_at a.imports name ≡ Some existing → (near : Option Id) → IfSome near (λ i. item_keys existing ≡ interface_key i ∷ []) → IsNear a near
near_import a name existing kept at None h i is = absurd (cc)
near_import a name existing kept at (Some j) h i is =
    let same : j ≡ i = cc in
    let stands : AllStand a.types (interface_key j ∷ []) = subst (AllStand a.types) h (kept.imports name existing at) in
    let covered : Each (IsCovered a.types (shared_keys a.shared.entries)) (interface_key j ∷ []) = subst (Each (IsCovered a.types (shared_keys a.shared.entries))) h (kept.imports_covered name existing at) in
    subst (λ x. IsOwnEntry a (interface_key x)) same (stands.0, covered.0)

module _ (call : Call) (a mid : Merging) (own : ItemKind) (may : MayTake call.types a)
    (takes : Takes call.types a mid (keys_height call.types (item_keys call.kind)) (item_keys call.kind) (λ t. IsTakenItem class_of call.types t call.kind own)) where
  own_covered : Each (IsCovered mid.types (shared_keys mid.shared.entries)) (item_keys own)
  own_covered = taken_each class_of call.types (state_of mid) (IsCovered mid.types (shared_keys mid.shared.entries)) (λ i j k. k.covered) (item_keys call.kind) (item_keys own) takes.holds.keys

  -- as a new import
  pub added_advances : (b : Merging) → PutsLast mid b call.name own → import_of a.imports (call_track call) ≡ None → Advances call a b
  added_advances b h none = subst (λ (m : Merging). Advances call a m) (sym h.same) record {
    taken = mid;
    own = own;
    takes = takes;
    same = refl;
    on = StepsOn-refl mid.types;
    import = own;
    stands = takes.holds.stands;
    covered = own_covered;
    fits = Fits-refl (item_tree mid.types own);
    existing = λ i at. absurd (let no : None ≡ Some i = sym none ∙ at in cc);
    alone = λ q. refl;
    alone_tree = λ q. refl;
    kept = λ i at. absurd (let no : None ≡ Some i = sym none ∙ at in cc);
    unstopped = λ i at. absurd (let no : None ≡ Some i = sym none ∙ at in cc);
    greatest = λ i at. absurd (let no : None ≡ Some i = sym none ∙ at in cc);
    placed = added none h.none h.puts h.led;
    accounts = λ at trial all. (taken_accounted call a may mid own takes at trial all, own_open call a may mid own takes at trial all);
  }

  -- merged into one
  module _ (existing : ItemKind) (found : option_map (λ (i : ImportContent). i.1) (import_of a.imports (call_track call)) ≡ Some existing) where
    pub was : (i : ImportContent) × (import_of a.imports (call_track call) ≡ Some i) × (i.1 ≡ existing)
    was = import_with (import_of a.imports (call_track call)) existing found

    pub found_still : import_of mid.imports (call_track call) ≡ Some was.0
    found_still = takes.stays (call_track call) was.0 was.1

    pub some_still : IsSome (import_of mid.imports (call_track call))
    some_still = rw found_still refl

    pub at_still : import_at mid.imports call.name ≡ Some existing
    at_still = ap (option_map (λ (i : ImportContent). i.1)) found_still ∙ ap (λ (x : ItemKind). Some x) was.2

    pub existing_stands : AllStand mid.types (item_keys existing)
    existing_stands = (takes.run.kept may.kept).imports call.name existing at_still

    -- what is met is open where both are
    met_accounted : (d : Collection) (m : ItemKind) → IsOwnMeet mid.types d existing own m → (at : Attempt) → IsTrial at call.types (item_keys call.kind) → IsAccounted at (state_of a)
        → IsAccounted at (with_own (state_of mid) d) × Each (IsOpenSource at (with_own (state_of mid) d)) (item_keys m)
    met_accounted d m met at trial all =
        let now = taken_accounted call a may mid own takes at trial all in
        let kept = takes.run.kept may.kept in
        let stays = accounted_built at (state_of mid) d existing own met.answer kept met.builds now in (
          stays.now,
          met_sources mid.types d existing own m met at (state_of mid) kept existing_stands takes.holds.stands (import_open at mid call.name existing now at_still) (own_open call a may mid own takes at trial all),
        )

    pub merged_advances : (b : Merging) → IsMerged mid b call.name existing own → Advances call a b
    merged_advances b h = subst (λ (m : Merging). Advances call a m) (sym h.same) record {
      taken = mid;
      own = own;
      takes = takes;
      same = refl;
      on = h.met.on;
      import = h.import;
      stands = h.met.stands;
      covered = h.met.covered (shared_keys mid.shared.entries) (takes.run.kept may.kept).good ((takes.run.kept may.kept).imports_covered call.name existing at_still) own_covered;
      fits = h.met.fits_second;
      existing = λ i at.
          let same : was.0 ≡ i = let both : Some was.0 ≡ Some i = sym was.1 ∙ at in cc in
          subst (λ x. Fits (item_tree b.types h.import) (item_tree mid.types x)) (sym was.2 ∙ ap (λ (j : ImportContent). j.1) same) h.met.fits_first;
      alone = λ none. absurd (let no : None ≡ Some was.0 = sym none ∙ was.1 in cc);
      alone_tree = λ none. absurd (let no : None ≡ Some was.0 = sym none ∙ was.1 in cc);
      kept = λ i at.
          let same : was.0 ≡ i = let both : Some was.0 ≡ Some i = sym was.1 ∙ at in cc in
          let item : existing ≡ i.1 = sym was.2 ∙ ap (λ (j : ImportContent). j.1) same in
          subst (λ x. Fits (item_tree mid.types x) (item_tree mid.types own) → h.import ≡ x) item h.met.kept;
      unstopped = λ i at.
          let same : was.0 ≡ i = let both : Some was.0 ≡ Some i = sym was.1 ∙ at in cc in
          let item : existing ≡ i.1 = sym was.2 ∙ ap (λ (j : ImportContent). j.1) same in
          subst (λ x. Each (IsUnstopped mid.types) (item_keys x) → Each (IsUnstopped mid.types) (item_keys own) → Each (IsUnstopped b.types) (item_keys h.import)) item (met_unstopped mid.types b.types existing own h.import (takes.run.kept may.kept).good.sound h.met);
      greatest = λ i at.
          let same : was.0 ≡ i = let both : Some was.0 ≡ Some i = sym was.1 ∙ at in cc in
          subst (λ x. (t : ItemTree) → Fits t (item_tree mid.types x) → Fits t (item_tree mid.types own) → Fits t (item_tree b.types h.import)) (sym was.2 ∙ ap (λ (j : ImportContent). j.1) same) h.met.greatest;
      placed = noted was.0 was.1 (h.noted was.0 found_still);
      accounts = λ at trial all. met_accounted b.types h.import h.met at trial all;
    }

-- what is told of a mismatch changes nothing else
module _ (a : Merging) (told : Option Id) where
  pub told_may : (f : Collection) → MayTake f a → MayTake f (record a { handed_in = told })
  told_may f h = record { apart = h.apart; kept = h.kept; truly = h.truly; filed = h.filed }

  pub told_advances : (call : Call) (b : Merging) → Advances call (record a { handed_in = told }) b → Advances call a b
  told_advances call b h = record {
    taken = h.taken;
    own = h.own;
    takes = record {
      low = h.takes.low;
      run = h.takes.run;
      filed = h.takes.filed;
      owners = h.takes.owners;
      led = h.takes.led;
      stays = h.takes.stays;
      due = h.takes.due;
      shares = h.takes.shares;
      identified = h.takes.identified;
      plain = h.takes.plain;
      known = λ all. let only = h.takes.known all in record { grows = only.grows; shared = only.shared; noted = only.noted };
      accounts = λ at trial all by. h.takes.accounts at trial all (near_none at (record a { handed_in = told }));
      holds = h.takes.holds;
    };
    same = h.same;
    on = h.on;
    import = h.import;
    stands = h.stands;
    covered = h.covered;
    fits = h.fits;
    existing = h.existing;
    alone = h.alone;
    alone_tree = h.alone_tree;
    kept = h.kept;
    unstopped = h.unstopped;
    greatest = h.greatest;
    placed = h.placed;
    accounts = h.accounts;
  }

-- no import where there is none of which to ask
pub import_none : (o : Option ImportContent) → option_map (λ (i : ImportContent). i.1) o ≡ None → o ≡ None
import_none None h = refl
import_none (Some i) h = absurd (let no : Some i.1 ≡ None = h in cc)

-- what an accepted call gives of each
pub ok_each : {X T E : Type 0} (r : Result T E) (P Q : X → Type 0) → ((x : X) → P x → OnOk r (Q x)) → IfOk r (λ u. (x : X) → P x → Q x)
ok_each (Ok u) P Q h = h
ok_each (Err e) P Q h = tt

-- once two are met, and then the import is noted
module _ (a m b : Merging) (first : m ≡ record a { types = m.types }) (then : b ≡ record m { imports = b.imports }) where
  same_types : b.types ≡ m.types
  same_types = ap (λ (x : Merging). x.types) then

  same_imports : m.imports ≡ a.imports
  same_imports = ap (λ (x : Merging). x.imports) first

  pub still_found : (c : Class) → IsSome (import_of a.imports c) → IsSome (import_of m.imports c)
  still_found c h = subst (λ (is : ImportsContent). IsSome (import_of is c)) (sym same_imports) h

  same_rest : b ≡ record a { types = b.types; imports = b.imports }
  same_rest = then ∙ ap (λ (x : Merging). record x { imports = b.imports }) first ∙ ap (λ (t : Collection). record a { types = t; imports = b.imports }) (sym same_types)

  pub is_merged : (name : Text) (existing own met : ItemKind) → IsOwnMeet a.types m.types existing own met → ((i : ImportContent) → import_of m.imports (class_of name) ≡ Some i → IsImportNoted m.imports b.imports (class_of name) i.0 name met) → IsMerged a b name existing own
  is_merged name existing own met h leaves = record {
    same = same_rest;
    import = met;
    met = subst (λ (t : Collection). IsOwnMeet a.types t existing own met) (sym same_types) h;
    noted = subst (λ (is : ImportsContent). (i : ImportContent) → import_of is (class_of name) ≡ Some i → IsImportNoted is b.imports (class_of name) i.0 name met) same_imports leaves;
  }
