use Rattle.wac_wit_validation.specs.declared.validator.FoundWorld.{FoundWorld}
use Rattle.std.proofs.Common.{◌≡◌, Contains, List, refl, subst}
use Rattle.wac_wit_validation_names.specs.Ambiguity.{GiveNamesOnce}
use Rattle.wac_wit_scopes.specs.Scopes.{HasScope, IsKnownScope}
use Rattle.wac_wit_validation_names.specs.Once.{ItemsGiveOnce}
use Rattle.wac_wit_scopes.specs.declared.scopes.ScopeItems.{ScopeItems}
use Rattle.wac_wit_validation_names.specs.declared.places.FoundInterface.{FoundInterface}
use Rattle.std.specs.Prelude.{slice_get, Some, ℕ, Vec}
use Rattle.std.specs.declared.alloc.Global.{Global}
use Rattle.wac_wit_names.specs.declared.features.Features.{Features}
use Rattle.wac_wit_scopes.specs.WitSources.{IsScopeOf, ScopeSyntax, sources_of}
use Rattle.wac_wit_validation_names.proofs.AmbiguityFacts.{own_identifiers, unambiguous}
use Rattle.wac_wit_validation.proofs.FoundFacts.{Contains-nothing}
use Rattle.wac_wit_validation_types.proofs.NameFacts.{some_told}
use Rattle.wac_wit_validation_names.proofs.OnceFacts.{all_inside, all_once}
use Rattle.wac_wit_validation_names.proofs.OneExport.{exports_stand_for_one}
use Rattle.wac_wit_validation_types.proofs.OneMeaning.{one_meaning}
use Rattle.wac_wit_validation.proofs.validator.Validator.new.Goals as goal

pub returns-clause-unambiguous : goal.returns-clause-unambiguous
returns-clause-unambiguous c =
    let sources = c.args.sources.now in
    let all = some_told c.in_ok-scopes.field-0 c.in-Some.scopes (λ (ws : Vec ScopeItems Global). (features : Features) (w : ScopeSyntax) → IsScopeOf (sources_of sources.files.now sources.documents.now features) w → HasScope ws.items w)
    c.in-Some.is c.in_ok-scopes.ensures.all sources.features in
    unambiguous (sources_of sources.files.now sources.documents.now sources.features) c.in-Some.scopes.items all (subst GiveNamesOnce c.deref.ensures.value (c.in_ok-give_names_once.ensures c.if-not-branch.false))

pub returns-clause-one_meaning : goal.returns-clause-one_meaning
returns-clause-one_meaning c =
    let sources = c.args.sources.now in
    let of = sources_of sources.files.now sources.documents.now sources.features in
    let all = some_told c.in_ok-scopes.field-0 c.in-Some.scopes (λ (ws : Vec ScopeItems Global). (features : Features) (w : ScopeSyntax) → IsScopeOf (sources_of sources.files.now sources.documents.now features) w → HasScope ws.items w)
    c.in-Some.is c.in_ok-scopes.ensures.all sources.features in
    let once = subst (λ (ws : List ScopeItems). (w : ScopeItems) → Contains ws w → ItemsGiveOnce sources.features w.items.now) c.deref-2.ensures.value (c.in_ok-all_give_once.ensures c.if-not-branch-2.false) in
    one_meaning of (returns-clause-unambiguous c) (all_once of sources.features c.in-Some.scopes.items (λ n. refl) all once)

pub returns-clause-one_tree : goal.returns-clause-one_tree
returns-clause-one_tree c =
    let sources = c.args.sources.now in
    let of = sources_of sources.files.now sources.documents.now sources.features in
    let all = some_told c.in_ok-scopes.field-0 c.in-Some.scopes (λ (ws : Vec ScopeItems Global). (features : Features) (w : ScopeSyntax) → IsScopeOf (sources_of sources.files.now sources.documents.now features) w → HasScope ws.items w)
    c.in-Some.is c.in_ok-scopes.ensures.all sources.features in
    let once = subst (λ (ws : List ScopeItems). (w : ScopeItems) → Contains ws w → ItemsGiveOnce sources.features w.items.now) c.deref-2.ensures.value (c.in_ok-all_give_once.ensures c.if-not-branch-2.false) in
    exports_stand_for_one of (returns-clause-unambiguous c) (all_once of sources.features c.in-Some.scopes.items (λ n. refl) all once) (all_inside of sources.features c.in-Some.scopes.items (λ n. refl) all once)

pub returns-clause-knows : goal.returns-clause-knows
returns-clause-knows c =
    let sources = c.args.sources.now in
    let of = sources_of sources.files.now sources.documents.now sources.features in
    let all = some_told c.in_ok-scopes.field-0 c.in-Some.scopes (λ (ws : Vec ScopeItems Global). (features : Features) (w : ScopeSyntax) → IsScopeOf (sources_of sources.files.now sources.documents.now features) w → HasScope ws.items w)
    c.in-Some.is c.in_ok-scopes.ensures.all sources.features in
    let once = subst (λ (ws : List ScopeItems). (w : ScopeItems) → Contains ws w → ItemsGiveOnce sources.features w.items.now) c.deref-2.ensures.value (c.in_ok-all_give_once.ensures c.if-not-branch-2.false) in
    record {
      interfaces = record {
        features = λ n. refl;
        scopes = some_told c.in_ok-scopes.field-0 c.in-Some.scopes (λ (ws : Vec ScopeItems Global). (features : Features) (i : ℕ) (w : ScopeItems) → slice_get ws.items i ≡ Some w → IsKnownScope (sources_of c.args.sources.now.files.now c.args.sources.now.documents.now features) w)
            c.in-Some.is c.in_ok-scopes.ensures.known c.args.sources.now.features;
        all_scopes = all;
        found = λ f among. Contains-nothing f (subst (λ (l : List FoundInterface). Contains l f) c.new.ensures.items among);
        unambiguous = returns-clause-unambiguous c;
        one_meaning = returns-clause-one_meaning c;
        given_once = all_once of sources.features c.in-Some.scopes.items (λ n. refl) all once;
        one_item = returns-clause-one_tree c;
        identified = own_identifiers of c.in-Some.scopes.items all (subst GiveNamesOnce c.deref.ensures.value (c.in_ok-give_names_once.ensures c.if-not-branch.false));
      };
      worlds = λ f among. Contains-nothing f (subst (λ (l : List FoundWorld). Contains l f) c.new-6.ensures.items among);
    }
