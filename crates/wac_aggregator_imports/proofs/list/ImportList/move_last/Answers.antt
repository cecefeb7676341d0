use Rattle.std.proofs.Common.{◌≡◌, Some, IsSome, string_bytes, refl, sym, subst, ap, ◌∙◌}
use Rattle.wac_names.specs.Class.{class_of}
use Rattle.wac_aggregator_imports.specs.Import.{ImportContent, ImportsContent, import_of}
use Rattle.wac_aggregator_imports.proofs.Places.{is_lent, lent_place, import_there, ArePlacesKept-moved, PutsImport-moved, IsCleared-along}
use Rattle.wac_aggregator_imports.proofs.list.ImportList.move_last.Goals as goal

pub unwrap-place-requires : goal.unwrap-place-requires
unwrap-place-requires c =
    let found = subst (λ s. IsSome (import_of s c.args.class.now)) (sym c.self.view_is) c.requires.found in
    is_lent c.self.inside.places.items c.self.inside.by_class.entries c.self.invariant.0 c.args.class.now found c.get_mut.result c.get_mut.ensures.value

pub take_import-import-requires : goal.take_import-import-requires
take_import-import-requires c =
    let found = subst (λ s. IsSome (import_of s c.args.class.now)) (sym c.self.view_is) c.requires.found in
    let there = import_there c.self.inside.places.items c.self.inside.by_class.entries c.self.invariant.0 c.args.class.now found c.get_mut.result c.get_mut.ensures.value
    c.unwrap-place.result c.unwrap-place.ensures c.push.new.self.items c.in_ok-push.ensures.items in
    subst (λ o. IsSome o) (sym there) found

pub invariant_of-self-2 : goal.invariant_of-self-2
invariant_of-self-2 c =
    let found = subst (λ s. IsSome (import_of s c.args.class.now)) (sym c.self.view_is) c.requires.found in
    let place = lent_place c.self.inside.places.items c.self.inside.by_class.entries c.self.invariant.0 c.args.class.now found c.get_mut.result c.get_mut.ensures.value
    c.unwrap-place.result c.unwrap-place.ensures in
    ArePlacesKept-moved _ _ _ _ _ _ c.args.class.now (string_bytes c.args.name, c.args.kind) (Some c.unwrap-place.result.now) c.len-last.result
    c.self.invariant (sym c.requires.of) (c.len-last.ensures ∙ c.self.inside.places.ok.0) (sym place)
    (IsCleared-along (Some c.unwrap-place.result.now) _ _ c.take_import-import.new.places.items c.in_ok-push.ensures.items c.take_import-import.ensures.emptied) refl
    ((c.get_mut.follows.holds c.len-last.result).3 (subst (λ o. IsSome o) (sym place) refl)).0

pub returns-clause-import : goal.returns-clause-import
returns-clause-import c =
    let found = subst (λ s. IsSome (import_of s c.args.class.now)) (sym c.self.view_is) c.requires.found in
    let place = lent_place c.self.inside.places.items c.self.inside.by_class.entries c.self.invariant.0 c.args.class.now found c.get_mut.result c.get_mut.ensures.value
    c.unwrap-place.result c.unwrap-place.ensures in
    rw (← c.self.view_is) (PutsImport-moved _ _ _ _ _ _ c.args.class.now (string_bytes c.args.name, c.args.kind) (Some c.unwrap-place.result.now) c.len-last.result
    c.self.invariant (sym c.requires.of) (c.len-last.ensures ∙ c.self.inside.places.ok.0) (sym place)
    (IsCleared-along (Some c.unwrap-place.result.now) _ _ c.take_import-import.new.places.items c.in_ok-push.ensures.items c.take_import-import.ensures.emptied) refl
    ((c.get_mut.follows.holds c.len-last.result).3 (subst (λ o. IsSome o) (sym place) refl)).0)

pub returns-clause-was : goal.returns-clause-was
returns-clause-was c = λ i is.
    let found = subst (λ s. IsSome (import_of s c.args.class.now)) (sym c.self.view_is) c.requires.found in
    let there = import_there c.self.inside.places.items c.self.inside.by_class.entries c.self.invariant.0 c.args.class.now found c.get_mut.result c.get_mut.ensures.value
    c.unwrap-place.result c.unwrap-place.ensures c.push.new.self.items c.in_ok-push.ensures.items in
    let both : Some c.take_import-import.result ≡ Some i = sym c.take_import-import.ensures.import ∙ there ∙ ap (λ (s : ImportsContent). import_of s c.args.class.now) c.self.view_is ∙ is in
    let same : c.take_import-import.result ≡ i = cc in
    ap (λ (e : ImportContent). e.0) (c.import.view_is ∙ same)

pub returns-clause-class : goal.returns-clause-class
returns-clause-class c =
    let found = subst (λ s. IsSome (import_of s c.args.class.now)) (sym c.self.view_is) c.requires.found in
    let there = import_there c.self.inside.places.items c.self.inside.by_class.entries c.self.invariant.0 c.args.class.now found c.get_mut.result c.get_mut.ensures.value
    c.unwrap-place.result c.unwrap-place.ensures c.push.new.self.items c.in_ok-push.ensures.items in
    let of = c.self.invariant.1.imports c.args.class.now c.take_import-import.result (sym there ∙ c.take_import-import.ensures.import) in
    sym of ∙ ap (λ (e : ImportContent). class_of e.0) (sym c.import.view_is)
