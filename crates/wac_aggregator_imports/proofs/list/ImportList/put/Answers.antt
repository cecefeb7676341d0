use Rattle.std.proofs.Common.{ap, ◌∙◌, sym, refl, arith, string_bytes}
use Rattle.wac_aggregator_imports.proofs.Places.{list-over, lookup-imports_in, insert_entry-absent, ArePlacesKept-over, PutsImport-over, within}
use Rattle.std.specs.Option.{option_and_then}
use Rattle.std.proofs.lemmas.Result.{on_ok_weaker}
use Rattle.wac_aggregator_imports.specs.Import.{ImportsContent, import_of}
use Rattle.wac_aggregator_imports.specs.Places.{import_in}
use Rattle.wac_aggregator_imports.proofs.list.ImportList.put.Goals as goal

pub index_mut-requires : goal.index_mut-requires
index_mut-requires c =
    let l = within _ _ c.self.invariant.0 c.args.class c.in-Some.place.now (sym c.in-Some.ensures.value) in
    omega (arith, l, c.self.inside.places.ok.0)

pub put_last-requires-clause-new : goal.put_last-requires-clause-new
put_last-requires-clause-new c =
    ap (λ (s : ImportsContent). import_of s c.args.class) (sym c.self.view_is) ∙ lookup-imports_in _ _ c.self.invariant.0 c.args.class
    ∙ ap (option_and_then (import_in c.self.inside.places.items)) (sym c.in_default.ensures.value)

pub invariant_of-self : goal.invariant_of-self
invariant_of-self c = ArePlacesKept-over _ _ _ _ c.args.class (string_bytes c.args.name, c.args.kind) c.in-Some.place.now c.self.invariant (sym c.requires.of) (sym c.in-Some.ensures.value) refl

pub returns-clause-import : goal.returns-clause-import
returns-clause-import c = rw (← c.self.view_is) (PutsImport-over _ _ _ _ c.args.class (string_bytes c.args.name, c.args.kind) c.in-Some.place.now c.self.invariant (sym c.requires.of) (sym c.in-Some.ensures.value) refl)

pub returns-in_default-clause-order : goal.returns-in_default-clause-order
returns-in_default-clause-order c =
    let none = ap (λ (s : ImportsContent). import_of s c.args.class) (sym c.self.view_is) ∙ lookup-imports_in _ _ c.self.invariant.0 c.args.class
    ∙ ap (option_and_then (import_in c.self.inside.places.items)) (sym c.in_default.ensures.value) in
    on_ok_weaker c.put_last.result (λ last. last ∙ sym (insert_entry-absent c.args.self.now.list c.args.class (string_bytes c.args.name, c.args.kind) none)) c.put_last.ensures.order

pub returns-clause-order : goal.returns-clause-order
returns-clause-order c = rw (← c.self.view_is) (list-over _ _ _ _ c.args.class (string_bytes c.args.name, c.args.kind) c.in-Some.place.now c.self.invariant (sym c.requires.of) (sym c.in-Some.ensures.value) refl)
