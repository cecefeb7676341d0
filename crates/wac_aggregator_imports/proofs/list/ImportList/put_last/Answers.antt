use Rattle.std.proofs.Common.{None, sym, refl, ap, ◌∙◌, string_bytes}
use Rattle.wac_aggregator_imports.specs.Import.{ImportsContent, import_of}
use Rattle.wac_aggregator_imports.proofs.Places.{ArePlacesKept-push, ArePlacesKept-moved, PutsImport-moved, list-moved, unplaced}
use Rattle.wac_aggregator_imports.proofs.list.ImportList.put_last.Goals as goal

pub invariant_of-self-in_err-insert : goal.invariant_of-self-in_err-insert
invariant_of-self-in_err-insert c = ArePlacesKept-push _ _ _ _ _ c.self.invariant c.in_ok-push.ensures.items c.in_err-insert.ensures.err

pub invariant_of-self-2 : goal.invariant_of-self-2
invariant_of-self-2 c =
    let none = ap (λ (s : ImportsContent). import_of s c.args.class) c.self.view_is ∙ c.requires.new in
    ArePlacesKept-moved _ c.push.new.self.items _ _ _ _ c.args.class (string_bytes c.args.name, c.args.kind) None c.len-last.result
    c.self.invariant (sym c.requires.of) (c.len-last.ensures ∙ c.self.inside.places.ok.0) (sym (unplaced c.self.inside.places.items c.self.inside.by_class.entries c.self.invariant.0 c.args.class none))
    c.in_ok-push.ensures.items refl c.in_ok-insert.ensures.updates.0

pub returns-clause-import : goal.returns-clause-import
returns-clause-import c =
    let none = ap (λ (s : ImportsContent). import_of s c.args.class) c.self.view_is ∙ c.requires.new in
    rw (← c.self.view_is) (PutsImport-moved _ c.push.new.self.items _ _ _ _ c.args.class (string_bytes c.args.name, c.args.kind) None c.len-last.result
    c.self.invariant (sym c.requires.of) (c.len-last.ensures ∙ c.self.inside.places.ok.0) (sym (unplaced c.self.inside.places.items c.self.inside.by_class.entries c.self.invariant.0 c.args.class none))
    c.in_ok-push.ensures.items refl c.in_ok-insert.ensures.updates.0)

pub returns-clause-order : goal.returns-clause-order
returns-clause-order c =
    let none = ap (λ (s : ImportsContent). import_of s c.args.class) c.self.view_is ∙ c.requires.new in
    rw (← c.self.view_is) (list-moved _ c.push.new.self.items _ _ _ _ c.args.class (string_bytes c.args.name, c.args.kind) None c.len-last.result
    c.self.invariant (sym c.requires.of) (c.len-last.ensures ∙ c.self.inside.places.ok.0) (sym (unplaced c.self.inside.places.items c.self.inside.by_class.entries c.self.invariant.0 c.args.class none))
    c.in_ok-push.ensures.items refl c.in_ok-insert.ensures.updates.0 none)
