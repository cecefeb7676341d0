use Rattle.std.proofs.Common.{◌≡◌, Some, None, IsSome, ap, sym, subst, ◌∙◌, string_bytes}
use Rattle.std.specs.Option.{is_some, option_map}
use Rattle.wac_component.specs.Content.{interface_content}
use Rattle.wac_component.specs.Entries.{identifier_at}
use Rattle.wac_component.specs.Key.{interface_key}
use Rattle.wac_component.proofs.CloneLemmas.{option_map-clone}
use Rattle.wac_names.specs.Class.{class_of}
use Rattle.wac_aggregator_imports.specs.Import.{ImportContent, import_of}
use Rattle.wac_aggregator_taking.specs.Takes.{state_of}
use Rattle.wac_aggregator_taking.proofs.TakeLemmas.{content_identifier, Takes-imported, Takes-imported_before, shared_stands, none_of}
use Rattle.wac_aggregator_taking.proofs.owners.import_owner.Goals as goal

pub index-requires : goal.index-requires
index-requires c = shared_stands (state_of c.args.state.now) c.requires.state (interface_key c.args.own) c.requires.shared

pub returns-in_default-clause-imported : goal.returns-in_default-clause-imported
returns-in_default-clause-imported c = λ f ks from n m may among leads named of.
    let none : identifier_at c.args.state.now.types (interface_key c.args.own) ≡ None =
    content_identifier c.args.state.now.types c.args.own (interface_content c.index.result.now) c.index.ensures.entry
    ∙ sym (option_map-clone string_bytes (λ v w same. same) c.index.result.now.id c.in_ok-name.field-0 c.in_ok-name.ensures.cases) ∙ ap (option_map string_bytes) c.in_default.is in
    absurd (let both : None ≡ Some m = sym none ∙ named in cc)

pub returns-then-is_some-clause-imported : goal.returns-then-is_some-clause-imported
returns-then-is_some-clause-imported c = λ f ks from n m may among leads named of.
    let is = c.args.state.now.imports in
    let identified = content_identifier c.args.state.now.types c.args.own (interface_content c.index.result.now) c.index.ensures.entry
    ∙ sym (option_map-clone string_bytes (λ v w same. same) c.index.result.now.id c.in_ok-name.field-0 c.in_ok-name.ensures.cases) ∙ ap (option_map string_bytes) c.in-Some.is in
    let same : string_bytes c.in-Some.name ≡ m = let both : Some (string_bytes c.in-Some.name) ≡ Some m = sym identified ∙ named in cc in
    let on : c.in_ok-class.class ≡ class_of n = c.in_ok-class.ensures ∙ ap class_of (c.as_str.ensures.value ∙ same) ∙ of in
    Takes-imported_before f c.args.state.now ks n
    (subst (λ q. IsSome (option_map (λ (i : ImportContent). i.1) (import_of is q))) on (ap is_some (sym c.kind_of.ensures) ∙ sym c.is_some.ensures ∙ c.if-is_some.true)) may

pub returns-clause-imported : goal.returns-clause-imported
returns-clause-imported c = λ f ks from n m may among leads named of.
    let identified = content_identifier c.args.state.now.types c.args.own (interface_content c.index.result.now) c.index.ensures.entry
    ∙ sym (option_map-clone string_bytes (λ v w same. same) c.index.result.now.id c.in_ok-name.field-0 c.in_ok-name.ensures.cases) ∙ ap (option_map string_bytes) c.in-Some.is in
    let same : string_bytes c.in-Some.name ≡ m = let both : Some (string_bytes c.in-Some.name) ≡ Some m = sym identified ∙ named in cc in
    let new = none_of (import_of c.args.state.now.imports c.in_ok-class.class) (ap is_some (sym c.kind_of.ensures) ∙ sym c.is_some.ensures ∙ c.if-is_some.false) in
    Takes-imported f c.args.state.now c.put.new.self c.in_ok-class.class (string_bytes c.in-Some.name) c.args.own c.in_ok-put.ensures.import c.in_ok-put.ensures.led new
    ks from n among leads (sym (c.in_ok-class.ensures ∙ ap class_of (c.as_str.ensures.value ∙ same) ∙ of)) (sym (c.in_ok-class.ensures ∙ ap class_of c.as_str.ensures.value)) c.requires.shared identified may
