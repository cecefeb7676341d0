use Rattle.std.proofs.Common.{◌≡◌, ◌≢◌, inl, inr, Some, true, false, string_bytes, subst, ap, sym, ◌∙◌}
use Rattle.std.proofs.lemmas.Result.{on_ok_weaker}
use Rattle.std.specs.Cmp.Lexicographic.{bytes_decides}
use Rattle.std.specs.Option.{option_copied}
use Rattle.std.specs.Str.{bytes_eq}
use Rattle.wac_model.specs.Text.{Text}
use Rattle.wac_names.specs.Class.{class_of}
use Rattle.wac_names.specs.Track.{SameKey}
use Rattle.wac_names.proofs.Classes.{classes_tell}
use Rattle.wac_aggregator_imports.specs.Import.{ImportContent, IsNewerBy, raises}
use Rattle.wac_aggregator_imports.proofs.Filed.{on_both}
use Rattle.wac_aggregator_imports.proofs.list.ImportList.note.Goals as goal

-- two names of one class stand on one track
one_track : (a b : Text) → class_of a ≡ class_of b → a ≢ b → SameKey a b
one_track a b same apart = elim ((classes_tell a b).1 same) [
  | inl e ↦ absurd (apart e)
  | inr s ↦ s
]

pub is_newer-requires : goal.is_newer-requires
is_newer-requires c =
    let of = c.get.ensures.filed.imports c.args.class c.unwrap-import.result.now (sym c.get.ensures.value ∙ ap option_copied c.unwrap-import.ensures) in
    let there : c.as_str-2.result.now ≡ c.unwrap-import.result.now.0 = c.as_str-2.ensures.value ∙ ap (λ (i : ImportContent). i.0) c.import.view_is in
    let differ : false ≡ bytes_eq (string_bytes c.args.name) (string_bytes c.import.inside.name) = c.if-eq.ensures in
    one_track c.as_str.result.now c.as_str-2.result.now (ap class_of c.as_str.ensures.value ∙ sym c.requires.of ∙ sym of ∙ ap class_of (sym there))
    (λ same. cc (differ, (bytes_decides (string_bytes c.args.name) (string_bytes c.import.inside.name)).1 (sym c.as_str.ensures.value ∙ same ∙ c.as_str-2.ensures.value)))

pub put-requires-2 : goal.put-requires-2
put-requires-2 c =
    let of = c.get.ensures.filed.imports c.args.class c.unwrap-import.result.now (sym c.get.ensures.value ∙ ap option_copied c.unwrap-import.ensures) in
    record { of = sym of ∙ ap class_of (sym (ap (λ (i : ImportContent). i.0) c.import.view_is) ∙ sym c.in_ok-was.ensures.cases) }

pub returns-then-branch : goal.returns-then-branch
returns-then-branch c = λ i is.
    let found : Some c.unwrap-import.result.now ≡ Some i = sym (ap option_copied c.unwrap-import.ensures) ∙ c.get.ensures.value ∙ is in
    let same : c.unwrap-import.result.now ≡ i = cc in
    let by_name = subst (λ n. IsNewerBy n c.as_str-2.result.now c.in_ok-is_newer.field-0) c.as_str.ensures.value c.in_ok-is_newer.ensures in
    let than_was = subst (λ n. IsNewerBy (string_bytes c.args.name) n c.in_ok-is_newer.field-0) (c.as_str-2.ensures.value ∙ ap (λ (e : ImportContent). e.0) (c.import.view_is ∙ same)) by_name in
    let newer : IsNewerBy (string_bytes c.args.name) i.0 true = subst (IsNewerBy (string_bytes c.args.name) i.0) c.if-branch.true than_was in
    on_ok_weaker c.raise.result (λ noted. raises newer noted.0 noted.1) (on_both _ _ c.raise.result c.raise.ensures.import (c.raise.ensures.led i is))
