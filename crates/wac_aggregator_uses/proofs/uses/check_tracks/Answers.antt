use Rattle.std.proofs.Common.{◌≡◌, [], Option, Some, None, String, Global, string_bytes, ap, sym, ◌∙◌}
use Rattle.std.specs.Option.{option_and_then, option_map}
use Rattle.wac_model.specs.Text.{Text}
use Rattle.wac_component.specs.Collection.{InterfaceContent}
use Rattle.wac_component.specs.Content.{use_content}
use Rattle.wac_component.proofs.Among.{Contains-first}
use Rattle.wac_names.specs.Class.{class_of}
use Rattle.wac_names.proofs.Classes.{classes_tell}
use Rattle.wac_aggregator_uses.specs.Differ.{of_interfaces}
use Rattle.wac_aggregator_uses.proofs.uses.check_tracks.Goals as goal

-- an identifier that is there is what is read
read : (o : Option (String Global)) (x : String Global) (t : Option Text) (m : Text) → o ≡ Some x → t ≡ option_map string_bytes o → t ≡ Some m → m ≡ string_bytes x
read o x t m is at told = let both : Some m ≡ Some (string_bytes x) = sym told ∙ at ∙ ap (option_map string_bytes) is in cc

-- one that isn't there isn't
not_read : (o : Option (String Global)) (t : Option Text) (m : Text) → o ≡ None → t ≡ option_map string_bytes o → t ≡ Some m → ⊥
not_read o t m none at told = let both : Some m ≡ None = sym told ∙ at ∙ ap (option_map string_bytes) none in cc

pub returns-in_default : goal.returns-in_default
returns-in_default c m n first second = absurd (not_read c.index.result.now.id _ m c.in_default.is (ap (option_and_then (λ (x : InterfaceContent). x.id)) c.index.ensures.entry) first)

pub returns-in_default-id : goal.returns-in_default-id
returns-in_default-id c m n first second = absurd (not_read c.index-2.result.now.id _ n c.in_default-id.is (ap (option_and_then (λ (x : InterfaceContent). x.id)) c.index-2.ensures.entry) second)

pub returns-then-branch : goal.returns-then-branch
returns-then-branch c m n first second =
    let expected = read c.index.result.now.id c.in-Some.expected _ m c.in-Some.is (ap (option_and_then (λ (x : InterfaceContent). x.id)) c.index.ensures.entry) first in
    let found = read c.index-2.result.now.id c.in-Some-id.found _ n c.in-Some-id.is (ap (option_and_then (λ (x : InterfaceContent). x.id)) c.index-2.ensures.entry) second in
    ap class_of expected ∙ sym (ap class_of c.as_str.ensures.value) ∙ (classes_tell _ _).0 (c.in_ok-are_semver_compatible.ensures.answer.0 c.if-branch.true) ∙ ap class_of c.as_str-2.ensures.value ∙ sym (ap class_of found)

pub returns : goal.returns
returns c ne =
    let expected = string_bytes c.in-Some.expected in
    let found = string_bytes c.in-Some-id.found in
    of_interfaces (string_bytes c.args.name.now) expected found (use_content c.args.existing.now) (use_content c.args.new.now) (Contains-first _ []) (Contains-first _ [])
    (ap (option_and_then (λ (x : InterfaceContent). x.id)) c.index.ensures.entry ∙ ap (option_map string_bytes) c.in-Some.is)
    (ap (option_and_then (λ (x : InterfaceContent). x.id)) c.index-2.ensures.entry ∙ ap (option_map string_bytes) c.in-Some-id.is)
    (λ same. let told = c.in_ok-are_semver_compatible.ensures.answer.1 ((classes_tell _ _).1 (ap class_of c.as_str.ensures.value ∙ same ∙ sym (ap class_of c.as_str-2.ensures.value))) in let not_told = c.if-branch.false in cc) c.in_ok-used_interface.ensures
