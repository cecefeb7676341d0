use Rattle.std.proofs.Common.{◌≡◌, [], Option, Some, None, String, Global, Bool, true, false, not, string_bytes, refl, ap, sym, ◌∙◌}
use Rattle.std.proofs.lemmas.Slice.Eq.{bytes_eq-Decides}
use Rattle.std.specs.Option.{option_eq, option_map}
use Rattle.std.specs.Str.{bytes_eq}
use Rattle.std.specs.String.{string_eq}
use Rattle.wac_component.specs.Content.{use_content}
use Rattle.wac_component.proofs.Among.{Contains-first}
use Rattle.wac_aggregator_uses.specs.Differ.{of_names}
use Rattle.wac_aggregator_uses.proofs.uses.check_use.Goals as goal

-- names that aren't equal show other texts
names_apart : (a b : Option (String Global)) → not (option_eq string_eq a b) ≡ true → option_map string_bytes a ≡ option_map string_bytes b → ⊥
names_apart None None h same = cc
names_apart None (Some y) h same = cc
names_apart (Some x) None h same = cc
names_apart (Some x) (Some y) h same =
    let texts : string_bytes x ≡ string_bytes y = cc in
    let equal : bytes_eq (string_bytes x) (string_bytes y) ≡ true = (bytes_eq-Decides (string_bytes x) (string_bytes y)).1 texts in
    cc

-- names that are equal show the same texts
names_same : (a b : Option (String Global)) → not (option_eq string_eq a b) ≡ false → option_map string_bytes a ≡ option_map string_bytes b
names_same None None h = refl
names_same None (Some y) h = absurd (cc)
names_same (Some x) None h = absurd (cc)
names_same (Some x) (Some y) h = by (bytes_eq (string_bytes x) (string_bytes y)) refl h
  where
    by : (b : Bool) → bytes_eq (string_bytes x) (string_bytes y) ≡ b → not b ≡ false → Some (string_bytes x) ≡ Some (string_bytes y)
    by true e k = ap (λ t. Some t) ((bytes_eq-Decides (string_bytes x) (string_bytes y)).0 e)
    by false e k = absurd (cc)

pub returns-then-ne : goal.returns-then-ne
returns-then-ne c ne =
    of_names (string_bytes c.args.name.now) (use_content c.args.existing.now) (use_content c.args.new.now) (Contains-first _ []) (Contains-first _ []) (λ same. names_apart c.args.existing.now.name c.args.new.now.name (sym c.ne.ensures ∙ c.if-ne.true) same) c.in_ok-used_name.ensures

pub returns : goal.returns
returns c = record { tracks = c.in_ok-check_tracks.ensures; names = names_same c.args.existing.now.name c.args.new.now.name (sym c.ne.ensures ∙ c.if-ne.false) }
