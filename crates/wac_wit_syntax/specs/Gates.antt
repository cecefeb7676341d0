-- Documentation and attributes (WIT.md, "Feature Gates").
use Rattle.std.specs.Prelude.{◌≡◌, ◌⊎◌, ℕ, Bool, true, false, codes, Option, Some, None}
use Rattle.wac_model.specs.Text.{Text}
use Rattle.wac_wit_syntax.specs.Paths.{IsVersion}
use Rattle.wac_wit_syntax.specs.Productions.{◌▸◌, IsKind, IsName, IsWord, Production, Source, token_at}
use Rattle.wac_wit_syntax.specs.declared.token.TokenKind.TheVariants.{At, CloseParen, Equals, OpenParen}
use Rattle.wac_wit_syntax.specs.declared.tree.Gate.{Gate}
use Rattle.wac_wit_syntax.specs.declared.tree.Gates.{Gates}

-- version-field ::= 'version' '=' <valid semver>
-- feature-field ::= 'feature' '=' id
abbrev pub IsGateField : Bool → Gate → Production
IsGateField false version = IsWord (codes "version") ▸ IsKind Equals ▸ IsVersion version
IsGateField true feature = IsWord (codes "feature") ▸ IsKind Equals ▸ IsName (record { name = feature.text; span = feature.span })

-- since-gate ::= '@since' '(' version-field ')', deprecated-gate ::= '@deprecated' '(' version-field ')'
-- unstable-gate ::= '@unstable' '(' feature-field ')'
abbrev pub IsGate : Text → Bool → Gate → Production
IsGate word is_feature gate = IsKind At ▸ IsWord word ▸ IsKind OpenParen ▸ IsGateField is_feature gate ▸ IsKind CloseParen

-- gate ::= gate-item*, each of them once at most: `@since`, `@unstable`, `@deprecated`
pub data AreGates (s : Source) : Option Gate → Option Gate → Option Gate → ℕ → ℕ → Type 0 where
  none : {i : ℕ} → AreGates s None None None i i
  since : {gate : Gate} {u d : Option Gate} {i k j : ℕ} → AreGates s None u d i k → IsGate (codes "since") false gate s k j → AreGates s (Some gate) u d i j
  unstable : {gate : Gate} {n d : Option Gate} {i k j : ℕ} → AreGates s n None d i k → IsGate (codes "unstable") true gate s k j → AreGates s n (Some gate) d i j
  deprecated : {gate : Gate} {n u : Option Gate} {i k j : ℕ} → AreGates s n u None i k → IsGate (codes "deprecated") false gate s k j → AreGates s n u (Some gate) i j

-- the attributes that were read so far
abbrev pub AreGatesOf : Gates → Production
AreGatesOf g = λ s i j. AreGates s g.since g.unstable g.deprecated i j

-- the attributes of an item, and the documentation before its first token; `@since` doesn't stand beside `@unstable`
abbrev pub AreExclusive : Gates → Type 0
AreExclusive g = (g.since ≡ None) ⊎ (g.unstable ≡ None)

abbrev pub IsGates : Gates → Production
IsGates g = λ s i j. AreGates s g.since g.unstable g.deprecated i j × (g.docs ≡ (token_at s i).docs) × AreExclusive g
