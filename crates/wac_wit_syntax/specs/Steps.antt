-- What a step of the lexer does, whatever stands behind it.
use Rattle.std.specs.Prelude.{◌≡◌, ◌⊎◌, ◌<◌, ◌≤◌, List, ◌++◌, Contains, drop, length}
use Rattle.wac_model.specs.Text.{Text}
use Rattle.wac_wit_syntax.specs.Parts.{IsCut, Part, tokens_of}
use Rattle.wac_wit_syntax.specs.declared.error.Refusal.{Refusal}
use Rattle.wac_wit_syntax.specs.declared.lexer.Cutter.{Cutter}
use Rattle.wac_wit_syntax.specs.declared.positions.Span.{Span}
use Rattle.wac_wit_syntax.specs.declared.token.Token.{Token}

-- the tokens of a text of which so much is cut, where these parts follow
abbrev pub tokens_with : Cutter → List Part → List Token
tokens_with c ps = c.found.items ++ tokens_of c.at c.docs ps

-- whatever the rest is cut into, what stood before the step is cut into parts with the same tokens
abbrev pub LeadsBack : Text → Cutter → Cutter → Type 0
LeadsBack text c d = (ps : List Part) → IsCut ps (drop d.at text) → (qs : List Part) × IsCut qs (drop c.at text) × (tokens_with c qs ≡ tokens_with d ps)

-- whatever stood before the step is cut into, the rest is cut into parts with the same tokens
abbrev pub LeadsOn : Text → Cutter → Cutter → Type 0
LeadsOn text c d = (qs : List Part) → IsCut qs (drop c.at text) → (ps : List Part) × IsCut ps (drop d.at text) × (tokens_with c qs ≡ tokens_with d ps)

-- A step takes a byte at least. Unless something is refused it leads back; and if what stood before it
-- is cut into parts, it leads on, and nothing is refused.
pub record IsStep (text : Text) (c d : Cutter) (before after : List Refusal) : Type 0 where
  pub begins : c.at < d.at
  pub within : d.at ≤ length text
  pub kept : length after ≡ 0 → length before ≡ 0
  pub back : length after ≡ 0 → LeadsBack text c d
  pub on : (qs : List Part) → IsCut qs (drop c.at text) → (after ≡ before) × LeadsOn text c d

-- a call that may refuse what stands at a place adds that refusal at most
abbrev pub AddsOnly : Span → List Refusal → List Refusal → Type 0
AddsOnly span before after = (r : Refusal) → Contains after r → Contains before r ⊎ (r.span ≡ span)
