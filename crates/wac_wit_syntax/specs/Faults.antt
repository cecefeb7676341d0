-- Where a text is refused.
use Rattle.std.specs.Prelude.{◌≡◌, ◌⊎◌, ℕ, ◌≤◌, true, List, ◌∷◌, ◌++◌, All, drop, length, ⊤}
use Rattle.std.specs.Str.{IsCharBoundary, chars, encode_utf8_all}
use Rattle.wac_model.specs.Text.{Text}
use Rattle.wac_wit_syntax.specs.Characters.{is_refused_before}
use Rattle.wac_wit_syntax.specs.Parts.{HasNoPart}
use Rattle.wac_wit_syntax.specs.declared.error.Refusal.{Refusal}
use Rattle.wac_wit_syntax.specs.declared.error.SyntaxError.{SyntaxError}
use Rattle.wac_wit_syntax.specs.declared.error.SyntaxError.TheVariants.{Memory, Refused}
use Rattle.wac_wit_syntax.specs.declared.positions.Span.{Span}

-- a character that is refused begins at the place
pub record HasRefusedAt (text : Text) (at : ℕ) : Type 0 where
  pub front : List ℕ
  pub refused : ℕ
  pub behind : List ℕ
  pub text_is : chars text ≡ front ++ refused ∷ behind
  pub place : at ≡ length (encode_utf8_all front)
  pub why : is_refused_before refused behind ≡ true

-- the place lies in the text, and a character that is refused begins there, or no part does
pub record IsFault (text : Text) (span : Span) : Type 0 where
  pub ordered : span.start ≤ span.end
  pub within : span.end ≤ length text
  pub why : HasRefusedAt text span.start ⊎ HasNoPart (drop span.start text)

-- so are all the places of these refusals
abbrev pub AreFaults : Text → List Refusal → Type 0
AreFaults text refusals = All (λ (r : Refusal). IsFault text r.span) refusals

-- the place lies in the text, and no character lies partly in it
pub record IsPlaceIn (text : Text) (span : Span) : Type 0 where
  pub ordered : span.start ≤ span.end
  pub begins : IsCharBoundary text span.start
  pub ends : IsCharBoundary text span.end

-- so do all the places of these refusals
abbrev pub ArePlacesIn : Text → List Refusal → Type 0
ArePlacesIn text refusals = All (λ (r : Refusal). IsPlaceIn text r.span) refusals

-- each place that the error names lies in the text
abbrev pub LiesIn : Text → SyntaxError → Type 0
LiesIn text (Refused refusals) = ArePlacesIn text refusals.items
LiesIn text Memory = ⊤
