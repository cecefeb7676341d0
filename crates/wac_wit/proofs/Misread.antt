-- Files whose texts aren't WIT.
use Rattle.std.proofs.Common.{◌≡◌, ℕ, List, ◌∷◌, ◌++◌, [], Contains, Some, inl, inr, string_bytes, subst}
use Rattle.std.specs.Prelude.{slice_get}
use Rattle.std.proofs.lemmas.List.Elements.{All-head, All-tail, Contains-push_cases}
use Rattle.std.proofs.lemmas.Option.{same_Some}
use Rattle.wac_wit_names.specs.declared.error.WitRefusal.{WitRefusal}
use Rattle.wac_wit_names.specs.declared.features.Features.{Features}
use Rattle.wac_wit_names.specs.declared.reason.Reason.{Reason}
use Rattle.wac_wit_names.specs.declared.reason.Reason.TheVariants.{Syntax}
use Rattle.wac_wit_names.specs.declared.sources.SourceFile.{SourceFile}
use Rattle.wac_wit_refusals.specs.Reasons.{AllRefusedFor, IsReasonIn, IsRefusedFor, of_text}
use Rattle.wac_wit_syntax.specs.Documents.{IsShallowText, Says}
use Rattle.wac_wit_syntax.specs.Faults.{ArePlacesIn, IsPlaceIn, LiesIn}
use Rattle.wac_wit_syntax.specs.declared.error.Refusal.{Refusal}
use Rattle.wac_wit_syntax.specs.declared.error.SyntaxError.{SyntaxError}
use Rattle.wac_wit_syntax.specs.declared.error.SyntaxError.TheVariants.{Memory, Refused}
use Rattle.wac_wit_syntax.specs.declared.tree.Document.{Document}
use Rattle.wac_wit.specs.Reading.{AreMisread, IsMisread}

-- what the parser refuses has no document
pub misread_of : (files : List SourceFile) (i : ℕ) (f : SourceFile) (e : SyntaxError) → slice_get files i ≡ Some f → ((d : Document) → Says (string_bytes f.text) d → IsShallowText (string_bytes f.text) → e ≡ Memory) → LiesIn (string_bytes f.text) e → IsMisread files i e
misread_of files i f (Refused rs) at complete places = record { is = f; at = at; wrong = λ d says shallow. let no = complete d says shallow in absurd (cc); places = places }
misread_of files i f Memory at complete places = tt

module _ (files : List SourceFile) (i : ℕ) where
  -- what is refused behind the first
  pub misread_next : (ys : List Refusal) (r : Refusal) (rs : List Refusal) → ys ≡ r ∷ rs → AreMisread files i ys → AreMisread files i rs
  misread_next ys r rs is h =
      let places : ArePlacesIn (string_bytes h.is.text) (r ∷ rs) = subst (ArePlacesIn (string_bytes h.is.text)) is h.places in
      record { is = h.is; at = h.at; wrong = h.wrong; places = All-tail (λ (x : Refusal). IsPlaceIn (string_bytes h.is.text) x.span) r rs places }

  -- what is refused first
  first_refused : (features : Features) (ys : List Refusal) (r : Refusal) (rs : List Refusal) → ys ≡ r ∷ rs → AreMisread files i ys → IsRefusedFor files features (record { file = i; refusal = r; reason = Some Syntax })
  first_refused features ys r rs is h x same =
      let places : ArePlacesIn (string_bytes h.is.text) (r ∷ rs) = subst (ArePlacesIn (string_bytes h.is.text)) is h.places in
      subst (λ (y : Reason). IsReasonIn files features (record { file = i; refusal = r; reason = Some Syntax }) y) (same_Some _ _ same) (of_text h.is h.at h.wrong (All-head (λ (x : Refusal). IsPlaceIn (string_bytes h.is.text) x.span) r rs places))

  pub refused_push : (features : Features) (old new : List WitRefusal) (ys : List Refusal) (r : Refusal) (rs : List Refusal) → new ≡ old ++ record { file = i; refusal = r; reason = Some Syntax } ∷ [] → ys ≡ r ∷ rs → AreMisread files i ys → AllRefusedFor files features old → AllRefusedFor files features new
  refused_push features old new ys r rs pushed is misread all q among = elim (Contains-push_cases old _ q (subst (λ (l : List WitRefusal). Contains l q) pushed among)) [
    | inl h ↦ all q h
    | inr e ↦ subst (IsRefusedFor files features) e (first_refused features ys r rs is misread)
  ]
