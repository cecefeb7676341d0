-- Whole texts, step by step.
use Rattle.std.proofs.Common.{◌≡◌, ℕ, ◌≤◌, List, [], ◌∷◌, None, length, drop, chars, true, refl, sym, ap, ◌∙◌}
use Rattle.std.proofs.lemmas.List.{drop_all}
use Rattle.wac_wit_syntax.specs.Characters.{none_refused}
use Rattle.wac_wit_syntax.specs.Parts.{IsCut, IsRead, Part, first_place, spelled, tokens_of}
use Rattle.wac_wit_syntax.specs.Steps.{IsStep, LeadsBack, tokens_with}
use Rattle.wac_wit_syntax.specs.declared.error.Refusal.{Refusal}
use Rattle.wac_wit_syntax.specs.declared.lexer.Cutter.{Cutter}
use Rattle.wac_wit_syntax.specs.declared.token.Token.{Token}
use Rattle.wac_wit_syntax.proofs.Cutting.{some_part}

-- whatever the rest is cut into, the text is cut into parts with the same tokens
abbrev pub Precedes : List ℕ → Cutter → Type 0
Precedes text d = (ps : List Part) → IsCut ps (drop d.at text) → (qs : List Part) × IsCut qs (drop (first_place text) text) × (tokens_of (first_place text) None qs ≡ tokens_with d ps)

-- whatever the text is cut into, the rest is cut into parts with the same tokens, and nothing is refused
abbrev pub Follows : List ℕ → Cutter → List Refusal → List Refusal → Type 0
Follows text d before after = (qs : List Part) → IsCut qs (drop (first_place text) text) → (after ≡ before) × ((ps : List Part) × IsCut ps (drop d.at text) × (tokens_of (first_place text) None qs ≡ tokens_with d ps))

pub precedes_more : (text : List ℕ) (c d : Cutter) → Precedes text c → LeadsBack text c d → Precedes text d
precedes_more text c d f g ps h = let q = g ps h in let r = f q.0 q.1 in (r.0, r.1, r.2 ∙ q.2)

pub follows_more : (text : List ℕ) (c d : Cutter) (first before after : List Refusal) → Follows text c first before → IsStep text c d before after → Follows text d first after
follows_more text c d first before after f s qs h =
    let p = f qs h in
    let q = s.on p.1.0 p.1.1 in
    let r = q.1 p.1.0 p.1.1 in
    (q.0 ∙ p.0, (r.0, r.1, p.1.2 ∙ r.2))

-- at the end the tokens are those of the text
pub read_at_end : (text : List ℕ) (d : Cutter) (tokens : List Token) → none_refused (chars text) ≡ true → length text ≤ d.at → Precedes text d → tokens ≡ tokens_with d [] → IsRead text tokens
read_at_end text d tokens shown ends back tokens_are =
    let nothing : spelled [] ≡ drop d.at text = sym (drop_all d.at text ends) in
    let r = back [] (nothing, tt) in
    record { shown = shown; parts = r.0; cut = r.1; tokens_are = tokens_are ∙ sym r.2 }

none_left : (ps : List Part) → IsCut ps [] → ps ≡ []
none_left [] h = refl
none_left (p ∷ ps) h = absurd (some_part p.sort p.text (spelled ps) h.1.0 h.0)

pub complete_at_end : (text : List ℕ) (d : Cutter) (tokens all : List Token) (before after : List Refusal) → length text ≤ d.at → Follows text d before after → tokens ≡ tokens_with d [] → IsRead text all → (tokens ≡ all) × (after ≡ before)
complete_at_end text d tokens all before after ends on tokens_are r =
    let p = on r.parts r.cut in
    let left : p.1.0 ≡ [] = none_left p.1.0 (p.1.1.0 ∙ drop_all d.at text ends, p.1.1.1) in
    (tokens_are ∙ ap (tokens_with d) (sym left) ∙ sym p.1.2 ∙ sym r.tokens_are, p.0)

-- before the end something is left
pub refusals_stay : (text : List ℕ) (d : Cutter) (all : List Token) (before after : List Refusal) → Follows text d before after → IsRead text all → after ≡ before
refusals_stay text d all before after on r = (on r.parts r.cut).0
