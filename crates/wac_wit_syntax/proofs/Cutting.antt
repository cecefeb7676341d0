-- The lexer's steps, and the parts that a text is cut into.
use Rattle.std.proofs.Common.{◌≡◌, ℕ, ◌+◌, ◌-◌, ◌<◌, ◌≤◌, true, List, [], ◌∷◌, ◌++◌, None, length, take, drop, refl, sym, ap, ap₂, ◌∙◌, subst, inl, arith, append_assoc, if◌then◌else◌, append-nil, length-drop}
use Rattle.std.specs.List.{AllByRecursion}
use Rattle.std.proofs.lemmas.List.{drop-drop, take-append-drop, length-take-le}
use Rattle.wac_wit_syntax.specs.Bytes.{is_space}
use Rattle.wac_wit_syntax.specs.Parts.{IsCut, IsOfSort, Part, PartSort, docs_after, spelled, token, token_of, tokens_of, white, with_docs}
use Rattle.wac_wit_syntax.specs.Reading.{IsPieceAt}
use Rattle.wac_wit_syntax.specs.Steps.{IsStep, LeadsBack, LeadsOn, tokens_with}
use Rattle.wac_wit_syntax.specs.declared.error.Refusal.{Refusal}
use Rattle.wac_wit_syntax.specs.declared.lexer.Cutter.{Cutter}
use Rattle.wac_wit_syntax.specs.declared.lexer.Piece.TheVariants as piece
use Rattle.wac_wit_syntax.specs.declared.token.TokenKind.{TokenKind}
use Rattle.wac_wit_syntax.proofs.FirstPart.{first_part}
use Rattle.wac_wit_syntax.proofs.OnePart.{one_part, part_found}

-- a part is a byte at least
pub some_part : (s : PartSort) (w behind : List ℕ) → IsOfSort s w behind → w ++ behind ≡ [] → ⊥
some_part s w behind p e = cc (part_found s w behind p, ap first_part e)

module _ (text : List ℕ) (c d : Cutter) (s : PartSort) (w : List ℕ) (whole : w ++ drop d.at text ≡ drop c.at text) (size : c.at + length w ≡ d.at) (part : IsOfSort s w (drop d.at text))
    (found : d.found.items ≡ c.found.items ++ token_of c.at c.docs s w) (docs : d.docs ≡ docs_after c.at c.docs s w) where
  abbrev first : Part
  first = record { sort = s; text = w }

  same : (ps : List Part) → tokens_with c (first ∷ ps) ≡ tokens_with d ps
  same ps = sym (append_assoc c.found.items (token_of c.at c.docs s w) (tokens_of (c.at + length w) (docs_after c.at c.docs s w) ps))
      ∙ ap (λ f. f ++ tokens_of (c.at + length w) (docs_after c.at c.docs s w) ps) (sym found)
      ∙ ap₂ (λ n o. d.found.items ++ tokens_of n o ps) size (sym docs)

  pub part_back : LeadsBack text c d
  part_back ps h = (first ∷ ps, (ap (λ v. w ++ v) h.0 ∙ whole, (subst (IsOfSort s w) (sym h.0) part, h.1)), same ps)

  pub part_on : LeadsOn text c d
  part_on [] h = absurd (some_part s w (drop d.at text) part (whole ∙ sym h.0))
  part_on (q ∷ qs) h =
      let e = one_part q.sort s q.text w (spelled qs) (drop d.at text) h.1.0 part (h.0 ∙ sym whole) in
      (qs, (e.2, h.1.1), ap₂ (λ t v. c.found.items ++ (token_of c.at c.docs t v ++ tokens_of (c.at + length v) (docs_after c.at c.docs t v) qs)) e.0 e.1 ∙ same qs)

-- ---- one step after another

pub back_more : (text : List ℕ) (b c d : Cutter) → LeadsBack text b c → LeadsBack text c d → LeadsBack text b d
back_more text b c d f g ps h = let q = g ps h in let r = f q.0 q.1 in (r.0, r.1, r.2 ∙ q.2)

pub on_more : (text : List ℕ) (b c d : Cutter) → LeadsOn text b c → LeadsOn text c d → LeadsOn text b d
on_more text b c d f g qs h = let p = f qs h in let r = g p.0 p.1 in (r.0, r.1, p.2 ∙ r.2)

-- ---- white space

abbrev moved : Cutter → Cutter
moved c = record c { at = c.at + 1 }

spaces_lead : (text w : List ℕ) (c d : Cutter) → AllByRecursion (λ b. is_space b ≡ true) w → w ++ drop d.at text ≡ drop c.at text → c.at + length w ≡ d.at → d.found.items ≡ c.found.items → d.docs ≡ c.docs → LeadsBack text c d × LeadsOn text c d
spaces_lead text [] c d all whole size found docs =
    let at : c.at ≡ d.at = omega arith in
    let tokens = λ (ps : List Part). ap (λ f. f ++ tokens_of c.at c.docs ps) (sym found) ∙ ap₂ (λ n o. d.found.items ++ tokens_of n o ps) at (sym docs) in
    ((λ ps h. (ps, (h.0 ∙ whole, h.1), tokens ps)), (λ qs h. (qs, (h.0 ∙ sym whole, h.1), tokens qs)))
spaces_lead text (b ∷ bs) c d all whole size found docs =
    let rest : bs ++ drop d.at text ≡ drop (c.at + 1) text = ap (drop 1) whole ∙ drop-drop 1 c.at text in
    let more = spaces_lead text bs (moved c) d all.1 rest (omega arith) found docs in
    let one : b ∷ drop (c.at + 1) text ≡ drop c.at text = ap (λ v. b ∷ v) (sym rest) ∙ whole in
    let part : IsOfSort white (b ∷ []) (drop (c.at + 1) text) = inl (b, refl, all.0) in
    let nothing : c.found.items ≡ c.found.items ++ [] = sym (append-nil c.found.items) in (
      back_more text c (moved c) d (part_back text c (moved c) white (b ∷ []) one (omega arith) part nothing refl) more.0,
      on_more text c (moved c) d (part_on text c (moved c) white (b ∷ []) one (omega arith) part nothing refl) more.1,
    )

-- ---- the steps

front_whole : (text : List ℕ) (at end : ℕ) → at < end → take (end - at) (drop at text) ++ drop end text ≡ drop at text
front_whole text at end h =
    let e : drop (end - at) (drop at text) ≡ drop end text = drop-drop (end - at) at text ∙ ap (λ k. drop k text) (omega arith) in
    ap (λ v. take (end - at) (drop at text) ++ v) (sym e) ∙ take-append-drop (end - at) (drop at text)

front_size : (text : List ℕ) (at end : ℕ) → at < end → end ≤ length text → length (take (end - at) (drop at text)) ≡ end - at
front_size text at end h k = length-take-le (end - at) (drop at text) (omega (arith, length-drop at text))

module _ (text : List ℕ) (c d : Cutter) (items : List Refusal) (end : ℕ) (at : d.at ≡ end) where
  module _ (begins : c.at < end) (within : end ≤ length text) where
    whole : take (end - c.at) (drop c.at text) ++ drop d.at text ≡ drop c.at text
    whole = ap (λ k. take (end - c.at) (drop c.at text) ++ drop k text) at ∙ front_whole text c.at end begins

    size : c.at + length (take (end - c.at) (drop c.at text)) ≡ d.at
    size = omega (arith, front_size text c.at end begins within)

    step_of : LeadsBack text c d → LeadsOn text c d → IsStep text c d items items
    step_of back on = record { begins = omega arith; within = omega arith; kept = λ h. h; back = λ _. back; on = λ qs h. (refl, on) }

    part_step : (s : PartSort) → IsOfSort s (take (end - c.at) (drop c.at text)) (drop end text) → d.found.items ≡ c.found.items ++ token_of c.at c.docs s (take (end - c.at) (drop c.at text))
        → d.docs ≡ docs_after c.at c.docs s (take (end - c.at) (drop c.at text)) → IsStep text c d items items
    part_step s part found docs =
        let here : IsOfSort s (take (end - c.at) (drop c.at text)) (drop d.at text) = subst (λ k. IsOfSort s (take (end - c.at) (drop c.at text)) (drop k text)) (sym at) part in
        step_of (part_back text c d s (take (end - c.at) (drop c.at text)) whole size here found docs) (part_on text c d s (take (end - c.at) (drop c.at text)) whole size here found docs)

  pub space_step : IsPieceAt text c.at (piece.Space end) → d.found.items ≡ c.found.items → d.docs ≡ c.docs → IsStep text c d items items
  space_step p found docs =
      let lead = spaces_lead text (take (end - c.at) (drop c.at text)) c d p.says (whole p.begins p.within) (size p.begins p.within) found docs in
      step_of p.begins p.within lead.0 lead.1

  pub comment_step : IsPieceAt text c.at (piece.Comment end) → d.found.items ≡ c.found.items → d.docs ≡ c.docs → IsStep text c d items items
  comment_step p found docs = part_step p.begins p.within white p.says.0 (found ∙ sym (append-nil c.found.items))
      (docs ∙ sym (ap (λ t. if t then with_docs c.docs (record { start = c.at; end = c.at + length (take (end - c.at) (drop c.at text)) }) else c.docs) p.says.1))

  pub docs_step : IsPieceAt text c.at (piece.Docs end) → d.found.items ≡ c.found.items → d.docs ≡ with_docs c.docs (record { start = c.at; end = end }) → IsStep text c d items items
  docs_step p found docs =
      let ends : end ≡ c.at + length (take (end - c.at) (drop c.at text)) = (let k = size p.begins p.within in omega arith) in
      part_step p.begins p.within white p.says.0 (found ∙ sym (append-nil c.found.items))
      (docs ∙ ap (λ n. with_docs c.docs (record { start = c.at; end = n })) ends
      ∙ sym (ap (λ t. if t then with_docs c.docs (record { start = c.at; end = c.at + length (take (end - c.at) (drop c.at text)) }) else c.docs) p.says.1))

  pub token_step : (kind : TokenKind) → IsPieceAt text c.at (piece.Token kind end) → d.found.items ≡ c.found.items ++ record { kind = kind; span = record { start = c.at; end = end }; docs = c.docs } ∷ [] → d.docs ≡ None → IsStep text c d items items
  token_step kind p found docs =
      let ends : end ≡ c.at + length (take (end - c.at) (drop c.at text)) = (let k = size p.begins p.within in omega arith) in
      part_step p.begins p.within (token kind) p.says (found ∙ ap (λ n. c.found.items ++ record { kind = kind; span = record { start = c.at; end = n }; docs = c.docs } ∷ []) ends) docs

  pub refused_step : (after : List Refusal) (kind : TokenKind) → IsPieceAt text c.at (piece.Refused kind end) → 0 < length after → (length after ≡ 0 → length items ≡ 0) → IsStep text c d items after
  refused_step after kind p some kept = record {
    begins = (let k = p.begins in omega arith);
    within = (let k = p.within in omega arith);
    kept = kept;
    back = λ h. absurd (omega arith);
    on = λ qs h. absurd (by qs h);
  }
    where
      by : (qs : List Part) → IsCut qs (drop c.at text) → ⊥
      by [] h = let k = p.begins in let l = p.within in let e = ap length h.0 in let f = length-drop c.at text in omega arith
      by (q ∷ qs) h = p.says q.sort q.text (spelled qs) h.1.0 (h.0 ∙ sym (front_whole text c.at end p.begins))

-- ---- whole texts

abbrev part_as : PartSort → List ℕ → Part
part_as s w = record { sort = s; text = w }

pub one_cut : (text : List ℕ) (ps qs : List Part) → IsCut ps text → IsCut qs text → ps ≡ qs
one_cut text [] [] h k = refl
one_cut text [] (q ∷ qs) h k = absurd (some_part q.sort q.text (spelled qs) k.1.0 (k.0 ∙ sym h.0))
one_cut text (p ∷ ps) [] h k = absurd (some_part p.sort p.text (spelled ps) h.1.0 (h.0 ∙ sym k.0))
one_cut text (p ∷ ps) (q ∷ qs) h k =
    let e = one_part p.sort q.sort p.text q.text (spelled ps) (spelled qs) h.1.0 k.1.0 (h.0 ∙ sym k.0) in
    let more = one_cut (spelled ps) ps qs (refl, h.1.1) (sym e.2, k.1.1) in
    ap₂ (λ (x : Part) (xs : List Part). x ∷ xs) (ap₂ (λ s w. part_as s w) e.0 e.1) more
