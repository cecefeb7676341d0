-- Names that stand twice among those that are listed.
use Rattle.std.proofs.Common.{◌≡◌, ℕ, ◌++◌, ◌∷◌, [], List, subst, sym}
use Rattle.wac_wit_refusals_types.specs.NamesTwice.{IsTakenTwice}
use Rattle.wac_wit_refusals_types.specs.TypeSteps.{AreTaken, StandsTwice}
use Rattle.wac_wit_refusals_sites.proofs.TypeFacts.{kept_push}
use Rattle.wac_wit_refusals_types.specs.declared.taken_names.TakenName.{TakenName}
use Rattle.wac_wit_syntax.specs.declared.positions.Span.{Span}
use Rattle.wac_wit_syntax.specs.declared.tree.Ident.{Ident}

pub taken_twice : (Takes : ℕ → ℕ → Ident → Type 0) (ns : List TakenName) (span : Span) → AreTaken Takes ns → StandsTwice ns span → IsTakenTwice Takes span
taken_twice Takes ns span all h = record {
  item = h.taken.item;
  part = h.taken.part;
  name = h.taken.name.now;
  takes = all h.taken h.among;
  place = h.place;
  other_item = h.again.other.item;
  other_part = h.again.other.part;
  other_name = h.again.other.name.now;
  other_takes = all h.again.other h.again.among;
  apart = h.again.twice.apart;
  same = h.again.twice.same;
}

-- the only name of an item is put last
pub taken_push : (T : ℕ → ℕ → Ident → Type 0) (old new : List TakenName) (n : TakenName) (i : ℕ) (x : Ident) → n.item ≡ i → n.part ≡ 0 → n.name.now ≡ x → new ≡ old ++ n ∷ [] → AreTaken T old → T i 0 x → AreTaken T new
taken_push T old new n i x item part name pushed all here = kept_push (λ (m : TakenName). T m.item m.part m.name.now) old new n pushed all
    (subst (λ (k : ℕ). T k n.part n.name.now) (sym item) (subst (λ (k : ℕ). T i k n.name.now) (sym part) (subst (T i 0) (sym name) here)))
