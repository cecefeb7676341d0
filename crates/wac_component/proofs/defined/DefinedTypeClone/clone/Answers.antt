use Rattle.std.proofs.Common.{refl}
use Rattle.std.proofs.lemmas.List.Elements.{same_from_all_zip}
use Rattle.wac_component.proofs.CloneLemmas.{variant-content, record-content}
use Rattle.wac_component.proofs.defined.DefinedTypeClone.clone.Goals as goal
use Rattle.wac_component.proofs.defined.DefinedTypeClone.clone.Goals.{in-Tuple+in_ok-clone-in-Tuple, in-List, in-FixedSizeList, in-Map, in-Option, in-Result, in-Variant+in_ok-clone-in-Variant, in-Record+in_ok-clone-in-Record, in-Flags+in_ok-clone-in-Flags, in-Enum+in_ok-clone-in-Enum, in-Alias, in-Stream, in-Future}

pub returns : goal.returns
returns c = record {
  cases = elim c.match-self.branch [
    | in-Tuple+in_ok-clone-in-Tuple w ↦ rw (w.result-is, w.in-Tuple.is, same_from_all_zip _ w.in-Tuple.items.items w.in_ok-clone-in-Tuple.field-0.items w.in_ok-clone-in-Tuple.ensures.cases.0 (λ t u same. same)) refl
    | in-List w ↦ rw (w.result-is, w.in-List.is) refl
    | in-FixedSizeList w ↦ rw (w.result-is, w.in-FixedSizeList.is) refl
    | in-Map w ↦ rw (w.result-is, w.in-Map.is) refl
    | in-Option w ↦ rw (w.result-is, w.in-Option.is) refl
    | in-Result w ↦ rw (w.result-is, w.in-Result.is) refl
    | in-Variant+in_ok-clone-in-Variant w ↦ rw (w.result-is, w.in-Variant.is) (variant-content w.in-Variant.variant w.in_ok-clone-in-Variant.field-0 w.in_ok-clone-in-Variant.ensures.cases)
    | in-Record+in_ok-clone-in-Record w ↦ rw (w.result-is, w.in-Record.is) (record-content w.in-Record.record w.in_ok-clone-in-Record.field-0 w.in_ok-clone-in-Record.ensures.cases)
    | in-Flags+in_ok-clone-in-Flags w ↦ rw (w.result-is, w.in-Flags.is, w.in_ok-clone-in-Flags.ensures.cases) refl
    | in-Enum+in_ok-clone-in-Enum w ↦ rw (w.result-is, w.in-Enum.is, w.in_ok-clone-in-Enum.ensures.cases) refl
    | in-Alias w ↦ rw (w.result-is, w.in-Alias.is) refl
    | in-Stream w ↦ rw (w.result-is, w.in-Stream.is) refl
    | in-Future w ↦ rw (w.result-is, w.in-Future.is) refl
  ];
}
