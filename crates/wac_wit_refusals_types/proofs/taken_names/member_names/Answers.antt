use Rattle.std.proofs.Common.{List, subst, sym}
use Rattle.wac_wit_refusals_types.specs.NamesTwice.{TakesBareName, TakesCaseName, TakesFieldName, TakesMemberName}
use Rattle.wac_wit_refusals_types.specs.TypeSteps.{AreTaken}
use Rattle.wac_wit_refusals_types.specs.declared.taken_names.TakenName.{TakenName}
use Rattle.wac_wit_syntax.specs.declared.tree.Case.{Case}
use Rattle.wac_wit_syntax.specs.declared.tree.Field.{Field}
use Rattle.wac_wit_syntax.specs.declared.tree.Ident.{Ident}
use Rattle.wac_wit_syntax.specs.declared.tree.TypeDef.{TypeDef}
use Rattle.wac_wit_refusals_sites.proofs.TypeFacts.{none_among, ok_value_then}
use Rattle.wac_wit_refusals_types.proofs.taken_names.member_names.Goals as goal

pub returns-in-Record : goal.returns-in-Record
returns-in-Record c = ok_value_then _ _ c.names_of_fields.result c.names_of_fields.ensures (λ ns h. subst (λ (d : TypeDef). AreTaken (TakesMemberName d) ns.items) (sym c.in-Record.is) (subst (λ (l : List Field). AreTaken (TakesFieldName l) ns.items) c.deref.ensures.value h))

pub returns-in-Variant : goal.returns-in-Variant
returns-in-Variant c = ok_value_then _ _ c.names_of_cases.result c.names_of_cases.ensures (λ ns h. subst (λ (d : TypeDef). AreTaken (TakesMemberName d) ns.items) (sym c.in-Variant.is) (subst (λ (l : List Case). AreTaken (TakesCaseName l) ns.items) c.deref-in-Variant.ensures.value h))

pub returns-in-Flags : goal.returns-in-Flags
returns-in-Flags c = ok_value_then _ _ c.names_in.result c.names_in.ensures (λ ns h. subst (λ (d : TypeDef). AreTaken (TakesMemberName d) ns.items) (sym c.in-Flags.is) (subst (λ (l : List Ident). AreTaken (TakesBareName l) ns.items) c.deref-in-Flags.ensures.value h))

pub returns-in-Enum : goal.returns-in-Enum
returns-in-Enum c = ok_value_then _ _ c.names_in-in-Enum.result c.names_in-in-Enum.ensures (λ ns h. subst (λ (d : TypeDef). AreTaken (TakesMemberName d) ns.items) (sym c.in-Enum.is) (subst (λ (l : List Ident). AreTaken (TakesBareName l) ns.items) c.deref-in-Enum.ensures.value h))

pub returns-in_default : goal.returns-in_default
returns-in_default c = none_among (λ (n : TakenName). TakesMemberName c.args.def.now n.item n.part n.name.now) c.new.result.items c.new.ensures.items
