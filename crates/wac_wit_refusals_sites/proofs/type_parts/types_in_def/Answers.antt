use Rattle.std.proofs.Common.{Contains, List, subst, sym}
use Rattle.std.specs.Borrow.{Bor}
use Rattle.std.specs.Prelude.{Vec}
use Rattle.std.specs.declared.alloc.Global.{Global}
use Rattle.wac_wit_refusals_sites.specs.TypeLists.{AreWritten}
use Rattle.wac_wit_refusals_sites.specs.TypeSites.{IsWritten, a_case, a_definition, a_field, an_alias}
use Rattle.wac_wit_syntax.specs.declared.tree.Case.{Case}
use Rattle.wac_wit_syntax.specs.declared.tree.Field.{Field}
use Rattle.wac_wit_syntax.specs.declared.tree.TypeDef.{TypeDef}
use Rattle.wac_wit_syntax.specs.declared.tree.TypeExpr.{TypeExpr}
use Rattle.wac_wit_refusals_sites.proofs.TypeFacts.{none_among}
use Rattle.wac_wit_refusals_sites.proofs.type_parts.types_in_def.Goals.{in-Alias+in_ok-push_type-in-Alias, in-Record+in_ok-push_fields-in-Record, in-Variant+in_ok-push_cases-in-Variant, in_default}
use Rattle.wac_wit_refusals_sites.proofs.type_parts.types_in_def.Goals as goal

pub returns : goal.returns
returns c =
    let s = a_definition c.args.def.now in
    let none = none_among (λ (e : Bor TypeExpr). IsWritten s e.now) c.new-types.result.items c.new-types.ensures.items in
    elim c.match-def.branch [
      | in-Alias+in_ok-push_type-in-Alias w ↦ subst (λ (v : Vec (Bor TypeExpr) Global). AreWritten (a_definition c.args.def.now) v.items) (sym w.types-is) (w.in_ok-push_type-in-Alias.ensures s (subst (λ (d : TypeDef). IsWritten (a_definition d) w.in-Alias.ty) (sym w.in-Alias.is) (an_alias w.in-Alias.ty)) none)
      | in-Record+in_ok-push_fields-in-Record w ↦ subst (λ (v : Vec (Bor TypeExpr) Global). AreWritten (a_definition c.args.def.now) v.items) (sym w.types-is) (w.in_ok-push_fields-in-Record.ensures s
          (λ f among. subst (λ (d : TypeDef). IsWritten (a_definition d) f.ty) (sym w.in-Record.is) (a_field w.in-Record.fields f (subst (λ (l : List Field). Contains l f) w.deref.ensures.value among))) none)
      | in-Variant+in_ok-push_cases-in-Variant w ↦ subst (λ (v : Vec (Bor TypeExpr) Global). AreWritten (a_definition c.args.def.now) v.items) (sym w.types-is) (w.in_ok-push_cases-in-Variant.ensures s
          (λ k among e at. subst (λ (d : TypeDef). IsWritten (a_definition d) e) (sym w.in-Variant.is) (a_case w.in-Variant.cases k e (subst (λ (l : List Case). Contains l k) w.deref-in-Variant.ensures.value among) at)) none)
      | in_default w ↦ subst (λ (v : Vec (Bor TypeExpr) Global). AreWritten (a_definition c.args.def.now) v.items) (sym w.types-is) none
    ]
