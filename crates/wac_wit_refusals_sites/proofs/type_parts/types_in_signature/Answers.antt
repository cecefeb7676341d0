use Rattle.std.proofs.Common.{Contains, List, subst, sym}
use Rattle.std.specs.Borrow.{Bor}
use Rattle.std.specs.Prelude.{Vec}
use Rattle.std.specs.declared.alloc.Global.{Global}
use Rattle.wac_wit_refusals_sites.specs.TypeLists.{AreWritten}
use Rattle.wac_wit_refusals_sites.specs.TypeSites.{IsWritten, a_parameter, a_result, a_signature}
use Rattle.wac_wit_syntax.specs.declared.tree.Field.{Field}
use Rattle.wac_wit_syntax.specs.declared.tree.TypeExpr.{TypeExpr}
use Rattle.wac_wit_refusals_sites.proofs.TypeFacts.{none_among}
use Rattle.wac_wit_refusals_sites.proofs.type_parts.types_in_signature.Goals.{in-Some+in_ok-push_type, in_default}
use Rattle.wac_wit_refusals_sites.proofs.type_parts.types_in_signature.Goals as goal

pub returns : goal.returns
returns c =
    let of = c.args.signature.now in
    let s = a_signature of in
    let none = none_among (λ (e : Bor TypeExpr). IsWritten s e.now) c.new-types.result.items c.new-types.ensures.items in
    let params = c.in_ok-push_fields.ensures s (λ f among. a_parameter of f (subst (λ (l : List Field). Contains l f) c.deref.ensures.value among)) none in
    elim c.match-signature.branch [
      | in-Some+in_ok-push_type w ↦ subst (λ (v : Vec (Bor TypeExpr) Global). AreWritten (a_signature c.args.signature.now) v.items) (sym w.types-is) (w.in_ok-push_type.ensures s (a_result of w.in-Some.ty w.in-Some.is) params)
      | in_default w ↦ subst (λ (v : Vec (Bor TypeExpr) Global). AreWritten (a_signature c.args.signature.now) v.items) (sym w.types-is) params
    ]
