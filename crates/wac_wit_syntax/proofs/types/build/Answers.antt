-- A type by its word.
use Rattle.std.proofs.Common.{Result, Ok, Err, IfOk, Vec, sym, ap, subst}
use Rattle.std.specs.declared.alloc.Global.{Global}
use Rattle.wac_wit_syntax.specs.TypeParts.{IsTypeMade}
use Rattle.wac_wit_syntax.specs.declared.tree.TypeExpr.{TypeExpr}
use Rattle.wac_wit_syntax.specs.declared.tree.TypeExpr.TheVariants as ty
use Rattle.wac_wit_syntax.specs.declared.types.TypeWord.TheVariants as word
use Rattle.wac_wit_syntax.proofs.TypesMade.{made_future, made_option, made_stream, made_tuple}
use Rattle.wac_wit_syntax.proofs.types.build.Goals as goal

if_ok_more : {T E : Type 0} (r : Result T E) (P Q : T → Type 0) → IfOk r P → ((v : T) → P v → Q v) → IfOk r Q
if_ok_more (Ok v) P Q h f = f v h
if_ok_more (Err e) P Q h f = tt

pub returns-in-Tuple-clause-made : goal.returns-in-Tuple-clause-made
returns-in-Tuple-clause-made c =
    let p = c.args.parts.now in
    let t : TypeExpr = ty.Tuple c.replace-types.result c.args.span in
    subst (λ w. IsTypeMade w p.types.items p.lacks_first p.length c.args.span t) (sym c.in-Tuple.is)
    (subst (λ xs. IsTypeMade word.Tuple xs p.lacks_first p.length c.args.span t) (ap (λ (v : Vec TypeExpr Global). v.items) c.replace-types.ensures.value) (made_tuple c.replace-types.result p.lacks_first p.length c.args.span))

pub returns-in-Result-clause-made : goal.returns-in-Result-clause-made
returns-in-Result-clause-made c =
    let p = c.args.parts.now in
    if_ok_more c.build_result.result _ (λ t. IsTypeMade c.args.word p.types.items p.lacks_first p.length c.args.span t) c.build_result.ensures.made (λ t h. subst (λ w. IsTypeMade w p.types.items p.lacks_first p.length c.args.span t) (sym c.in-Result.is) (h c.args.span))

pub returns-in_ok-take_last-in-Future-clause-made : goal.returns-in_ok-take_last-in-Future-clause-made
returns-in_ok-take_last-in-Future-clause-made c =
    let p = c.args.parts.now in
    let t : TypeExpr = ty.Future c.in_ok-take_last-in-Future.field-0 in
    subst (λ w. IsTypeMade w p.types.items p.lacks_first p.length c.args.span t) (sym c.in-Future.is)
    (made_future p.types.items _ p.lacks_first p.length c.in_ok-take_last-in-Future.field-0 c.args.span c.in_ok-take_last-in-Future.ensures.last)

pub returns-in_ok-take_last-in-Stream-clause-made : goal.returns-in_ok-take_last-in-Stream-clause-made
returns-in_ok-take_last-in-Stream-clause-made c =
    let p = c.args.parts.now in
    let t : TypeExpr = ty.Stream c.in_ok-take_last-in-Stream.field-0 in
    subst (λ w. IsTypeMade w p.types.items p.lacks_first p.length c.args.span t) (sym c.in-Stream.is)
    (made_stream p.types.items _ p.lacks_first p.length c.in_ok-take_last-in-Stream.field-0 c.args.span c.in_ok-take_last-in-Stream.ensures.last)

pub returns-in_ok-needed-in-Option-clause-made : goal.returns-in_ok-needed-in-Option-clause-made
returns-in_ok-needed-in-Option-clause-made c =
    let p = c.args.parts.now in
    let t : TypeExpr = ty.Option c.in_ok-needed-in-Option.field-0 in
    subst (λ w. IsTypeMade w p.types.items p.lacks_first p.length c.args.span t) (sym c.in-Option.is)
    (made_option p.types.items _ p.lacks_first p.length c.in_ok-needed-in-Option.field-0 c.args.span c.in_ok-needed-in-Option.ensures.last)
