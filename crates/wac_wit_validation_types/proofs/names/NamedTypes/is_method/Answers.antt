use Rattle.std.proofs.Common.{true, false, sym, ◌∙◌, ◌≡◌}
use Rattle.wac_component.specs.Tree.{func_tree, root_name}
use Rattle.wac_wit_validation_types.specs.Functions.{made, self_param}
use Rattle.wac_wit_validation_types.proofs.Funcs.{IsFuncOf-parts, same_flag}
use Rattle.wac_wit_validation_types.proofs.names.NamedTypes.is_method.Goals as goal
use Rattle.wac_wit_validation_types.proofs.names.NamedTypes.is_method.Goals.{then-func-signature, else-func-signature}

pub returns-then-are_fields : goal.returns-then-are_fields
returns-then-are_fields c is s h =
    let types = c.args.self.now.types.now in
    let f = c.in-Some.func.now in
    let method = c.args.method.now in
    let root = root_name types c.args.resource.now in
    let made_is = c.is_made.ensures is s h in
    let all : c.if-func-signature.value ≡ true = c.if-are_fields.true in
    elim c.if-func-signature.branch [
      | then-func-signature w ↦ IsFuncOf-parts s types method.signature f (self_param method.kind root) (made method.kind root) (func_tree types c.args.id.now) c.in-Some.ensures (record {
        own = c.in-Some-own_params.params;
        params = rw c.as_slice.ensures.entries at c.in-Some-own_params.ensures;
        names = rw w.deref.ensures.value at (w.are_fields.ensures.names (sym w.value-is ∙ all));
        types = rw w.deref.ensures.value at (w.are_fields.ensures.types (sym w.value-is ∙ all) s h);
        returns = made_is.0;
        are_returns = made_is.1;
        given = made_is.2;
        is_async = same_flag f.is_async method.signature.is_async w.if-func-signature.true;
      })
      | else-func-signature w ↦ let none : c.if-func-signature.value ≡ false = w.value-is ∙ w.if-func-signature.false in absurd (cc)
    ]
