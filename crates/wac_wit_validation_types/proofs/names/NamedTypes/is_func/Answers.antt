use Rattle.std.proofs.Common.{true, false, refl, sym, ◌∙◌, [], ◌≡◌}
use Rattle.std.specs.Option.{option_map}
use Rattle.wac_component.specs.Tree.{value_tree, func_tree}
use Rattle.wac_wit_validation_types.proofs.Funcs.{IsFuncOf-parts, same_flag}
use Rattle.wac_wit_validation_types.proofs.names.NamedTypes.is_func.Goals as goal
use Rattle.wac_wit_validation_types.proofs.names.NamedTypes.is_func.Goals.{then-func-signature, else-func-signature}

pub returns-then-are_fields : goal.returns-then-are_fields
returns-then-are_fields c is s h =
    let types = c.args.self.now.types.now in
    let f = c.in-Some.func.now in
    let all : c.if-func-signature.value ≡ true = c.if-are_fields.true in
    elim c.if-func-signature.branch [
      | then-func-signature w ↦ IsFuncOf-parts s types c.args.signature.now f [] (λ r. r) (func_tree types c.args.id.now) c.in-Some.ensures (record {
        own = f.params.entries;
        params = refl;
        names = rw (w.as_slice.ensures.entries, w.deref.ensures.value) at (w.are_fields.ensures.names (sym w.value-is ∙ all));
        types = rw (w.as_slice.ensures.entries, w.deref.ensures.value) at (w.are_fields.ensures.types (sym w.value-is ∙ all) s h);
        returns = option_map (value_tree types) f.«result»;
        are_returns = c.is_value_if_any.ensures is s h;
        given = refl;
        is_async = same_flag f.is_async c.args.signature.now.is_async w.if-func-signature.true;
      })
      | else-func-signature w ↦ let none : c.if-func-signature.value ≡ false = w.value-is ∙ w.if-func-signature.false in absurd (cc)
    ]
