use Rattle.std.proofs.Common.{subst, sym}
use Rattle.wac_wit_refusals_sites.specs.Judging.{body_syntax}
use Rattle.wac_wit_refusals_types.specs.NamesTwice.{among_methods, beside_self}
use Rattle.wac_wit_refusals_sites.specs.TypeLists.{AreMethodsOf}
use Rattle.wac_wit_refusals_types.proofs.names_twice.has_method_twice.Goals as goal

pub returns-then-lists_method_twice : goal.returns-then-lists_method_twice
returns-then-lists_method_twice c is of knows =
    let b = body_syntax c.args.body.now in
    among_methods (c.lists_method_twice.ensures c.if-lists_method_twice.true of b (subst (AreMethodsOf of b) (sym c.deref.ensures.value) (c.in_ok-methods.ensures of knows)))

pub returns : goal.returns
returns c is of knows =
    let b = body_syntax c.args.body.now in
    beside_self (c.has_self_twice.ensures is of b (subst (AreMethodsOf of b) (sym c.deref-2.ensures.value) (c.in_ok-methods.ensures of knows)))
