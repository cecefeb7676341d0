use Rattle.std.proofs.Common.{List, Contains, subst}
use Rattle.std.proofs.lemmas.Option.{IfSome_then}
use Rattle.wac_wit_refusals.specs.Attributes.{of_method}
use Rattle.wac_wit_syntax.specs.declared.tree.Method.{Method}
use Rattle.wac_wit_refusals.proofs.since.since_of_type.Goals as goal

pub returns-in-Resource : goal.returns-in-Resource
returns-in-Resource c = IfSome_then c.since_of_method.result c.since_of_method.ensures (λ since h. of_method c.in-Resource.methods h.0 c.in-Resource.is (subst (λ (ms : List Method). Contains ms h.0) c.deref.ensures.value h.1) h.2)
