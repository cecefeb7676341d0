use Rattle.std.proofs.Common.{sym}
use Rattle.wac_wit_refusals_sites.proofs.TypeFacts.{ok_then}
use Rattle.wac_wit_refusals_sites.proofs.judge.Judge.push_methods.Goals as goal

pub returns-in-Resource : goal.returns-in-Resource
returns-in-Resource c = ok_then c.push_methods_in.result c.push_methods_in.ensures (λ h of b knows placed all. h of b knows (record { at = placed.at; there = placed.there; methods = c.in-Resource.methods; is = c.in-Resource.is; same = sym c.deref.ensures.value }) all)
