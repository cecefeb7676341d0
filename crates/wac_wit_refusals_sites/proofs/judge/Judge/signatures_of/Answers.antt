use Rattle.std.proofs.Common.{subst, sym}
use Rattle.std.specs.Prelude.{Vec}
use Rattle.std.specs.declared.alloc.Global.{Global}
use Rattle.wac_wit_refusals_sites.specs.Judging.{body_syntax}
use Rattle.wac_wit_refusals_sites.specs.TypeLists.{AreSignaturesOf}
use Rattle.wac_wit_refusals_sites.specs.TypeSites.{HasSignature}
use Rattle.wac_wit_refusals_sites.specs.declared.bodies.Body.{Body}
use Rattle.wac_wit_refusals_sites.specs.declared.type_items.NamedSignature.{NamedSignature}
use Rattle.wac_wit_refusals_sites.proofs.TypeFacts.{none_among}
use Rattle.wac_wit_refusals_sites.proofs.judge.Judge.signatures_of.Goals.{in-Interface+in_ok-push_signatures-in-Interface, in-World+in_ok-push_extern_signatures-in-World}
use Rattle.wac_wit_refusals_sites.proofs.judge.Judge.signatures_of.Goals as goal

pub returns : goal.returns
returns c of knows =
    let b = body_syntax c.args.body.now in
    let first = c.in_ok-push_resource_signatures.ensures of knows (none_among (λ (s : NamedSignature). HasSignature of b s.name.now s.signature.now) c.new-all.result.items c.new-all.ensures.items) in
    elim c.match-body.branch [
      | in-Interface+in_ok-push_signatures-in-Interface w ↦ subst (λ (v : Vec NamedSignature Global). AreSignaturesOf of b v.items) (sym w.all-is) (subst (λ (x : Body). AreSignaturesOf of (body_syntax x) c.push_resource_signatures.new.all.items → AreSignaturesOf of (body_syntax x) w.push_signatures.new.all.items) (sym w.in-Interface.is) (w.in_ok-push_signatures-in-Interface.ensures of knows) first)
      | in-World+in_ok-push_extern_signatures-in-World w ↦ subst (λ (v : Vec NamedSignature Global). AreSignaturesOf of b v.items) (sym w.all-is) (subst (λ (x : Body). AreSignaturesOf of (body_syntax x) c.push_resource_signatures.new.all.items → AreSignaturesOf of (body_syntax x) w.push_extern_signatures.new.all.items) (sym w.in-World.is) (w.in_ok-push_extern_signatures-in-World.ensures of knows) first)
    ]
