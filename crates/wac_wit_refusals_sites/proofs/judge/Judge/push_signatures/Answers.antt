use Rattle.std.proofs.Common.{◌∙◌, Contains, ap, subst, sym}
use Rattle.std.specs.Prelude.{Vec}
use Rattle.std.specs.declared.alloc.Global.{Global}
use Rattle.wac_wit_refusals_sites.specs.Sites.{interface_items}
use Rattle.wac_wit_refusals_sites.specs.TypeLists.{AreSignaturesOf}
use Rattle.wac_wit_refusals_sites.specs.TypeSites.{HasSignature, of_function}
use Rattle.wac_wit_refusals_sites.specs.declared.type_items.NamedSignature.{NamedSignature}
use Rattle.wac_wit_refusals_sites.proofs.TypeFacts.{among_read, kept_push}
use Rattle.wac_wit_refusals_sites.proofs.judge.Judge.push_signatures.Goals.{in-Func+then-is_there+in_ok-push, in_default}
use Rattle.wac_wit_refusals_sites.proofs.judge.Judge.push_signatures.Goals as goal

pub loop-item-preserved : goal.loop-item-preserved
loop-item-preserved c of knows all =
    let items = c.args.items.now in
    let among = among_read items c.loop-item.item-index c.item-item.result c.loop-item-test.true c.item-item.is in
    elim c.match-item.branch [
      | in-Func+then-is_there+in_ok-push w ↦ kept_push (λ (s : NamedSignature). HasSignature of (interface_items items) s.name.now s.signature.now) c.loop-item.all.items c.match-item.all.items _ (ap (λ (v : Vec NamedSignature Global). v.items) w.all-is ∙ w.in_ok-push.ensures.items) (c.loop-item.invariant of knows all)
          (of_function items w.in-Func.it (subst (Contains items) w.in-Func.is among) ((w.is_there.ensures of knows).0 w.if-is_there.true))
      | in_default w ↦ subst (λ (v : Vec NamedSignature Global). AreSignaturesOf of (interface_items items) v.items) (sym w.all-is) (c.loop-item.invariant of knows all)
    ]

pub returns : goal.returns
returns c = c.loop-item.invariant
