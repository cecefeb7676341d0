use Rattle.std.proofs.Common.{Contains, subst, sym}
use Rattle.std.specs.Prelude.{Vec}
use Rattle.std.specs.declared.alloc.Global.{Global}
use Rattle.wac_wit_refusals_sites.specs.Sites.{an_export, an_import, world_items}
use Rattle.wac_wit_refusals_sites.specs.TypeLists.{AreSignaturesOf}
use Rattle.wac_wit_refusals_sites.specs.declared.type_items.NamedSignature.{NamedSignature}
use Rattle.wac_wit_refusals_sites.proofs.TypeFacts.{among_read}
use Rattle.wac_wit_refusals_sites.proofs.judge.Judge.push_extern_signatures.Goals.{in-Import+in_ok-push_extern_signature-in-Import, in-Export+in_ok-push_extern_signature-in-Export, in_default}
use Rattle.wac_wit_refusals_sites.proofs.judge.Judge.push_extern_signatures.Goals as goal

pub loop-item-preserved : goal.loop-item-preserved
loop-item-preserved c of knows all =
    let items = c.args.items.now in
    let among = among_read items c.loop-item.item-index c.item-item.result c.loop-item-test.true c.item-item.is in
    let before = c.loop-item.invariant of knows all in
    elim c.match-item.branch [
      | in-Import+in_ok-push_extern_signature-in-Import w ↦ subst (λ (v : Vec NamedSignature Global). AreSignaturesOf of (world_items items) v.items) (sym w.all-is) (w.in_ok-push_extern_signature-in-Import.ensures of items knows (an_import (subst (Contains items) w.in-Import.is among)) before)
      | in-Export+in_ok-push_extern_signature-in-Export w ↦ subst (λ (v : Vec NamedSignature Global). AreSignaturesOf of (world_items items) v.items) (sym w.all-is) (w.in_ok-push_extern_signature-in-Export.ensures of items knows (an_export (subst (Contains items) w.in-Export.is among)) before)
      | in_default w ↦ subst (λ (v : Vec NamedSignature Global). AreSignaturesOf of (world_items items) v.items) (sym w.all-is) before
    ]

pub returns : goal.returns
returns c = c.loop-item.invariant
