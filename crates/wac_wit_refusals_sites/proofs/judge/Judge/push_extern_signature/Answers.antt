use Rattle.wac_wit_refusals_sites.specs.Sites.{world_items}
use Rattle.wac_wit_refusals_sites.specs.TypeSites.{HasSignature, of_extern}
use Rattle.wac_wit_refusals_sites.specs.declared.type_items.NamedSignature.{NamedSignature}
use Rattle.wac_wit_refusals_sites.proofs.TypeFacts.{kept_push}
use Rattle.wac_wit_refusals_sites.proofs.judge.Judge.push_extern_signature.Goals as goal

pub returns-in_ok-push-in-Func : goal.returns-in_ok-push-in-Func
returns-in_ok-push-in-Func c of is knows among all = kept_push (λ (s : NamedSignature). HasSignature of (world_items is) s.name.now s.signature.now) c.args.all.now.items c.push.new.self.items _ c.in_ok-push-in-Func.ensures.items all (of_extern is c.args.item.now c.in-Func.name c.in-Func.signature among ((c.is_there.ensures of knows).0 c.if-is_there.true) c.in-Func.is)
