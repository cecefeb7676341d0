use Rattle.std.proofs.Common.{take, subst, arith}
use Rattle.std.proofs.lemmas.List.{length-map}
use Rattle.std.specs.Str.{bytes_eq}
use Rattle.indexmap.specs.IndexMap.{insert_all}
use Rattle.wac_checker_parts.proofs.Lookups.{take_all}
use Rattle.wac_component.specs.Content.{named}
use Rattle.wac_targets.specs.Named.{IsMapOf}
use Rattle.wac_targets.proofs.Distinct.{insert_all-more}
use Rattle.wac_targets.proofs.maps.insert_named.Goals as goal

pub loop-i-preserved : goal.loop-i-preserved
loop-i-preserved g c = λ ps h.
    let items = named (λ k. k) c.args.values.now.entries in
    subst (λ qs. IsMapOf c.insert.new.map qs) (insert_all-more ps items c.loop-i.i c.named_at.result.0.now c.named_at.result.1.now c.named_at.ensures)
    (c.in_ok-insert.ensures.ok (insert_all bytes_eq ps (take c.loop-i.i items)) (c.loop-i.invariant ps h))

pub returns-clause-ok : goal.returns-clause-ok
returns-clause-ok g c = λ ps h.
    let items = named (λ k. k) c.args.values.now.entries in
    subst (λ qs. IsMapOf c.loop-i.map (insert_all bytes_eq ps qs)) (take_all items c.loop-i.i (simp length-map (omega arith))) (c.loop-i.invariant ps h)
