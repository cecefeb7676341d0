use Rattle.std.proofs.Common.{◌<◌, length, arith}
use Rattle.std.proofs.lemmas.List.{length-map}
use Rattle.wac_checker_parts.proofs.ListLemmas.{same_list}
use Rattle.wac_checker_parts.proofs.values.compare_names.Goals as goal

pub returns : goal.returns
returns c =
    same_list _ _ (simp length-map c.loop-i.invariant.same_length)
    (λ k b. c.loop-i.invariant.same_so_far k (let l : k < length c.args.a.now.keys = simp length-map at b in omega arith))
