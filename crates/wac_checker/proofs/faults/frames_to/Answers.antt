use Rattle.std.proofs.Common.{◌∷◌, [], ◌++◌, reverse}
use Rattle.std.proofs.lemmas.List.{reverse-append}
use Rattle.wac_checker.proofs.WalkLemmas.{path_more, reverse_push}
use Rattle.wac_checker.proofs.faults.frames_to.Goals as goal

pub loop-step-preserved : goal.loop-step-preserved
loop-step-preserved c =
    let path = rw (c.in-Some.ensures.items, reverse_push c.pop.new.self.items c.in-Some.step) at c.loop-step.invariant.path in
    record {
      path = path.2;
      more = λ check g h. rw (c.in_ok-push.ensures.items, reverse-append c.loop-step.frames.items (c.in_ok-frame_to.field-0 ∷ [])) (path_more c.args.sides.now.left.now c.args.sides.now.right.now c.args.walk.now.asked c.in-Some.step (reverse c.pop.new.self.items) c.loop-step.part c.in_ok-frame_to.field-0 path c.in_ok-frame_to.ensures check (reverse c.loop-step.frames.items ++ c.args.below.items) g (c.loop-step.invariant.more check g h));
    }
