use Rattle.wac_wit_answers.proofs.merging.merged.Goals as goal

pub answer_of-requires : goal.answer_of-requires
answer_of-requires c = rw c.deref.ensures.value c.loop-index.invariant
