use Rattle.wac_aggregator_errors.proofs.error.AggregateErrorDisplay.fmt.Goals as goal

pub returns-in-Kinds-clause-writes : goal.returns-in-Kinds-clause-writes
returns-in-Kinds-clause-writes g c = λ plain ok. rw c.in-Kinds.is (c.write.ensures.writes plain ok)

pub returns-in-UsedName-clause-writes : goal.returns-in-UsedName-clause-writes
returns-in-UsedName-clause-writes g c = λ plain ok. rw c.in-UsedName.is (c.write-in-UsedName.ensures.writes plain ok)

pub returns-in-OwnerWithoutIdentifier-clause-writes : goal.returns-in-OwnerWithoutIdentifier-clause-writes
returns-in-OwnerWithoutIdentifier-clause-writes g c = λ plain ok. rw c.in-OwnerWithoutIdentifier.is (c.write-in-OwnerWithoutIdentifier.ensures.writes plain ok)
