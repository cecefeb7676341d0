-- The texts of frames and errors.
use Rattle.std.specs.Prelude.{List, [], ◌∷◌, codes, decimal, string_bytes}
use Rattle.wac_model.specs.Text.{Text, joined}
use Rattle.wac_mismatch.specs.Error.{error_text as subtype_error_text}
use Rattle.wac_mismatch.specs.declared.error.SubtypeError.{SubtypeError}
use Rattle.wac_aggregator_errors.specs.declared.frame.MergeFrame.{MergeFrame}
use Rattle.wac_aggregator_errors.specs.declared.frame.MergeFrame.TheVariants.{Interface, Export}
use Rattle.wac_aggregator_errors.specs.declared.error.AggregateError.{AggregateError}
use Rattle.wac_aggregator_errors.specs.declared.error.AggregateError.TheVariants.{Kinds, Mismatch, UsedInterface, UsedName, NoIdentifier, OwnerWithoutIdentifier, Taken, Cycle, Memory}
use Rattle.wac_aggregator_errors.specs.declared.error.AggregateAllError.{AggregateAllError}

abbrev pub merge_frame_text : MergeFrame → Text
merge_frame_text (Interface n) = joined (codes "failed to merge interface `" ∷ string_bytes n ∷ codes "`" ∷ [])
merge_frame_text (Export n) = joined (codes "mismatched type for export `" ∷ string_bytes n ∷ codes "`" ∷ [])

-- the text of the outermost frame, or without frames that of the error
abbrev pub merge_mismatch_text : List MergeFrame → SubtypeError → Text
merge_mismatch_text [] e = subtype_error_text e
merge_mismatch_text (frame ∷ frames) e = merge_frame_text frame

abbrev pub aggregate_error_text : AggregateError → Text
aggregate_error_text (Kinds a b) = joined (a.now ∷ codes " cannot be merged with " ∷ b.now ∷ [])
aggregate_error_text (Mismatch frames e) = merge_mismatch_text frames.items e
aggregate_error_text (UsedInterface n a b) = joined (codes "cannot merge used type `" ∷ string_bytes n ∷ codes "` as it is expected to be from interface `" ∷ string_bytes a ∷ codes "` but it is from interface `" ∷ string_bytes b ∷ codes "`" ∷ [])
aggregate_error_text (UsedName n) = joined (codes "cannot merge used type `" ∷ string_bytes n ∷ codes "` as the export names are mismatched" ∷ [])
aggregate_error_text (NoIdentifier n) = joined (codes "used type `" ∷ string_bytes n ∷ codes "` is from an interface without an identifier" ∷ [])
aggregate_error_text (OwnerWithoutIdentifier r) = joined (codes "owner of resource `" ∷ string_bytes r ∷ codes "` has no identifier" ∷ [])
aggregate_error_text (Taken n) = joined (codes "import `" ∷ string_bytes n ∷ codes "` was taken while its item was remapped" ∷ [])
aggregate_error_text (Cycle n) = joined (codes "merging interface `" ∷ string_bytes n ∷ codes "` would close a cycle" ∷ [])
aggregate_error_text Memory = codes "out of memory"

abbrev pub all_error_text : AggregateAllError → Text
all_error_text e = joined (codes "call " ∷ decimal e.at ∷ codes ": " ∷ aggregate_error_text e.error ∷ [])
