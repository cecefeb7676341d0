-- The text of each frame.
use Rattle.std.specs.Prelude.{[], ◌∷◌, codes, decimal, string_bytes}
use Rattle.wac_model.specs.Text.{Text, joined}
use Rattle.wac_mismatch.specs.declared.frame.Frame.{Frame}
use Rattle.wac_mismatch.specs.declared.frame.Frame.TheVariants.{Export, Import, CoreImport, Parameter, FuncResult, ListElement, FixedSizeListElement, MapKey, MapValue, FuturePayload, StreamPayload, Option, Ok, Err, Field, Case, Item}

abbrev pub frame_text : Frame → Text
frame_text (Export n) = joined (codes "mismatched type for export `" ∷ string_bytes n ∷ codes "`" ∷ [])
frame_text (Import n) = joined (codes "mismatched type for import `" ∷ string_bytes n ∷ codes "`" ∷ [])
frame_text (CoreImport m n) = joined (codes "mismatched type for import `" ∷ string_bytes m ∷ codes "::" ∷ string_bytes n ∷ codes "`" ∷ [])
frame_text (Parameter n) = joined (codes "mismatched type for function parameter `" ∷ string_bytes n ∷ codes "`" ∷ [])
frame_text FuncResult = codes "mismatched type for function result"
frame_text ListElement = codes "mismatched type for list element"
frame_text FixedSizeListElement = codes "mismatched type for fixed size list element"
frame_text MapKey = codes "mismatched type for map key"
frame_text MapValue = codes "mismatched type for map value"
frame_text FuturePayload = codes "mismatched type for future payload"
frame_text StreamPayload = codes "mismatched type for stream payload"
frame_text Option = codes "mismatched type for option"
frame_text Ok = codes "mismatched type for result `ok`"
frame_text Err = codes "mismatched type for result `err`"
frame_text (Field n) = joined (codes "mismatched type for record field `" ∷ string_bytes n ∷ codes "`" ∷ [])
frame_text (Case n) = joined (codes "mismatched type for variant case `" ∷ string_bytes n ∷ codes "`" ∷ [])
frame_text (Item i) = joined (codes "mismatched type for tuple item " ∷ decimal i ∷ [])
