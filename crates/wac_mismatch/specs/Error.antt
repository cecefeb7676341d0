-- What a `SubtypeError` shows of itself.
use Rattle.std.specs.Prelude.{List, [], ◌∷◌, Option, Some, None, codes}
use Rattle.wac_model.specs.Text.{Text, joined}
use Rattle.wac_mismatch.specs.FrameText.{frame_text}
use Rattle.wac_mismatch.specs.FaultText.{fault_text}
use Rattle.wac_mismatch.specs.declared.frame.Frame.{Frame}
use Rattle.wac_mismatch.specs.declared.fault.Fault.{Fault}
use Rattle.wac_mismatch.specs.declared.error.SubtypeError.{SubtypeError}
use Rattle.wac_mismatch.specs.declared.error.SubtypeError.TheVariants.{Mismatch, Memory}

-- the frames of a mismatch, the outermost first
abbrev pub frames_of : SubtypeError → List Frame
frames_of (Mismatch frames f) = frames.items
frames_of Memory = []

-- the fault of a mismatch
abbrev pub fault_of : SubtypeError → Option Fault
fault_of (Mismatch frames f) = Some f
fault_of Memory = None

-- the text of the outermost frame, or without frames that of the fault
abbrev pub mismatch_text : List Frame → Fault → Text
mismatch_text [] f = fault_text f
mismatch_text (frame ∷ frames) f = frame_text frame

abbrev pub error_text : SubtypeError → Text
error_text (Mismatch frames f) = mismatch_text frames.items f
error_text Memory = codes "out of memory"

-- the texts of the frames, the outermost first, and then that of the fault, with " / " between them
abbrev pub steps_text : List Frame → Fault → Text
steps_text [] f = fault_text f
steps_text (frame ∷ frames) f = joined (frame_text frame ∷ codes " / " ∷ steps_text frames f ∷ [])

-- the whole path of a mismatch on one line
abbrev pub path_text : SubtypeError → Text
path_text (Mismatch frames f) = steps_text frames.items f
path_text Memory = codes "out of memory"
