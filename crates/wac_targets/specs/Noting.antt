-- How a report comes about: what is noted of each name that one side wants.
use Rattle.std.specs.Prelude.{◌≡◌, Bool, true, Option, Some, None, IsSome, if◌then◌else◌}
use Rattle.std.specs.Str.{bytes_eq}
use Rattle.std.specs.BTreeMap.{get_by_text}
use Rattle.std.specs.BTreeSet.{contains_text}
use Rattle.wac_model.specs.Text.{Text}
use Rattle.wac_component.specs.Collection.{Collection}
use Rattle.wac_component.specs.Tree.{item_tree}
use Rattle.wac_component.specs.declared.items.ItemKind.{ItemKind}
use Rattle.wac_component.specs.declared.worlds.ExternKind.{ExternKind}
use Rattle.wac_component.specs.declared.worlds.ExternKind.TheVariants.{Import, Export}
use Rattle.wac_mismatch.specs.Error.{fault_of}
use Rattle.wac_mismatch.specs.Path.{Explains}
use Rattle.wac_mismatch.specs.Place.{item_side}
use Rattle.wac_mismatch.specs.declared.error.SubtypeError.{SubtypeError}
use Rattle.wac_names.specs.Pairs.{IsFound, value_at}
use Rattle.wac_targets.specs.Wanted.{NamedItems, left_item, right_item, FitsAs}
use Rattle.wac_targets.specs.Report.{extern_check}
use Rattle.wac_targets.specs.declared.checks.Verdict.{Verdict}
use Rattle.wac_targets.specs.declared.checks.Verdict.TheVariants.{Lacking, Fitting, Failing}
use Rattle.wac_targets.specs.declared.report.TargetValidationReport.{TargetValidationReport}

-- what a report says of one name
pub record Note : Type 0 where
  pub absent : Bool
  pub missing : Option ItemKind
  pub mismatch : Option (ExternKind × SubtypeError)

abbrev pub note_of : TargetValidationReport → Text → Note
note_of r name = record { absent = contains_text r.imports_not_in_target name; missing = get_by_text r.missing_exports name; mismatch = get_by_text r.mismatched_types name }

-- with a mismatch of this kind
abbrev pub with_mismatch : ExternKind → SubtypeError → Note → Note
with_mismatch k e s = record s { mismatch = Some (k, e) }

-- with what nothing is found for
abbrev pub with_lack : ExternKind → ItemKind → Note → Note
with_lack Import b s = record s { absent = true }
with_lack Export b s = record s { missing = Some b }

-- with the verdict on what is wanted under the name
abbrev pub noted : ExternKind → ItemKind → Verdict → Note → Note
noted k b Lacking s = with_lack k b s
noted k b Fitting s = s
noted k b (Failing e) s = with_mismatch k e s

-- what is noted of a name changes, and nothing else
abbrev pub Changes : (Note → Note) → Text → (Text → Note) → (Text → Note) → Type 0
Changes change name before after = (n : Text) → after n ≡ (if bytes_eq name n then change (before n) else before n)

module _ (c : Collection) (k : ExternKind) (given : NamedItems) (name : Text) where
  -- the verdict on what is wanted under the name
  abbrev pub IsVerdict : ItemKind → Verdict → Type 0
  IsVerdict b Lacking = IsFound given name None
  IsVerdict b Fitting = (a : ItemKind) × IsFound given name (Some a) × FitsAs c k a b
  IsVerdict b (Failing e) = (a : ItemKind) × IsFound given name (Some a) × (FitsAs c k a b → ⊥) × IsSome (fault_of e)
      × Explains e (extern_check k) (item_side (item_tree c (left_item k a))) (item_side (item_tree c (right_item k b)))

  -- what is noted of the name once what is wanted under it, if anything is, is looked for
  abbrev pub IsNameNoted : Option ItemKind → Note → Note → Type 0
  IsNameNoted None s t = t ≡ s
  IsNameNoted (Some b) s t = (v : Verdict) × IsVerdict b v × (t ≡ noted k b v s)

module _ (c : Collection) (k : ExternKind) (given : NamedItems) where
  -- the verdict on what is wanted under one name is noted
  abbrev pub NotesAt : Text → ItemKind → (Text → Note) → (Text → Note) → Type 0
  NotesAt name b before after = (v : Verdict) × IsVerdict c k given name b v × Changes (noted k b v) name before after

  -- that on each name
  abbrev pub AreNoted : NamedItems → (Text → Note) → (Text → Note) → Type 0
  AreNoted wanted before after = (name : Text) → IsNameNoted c k given name (value_at wanted name) (before name) (after name)
