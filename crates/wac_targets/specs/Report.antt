-- What a report says of a component and a target world.
use Rattle.std.specs.Prelude.{◌≡◌, ◌↔◌, [], Some, None, IsSome, Contains, slice_get, Result, Ok, Err}
use Rattle.std.specs.Option.{unwrap_or}
use Rattle.wac_model.specs.Text.{Text}
use Rattle.wac_component.specs.Id.{Id}
use Rattle.wac_component.specs.Collection.{Collection, WorldContent}
use Rattle.wac_component.specs.Items.{promoted}
use Rattle.wac_component.specs.Tree.{item_tree}
use Rattle.wac_component.specs.declared.items.ItemKind.{ItemKind}
use Rattle.wac_component.specs.declared.worlds.ExternKind.{ExternKind}
use Rattle.wac_component.specs.declared.worlds.ExternKind.TheVariants.{Import, Export}
use Rattle.wac_mismatch.specs.Error.{fault_of}
use Rattle.wac_mismatch.specs.Path.{Explains}
use Rattle.wac_mismatch.specs.Place.{item_side}
use Rattle.wac_mismatch.specs.declared.check.SubtypeCheck.{SubtypeCheck}
use Rattle.wac_mismatch.specs.declared.check.SubtypeCheck.TheVariants.{Covariant, Contravariant}
use Rattle.wac_mismatch.specs.declared.error.SubtypeError.{SubtypeError}
use Rattle.wac_names.specs.Pairs.{value_at}
use Rattle.wac_targets.specs.Wanted.{Lacks, Has, wanted, given, left_item, right_item, FitsAs}
use Rattle.wac_targets.specs.Parts.{not_in_target, missing, mismatched}
use Rattle.wac_targets.specs.declared.report.TargetValidationReport.{TargetValidationReport}

-- the world of an id
abbrev pub world_content_of : Collection → Id → WorldContent
world_content_of c w = unwrap_or (slice_get c.worlds w.index) (record { id = None; uses = []; imports = []; exports = [] })

-- imports are checked contravariantly, and exports covariantly
abbrev pub extern_check : ExternKind → SubtypeCheck
extern_check Import = Contravariant
extern_check Export = Covariant

module _ (c : Collection) (target component : WorldContent) where
  -- what is wanted under the name is there and doesn't fit
  pub record Misfits (k : ExternKind) (name : Text) : Type 0 where
    pub a : ItemKind
    pub b : ItemKind
    pub has : Has (given c target component k) (wanted c target component k) name a b
    pub no : FitsAs c k a b → ⊥

  -- it is told of the name: an export that doesn't fit stands in place of an import
  abbrev pub IsMismatched : ExternKind → Text → Type 0
  IsMismatched Export name = Misfits Export name
  IsMismatched Import name = Misfits Import name × (Misfits Export name → ⊥)

  -- the error leads from what is there and what is wanted to where they disagree
  pub record IsMismatchReason (k : ExternKind) (name : Text) (e : SubtypeError) : Type 0 where
    pub a : ItemKind
    pub b : ItemKind
    pub has : Has (given c target component k) (wanted c target component k) name a b
    pub mismatch : IsSome (fault_of e)
    pub path : Explains e (extern_check k) (item_side (item_tree c (left_item k a))) (item_side (item_tree c (right_item k b)))

  -- the three parts: what the component imports and the target world doesn't have, what the
  -- target world exports and the component doesn't have, with the item as it stands there, and
  -- what both have and doesn't fit
  pub record IsReport (r : TargetValidationReport) : Type 0 where
    pub imports_not_in_target : (name : Text) → Contains (not_in_target r) name ↔ ((b : ItemKind) × Lacks (given c target component Import) (wanted c target component Import) name b)
    pub missing_exports : (name : Text) (b : ItemKind) → (value_at (missing r) name ≡ Some b) ↔ Lacks (given c target component Export) (wanted c target component Export) name b
    pub mismatched_types : (name : Text) (k : ExternKind) → ((e : SubtypeError) × (value_at (mismatched r) name ≡ Some (k, e))) ↔ IsMismatched k name
    pub reasons : (name : Text) (k : ExternKind) (e : SubtypeError) → value_at (mismatched r) name ≡ Some (k, e) → IsMismatchReason k name e

-- nothing is reported
pub record IsClean (r : TargetValidationReport) : Type 0 where
  pub not_in_target : not_in_target r ≡ []
  pub missing : missing r ≡ []
  pub mismatched : mismatched r ≡ []

-- a report as an answer: a clean one is a yes
abbrev pub AnswersFor : TargetValidationReport → Result (Unit {0}) TargetValidationReport → Type 0
AnswersFor r (Ok u) = IsClean r
AnswersFor r (Err s) = (s ≡ r) × (IsClean r → ⊥)

-- the answer for a component and a target world is their report
abbrev pub IsAnswer : Collection → WorldContent → WorldContent → Result (Unit {0}) TargetValidationReport → Type 0
IsAnswer c target component a = (r : TargetValidationReport) × IsReport c target component r × AnswersFor r a

-- whatever a world says of a name is meant as it stands
pub record AreMeantAsTheyStand (w : WorldContent) : Type 0 where
  pub imports : (name : Text) (k : ItemKind) → value_at w.imports name ≡ Some k → promoted k ≡ k
  pub exports : (name : Text) (k : ItemKind) → value_at w.exports name ≡ Some k → promoted k ≡ k
