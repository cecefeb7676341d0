-- Why files are refused, a case a reason.
use Rattle.std.specs.Prelude.{◌≡◌, ℕ, true, List, Contains, Some, slice_get, string_bytes}
use Rattle.wac_model.specs.Text.{Text}
use Rattle.wac_wit_names.specs.declared.error.WitError.{WitError}
use Rattle.wac_wit_names.specs.declared.error.WitError.TheVariants.{Refused, Missing, Memory}
use Rattle.wac_wit_names.specs.declared.error.WitRefusal.{WitRefusal}
use Rattle.wac_wit_names.specs.declared.features.Features.{Features}
use Rattle.wac_wit_names.specs.declared.reason.Reason.{Reason}
use Rattle.wac_wit_names.specs.declared.reason.Reason.TheVariants as why
use Rattle.wac_wit_names.specs.declared.sources.SourceFile.{SourceFile}
use Rattle.wac_wit_refusals.specs.Attributes.{IsTypeOfHidden, IsUnversioned, IsYounger}
use Rattle.wac_wit_refusals_types.specs.Borrows.{IsBorrowReturned, IsBorrowSent}
use Rattle.wac_wit_refusals_worlds.specs.Brought.{IsComingTwice, IsIncludedTwice}
use Rattle.wac_wit_refusals_types.specs.CharStreams.{IsCharStream}
use Rattle.wac_wit_refusals_types.specs.Constructors.{IsNotConstructed}
use Rattle.wac_wit_refusals.specs.Externs.{IsRenamedInterface}
use Rattle.wac_wit_refusals_types.specs.Handles.{IsNotResource}
use Rattle.wac_wit_refusals_worlds.specs.Includes.{IsUnknownRename}
use Rattle.wac_wit_refusals.specs.Members.{IsMemberTwice, IsTakenByPackage, IsUseTwice}
use Rattle.wac_wit_refusals_types.specs.NamesTwice.{IsNameTwice}
use Rattle.wac_wit_refusals_worlds.specs.Needs.{IsNeedCycle}
use Rattle.wac_wit_refusals_worlds.specs.NeededTwice.{IsNeededTwice}
use Rattle.wac_wit_refusals.specs.Packages.{IsAnotherPackage, IsNameless, IsPackageTwice, IsUpperCase}
use Rattle.wac_wit_refusals.specs.PathReasons.{IsForeignWorld, IsHiddenMember, IsNotInterface, IsNotWorld, IsOwnPackage, IsUnknownMember, IsUnknownPackage}
use Rattle.wac_wit_refusals_worlds.specs.SaidTwice.{IsSaidTwice}
use Rattle.wac_wit_refusals_types.specs.TypeCycles.{IsTypeCycle}
use Rattle.wac_wit_refusals_types.specs.TypeNames.{IsHiddenType, IsUnknownType}
use Rattle.wac_wit_refusals_types.specs.TypeReasons.{IsEmpty, IsManyFlags, IsNamedAsResource, IsZeroLength}
use Rattle.wac_wit_refusals.specs.UsedReasons.{IsHiddenUsed, IsUnknownUsed}
use Rattle.wac_wit_scopes.specs.Parsed.{AreParsed}
use Rattle.wac_wit_scopes.specs.WitSources.{WitSources, sources_of}
use Rattle.wac_wit_syntax.specs.Documents.{IsShallowText, Says}
use Rattle.wac_wit_syntax.specs.Faults.{IsPlaceIn}
use Rattle.wac_wit_syntax.specs.declared.positions.Span.{Span}
use Rattle.wac_wit_syntax.specs.declared.tree.Document.{Document}

-- the reason holds of what stands at a place of a file
pub data IsWrong (of : WitSources) (file : ℕ) (span : Span) : Reason → Type 0 where
  another_package : IsAnotherPackage of file span → IsWrong of file span why.AnotherPackage
  upper_case : IsUpperCase of file span → IsWrong of file span why.UpperCase
  package_twice : IsPackageTwice of file span → IsWrong of file span why.PackageTwice
  nameless : IsNameless of file span → IsWrong of file span why.Nameless
  use_twice : IsUseTwice of file span → IsWrong of file span why.UseTwice
  taken_by_package : IsTakenByPackage of file span → IsWrong of file span why.TakenByPackage
  member_twice : IsMemberTwice of file span → IsWrong of file span why.MemberTwice
  unversioned : IsUnversioned of file span → IsWrong of file span why.Unversioned
  younger : IsYounger of file span → IsWrong of file span why.Younger
  type_of_hidden : IsTypeOfHidden of file span → IsWrong of file span why.TypeOfHidden
  renamed_interface : IsRenamedInterface of file span → IsWrong of file span why.RenamedInterface
  unknown_package : IsUnknownPackage of file span → IsWrong of file span why.UnknownPackage
  own_package : IsOwnPackage of file span → IsWrong of file span why.OwnPackage
  unknown_member : IsUnknownMember of file span → IsWrong of file span why.UnknownMember
  not_interface : IsNotInterface of file span → IsWrong of file span why.NotInterface
  not_world : IsNotWorld of file span → IsWrong of file span why.NotWorld
  hidden_member : IsHiddenMember of file span → IsWrong of file span why.HiddenMember
  foreign_world : IsForeignWorld of file span → IsWrong of file span why.ForeignWorld
  unknown_used : IsUnknownUsed of file span → IsWrong of file span why.UnknownUsed
  hidden_used : IsHiddenUsed of file span → IsWrong of file span why.HiddenUsed
  cycle : IsNeedCycle of file span → IsWrong of file span why.Cycle
  said_twice : IsSaidTwice of file span → IsWrong of file span why.SaidTwice
  needed_twice : IsNeededTwice of file span → IsWrong of file span why.NeededTwice
  unknown_rename : IsUnknownRename of file span → IsWrong of file span why.UnknownRename
  included_twice : IsIncludedTwice of file span → IsWrong of file span why.IncludedTwice
  many_flags : IsManyFlags of file span → IsWrong of file span why.ManyFlags
  empty : IsEmpty of file span → IsWrong of file span why.Empty
  zero_length : IsZeroLength of file span → IsWrong of file span why.ZeroLength
  named_as_resource : IsNamedAsResource of file span → IsWrong of file span why.NamedAsResource
  unknown_type : IsUnknownType of file span → IsWrong of file span why.UnknownType
  hidden_type : IsHiddenType of file span → IsWrong of file span why.HiddenType
  not_resource : IsNotResource of file span → IsWrong of file span why.NotResource
  name_twice : IsNameTwice of file span → IsWrong of file span why.NameTwice
  export_twice : IsComingTwice of file span true → IsWrong of file span why.NameTwice
  type_cycle : IsTypeCycle of file span → IsWrong of file span why.TypeCycle
  not_constructed : IsNotConstructed of file span → IsWrong of file span why.NotConstructed
  borrow_returned : IsBorrowReturned of file span → IsWrong of file span why.BorrowReturned
  borrow_sent : IsBorrowSent of file span → IsWrong of file span why.BorrowSent
  char_stream : IsCharStream of file span → IsWrong of file span why.CharStream

-- the text says no document, unless it nests too deep
abbrev pub IsNotWit : Text → Type 0
IsNotWit text = (d : Document) → Says text d → IsShallowText text → ⊥

-- the reason of a refusal holds of the files: the file's text isn't WIT, and the place lies in it; or all texts are, and it holds of
-- what they say
pub data IsReasonIn (files : List SourceFile) (features : Features) (r : WitRefusal) : Reason → Type 0 where
  of_text : (f : SourceFile) → slice_get files r.file ≡ Some f → IsNotWit (string_bytes f.text) → IsPlaceIn (string_bytes f.text) r.refusal.span → IsReasonIn files features r why.Syntax
  of_sources : {x : Reason} (documents : List Document) → AreParsed files documents → IsWrong (sources_of files documents features) r.file r.refusal.span x → IsReasonIn files features r x

-- the reason holds, if one is named
abbrev pub IsRefusedFor : List SourceFile → Features → WitRefusal → Type 0
IsRefusedFor files features r = (x : Reason) → r.reason ≡ Some x → IsReasonIn files features r x

abbrev pub AllRefusedFor : List SourceFile → Features → List WitRefusal → Type 0
AllRefusedFor files features rs = (r : WitRefusal) → Contains rs r → IsRefusedFor files features r

-- each reason that is named holds of the files
abbrev pub AreRefusedFor : List SourceFile → Features → WitError → Type 0
AreRefusedFor files features (Refused rs) = AllRefusedFor files features rs.items
AreRefusedFor files features Missing = Unit {0}
AreRefusedFor files features Memory = Unit {0}
