-- The way to where two items clash.
use Rattle.std.proofs.Common.{◌≡◌, ◌∙◌, ap, sym, subst, List, [], ◌∷◌, ◌++◌, Option, Some, None, append_assoc}
use Rattle.std.proofs.lemmas.List.{append-nil}
use Rattle.wac_model.specs.ItemTree.{ItemTree}
use Rattle.wac_component.specs.Collection.{Collection}
use Rattle.wac_component.specs.Growth.{Extends}
use Rattle.wac_component.specs.Key.{AllStand, item_keys}
use Rattle.wac_component.specs.Tree.{item_tree}
use Rattle.wac_component.specs.declared.items.ItemKind.{ItemKind}
use Rattle.wac_component.proofs.Extended.{AllStand-Extends}
use Rattle.wac_mismatch.specs.Place.{item_side}
use Rattle.wac_mismatch.specs.declared.check.SubtypeCheck.{SubtypeCheck}
use Rattle.wac_mismatch.specs.declared.error.SubtypeError.{SubtypeError}
use Rattle.wac_aggregator_errors.specs.declared.error.AggregateError.{AggregateError}
use Rattle.wac_aggregator_errors.specs.declared.error.AggregateError.TheVariants.{Kinds, Mismatch, UsedInterface, UsedName, NoIdentifier, OwnerWithoutIdentifier, Taken, Cycle, Memory}
use Rattle.wac_aggregator_errors.specs.declared.frame.MergeFrame.{MergeFrame}
use Rattle.wac_aggregator_errors.specs.declared.frame.MergeFrame.TheVariants.{Export}
use Rattle.wac_aggregator_errors.specs.Clashes.{AreApart, HasNoClash, SaysNo, ClashesAt, here, in_modules, below, IsMismatch}
use Rattle.wac_aggregator_errors.specs.Found.{IsClashOf, IsCoreClashOf, IsSearchBelow, IsCoreSearchBelow, IsWayTo}
use Rattle.wac_aggregator_errors.specs.declared.exports.ExportClash.{ExportClash}
use Rattle.wac_aggregator_errors.specs.declared.modules.CoreClash.{CoreClash}
use Rattle.wac_aggregator_errors.proofs.Apart.{trees_before, trees_after}

-- no further frame
pub ends_here : (check : SubtypeCheck) (e : SubtypeError) (a b : ItemTree) (frames : List MergeFrame) (o : Option CoreClash) → HasNoClash a b → o ≡ None → IsCoreSearchBelow a b o → SaysNo e check (item_side a) (item_side b)
    → (rest : List MergeFrame) × (frames ≡ frames ++ rest) × ClashesAt check e rest a b
ends_here check e a b frames o none is searched says = ([], sym (append-nil frames), here none (subst (IsCoreSearchBelow a b) is searched) says)

-- one to the exports of core modules
pub ends_in_modules : (check : SubtypeCheck) (a b : ItemTree) (frames more : List MergeFrame) (o : Option CoreClash) (found : CoreClash) → o ≡ Some found → IsCoreSearchBelow a b o → more ≡ frames ++ Export found.name ∷ []
    → (rest : List MergeFrame) × (more ≡ frames ++ rest) × ClashesAt check found.error rest a b
ends_in_modules check a b frames more o found is clashes put =
    let clash : IsCoreClashOf a b found = subst (IsCoreSearchBelow a b) is clashes in
    (Export found.name ∷ [], put, in_modules found.name clash.left clash.right clash.alike clash.of_first clash.of_second clash.apart clash.says)

-- the way from two items to themselves
pub no_way : (c : Collection) (a b : ItemKind) (frames : List MergeFrame) → AllStand c (item_keys a) → AllStand c (item_keys b) → AreApart (item_tree c a) (item_tree c b) → IsWayTo c (a, b) frames c (a, b) frames
no_way c a b frames sa sb apart = record { first_stands = sa; second_stands = sb; apart = apart; more = []; put = sym (append-nil frames); leads = λ check e rest h. h }

-- and on to two exports of these that clash, after the collection grew
pub way_on : (c d e : Collection) (from : ItemKind × ItemKind) (before frames : List MergeFrame) (a b : ItemKind) → IsWayTo c from before d (a, b) frames → Extends d e → (o : Option ExportClash) (found : ExportClash) → o ≡ Some found → IsSearchBelow d a b o
    → IsWayTo c from before e (found.existing, found.new) (frames ++ Export found.name ∷ [])
way_on c d e from before frames a b way grown o found is clashes =
    let clash : IsClashOf d a b found = subst (IsSearchBelow d a b) is clashes in
    record {
      first_stands = AllStand-Extends d e grown (item_keys found.existing) clash.existing_stands;
      second_stands = AllStand-Extends d e grown (item_keys found.new) clash.new_stands;
      apart = trees_after AreApart d e grown found.existing found.new clash.existing_stands clash.new_stands clash.apart;
      more = way.more ++ Export found.name ∷ [];
      put = ap (λ (l : List MergeFrame). l ++ Export found.name ∷ []) way.put ∙ append_assoc before way.more (Export found.name ∷ []);
      leads = λ check error rest h.
          subst (λ (l : List MergeFrame). ClashesAt check error l (item_tree c from.0) (item_tree c from.1)) (sym (append_assoc way.more (Export found.name ∷ []) rest))
          (way.leads check error (Export found.name ∷ rest)
          (below found.name (item_tree d found.existing) (item_tree d found.new) rest clash.alike clash.of_first clash.of_second clash.apart
          (trees_before (λ s t. ClashesAt check error rest s t) d e grown found.existing found.new clash.existing_stands clash.new_stands h)));
    }

-- what is said at the end of the way is said of where it began
pub said_from : (c d : Collection) (from to : ItemKind × ItemKind) (before frames : List MergeFrame) (check : SubtypeCheck) → IsWayTo c from before d to frames → (e : AggregateError)
    → IsMismatch frames (λ m x. ClashesAt check x m (item_tree d to.0) (item_tree d to.1)) e → IsMismatch before (λ m x. ClashesAt check x m (item_tree c from.0) (item_tree c from.1)) e
said_from c d from to before frames check way (Mismatch fs e) g = (way.more ++ g.0, g.1 ∙ ap (λ (l : List MergeFrame). l ++ g.0) way.put ∙ append_assoc before way.more g.0, way.leads check e g.0 g.2)
said_from c d from to before frames check way (Kinds x y) g = elim g [ ]
said_from c d from to before frames check way (UsedInterface x y z) g = elim g [ ]
said_from c d from to before frames check way (UsedName x) g = elim g [ ]
said_from c d from to before frames check way (NoIdentifier x) g = elim g [ ]
said_from c d from to before frames check way (OwnerWithoutIdentifier x) g = elim g [ ]
said_from c d from to before frames check way (Taken x) g = elim g [ ]
said_from c d from to before frames check way (Cycle x) g = elim g [ ]
said_from c d from to before frames check way Memory g = elim g [ ]

-- nothing was found, and isn't after the collection grew
pub still_none : (c d : Collection) → Extends c d → (a b : ItemKind) → AllStand c (item_keys a) → AllStand c (item_keys b) → (o : Option ExportClash) → o ≡ None → IsSearchBelow c a b o → HasNoClash (item_tree d a) (item_tree d b)
still_none c d grown a b sa sb o is searched = trees_after HasNoClash c d grown a b sa sb (subst (IsSearchBelow c a b) is searched)

-- and still leads there after the collection grew
pub way_kept : (c d e : Collection) (from : ItemKind × ItemKind) (before frames : List MergeFrame) (a b : ItemKind) → Extends d e → IsWayTo c from before d (a, b) frames → IsWayTo c from before e (a, b) frames
way_kept c d e from before frames a b grown way = record {
  first_stands = AllStand-Extends d e grown (item_keys a) way.first_stands;
  second_stands = AllStand-Extends d e grown (item_keys b) way.second_stands;
  apart = trees_after AreApart d e grown a b way.first_stands way.second_stands way.apart;
  more = way.more;
  put = way.put;
  leads = λ check error rest h.
      way.leads check error rest (trees_before (λ s t. ClashesAt check error rest s t) d e grown a b way.first_stands way.second_stands h);
}
