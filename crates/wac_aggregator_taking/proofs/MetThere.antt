-- An item that is met with what an interface exports under its name, among whatever other items.
use Rattle.std.proofs.Common.{◌≡◌, [], Some, refl, subst, sym, ◌∙◌}
use Rattle.std.specs.Prelude.{Result, Ok, Err, MatchResult}
use Rattle.std.specs.Str.{bytes_eq}
use Rattle.wac_model.specs.Text.{Text, lookup}
use Rattle.wac_model.specs.Order.{Fits}
use Rattle.wac_component.specs.Collection.{Collection}
use Rattle.wac_component.specs.Id.{Id}
use Rattle.wac_component.specs.Key.{Stands, AllStand, interface_key, item_keys}
use Rattle.wac_component.specs.Tree.{item_tree}
use Rattle.wac_component.specs.declared.items.ItemKind.{ItemKind}
use Rattle.wac_component.proofs.Among.{Contains-first, each_found}
use Rattle.wac_merge.specs.Reads.{exports_at}
use Rattle.wac_aggregator_errors.specs.declared.error.AggregateError.{AggregateError}
use Rattle.wac_aggregator_narrowing.specs.Identified.{IsCovered}
use Rattle.wac_aggregator_narrowing.specs.Traced.{LeadsAlongArrows}
use Rattle.wac_aggregator_taking.specs.Growing.{IsMetThere, IsOwnMeet}
use Rattle.wac_aggregator_taking.specs.Refused.{IsMergeRefusal, IsRefusedThere}
use Rattle.wac_aggregator_taking.proofs.GrowLemmas.{met_put}
use Rattle.wac_aggregator_taking.proofs.MergeReasons.{met_open, met_along, merge_refused, leaves_apart}

module _ (c : Collection) (e : Id) (n : Text) (b a : ItemKind) (found : lookup bytes_eq (exports_at c (interface_key e)) n ≡ Some b) (new : AllStand c (item_keys a)) where
  met_among : (d : Collection) (m : ItemKind) → IsOwnMeet c d b a m → IsMetThere c d e n a m
  met_among d m met es stand same =
      let there : lookup bytes_eq es n ≡ Some b = same ∙ found in
      met_put c d es _ n a m met.on stand met.stands met.fits_second
      (λ x is. let both : Some b ≡ Some x = sym there ∙ is in let one : b ≡ x = cc in subst (λ y. Fits (item_tree d m) (item_tree c y)) one met.fits_first)
      (λ t before this. met.greatest t (before b there) this)
      (λ ss good h k. met.covered ss good (each_found (IsCovered c ss) es n b there h) k)
      (λ at s kept all hx hy. met_open c d b a m met at s n kept all (hx n b there) hy)
      (λ ss rs from good h k. met_along c d b a m met ss rs from good (each_found (Stands c) es n b there stand) new (each_found (LeadsAlongArrows c ss rs from) es n b there h) k) refl

  refused_among : (r : AggregateError) → IsMergeRefusal c b a r → IsRefusedThere c e n a r
  refused_among r refused es stand same ne =
      let there : lookup bytes_eq es n ≡ Some b = same ∙ found in
      record {
        reason = λ at s kept all hx hy touches. merge_refused c at s n b a r kept touches (hx n b there) (hy n a (Contains-first _ [])) (refused ne);
        leaves = leaves_apart c es n b a r there (refused ne);
      }

  pub met_there : (d : Collection) (r : Result ItemKind AggregateError) → MatchResult r (IsOwnMeet c d b a) (IsMergeRefusal c b a) → MatchResult r (IsMetThere c d e n a) (IsRefusedThere c e n a)
  met_there d (Ok m) h = met_among d m h
  met_there d (Err r) h = refused_among r h
