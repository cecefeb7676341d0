-- Where listings of packages leave nothing out, the packages have all that is there.
use Rattle.std.proofs.Common.{◌∙◌, ◌++◌, ◌∷◌, [], Contains, IsSome, List, ap, subst, option_map, string_bytes}
use Rattle.std.specs.HashMap.{get_by_text}
use Rattle.std.proofs.lemmas.List.Elements.{Contains-append_left}
use Rattle.wac_wit.specs.Read.{ListsAll}
use Rattle.wac_wit.specs.Reading.{IsListing}
use Rattle.wac_wit.specs.declared.packages.WitPackage.{WitPackage}
use Rattle.wac_wit_validation.specs.Listing.{AreAllListed}
use Rattle.wac_wit_scopes.specs.WitSources.{IsInGroup, WitSources}
use Rattle.wac_wit_validation.specs.declared.listing.PackageListing.{PackageListing}

-- the package has a listing among these
abbrev pub HasListingIn : List PackageListing → WitPackage → Type 0
HasListingIn ls p = (l : PackageListing) × Contains ls l × IsListing l p

pub HasListingIn-more : (ls : List PackageListing) (x : PackageListing) (p : WitPackage) → HasListingIn ls p → HasListingIn (ls ++ x ∷ []) p
HasListingIn-more ls x p h = (h.0, Contains-append_left ls (x ∷ []) h.0 h.1, h.2)

pub ListsAll-listed : (of : WitSources) (ps : List WitPackage) (ls : List PackageListing) → ((l : PackageListing) → Contains ls l → (p : WitPackage) × Contains ps p × IsListing l p)
    → ((p : WitPackage) → Contains ps p → (l : PackageListing) × Contains ls l × IsListing l p) → AreAllListed of ls → ListsAll of ps
ListsAll-listed of ps ls each listed all = record {
  interfaces = λ w n d has.
      let l = all.interfaces w n d has in
      let p = each l.0 l.1 in
      record { is = p.0; among = p.1; name = l.2.name ∙ p.2.name; version = l.2.version ∙ ap (option_map string_bytes) p.2.version; group = subst (IsInGroup of (w.«package»)) p.2.group l.2.group; has = subst (λ m. IsSome (get_by_text m n)) p.2.interfaces l.3 };
  worlds = λ w n d has.
      let l = all.worlds w n d has in
      let p = each l.0 l.1 in
      record { is = p.0; among = p.1; name = l.2.name ∙ p.2.name; version = l.2.version ∙ ap (option_map string_bytes) p.2.version; group = subst (IsInGroup of (w.«package»)) p.2.group l.2.group; has = subst (λ m. IsSome (get_by_text m n)) p.2.worlds l.3 };
  of_texts = λ p among.
      let l = listed p among in
      let s = all.of_texts l.0 l.1 in
      record {
        scope = s.scope;
        is_scope = s.is_scope;
        name = s.listing.name ∙ l.2.name;
        version = s.listing.version ∙ ap (option_map string_bytes) l.2.version;
        group = subst (IsInGroup of s.scope.package) l.2.group s.listing.group;
      };
}
