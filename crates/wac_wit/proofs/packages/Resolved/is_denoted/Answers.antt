use Rattle.std.proofs.Common.{refl, subst, ◌∙◌}
use Rattle.wac_component.specs.Collection.{Collection}
use Rattle.wac_wit.specs.Read.{IsEachRead, ListsAll}
use Rattle.wac_wit.specs.Reading.{sources_in}
use Rattle.wac_wit.proofs.Listing.{some_of, told_of}
use Rattle.wac_wit.proofs.packages.Resolved.is_denoted.Goals as goal

pub returns : goal.returns
returns c = told_of c.lists_all.result _ _ c.lists_all.ensures (λ b told is.
    let wit = c.args.self.now.wit in
    let of = sources_in c.args.self.now.sources in
    let types = some_of c.in_ok-validator.field-0 c.in-Some.validator _ c.in-Some.is c.in_ok-validator.ensures.types in
    let knows = c.are_added.ensures.knows of (some_of c.in_ok-validator.field-0 c.in-Some.validator _ c.in-Some.is c.in_ok-validator.ensures.knows) in
    record {
      each = subst (λ (d : Collection). IsEachRead of d wit) (c.are_added.ensures.types ∙ types) (c.if-not-are_listed.ensures refl of knows);
      all = subst (ListsAll of) c.deref-3.ensures.value (told is of knows);
      clear = record {
        paths = some_of c.in_ok-validator.field-0 c.in-Some.validator _ c.in-Some.is c.in_ok-validator.ensures.unambiguous;
        exports = some_of c.in_ok-validator.field-0 c.in-Some.validator _ c.in-Some.is c.in_ok-validator.ensures.one_tree;
      };
    })
