use Rattle.std.proofs.Common.{String, refl, string_bytes, sym, subst, arith}
use Rattle.std.specs.declared.alloc.Global.{Global}
use Rattle.wac_component.specs.Id.{Id}
use Rattle.wac_model.specs.Text.{Text}
use Rattle.wac_wit.specs.Read.{version_bytes}
use Rattle.wac_wit.proofs.Listing.{AllBefore-contains, AllBefore-none, AllBefore-next}
use Rattle.wac_wit.proofs.packages.has_worlds.Goals as goal
use Rattle.wac_wit_validation.specs.Validated.{IsWorldOf}

pub loop-index-init : goal.loop-index-init
loop-index-init c = λ of knows. AllBefore-none (λ (e : String Global × Id). IsWorldOf of c.args.validator.now.types.now (string_bytes c.args.«package».now.name) (version_bytes c.args.«package».now) (string_bytes e.0) e.1) c.args.«package».now.worlds.entries

pub loop-index-preserved : goal.loop-index-preserved
loop-index-preserved c = λ of knows.
    let types = c.args.validator.now.types.now in
    let p = c.args.«package».now in
    let version = version_bytes p in
    let told = c.if-not-is_world_of.ensures refl of knows in
    AllBefore-next (λ (e : String Global × Id). IsWorldOf of types (string_bytes p.name) version (string_bytes e.0) e.1) p.worlds.entries c.loop-index.index (c.in-Some.name.now, c.in-Some.id.now) (sym c.in-Some.ensures.entry) (c.loop-index.invariant of knows)
    (subst (λ (n : Text). IsWorldOf of types n version (string_bytes c.in-Some.name.now) c.in-Some.id.now) c.deref.ensures
    (subst (λ (n : Text). IsWorldOf of types c.deref.result.now version n c.in-Some.id.now) c.deref-in-loop-index.ensures told))

pub returns : goal.returns
returns c = λ h of knows n id among.
    AllBefore-contains (λ (e : String Global × Id). IsWorldOf of c.args.validator.now.types.now (string_bytes c.args.«package».now.name) (version_bytes c.args.«package».now) (string_bytes e.0) e.1)
    c.args.«package».now.worlds.entries c.loop-index.index (n, id) (let whole = c.len-index-end.ensures.len in let past = c.loop-index-test.false in omega (arith, whole, past)) (c.loop-index.invariant of knows) among
