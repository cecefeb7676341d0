-- What names and types stand for, where other new names come to the same for all that is defined.
use Rattle.std.proofs.Common.{◌≡◌, Bool, List, Box, Contains, Option, Global, sym, subst}
use Rattle.wac_model.specs.Text.{Text}
use Rattle.wac_model.specs.ValueTree.{FuncTree, ValueTree}
use Rattle.wac_wit_syntax.specs.declared.tree.Case.{Case}
use Rattle.wac_wit_syntax.specs.declared.tree.Field.{Field}
use Rattle.wac_wit_syntax.specs.declared.tree.FuncItem.{FuncItem}
use Rattle.wac_wit_syntax.specs.declared.tree.Rename.{Rename}
use Rattle.wac_wit_syntax.specs.declared.tree.Signature.{Signature}
use Rattle.wac_wit_syntax.specs.declared.tree.TypeExpr.{TypeExpr}
use Rattle.wac_wit_syntax.specs.declared.tree.TypeItem.{TypeItem}
use Rattle.wac_wit_syntax.specs.declared.tree.UseItem.{UseItem}
use Rattle.wac_wit_scopes.specs.WitSources.{IsEnabled, ScopeSyntax, WitSources, ident_text}
use Rattle.wac_wit_validation_types.specs.Denoted.{AreCasesOf, AreFieldsOf, AreValuesOf, Denoted, IsDefined, IsOptional, IsValue, NamesType, Setting, a_future, a_list, a_map, a_primitive}
use Rattle.wac_wit_validation_types.specs.Denoted.{a_record, a_resource, a_result, a_stream, a_tuple, a_variant, alias, an_enum, an_option, another_name, bare, borrowed, defined, fixed_list}
use Rattle.wac_wit_validation_types.specs.Denoted.{handle, more_fields, more_values, name, no_cases, no_fields, no_values, nothing, owned, renamed_by, resource_type, some_flags, something}
use Rattle.wac_wit_validation_types.specs.Denoted.{used, value_type, with_type}
use Rattle.wac_wit_validation_types.specs.Functions.{IsFuncOf, IsReturned, returns, returns_nothing}

module _ (of : WitSources) (w : ScopeSyntax) (us : List UseItem) (ts : List TypeItem) (funcs : List FuncItem) (old new : List (List Rename))
    (agree : (t : TypeItem) → Contains ts t → IsEnabled of t.gates → renamed_by old (ident_text t.name) ≡ renamed_by new (ident_text t.name)) where
  abbrev before : Setting
  before = record { sources = of; scope = w; uses = us; types = ts; funcs = funcs; renames = old }

  abbrev after : Setting
  after = record { sources = of; scope = w; uses = us; types = ts; funcs = funcs; renames = new }

  mutual
    pub moved_name : (n : Text) (m : Denoted) → NamesType before n m → NamesType after n m
    moved_name n m (defined t t_in t_on t_is h) = defined t t_in t_on t_is (moved_defined t m t_in t_on h)
    moved_name n m (used u r d u_in u_on r_in r_is to has h) = used u r d u_in u_on r_in r_is to has h

    moved_defined : (t : TypeItem) (m : Denoted) → Contains ts t → IsEnabled of t.gates → IsDefined before t m → IsDefined after t m
    moved_defined t m t_in t_on (another_name id is h) = another_name id is (moved_name (ident_text id) m h)
    moved_defined t _ t_in t_on (alias {v = v} e is isnt h) = alias e is isnt (moved_value e v h)
    moved_defined t _ t_in t_on (a_record {vs = vs} fs is h) = a_record fs is (moved_fields fs.items vs h)
    moved_defined t _ t_in t_on (a_variant {vs = vs} {cs = cs} xs is h) = a_variant xs is (moved_cases xs.items cs vs h)
    moved_defined t _ t_in t_on (some_flags ns is) = some_flags ns is
    moved_defined t _ t_in t_on (an_enum ns is) = an_enum ns is
    moved_defined t _ t_in t_on (a_resource ms is) = subst (λ (r : Text). IsDefined after t (resource_type r)) (sym (agree t t_in t_on)) (a_resource ms is)

    moved_value : (e : TypeExpr) (v : ValueTree) → IsValue before e v → IsValue after e v
    moved_value _ _ a_primitive = a_primitive
    moved_value _ v (name {id = id} h) = name (moved_name (ident_text id) (value_type v) h)
    moved_value _ _ (handle {id = id} {r = r} h) = handle (moved_name (ident_text id) (resource_type r) h)
    moved_value _ _ (owned {id = id} {r = r} h) = owned (moved_name (ident_text id) (resource_type r) h)
    moved_value _ _ (borrowed {id = id} {r = r} h) = borrowed (moved_name (ident_text id) (resource_type r) h)
    moved_value _ _ (a_list {t = t} {v = v} h) = a_list (moved_value t.value v h)
    moved_value _ _ (fixed_list {t = t} {v = v} h) = fixed_list (moved_value t.value v h)
    moved_value _ _ (an_option {t = t} {v = v} h) = an_option (moved_value t.value v h)
    moved_value _ _ (a_result {ok = a} {err = b} {x = x} {y = y} h k) = a_result (moved_optional a x h) (moved_optional b y k)
    moved_value _ _ (a_tuple xs {vs = vs} h) = a_tuple xs (moved_values xs.items vs h)
    moved_value _ _ (a_map {k = k} {t = t} {x = x} {v = v} h g) = a_map (moved_value k.value x h) (moved_value t.value v g)
    moved_value _ _ (a_future {t = t} {x = x} h) = a_future (moved_optional t x h)
    moved_value _ _ (a_stream {t = t} {x = x} h) = a_stream (moved_optional t x h)

    moved_optional : (o : Option (Box TypeExpr Global)) (x : Option ValueTree) → IsOptional before o x → IsOptional after o x
    moved_optional _ _ nothing = nothing
    moved_optional _ _ (something {t = t} {v = v} h) = something (moved_value t.value v h)

    moved_values : (xs : List TypeExpr) (vs : List ValueTree) → AreValuesOf before xs vs → AreValuesOf after xs vs
    moved_values _ _ no_values = no_values
    moved_values _ _ (more_values {t = t} {ts = xs} {v = v} {vs = vs} h hs) = more_values (moved_value t v h) (moved_values xs vs hs)

    moved_fields : (fs : List Field) (vs : List ValueTree) → AreFieldsOf before fs vs → AreFieldsOf after fs vs
    moved_fields _ _ no_fields = no_fields
    moved_fields _ _ (more_fields {f = f} {fs = fs} {v = v} {vs = vs} h hs) = more_fields (moved_value f.ty v h) (moved_fields fs vs hs)

    moved_cases : (cs : List Case) (ns : List (Text × Bool)) (vs : List ValueTree) → AreCasesOf before cs ns vs → AreCasesOf after cs ns vs
    moved_cases _ _ _ no_cases = no_cases
    moved_cases _ _ _ (bare {cs = cs} {ns = ns} {vs = vs} none hs) = bare none (moved_cases cs ns vs hs)
    moved_cases _ _ _ (with_type {cs = cs} {ns = ns} {v = v} {vs = vs} t is h hs) = with_type t is (moved_value t v h) (moved_cases cs ns vs hs)

  moved_returned : (o : Option TypeExpr) (x : Option ValueTree) → IsReturned before o x → IsReturned after o x
  moved_returned _ _ returns_nothing = returns_nothing
  moved_returned _ _ (returns {t = t} {v = v} h) = returns (moved_value t v h)

  pub moved_func : (sig : Signature) (first : List (Text × ValueTree)) (f : Option ValueTree → Option ValueTree) (g : FuncTree) → IsFuncOf before sig first f g → IsFuncOf after sig first f g
  moved_func sig first f g h = record {
    params = h.params;
    are_params = moved_fields sig.params.items h.params h.are_params;
    named = h.named;
    returns = h.returns;
    are_returns = moved_returned sig.returns h.returns h.are_returns;
    given = h.given;
    is_async = h.is_async;
  }
