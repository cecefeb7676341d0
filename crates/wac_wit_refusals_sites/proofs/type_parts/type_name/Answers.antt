use Rattle.std.proofs.Common.{subst, sym}
use Rattle.wac_wit_refusals_sites.specs.TypeSites.{IsTypeName, a_borrowed_handle, a_type_name, an_owned_handle}
use Rattle.wac_wit_refusals_sites.proofs.type_parts.type_name.Goals as goal

pub returns-in-Name : goal.returns-in-Name
returns-in-Name c = subst (IsTypeName c.in-Name.name) (sym c.in-Name.is) a_type_name

pub returns-in-Own : goal.returns-in-Own
returns-in-Own c = subst (IsTypeName c.in-Own.name) (sym c.in-Own.is) an_owned_handle

pub returns-in-Borrow : goal.returns-in-Borrow
returns-in-Borrow c = subst (IsTypeName c.in-Borrow.name) (sym c.in-Borrow.is) a_borrowed_handle
