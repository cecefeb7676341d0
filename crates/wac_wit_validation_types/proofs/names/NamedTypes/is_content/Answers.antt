use Rattle.wac_wit_validation_types.specs.Denoted.{a_variant}
use Rattle.wac_wit_validation_types.proofs.Contents.{enum-names, flags-names, record-entries}
use Rattle.wac_wit_validation_types.proofs.names.NamedTypes.is_content.Goals as goal

pub returns-in-Record-Record : goal.returns-in-Record-Record
returns-in-Record-Record c is s h =
    let at = c.in-Record-Record in
    let names = rw (c.as_slice.ensures.entries, c.deref.ensures.value) at (c.are_fields.ensures.names is) in
    let types = rw (c.as_slice.ensures.entries, c.deref.ensures.value) at (c.are_fields.ensures.types is s h) in
    rw at.is-1 (record-entries s c.args.item.now c.args.self.now.types.now at.fields at.of.fields.entries at.is-0 names types)

pub returns-in-Variant-Variant : goal.returns-in-Variant-Variant
returns-in-Variant-Variant c is s h =
    let at = c.in-Variant-Variant in
    let are = rw (c.as_slice-in-Variant-Variant.ensures.entries, c.deref-in-Variant-Variant.ensures.value) at (c.are_cases.ensures is s h) in
    rw at.is-1 (a_variant at.cases at.is-0 are)

pub returns-in-Flags-Flags : goal.returns-in-Flags-Flags
returns-in-Flags-Flags c is s h =
    let at = c.in-Flags-Flags in
    rw at.is-1 (flags-names s c.args.item.now c.args.self.now.types.now at.names at.of.0.keys at.is-0 (rw c.deref-in-Flags-Flags.ensures.value at (c.are_names.ensures is)))

pub returns-in-Enum-Enum : goal.returns-in-Enum-Enum
returns-in-Enum-Enum c is s h =
    let at = c.in-Enum-Enum in
    rw at.is-1 (enum-names s c.args.item.now c.args.self.now.types.now at.names at.of.0.keys at.is-0 (rw c.deref-in-Enum-Enum.ensures.value at (c.are_names-in-Enum-Enum.ensures is)))
