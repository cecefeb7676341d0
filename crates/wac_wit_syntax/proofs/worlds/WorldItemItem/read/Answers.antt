-- The attributes, and an item of its kind.
use Rattle.std.proofs.Common.{IsNone, codes, rules}
use Rattle.wac_wit_syntax.specs.Cursors.{source}
use Rattle.wac_wit_syntax.specs.Productions.{SaysWord}
use Rattle.wac_wit_syntax.proofs.Finishing.{completes_as_failed, completes_failed, completes_given, completes_then, completes_weaker, completes_with}
use Rattle.wac_wit_syntax.proofs.ItemsLeft.{none_some}
use Rattle.wac_wit_syntax.proofs.WorldsLeft.{WorldRest, world_export, world_import, world_include, world_none, world_parts, world_typedef, world_use}
use Rattle.wac_wit_syntax.proofs.worlds.WorldItemItem.read.Goals as goal

pub returns-in_err-gates-clause-complete : goal.returns-in_err-gates-clause-complete
returns-in_err-gates-clause-complete c = completes_weaker world_parts (completes_failed c.in_err-gates.ensures.complete c.from_residual.ensures)

pub returns-in_err-read_typedef-clause-complete : goal.returns-in_err-read_typedef-clause-complete
returns-in_err-read_typedef-clause-complete c =
    let at = c.read_gates.new.cursor in
    completes_weaker world_parts (completes_then c.in_ok-gates.ensures.complete (completes_given (λ cut j p. world_typedef c.in-Some.word (source at) at.next j c.in-Some.ensures.word p) (completes_as_failed c.in_err-read_typedef.ensures.complete c.from_residual-in_err-read_typedef.ensures)))

pub returns-in-Some-clause-complete : goal.returns-in-Some-clause-complete
returns-in-Some-clause-complete c =
    let at = c.read_gates.new.cursor in
    completes_weaker world_parts (completes_then c.in_ok-gates.ensures.complete (completes_given (λ cut j p. world_typedef c.in-Some.word (source at) at.next j c.in-Some.ensures.word p) (completes_with c.in_ok-read_typedef.ensures.complete)))

pub returns-in_err-read_use-in-use-clause-complete : goal.returns-in_err-read_use-in-use-clause-complete
returns-in_err-read_use-in-use-clause-complete c =
    let at = c.read_gates.new.cursor in
    let says : SaysWord (source at) at.next (codes "use") = search rules in
    completes_weaker world_parts (completes_then c.in_ok-gates.ensures.complete (completes_given (λ cut j p. world_use (source at) at.next j says p) (completes_as_failed c.in_err-read_use-in-use.ensures.complete c.from_residual-in_err-read_use-in-use.ensures)))

pub returns-in_ok-read_use-in-use-clause-complete : goal.returns-in_ok-read_use-in-use-clause-complete
returns-in_ok-read_use-in-use-clause-complete c =
    let at = c.read_gates.new.cursor in
    let says : SaysWord (source at) at.next (codes "use") = search rules in
    completes_weaker world_parts (completes_then c.in_ok-gates.ensures.complete (completes_given (λ cut j p. world_use (source at) at.next j says p) (completes_with c.in_ok-read_use-in-use.ensures.complete)))

pub returns-in_err-read_include-in-include-clause-complete : goal.returns-in_err-read_include-in-include-clause-complete
returns-in_err-read_include-in-include-clause-complete c =
    let at = c.read_gates.new.cursor in
    let says : SaysWord (source at) at.next (codes "include") = search rules in
    completes_weaker world_parts (completes_then c.in_ok-gates.ensures.complete (completes_given (λ cut j p. world_include (source at) at.next j says p) (completes_as_failed c.in_err-read_include-in-include.ensures.complete c.from_residual-in_err-read_include-in-include.ensures)))

pub returns-in_ok-read_include-in-include-clause-complete : goal.returns-in_ok-read_include-in-include-clause-complete
returns-in_ok-read_include-in-include-clause-complete c =
    let at = c.read_gates.new.cursor in
    let says : SaysWord (source at) at.next (codes "include") = search rules in
    completes_weaker world_parts (completes_then c.in_ok-gates.ensures.complete (completes_given (λ cut j p. world_include (source at) at.next j says p) (completes_with c.in_ok-read_include-in-include.ensures.complete)))

pub returns-in_err-read_extern_item-in-import-clause-complete : goal.returns-in_err-read_extern_item-in-import-clause-complete
returns-in_err-read_extern_item-in-import-clause-complete c =
    let at = c.read_gates.new.cursor in
    let says : SaysWord (source at) at.next (codes "import") = search rules in
    completes_weaker world_parts (completes_then c.in_ok-gates.ensures.complete (completes_given (λ cut j p. world_import (source at) at.next j says p) (completes_as_failed c.in_err-read_extern_item-in-import.ensures.complete c.from_residual-in_err-read_extern_item-in-import.ensures)))

pub returns-in_ok-read_extern_item-in-import-clause-complete : goal.returns-in_ok-read_extern_item-in-import-clause-complete
returns-in_ok-read_extern_item-in-import-clause-complete c =
    let at = c.read_gates.new.cursor in
    let says : SaysWord (source at) at.next (codes "import") = search rules in
    completes_weaker world_parts (completes_then c.in_ok-gates.ensures.complete (completes_given (λ cut j p. world_import (source at) at.next j says p) (completes_with c.in_ok-read_extern_item-in-import.ensures.complete)))

pub returns-in_err-read_extern_item-in-export-clause-complete : goal.returns-in_err-read_extern_item-in-export-clause-complete
returns-in_err-read_extern_item-in-export-clause-complete c =
    let at = c.read_gates.new.cursor in
    let says : SaysWord (source at) at.next (codes "export") = search rules in
    completes_weaker world_parts (completes_then c.in_ok-gates.ensures.complete (completes_given (λ cut j p. world_export (source at) at.next j says p) (completes_as_failed c.in_err-read_extern_item-in-export.ensures.complete c.from_residual-in_err-read_extern_item-in-export.ensures)))

pub returns-in_ok-read_extern_item-in-export-clause-complete : goal.returns-in_ok-read_extern_item-in-export-clause-complete
returns-in_ok-read_extern_item-in-export-clause-complete c =
    let at = c.read_gates.new.cursor in
    let says : SaysWord (source at) at.next (codes "export") = search rules in
    completes_weaker world_parts (completes_then c.in_ok-gates.ensures.complete (completes_given (λ cut j p. world_export (source at) at.next j says p) (completes_with c.in_ok-read_extern_item-in-export.ensures.complete)))

pub returns-in_default-word-clause-complete : goal.returns-in_default-word-clause-complete
returns-in_default-word-clause-complete c =
    let at = c.read_gates.new.cursor in
    let none : IsNone c.def_word.result = search rules in
    let not = c.in_default-word in
    completes_weaker world_parts (completes_then {Q = WorldRest} c.in_ok-gates.ensures.complete (record {
      ends = λ cut j p.
          absurd (world_none (source at) at.next j c.word.result.now (λ v says. c.word.ensures.complete v cut says) (λ w says second. none_some c.def_word.result none (c.def_word.ensures.complete w cut says second))
          not.not-use not.not-include not.not-import not.not-export p);
    }))
