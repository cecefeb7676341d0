use Rattle.std.proofs.Common.{◌≡◌, sym, ◌∙◌, ap, is_some, Some, length, rules}
use Rattle.wac_interners.proofs.Adding.{adds_new, place_new, put_last}
use Rattle.wac_interners.proofs.interners.Texts.place_or_add.Goals as goal

pub returns-clause-place : goal.returns-clause-place
returns-clause-place c =
    let none = sym c.place.ensures.place ∙ c.in_default.is in
    let absent = sym c.place.ensures.found ∙ ap is_some c.in_default.is in
    let size : length c.args.self.now.texts.keys ≡ c.len-place.result = search rules in
    rw (c.in_ok-insert.ensures.keys ∙ put_last _ _ _ c.in_ok-from_str.ensures.ok absent) (place_new _ _ _ c.in_ok-from_str.ensures.ok none ∙ ap Some size)

pub returns-clause-others : goal.returns-clause-others
returns-clause-others c =
    let none = sym c.place.ensures.place ∙ c.in_default.is in
    let absent = sym c.place.ensures.found ∙ ap is_some c.in_default.is in
    rw (c.in_ok-insert.ensures.keys ∙ put_last _ _ _ c.in_ok-from_str.ensures.ok absent) (adds_new _ _ _ c.in_ok-from_str.ensures.ok none)
