-- The digits of an integer are a number.
use Rattle.std.proofs.Common.{◌≡◌, ℕ, ◌^◌, ◌<◌, true, slice_range, sym, subst, ap, ◌∙◌}
use Rattle.std.specs.Str.Parse.{digits_value, without_leading_plus}
use Rattle.wac_model.specs.Text.{Text}
use Rattle.wac_wit_syntax.specs.Cursors.{source}
use Rattle.wac_wit_syntax.specs.Productions.{token_text}
use Rattle.wac_wit_syntax.specs.Tokens.{is_integer}
use Rattle.wac_wit_syntax.specs.declared.token.Token.{Token}
use Rattle.wac_wit_syntax.proofs.Lengths.{parses_integer}
use Rattle.wac_wit_syntax.proofs.types.length_of.Goals as goal

pub returns-in-Err-clause-complete : goal.returns-in-Err-clause-complete
returns-in-Err-clause-complete c = λ cut n says.
    let s = source c.args.cursor.now in
    let i = c.args.cursor.now.next in
    let w : Text = c.in_ok-spelling.field-0.now in
    let same : w ≡ token_text s i = c.in_ok-spelling.ensures.text ∙ ap (λ (t : Token). slice_range s.text t.span.start t.span.end) c.peek-token.ensures in
    let digits : is_integer w ≡ true = subst (λ v. is_integer v ≡ true) (sym same) ((cut.cut_out i).digits says.0) in
    let fits : digits_value 10 (without_leading_plus w) < 2 ^ 32 = subst (λ v. digits_value 10 (without_leading_plus v) < 2 ^ 32) (sym same) (subst (λ (m : ℕ). m < 2 ^ 32) says.1 says.2) in
    absurd (parses_integer c.in-Err.field-0 w digits c.in-Err.ensures.value.0 fits)
