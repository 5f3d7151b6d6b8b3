use Rattle.std.proofs.Common.{◌∙◌, [], ◌∷◌, sym}
use Rattle.std.proofs.lemmas.Bool.{cond-true, cond-false}
use Rattle.std.specs.Prelude.{codes}
use Rattle.std.specs.Char.{encode_utf8}
use Rattle.lic_lines.specs.Tokens.{is_text, token_in}
use Rattle.lic_lines.proofs.signs.make_single_sign.Goals as goal

pub returns-then-has_text : goal.returns-then-has_text
unfolding encode_utf8
returns-then-has_text c =
    let t = token_in c.args.token.now in
    c.make_sign.ensures ∙ sym (cond-true (is_text (0xC2 ∷ 0xA9 ∷ []) t) (record t { text = codes "copyright" }) t (sym c.if-has_text.ensures))

pub returns-else-has_text : goal.returns-else-has_text
unfolding encode_utf8
returns-else-has_text c =
    let t = token_in c.args.token.now in
    sym (cond-false (is_text (0xC2 ∷ 0xA9 ∷ []) t) (record t { text = codes "copyright" }) t (sym c.if-has_text.ensures))
