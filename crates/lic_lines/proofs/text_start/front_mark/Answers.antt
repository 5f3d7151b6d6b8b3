use Rattle.std.proofs.Common.{◌≡◌, ◌∷◌, [], ◌∙◌, ◌++◌, get_or, sym, ap, arith}
use Rattle.std.specs.Prelude.{bytes_eq, codes, encode_utf8_all, string_bytes}
use Rattle.std.specs.Char.{encode_utf8}
use Rattle.std.proofs.lemmas.List.{get_or_default, append-nil}
use Rattle.lic_kind.specs.Kinds.{spell}
use Rattle.lic_trim.specs.declared.source.SourceChar.{SourceChar}
use Rattle.lic_trim.proofs.ItemLemmas.{none}
use Rattle.lic_lines.proofs.TextStarts.{front_mark}
use Rattle.lic_lines.proofs.text_start.front_mark.Goals as goal

pub returns : goal.returns
returns c =
    let text = c.args.text.now in
    let letter = c.mark_letter.result in
    let stated = c.may_be_sign.ensures in
    let off = c.if-may_be_sign.false in
    let letters = string_bytes c.push.new.self in
    let spelled : letters ≡ encode_utf8_all (spell (get_or text 0 none).char) =
    c.in_ok-push.ensures.bytes ∙ ap (λ l. l ++ encode_utf8 letter) c.clear.ensures.bytes ∙ sym (append-nil (encode_utf8 letter))
    ∙ ap encode_utf8_all (sym c.mark_letter.ensures) in (
      omega arith,
      omega (arith, c.requires.some),
      λ rules after_blank d.
          front_mark rules after_blank text letters d c.requires.some (c.requires.mark d)
          (c.is_joined.ensures.alone c.if-is_joined.false)
          (spelled ∙ ap (λ (s : SourceChar). encode_utf8_all (spell s.char)) (get_or_default text 0 none d c.requires.some))
          (ap (bytes_eq (codes "(")) (sym c.as_str.ensures.value) ∙ stated.parenthesis off)
          (ap (bytes_eq (encode_utf8_all (0xA9 ∷ []))) (sym c.as_str.ensures.value) ∙ stated.sign off),
    )
