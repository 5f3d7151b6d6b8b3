use Rattle.std.proofs.Common.{◌∷◌, [], ◌∙◌, sym, ap}
use Rattle.std.specs.Prelude.{bytes_eq, codes, encode_utf8_all, string_bytes}
use Rattle.lic_kind.specs.declared.Kind.TheVariants as kind
use Rattle.lic_trim.proofs.ItemLemmas.{none}
use Rattle.lic_lines.proofs.KindSequences.{some_front}
use Rattle.lic_lines.proofs.TextStarts.{front_word}
use Rattle.lic_lines.proofs.text_start.front_word.Goals as goal

pub returns : goal.returns
returns c =
    let text = c.args.text.now in
    let n = c.in_ok-length.length in
    let sequence = c.in_ok-length.ensures in
    let letters = string_bytes c.spell_word.new.letters in
    let some = some_front kind.Word text n c.requires.some (c.requires.word none) sequence.stop in
    let stated = c.may_be_sign.ensures in
    let off = c.if-may_be_sign.false in (
      some,
      sequence.within,
      λ rules after_blank d.
          front_word rules after_blank text n letters d some sequence.within sequence.words sequence.stop sequence.letters
          (ap (bytes_eq (codes "(")) (sym c.as_str.ensures.value) ∙ stated.parenthesis off)
          (ap (bytes_eq (encode_utf8_all (0xA9 ∷ []))) (sym c.as_str.ensures.value) ∙ stated.sign off),
    )
