use Rattle.std.proofs.Common.{◌∙◌, sym, get_or, arith, ne_eqb}
use Rattle.std.proofs.lemmas.Bool.{not-true}
use Rattle.lic_trim.proofs.WordLetters.{no_item_word}
use Rattle.lic_trim.proofs.ascii_cut.has_word_letter.Goals as goal

pub returns-then-is_ascii_alphabetic : goal.returns-then-is_ascii_alphabetic
returns-then-is_ascii_alphabetic c = λ on rules.
    let line = c.args.line.now in
    no_item_word rules line (omega arith) (ne_eqb (get_or line 0 0) 0x28 c.if-line-eq40.false)
    (sym c.is_ascii_alphabetic.ensures.value ∙ c.if-is_ascii_alphabetic.true)
    (sym c.is_roman_digit.ensures ∙ not-true c.is_roman_digit.result on)
