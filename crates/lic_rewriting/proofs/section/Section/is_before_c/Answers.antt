use Rattle.std.proofs.Common.{◌+◌, ◌<◌, ◌∙◌, length, get_or, sym, true≢false, arith}
use Rattle.std.proofs.lemmas.Bool.{eq-eqb}
use Rattle.lic_rewriting.proofs.SectionTokens.{no_token, none_after_last, none_before, other_token}
use Rattle.lic_rewriting.proofs.section.Section.is_before_c.Goals as goal

pub returns-then-len-i-lt2 : goal.returns-then-len-i-lt2
returns-then-len-i-lt2 c = λ _. none_after_last c.args.self.now c.args.i (omega (arith, c.if-len-i-lt2.true, c.len.ensures, c.requires))

pub returns : goal.returns
returns c = λ other.
    let tokens = c.args.self.now in
    let i = c.args.i in
    let letters = c.letters_of.result.now in
    let two : i + 1 < length tokens = omega (arith, c.if-len-i-lt2.false, c.len.ensures, c.requires) in
    none_before tokens i no_token two
    (other_token 0x63 letters (get_or tokens (i + 1) no_token) (c.letters_of.ensures.text no_token)
    (λ same. true≢false (sym (eq-eqb (get_or letters 0 0) 0x63 same) ∙ other)))
