use Rattle.std.proofs.Common.{◌≡◌, ◌∙◌, ◌++◌, ℕ, get_or, sym, ap, ⊎_elim, arith}
use Rattle.std.specs.Prelude.{encode_utf8_all}
use Rattle.std.proofs.lemmas.Bool.{cases_lt}
use Rattle.std.proofs.lemmas.List.{get_or_default}
use Rattle.lic_kind.specs.Kinds.{kind_of, spell}
use Rattle.lic_kind.specs.declared.Kind.TheVariants as kind
use Rattle.lic_kind.proofs.KindLemmas.{is_word_kind-true}
use Rattle.lic_trim.proofs.ItemLemmas.{none}
use Rattle.lic_lines.proofs.TokenLemmas.{word_letters_more}
use Rattle.lic_lines.proofs.tokens.spell_word.Goals as goal

pub loop-count-preserved : goal.loop-count-preserved
loop-count-preserved c =
    let known = c.loop-count.invariant in
    let text = c.args.text.now in
    let n : ℕ = c.loop-count.count in
    let inside = c.loop-count-test.true in
    let stated = c.in_ok-push_if_word.ensures in
    let yes = c.if-not-branch.false in
    let word : kind_of (get_or text n none).char ≡ kind.Word = is_word_kind-true _ (sym stated.word ∙ yes) in
    record {
      within = omega arith;
      words = λ i d lt. ⊎_elim
          (λ before. known.words i d before)
          (λ past. let same : i ≡ n = omega arith in
          ap (λ k. kind_of (get_or text k d).char) same
          ∙ ap (λ s. kind_of s.char) (get_or_default text n d none inside) ∙ word)
          (cases_lt i n);
      letters =
          stated.letters yes
          ∙ ap (λ l. l ++ encode_utf8_all (spell (get_or text n none).char)) known.letters
          ∙ sym (word_letters_more text n none inside);
    }
