use Rattle.std.proofs.Common.{◌↔◌, ◌++◌, map}
use Rattle.lic_words.specs.Words.{Cat}
use Rattle.lic_words.specs.Expressions.{Language, cat_all}
use Rattle.lic_words.proofs.Languages.{sequences_sound, sequences_complete}
use Rattle.lic_markup.specs.Meaning.{part_words}
use Rattle.lic_markup.proofs.MeaningLemmas.{parts_words-sequence, parts_words-append}
use Rattle.lic_markup.proofs.laws.parts_in_a_row_denote_both.Goals as goal

pub returns : goal.returns
returns c = λ xs ys w.
    let one = map part_words xs in
    let two = map part_words ys in
    let both : Language (cat_all (one ++ two)) w ↔ Cat (Language (cat_all one)) (Language (cat_all two)) w =
    (sequences_sound one two w, sequences_complete one two w) in
    rw (parts_words-append xs ys) (rw (parts_words-sequence xs) (rw (parts_words-sequence ys) both))
