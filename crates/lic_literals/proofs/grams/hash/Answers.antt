-- The word is that of a long gram or of a short one.
use Rattle.std.proofs.Common.{◌≡◌, ◌*◌, ◌%◌, ◌^◌, length, take, sym, ap, ◌∙◌}
use Rattle.std.specs.Int.{w32, w64, from_le_bytes}
use Rattle.std.specs.Prelude.{nat_lt}
use Rattle.std.proofs.lemmas.Bool.{cond-true, cond-false, lt-ltb, le-ltb}
use Rattle.lic_literals.specs.Hashes.{hash_of, word_of}
use Rattle.lic_literals.proofs.grams.hash.Goals as goal
use Rattle.lic_literals.proofs.grams.hash.Goals.{then-gram-lt-LONG_GRAM, else-gram-lt-LONG_GRAM}

pub returns : goal.returns
unfolding hash_of
returns c =
    let gram = c.args.gram.now in
    let short = from_le_bytes w32 (take 4 gram) in
    let long = from_le_bytes w64 (take 8 gram) in
    let word : c.if-gram-lt-LONG_GRAM.word ≡ word_of gram =
    elim c.if-gram-lt-LONG_GRAM.branch [
      | then-gram-lt-LONG_GRAM w ↦
          w.word-is ∙ w.from-word.ensures ∙ w.short_word.ensures
          ∙ sym (cond-true (nat_lt (length gram) 8) short long (lt-ltb (length gram) 8 w.if-gram-lt-LONG_GRAM.true))
      | else-gram-lt-LONG_GRAM w ↦
          w.word-is ∙ w.long_word-word.ensures ∙ sym (cond-false (nat_lt (length gram) 8) short long (le-ltb (length gram) 8 w.if-gram-lt-LONG_GRAM.false))
    ] in
    ap (λ n. n * 0x9E3779B97F4A7C15 % 2 ^ 64) word
