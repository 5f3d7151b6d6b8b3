use Rattle.std.proofs.lemmas.Str.{is_utf8-from_IsUtf8}
use Rattle.lic_words.proofs.reversed_letters.ReversedLetters.new.Goals as goal

pub invariant_of-result : goal.invariant_of-result
invariant_of-result c = record { text = is_utf8-from_IsUtf8 c.args.token.now c.utf8.token }
