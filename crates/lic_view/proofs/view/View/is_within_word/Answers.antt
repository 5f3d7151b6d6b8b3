-- Both bytes are of the canonical spelling.
use Rattle.std.proofs.Common.{rules, ◌≡◌, ◌-◌, ◌<◌, length, get_or, subst}
use Rattle.lic_places.specs.Places.{spelling_of}
use Rattle.lic_view.specs.Views.{IsWordByte}
use Rattle.lic_view.proofs.WithinWords.{no_end}
use Rattle.lic_view.proofs.view.View.is_within_word.Goals as goal

pub returns-then-is_word_byte : goal.returns-then-is_word_byte
returns-then-is_word_byte c = λ is.
    let e : c.as_bytes-bytes.result.now ≡ spelling_of c.args.self.now = search rules in
    no_end c.args.self.now c.args.place c.tokens_have_texts.ensures
    (subst (λ b. c.args.place < length b) e c.if-place-bytes.false)
    (subst (λ b. IsWordByte (get_or b (c.args.place - 1) 0)) e (c.is_word_byte.ensures c.if-is_word_byte.true))
    (subst (λ b. IsWordByte (get_or b c.args.place 0)) e (c.is_word_byte-then-is_word_byte.ensures is))
