use Rattle.std.proofs.Common.{◌≡◌, refl, ◌+◌, ◌++◌, ◌∷◌, [], ◌∙◌, length, sym, ap, arith, length-append, append-nil}
use Rattle.std.specs.Str.{chars, encode_utf8_all}
use Rattle.std.specs.Char.{encode_utf8, len_utf8}
use Rattle.std.specs.Str.Iter.{chars_rest}
use Rattle.std.proofs.lemmas.Str.{encodes-chars, length-encode}
use Rattle.lic_trim.specs.Sources.{placed, without_dropped}
use Rattle.lic_norm.proofs.NextChars.{next_char, none_left, kept, left_out}
use Rattle.lic_norm.proofs.reader.characters.push_text.Goals as goal

pub overflow_add-end : goal.overflow_add-end
overflow_add-end c =
    let known = c.loop-char.invariant in
    let char = c.in-Some.char in
    let next = next_char known.0 char _ _ known.1 c.in-Some.ensures.steps.0 in
    omega (
      arith,
      c.requires,
      known.2,
      ap (λ l. length (encode_utf8_all l)) next.all,
      length-append (encode_utf8 char) (encode_utf8_all next.others),
      length-encode char,
      c.width.ensures,
    )

pub loop-char-init : goal.loop-char-init
loop-char-init c =
    let text = c.args.text.now in
    let all = encodes-chars text c.utf8.text in
    let rest : chars_rest c.into_iter-char-iterator.result ≡ text =
    ap chars_rest c.into_iter-char-iterator.ensures.into_iter_gives ∙ c.chars-char-items.ensures.rest in
    (chars text, all ∙ sym rest, ap (λ l. c.args.at + length l) all, refl)

pub loop-char-preserved-in_ok-push : goal.loop-char-preserved-in_ok-push
loop-char-preserved-in_ok-push c =
    let known = c.loop-char.invariant in
    let char = c.in-Some.char in
    let start = c.loop-char.start in
    let out = c.loop-char.characters.items in
    let next = next_char known.0 char _ _ known.1 c.in-Some.ensures.steps.0 in
    let others = next.others in
    let wide : c.width.result ≡ len_utf8 char = c.width.ensures in
    let pushed = c.in_ok-push.ensures.items in (
      others,
      next.left,
      omega (
        arith,
        known.2,
        ap (λ l. length (encode_utf8_all l)) next.all,
        length-append (encode_utf8 char) (encode_utf8_all others),
        length-encode char,
        wide,
      ),
      ap (λ l. l ++ without_dropped (placed (start + c.width.result) others)) pushed
          ∙ ap (λ n. (out ++ record { char = char; start = start; end = start + n } ∷ []) ++ without_dropped (placed (start + n) others)) wide
          ∙ sym (kept out (record { char = char; start = start; end = start + len_utf8 char })
          (placed (start + len_utf8 char) others) (sym c.is_kept.ensures ∙ c.if-is_kept.true))
          ∙ ap (λ l. out ++ without_dropped (placed start l)) (sym next.all)
          ∙ known.3,
    )

pub loop-char-preserved : goal.loop-char-preserved
loop-char-preserved c =
    let known = c.loop-char.invariant in
    let char = c.in-Some.char in
    let start = c.loop-char.start in
    let out = c.loop-char.characters.items in
    let next = next_char known.0 char _ _ known.1 c.in-Some.ensures.steps.0 in
    let others = next.others in
    let wide : c.width.result ≡ len_utf8 char = c.width.ensures in (
      others,
      next.left,
      omega (
        arith,
        known.2,
        ap (λ l. length (encode_utf8_all l)) next.all,
        length-append (encode_utf8 char) (encode_utf8_all others),
        length-encode char,
        wide,
      ),
      ap (λ n. out ++ without_dropped (placed (start + n) others)) wide
          ∙ sym (left_out out (record { char = char; start = start; end = start + len_utf8 char })
          (placed (start + len_utf8 char) others) (sym c.is_kept.ensures ∙ c.if-is_kept.false))
          ∙ ap (λ l. out ++ without_dropped (placed start l)) (sym next.all)
          ∙ known.3,
    )

pub returns : goal.returns
returns c =
    let known = c.loop-char.invariant in
    let none = none_left known.0 _ known.1 c.in-None.ensures.steps.0.0 in
    sym (append-nil c.loop-char.characters.items) ∙ ap (λ l. c.loop-char.characters.items ++ without_dropped (placed c.loop-char.start l)) (sym none) ∙ known.3
