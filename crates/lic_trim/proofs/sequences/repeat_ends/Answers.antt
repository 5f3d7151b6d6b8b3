use Rattle.std.proofs.Common.{◌≡◌, ◌∙◌, ◌-◌, true, false, length, take, drop, sym, ap, subst, arith}
use Rattle.std.specs.Prelude.{reverse, slice_index_or, slice_range, bytes_eq}
use Rattle.std.proofs.lemmas.Bool.{false≢true, eqb-true, leb-true}
use Rattle.std.proofs.lemmas.List.{take_rest, reverse-reverse}
use Rattle.lic_trim.specs.Sources.{chars_of}
use Rattle.lic_trim.specs.Walks.{End}
use Rattle.lic_trim.proofs.Walking.{length-walked_chars}
use Rattle.lic_trim.proofs.SideEnds.{repeat_empty, repeat_other, repeat_again, repeat_rest, repeat_no_rest}
use Rattle.lic_trim.proofs.sequences.repeat_ends.Goals as goal
use Rattle.lic_trim.proofs.sequences.repeat_ends.Goals.{then-is_empty-via-then-is_empty, then-is_empty-via-else-is_empty+then-char_at-text, then-len-k, else-len-k}

pub returns-then-is_empty : goal.returns-then-is_empty
returns-then-is_empty c =
    let line = reverse (chars_of c.args.line.now) in
    let many = length-walked_chars End c.args.line.now in
    elim c.then-is_empty.branch [
      | then-is_empty-via-then-is_empty w ↦ repeat_empty c.args.flags.now line c.args.k (omega arith) c.args.text.now
          (eqb-true _ _ (sym c.is_empty.ensures ∙ w.if-is_empty.true))
      | then-is_empty-via-else-is_empty+then-char_at-text w ↦ repeat_other c.args.flags.now line c.args.k
          (omega arith) c.args.text.now w.index-text-0.result
          (sym w.if-is_empty.false ∙ c.is_empty.ensures) w.index-text-0.is (λ same.
          w.if-char_at-text.true (w.char_at.ensures ∙ same))
    ]

pub returns-then-before : goal.returns-then-before
returns-then-before c =
    let line = reverse (chars_of c.args.line.now) in
    let many = length-walked_chars End c.args.line.now in
    repeat_again c.args.flags.now line c.args.k (omega arith) c.args.text.now c.index-text-0.result
    (sym c.if-is_empty.false ∙ c.is_empty.ensures) c.index-text-0.is
    (sym c.char_at.ensures ∙ c.if-char_at-text.false) (sym c.requires.noted ∙ c.if-before.true)

pub returns-then-flags-k : goal.returns-then-flags-k
returns-then-flags-k c =
    let line = reverse (chars_of c.args.line.now) in
    let text = c.args.text.now in
    let k = c.args.k in
    let many = length-walked_chars End c.args.line.now in
    let rest : take (length text - 1) (drop 1 text) ≡ drop 1 text = take_rest text 1 in
    let len : length (take (length text - 1) (drop 1 text)) ≡ length (drop 1 text) = ap length rest in
    let occurs = c.is_text.ensures ∙ (λ i. bytes_eq (rest i) (chars_of c.part.result.now))
    ∙ ap (bytes_eq (drop 1 text))
    (sym (reverse-reverse (chars_of c.part.result.now))
    ∙ ap reverse (c.part.ensures ∙ ap (λ n. slice_range line (k - n) k) len)) in
    elim c.if-len-k.branch [
      | then-len-k w ↦ repeat_rest c.args.flags.now line k (omega arith) text c.index-text-0.result
          (sym c.if-is_empty.false ∙ c.is_empty.ensures) c.index-text-0.is
          (sym c.char_at.ensures ∙ c.if-char_at-text.false) (sym c.requires.noted ∙ c.if-before.false)
          (omega arith) (subst (λ n. slice_index_or c.args.flags.now (k - n) false ≡ true) len (sym w.value-is ∙ c.if-flags-k.true)) c.is_text.result occurs
      | else-len-k w ↦ absurd (omega (arith, leb-true _ _ (sym w.value-is ∙ c.if-flags-k.true)))
    ]

pub returns-else-flags-k : goal.returns-else-flags-k
returns-else-flags-k c =
    let line = reverse (chars_of c.args.line.now) in
    let text = c.args.text.now in
    let k = c.args.k in
    let many = length-walked_chars End c.args.line.now in
    let len : length (take (length text - 1) (drop 1 text)) ≡ length (drop 1 text) = ap length (take_rest text 1) in
    c.if-flags-k.false
    ∙ repeat_no_rest c.args.flags.now line k (omega arith) text c.index-text-0.result
    (sym c.if-is_empty.false ∙ c.is_empty.ensures) c.index-text-0.is (sym c.requires.noted ∙ c.if-before.false)
    (λ fits flag. elim c.if-len-k.branch [
      | then-len-k w ↦ false≢true (sym (subst (λ n. slice_index_or c.args.flags.now (k - n) false ≡ false) len (sym w.value-is ∙ c.if-flags-k.false)) ∙ flag)
      | else-len-k w ↦ omega arith
    ])
