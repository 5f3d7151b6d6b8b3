use Rattle.std.proofs.Common.{◌≡◌, ◌∙◌, ◌++◌, ◌∷◌, ◌+◌, ◌-◌, [], Bool, true, false, ap, sym, refl, length, take, arith}
use Rattle.std.specs.Prelude.{not}
use Rattle.std.proofs.lemmas.Bool.{and_parts}
use Rattle.std.proofs.lemmas.List.{take_more, take_all, map-append}
use Rattle.lic_lines.specs.Tokens.{single_signs, token_in, tokens_from, tokens_in}
use Rattle.lic_lines.proofs.LineByLine.{begins_after_blank, single_signs-append}
use Rattle.lic_lines.proofs.PlainSigns.{signs_apart}
use Rattle.lic_lines.proofs.signs.signs_end.Goals as goal

pub returns-then-blank_after : goal.returns-then-blank_after
returns-then-blank_after c = λ _ gs.
    let tokens = tokens_in c.args.tokens.now in
    ap (λ b. single_signs (tokens ++ tokens_from b gs)) c.if-blank_after.true
    ∙ single_signs-append tokens (tokens_from true gs) (begins_after_blank gs)
    ∙ ap (λ b. single_signs tokens ++ single_signs (tokens_from b gs)) (sym c.if-blank_after.true)

is_off : (b : Bool) → not b ≡ true → b ≡ false
is_off false h = refl
is_off true h = sym h

pub returns-in-len1-up : goal.returns-in-len1-up
returns-in-len1-up c = λ yes gs.
    let tokens = c.args.tokens.now in
    let n = length tokens - 1 in
    let x = c.last-item.result in
    let parts = and_parts (not c.has_text.result) (not c.has_text-in-len1-up.result) yes in
    let one : n + 1 ≡ length tokens = omega (arith, c.in-len1-up.len_at_least) in
    let whole : tokens_in tokens ≡ tokens_in (take n tokens) ++ token_in x ∷ [] =
    ap tokens_in (sym (take_all (n + 1) tokens (omega arith)) ∙ take_more tokens n x (omega arith)
    ∙ ap (λ t. take n tokens ++ t ∷ []) (sym c.last-item.is))
    ∙ map-append token_in (take n tokens) (x ∷ []) in
    ap (λ l. single_signs (l ++ tokens_from c.args.blank_after gs)) whole
    ∙ signs_apart (tokens_in (take n tokens)) (token_in x) (tokens_from c.args.blank_after gs)
    (sym c.has_text.ensures ∙ is_off c.has_text.result parts.0)
    (sym c.has_text-in-len1-up.ensures ∙ is_off c.has_text-in-len1-up.result parts.1)
    ∙ ap (λ l. single_signs l ++ single_signs (tokens_from c.args.blank_after gs)) (sym whole)
