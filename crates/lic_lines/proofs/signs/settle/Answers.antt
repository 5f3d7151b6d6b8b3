use Rattle.std.proofs.Common.{◌≡◌, ◌∙◌, ◌++◌, ◌+◌, ◌<◌, true, false, sym, ap, take, drop, set, get_or, length, arith}
use Rattle.std.proofs.lemmas.List.{get_or_read, get_or_default}
use Rattle.lic_lines.specs.Tokens.{is_sign_in_parentheses, sign_from, as_sign, single_signs, token_in, tokens_in}
use Rattle.lic_lines.proofs.TokenLemmas.{swap_kept, swap_after, sign_step, single_step}
use Rattle.lic_lines.proofs.signs.settle.Goals as goal
use Rattle.lic_lines.proofs.signs.settle.Goals.{else-tokens-at-gt2-via-then-tokens-at-gt2+else-is_sign_in_parentheses, else-tokens-at-gt2-via-else-tokens-at-gt2}

pub returns-then-is_sign_in_parentheses-clause-settled : goal.returns-then-is_sign_in_parentheses-clause-settled
returns-then-is_sign_in_parentheses-clause-settled c =
    let xs = c.args.tokens.now in
    let kept = c.args.kept in
    let at = c.args.at in
    let d = c.index-tokens-kept.result in
    let moved = c.swap.new.self in
    let order = c.requires.order in
    let within = c.requires.within in
    let long : length moved ≡ length xs = c.swap.ensures.len in
    let first = c.index-tokens-kept.is ∙ ap (λ l. get_or l kept d) c.swap.ensures.after ∙ swap_kept xs kept at order within d in
    let second = get_or_read moved (at + 1) c.index-tokens-at.result (omega arith) c.index-tokens-at.is d
    ∙ ap (λ l. get_or l (at + 1) d) c.swap.ensures.after
    ∙ swap_after xs kept at order within d (at + 1) (omega arith) in
    let third = get_or_read moved (at + 2) c.index-tokens-at-then-tokens-at-gt2.result
    (omega arith) c.index-tokens-at-then-tokens-at-gt2.is d ∙ ap (λ l. get_or l (at + 2) d) c.swap.ensures.after
    ∙ swap_after xs kept at order within d (at + 2) (omega arith) in
    let ends = get_or_default moved (at + 2) c.index-tokens-at-then-is_sign_in_parentheses.result d (omega arith)
    ∙ ap (λ l. get_or l (at + 2) d) c.swap.ensures.after
    ∙ swap_after xs kept at order within d (at + 2) (omega arith) in
    let begins = get_or_default moved kept c.index-tokens-kept-then-is_sign_in_parentheses.result d (omega arith)
    ∙ ap (λ l. get_or l kept d) c.swap.ensures.after ∙ swap_kept xs kept at order within d in
    let sign : is_sign_in_parentheses (token_in (get_or xs at d)) (token_in (get_or xs (at + 1) d)) (token_in (get_or xs (at + 2) d)) ≡ true =
    sym (c.if-is_sign_in_parentheses.ensures ∙ (λ i. is_sign_in_parentheses (token_in (first i)) (token_in (second i)) (token_in (third i)))) in
    let value : token_in c.make_sign.new.token ≡ sign_from (token_in (get_or xs at d)) (token_in (get_or xs (at + 2) d)) =
    c.make_sign.ensures ∙ (λ i. sign_from (token_in (begins i)) (token_in (ends i))) in
    ap (λ l. tokens_in (take (kept + 1) (set l kept c.make_sign.new.token))
    ++ single_signs (tokens_in (drop (at + 3) (set l kept c.make_sign.new.token)))) c.swap.ensures.after
    ∙ sign_step xs kept at order within d (omega arith) sign c.make_sign.new.token value

pub returns-else-tokens-at-gt2-clause-settled : goal.returns-else-tokens-at-gt2-clause-settled
returns-else-tokens-at-gt2-clause-settled c =
    let xs = c.args.tokens.now in
    let kept = c.args.kept in
    let at = c.args.at in
    let d = c.index-tokens-kept-else-tokens-at-gt2.result in
    let moved = c.swap.new.self in
    let order = c.requires.order in
    let within = c.requires.within in
    let long : length moved ≡ length xs = c.swap.ensures.len in
    let kept_is = ap (λ l. get_or l kept d) c.swap.ensures.after ∙ swap_kept xs kept at order within d in
    let no_sign = λ (more : at + 2
    < length xs). elim c.else-tokens-at-gt2.branch as (λ _.
    is_sign_in_parentheses (token_in (get_or xs at d)) (token_in (get_or xs (at + 1) d))
    (token_in (get_or xs (at + 2) d)) ≡ false) [
      | else-tokens-at-gt2-via-then-tokens-at-gt2+else-is_sign_in_parentheses w ↦
          (let first = get_or_read moved kept w.index-tokens-kept.result (omega arith) w.index-tokens-kept.is d
          ∙ ap (λ l. get_or l kept d) c.swap.ensures.after ∙ swap_kept xs kept at order within d in
          let second = get_or_read moved (at + 1) w.index-tokens-at.result (omega arith) w.index-tokens-at.is d
          ∙ ap (λ l. get_or l (at + 1) d) c.swap.ensures.after
          ∙ swap_after xs kept at order within d (at + 1) (omega arith) in
          let third = get_or_read moved (at + 2) w.index-tokens-at-then-tokens-at-gt2.result
          (omega arith) w.index-tokens-at-then-tokens-at-gt2.is d
          ∙ ap (λ l. get_or l (at + 2) d) c.swap.ensures.after
          ∙ swap_after xs kept at order within d (at + 2) (omega arith) in
          sym ((λ i. is_sign_in_parentheses (token_in (first i)) (token_in (second i)) (token_in (third i))))
          ∙ sym w.is_sign_in_parentheses.ensures ∙ w.if-is_sign_in_parentheses.false)
      | else-tokens-at-gt2-via-else-tokens-at-gt2 w ↦ absurd (omega arith)
    ] in
    let value : token_in c.make_single_sign.new.token ≡ as_sign (token_in (get_or xs at d)) =
    c.make_single_sign.ensures ∙ ap (λ t. as_sign (token_in t)) kept_is in
    ap (λ l. tokens_in (take (kept + 1) (set l kept c.make_single_sign.new.token))
    ++ single_signs (tokens_in (drop (at + 1) (set l kept c.make_single_sign.new.token)))) c.swap.ensures.after
    ∙ single_step xs kept at order within d no_sign c.make_single_sign.new.token value
