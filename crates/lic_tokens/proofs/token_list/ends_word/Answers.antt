use Rattle.std.proofs.Common.{◌<◌, ◌-◌, length, get_or, ap, ◌∙◌, arith}
use Rattle.std.proofs.lemmas.Grind.{common_steps}
use Rattle.lic_kind.specs.Kinds.{is_word_kind, kind_of}
use Rattle.lic_tokens.proofs.PartedLemmas.{ends-ascii, none_ends}
use Rattle.lic_tokens.proofs.token_list.ends_word.Goals as goal

pub returns-in_default : goal.returns-in_default
returns-in_default c = none_ends c.args.text.now (omega (arith, c.in_default.len_below, ap length c.as_bytes.ensures.value))

pub returns-then-is_ascii : goal.returns-then-is_ascii
returns-then-is_ascii c =
    let text = c.args.text.now in
    let last : get_or c.as_bytes.result.now (length c.as_bytes.result.now - 1) 0 < 128 = grind (arith, common_steps) in
    c.is_word.ensures ∙ ap (λ l. is_word_kind (kind_of (get_or l (length l - 1) 0))) c.as_bytes.ensures.value
    ∙ ends-ascii text (length text - 1) c.utf8.text (omega (arith, c.in-len1-up.len_at_least, ap length c.as_bytes.ensures.value))
    (omega (arith, last, ap (λ l. get_or l (length l - 1) 0) c.as_bytes.ensures.value))
