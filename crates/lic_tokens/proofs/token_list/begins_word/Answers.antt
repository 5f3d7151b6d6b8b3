use Rattle.std.proofs.Common.{◌<◌, length, get_or, ap, ◌∙◌, arith}
use Rattle.std.proofs.lemmas.Grind.{common_steps}
use Rattle.lic_kind.specs.Kinds.{is_word_kind, kind_of}
use Rattle.lic_tokens.proofs.PartedLemmas.{begins-ascii, none_begins}
use Rattle.lic_tokens.proofs.token_list.begins_word.Goals as goal

pub returns-in_default : goal.returns-in_default
returns-in_default c = none_begins c.args.text.now (omega (arith, c.in_default.len_below, ap length c.as_bytes.ensures.value))

pub returns-then-is_ascii : goal.returns-then-is_ascii
returns-then-is_ascii c =
    let first : get_or c.as_bytes.result.now 0 0 < 128 = grind (arith, common_steps) in
    c.is_word.ensures ∙ ap (λ l. is_word_kind (kind_of (get_or l 0 0))) c.as_bytes.ensures.value
    ∙ begins-ascii c.args.text.now c.utf8.text (omega (arith, c.in-len1-up.len_at_least, ap length c.as_bytes.ensures.value))
    (omega (arith, first, ap (λ l. get_or l 0 0) c.as_bytes.ensures.value))
