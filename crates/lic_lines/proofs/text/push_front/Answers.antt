use Rattle.std.proofs.Common.{◌∙◌, ◌++◌, ◌∷◌, [], false, sym, ap, ap₂, take, drop, map, append_assoc}
use Rattle.std.proofs.lemmas.List.{map-append}
use Rattle.lic_kind.specs.LineRules.{rules_of}
use Rattle.lic_lines.specs.Cells.{cell_of}
use Rattle.lic_lines.specs.Streaks.{streaks_joined}
use Rattle.lic_trim.specs.Texts.{groups}
use Rattle.lic_lines.specs.Tokens.{both_words, tokens_from, tokens_after, tokens_in, token_in}
use Rattle.lic_lines.proofs.KindSequences.{some_front, words_sequence, marks_sequence}
use Rattle.lic_lines.proofs.text.push_front.Goals as goal

pub returns-in_ok-push-in-Word-clause-tokens : goal.returns-in_ok-push-in-Word-clause-tokens
returns-in_ok-push-in-Word-clause-tokens c =
    let rules = rules_of c.args.rules.now in
    let text = c.args.text.now in
    let old = c.args.out.now.items in
    let n = c.in_ok-length-in-Word.length in
    let sequence = c.in_ok-length-in-Word.ensures in
    let token = c.in_ok-word_token-in-Word.field-0 in
    let rest = tokens_after rules false (drop n text) in
    ap (λ l. tokens_in l ++ rest) c.in_ok-push-in-Word.ensures.items
    ∙ ap (λ l. l ++ rest) (map-append token_in old (token ∷ []))
    ∙ append_assoc (tokens_in old) (token_in token ∷ []) rest
    ∙ ap (λ l. tokens_in old ++ (l ++ rest)) c.in_ok-word_token-in-Word.ensures
    ∙ ap (λ l. tokens_in old ++ l)
    (words_sequence rules c.args.after_blank text n sequence.within
    (some_front _ text n c.requires (sym c.kind_of.ensures ∙ c.in-Word.is) sequence.stop) sequence.words sequence.stop)

pub returns-in_ok-blank_after-in-Mark-clause-tokens : goal.returns-in_ok-blank_after-in-Mark-clause-tokens
returns-in_ok-blank_after-in-Mark-clause-tokens c =
    let rules = rules_of c.args.rules.now in
    let text = c.args.text.now in
    let old = tokens_in c.args.out.now.items in
    let n = c.mark_count-length.result in
    let sequence = c.mark_count-length.ensures in
    let stated = c.in_ok-blank_after-in-Mark.ensures in
    let gs = groups both_words (streaks_joined rules (map cell_of (take n text))) in
    ap₂ (λ l b. l ++ tokens_after rules b (drop n text)) stated.tokens stated.blank
    ∙ append_assoc old (tokens_from c.args.after_blank gs) _
    ∙ ap (λ l. old ++ l) (marks_sequence rules c.args.after_blank text n sequence.within sequence.some sequence.all sequence.stop)
