use Rattle.std.proofs.Common.{◌≡◌, ◌∙◌, ℕ, ◌+◌, ◌-◌, Bool, List, ◌++◌, length, take, drop, ap, sym, subst, arith}
use Rattle.std.proofs.lemmas.List.{append-nil, drop_all, drop-drop, length-drop, take_rest}
use Rattle.lic_kind.specs.LineRules.{LineRules, rules_of}
use Rattle.lic_trim.specs.declared.source.SourceChar.{SourceChar}
use Rattle.lic_lines.specs.Tokens.{Token, single_signs, tokens_after, tokens_in}
use Rattle.lic_lines.proofs.TokenLemmas.{no_tokens_after}
use Rattle.lic_lines.proofs.text.push_sequences.Goals as goal

-- one sequence more: its tokens, and those of what is left after it
sequence_more : (rules : LineRules) (text : List SourceChar) (n m : ℕ) (before past : Bool) (old new whole : List Token)
    → new ++ tokens_after rules past (drop m (take (length text - n) (drop n text)))
    ≡ old ++ tokens_after rules before (take (length text - n) (drop n text))
    → old ++ tokens_after rules before (drop n text) ≡ whole
    → new ++ tokens_after rules past (drop (n + m) text) ≡ whole
sequence_more rules text n m before past old new whole sequence stated =
    ap (λ l. new ++ tokens_after rules past l) (sym (drop-drop m n text))
    ∙ subst (λ l. new ++ tokens_after rules past (drop m l) ≡ old ++ tokens_after rules before l) (take_rest text n) sequence
    ∙ stated

pub loop-length-preserved : goal.loop-length-preserved
loop-length-preserved c =
    let text = c.args.text.now in
    let n = c.loop-length.length in
    let sequence = c.in_ok-sequence.sequence in
    record {
      within = omega (arith, c.in_ok-sequence.ensures.within, ap length (take_rest text n), length-drop n text);
      stated =
          sequence_more (rules_of c.args.rules.now) text n sequence.length c.loop-length.blank_after sequence.blank_after (tokens_in c.loop-length.out.items)
          (tokens_in c.push_front.new.out.items) _ c.in_ok-sequence.ensures.tokens c.loop-length.invariant.stated;
    }

pub returns-after-loop-length-clause-apart : goal.returns-after-loop-length-clause-apart
returns-after-loop-length-clause-apart c =
    let tokens = tokens_in c.loop-length.out.items in
    let none = ap (tokens_after (rules_of c.args.rules.now) c.loop-length.blank_after)
    (drop_all c.loop-length.length c.args.text.now c.loop-length-test.false)
    ∙ no_tokens_after (rules_of c.args.rules.now) c.loop-length.blank_after in
    ap (λ l. single_signs (tokens ++ l)) none ∙ ap single_signs (append-nil tokens)
    ∙ sym (ap (λ l. single_signs tokens ++ single_signs l) none ∙ append-nil (single_signs tokens))
