use Rattle.std.proofs.Common.{◌+◌, codes, sym, subst, ◌∙◌, arith}
use Rattle.std.proofs.lemmas.List.Elements.{All-get_or}
use Rattle.lic_columns.specs.PlainLines.{HasWords}
use Rattle.lic_lines.specs.Tokens.{Token}
use Rattle.lic_phrases.specs.TokenTexts.{IsTokenText}
use Rattle.lic_rewriting.proofs.SectionTokens.{no_token, sign_taken, sign_within, token_taken}
use Rattle.lic_rewriting.proofs.TakenSteps.{none_taken, one_taken}
use Rattle.lic_rewriting.proofs.TokenTexts.{copyright_text}
use Rattle.lic_rewriting.proofs.rewriting.Rewriting.take_next.Goals as goal

pub returns-then-i-len-clause-taken : goal.returns-then-i-len-clause-taken
returns-then-i-len-clause-taken c = none_taken c.args.section.now c.args.i c.args.self.now

pub overflow_add-i : goal.overflow_add-i
overflow_add-i c = omega (arith, sign_within c.args.section.now c.args.i (sym c.is_sign.ensures ∙ c.if-is_sign.true), c.len.ensures)

pub overflow_add-result : goal.overflow_add-result
overflow_add-result c = omega (arith, sign_within c.args.section.now c.args.i (sym c.is_sign.ensures ∙ c.if-is_sign.true), c.len.ensures)

pub end-requires : goal.end-requires
end-requires c = sign_within c.args.section.now c.args.i (sym c.is_sign.ensures ∙ c.if-is_sign.true)

pub push_text-requires-clause-before : goal.push_text-requires-clause-before
push_text-requires-clause-before c = c.requires.before

pub push_text-requires-clause-text : goal.push_text-requires-clause-text
push_text-requires-clause-text c = copyright_text

pub returns-then-is_sign-clause-within : goal.returns-then-is_sign-clause-within
returns-then-is_sign-clause-within c =
    let within = sign_within c.args.section.now c.args.i (sym c.is_sign.ensures ∙ c.if-is_sign.true) in
    omega (arith, within)

pub returns-then-is_sign-clause-taken : goal.returns-then-is_sign-clause-taken
returns-then-is_sign-clause-taken c =
    let tokens = c.args.section.now in
    let i = c.args.i in
    let token : Token = record {
      text = codes "copyright";
      start = c.start-start.result;
      end = c.end.result;
      after_blank = c.after_blank-blank.result;
    } in
    one_taken tokens i (i + 3) c.args.self.now c.push_text.new.self token c.in_ok-push_text.ensures.taken
    (sign_taken tokens i token.start token.end token.after_blank (sym c.is_sign.ensures ∙ c.if-is_sign.true) (c.start-start.ensures no_token)
    (c.end.ensures no_token) (c.after_blank-blank.ensures no_token))

pub push_text-requires-2-clause-text : goal.push_text-requires-2-clause-text
push_text-requires-2-clause-text c =
    subst IsTokenText (sym (c.utf8_text.ensures ∙ c.text-text.ensures.text no_token))
    (All-get_or (λ t. IsTokenText t.text) c.args.section.now c.args.i no_token (omega (arith, c.if-i-len.false, c.len.ensures)) c.requires.texts)

pub returns-clause-taken : goal.returns-clause-taken
returns-clause-taken c =
    let tokens = c.args.section.now in
    let i = c.args.i in
    let token : Token = record {
      text = c.utf8_text.result.now;
      start = c.start-start.result;
      end = c.end-2.result;
      after_blank = c.after_blank-blank.result;
    } in
    one_taken tokens i (i + 1) c.args.self.now c.push_text-2.new.self token c.in_ok-push_text-2.ensures.taken
    (token_taken tokens i token.text token.start token.end token.after_blank (omega (arith, c.if-i-len.false, c.len.ensures)) (sym c.is_sign.ensures ∙ c.if-is_sign.false)
    (subst HasWords (sym c.utf8_text.ensures) c.text-text.ensures.words) (c.utf8_text.ensures ∙ c.text-text.ensures.text no_token) (c.start-start.ensures no_token) (c.end-2.ensures no_token)
    (c.after_blank-blank.ensures no_token))
