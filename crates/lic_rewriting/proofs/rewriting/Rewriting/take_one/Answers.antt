use Rattle.std.proofs.Common.{◌<◌, ◌+◌, ◌-◌, length, get_or, refl, sym, subst, ◌∙◌, arith}
use Rattle.std.proofs.lemmas.List.Elements.{All-get_or}
use Rattle.lic_lines.specs.Tokens.{Token}
use Rattle.lic_phrases.specs.TokenTexts.{IsTokenText}
use Rattle.lic_rewriting.proofs.SectionTokens.{no_token, token_taken}
use Rattle.lic_rewriting.proofs.TakenSteps.{none_taken, one_taken, token_left}
use Rattle.lic_rewriting.proofs.WordTexts.{begins-words, ends-words}
use Rattle.lic_rewriting.proofs.rewriting.Rewriting.take_one.Goals as goal

pub returns-then-i-len-clause-taken : goal.returns-then-i-len-clause-taken
returns-then-i-len-clause-taken c = none_taken c.args.section.now c.args.i c.args.self.now

pub returns-in_default-clause-taken : goal.returns-in_default-clause-taken
returns-in_default-clause-taken c = none_taken c.args.section.now c.args.i c.args.self.now

pub is_word_at-begins-requires : goal.is_word_at-begins-requires
is_word_at-begins-requires c =
    let is : IsTokenText c.in-Some.text.now =
    subst IsTokenText (sym (c.in-Some.ensures.text no_token))
    (All-get_or (λ t. IsTokenText t.text) c.args.section.now c.args.i no_token (omega (arith, c.if-i-len.false, c.len.ensures)) c.requires.texts) in
    is.not_empty

pub overflow_sub-text : goal.overflow_sub-text
overflow_sub-text c =
    let is : IsTokenText c.in-Some.text.now =
    subst IsTokenText (sym (c.in-Some.ensures.text no_token))
    (All-get_or (λ t. IsTokenText t.text) c.args.section.now c.args.i no_token (omega (arith, c.if-i-len.false, c.len.ensures)) c.requires.texts) in
    omega (arith, is.not_empty)

pub is_word_at-ends-requires : goal.is_word_at-ends-requires
is_word_at-ends-requires c =
    let is : IsTokenText c.in-Some.text.now =
    subst IsTokenText (sym (c.in-Some.ensures.text no_token))
    (All-get_or (λ t. IsTokenText t.text) c.args.section.now c.args.i no_token (omega (arith, c.if-i-len.false, c.len.ensures)) c.requires.texts) in
    omega (arith, is.not_empty)

pub push_bytes-requires-clause-text : goal.push_bytes-requires-clause-text
push_bytes-requires-clause-text c =
    subst IsTokenText (sym (c.in-Some.ensures.text no_token))
    (All-get_or (λ t. IsTokenText t.text) c.args.section.now c.args.i no_token (omega (arith, c.if-i-len.false, c.len.ensures)) c.requires.texts)

pub push_bytes-requires-clause-begins : goal.push_bytes-requires-clause-begins
push_bytes-requires-clause-begins c =
    let is : IsTokenText c.in-Some.text.now =
    subst IsTokenText (sym (c.in-Some.ensures.text no_token))
    (All-get_or (λ t. IsTokenText t.text) c.args.section.now c.args.i no_token (omega (arith, c.if-i-len.false, c.len.ensures)) c.requires.texts) in
    c.is_word_at-begins.ensures ∙ begins-words c.in-Some.text.now c.in-Some.ensures.utf8 c.in-Some.ensures.words is.not_empty

pub push_bytes-requires-clause-ends : goal.push_bytes-requires-clause-ends
push_bytes-requires-clause-ends c =
    let is : IsTokenText c.in-Some.text.now =
    subst IsTokenText (sym (c.in-Some.ensures.text no_token))
    (All-get_or (λ t. IsTokenText t.text) c.args.section.now c.args.i no_token (omega (arith, c.if-i-len.false, c.len.ensures)) c.requires.texts) in
    c.is_word_at-ends.ensures
    ∙ ends-words c.in-Some.text.now (length c.in-Some.text.now - 1) c.in-Some.ensures.utf8 c.in-Some.ensures.words (omega (arith, is.not_empty))

pub returns-clause-taken : goal.returns-clause-taken
returns-clause-taken c =
    let tokens = c.args.section.now in
    let i = c.args.i in
    let lt : i < length tokens = omega (arith, c.if-i-len.false, c.len.ensures) in
    let token : Token = record {
      text = c.in-Some.text.now;
      start = c.start.result;
      end = c.end.result;
      after_blank = (get_or tokens i no_token).after_blank;
    } in
    let text : IsTokenText token.text =
    subst IsTokenText (sym (c.in-Some.ensures.text no_token))
    (All-get_or (λ t. IsTokenText t.text) tokens i no_token lt c.requires.texts) in
    let first =
    token_taken tokens i token.text token.start token.end token.after_blank lt c.in-Some.ensures.no_sign
    c.in-Some.ensures.words (c.in-Some.ensures.text no_token) (c.start.ensures no_token) (c.end.ensures no_token) refl in
    one_taken tokens i (i + 1) c.args.self.now _ token
    (token_left c.args.self.now c.push_bytes.new.self token c.requires.none c.in_ok-push_bytes.ensures text
    (λ settled taken. c.in-Some.ensures.left settled taken token refl)) first
