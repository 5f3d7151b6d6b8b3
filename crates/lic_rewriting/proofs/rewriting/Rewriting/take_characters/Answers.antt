use Rattle.std.proofs.Common.{◌≡◌, ℕ, ◌++◌, ◌∷◌, ◌-◌, [], List, true, false, get_or, length, take, drop, refl, ap, sym, subst, ◌∙◌, append_assoc, append-nil, length-drop, arith}
use Rattle.std.specs.Prelude.{string_bytes}
use Rattle.std.proofs.lemmas.List.{drop-drop, drop_all, take_rest}
use Rattle.std.proofs.lemmas.List.Elements.{All-head}
use Rattle.lic_kind.specs.LineRules.{rules_of}
use Rattle.lic_lines.specs.TextStarts.{IsTextStart}
use Rattle.lic_lines.specs.Tokens.{Token, single_signs, text_tokens_after}
use Rattle.lic_lines.specs.declared.text_start.TextStart.TheVariants as front
use Rattle.lic_trim.proofs.ItemLemmas.{none}
use Rattle.lic_lines.proofs.TokenLemmas.{no_tokens_after}
use Rattle.lic_phrases.specs.Settling.{Settles}
use Rattle.lic_phrases.specs.TokenTexts.{IsTokenText}
use Rattle.lic_rewriting.specs.Taking.{HasTaken}
use Rattle.lic_tokens.specs.Tokens.{HaveTexts}
use Rattle.lic_rewriting.proofs.TokenTexts.{after-texts}
use Rattle.lic_rewriting.proofs.rewriting.Rewriting.take_characters.Goals as goal

pub loop-offset-init : goal.loop-offset-init
loop-offset-init c = record {
  within = omega arith;
  taken = λ taken has. (
    [],
    record {
      settled = has.settled;
      settles = subst (λ ts. Settles c.args.self.now.phrases.now.phrases ts has.settled c.args.self.now.rewriter) (sym (append-nil taken)) has.settles;
      listed = has.listed;
      known = has.known;
      texts = subst HaveTexts (sym (append-nil taken)) has.texts;
    },
    refl,
  );
  phrases = refl;
  emptied = c.clear.ensures.items;
}

pub loop-offset-preserved-in-Blank : goal.loop-offset-preserved-in-Blank
loop-offset-preserved-in-Blank c =
    let rules = rules_of c.args.rules.now in
    let text = c.args.text.now in
    let offset = c.loop-offset.offset in
    let known = c.loop-offset.invariant in
    let here = take (length text - offset) (drop offset text) in
    let rest : here ≡ drop offset text = take_rest text offset in
    let stated : IsTextStart front.Blank (string_bytes c.start_of_text.new.letters) here =
    subst (λ f. IsTextStart f (string_bytes c.start_of_text.new.letters) here) c.in-Blank.is c.in_ok-start_of_text.ensures in
    record {
      within = omega arith;
      taken = λ taken has.
          let before = known.taken taken has in (
            before.0,
            before.1,
            ap (λ l. before.0 ++ l)
                (ap (text_tokens_after rules true) (sym (ap (drop 1) rest ∙ drop-drop 1 offset text))
                ∙ stated rules c.loop-offset.after_blank
                ∙ ap (text_tokens_after rules c.loop-offset.after_blank) rest) ∙ before.2,
          );
      phrases = known.phrases;
      emptied = known.emptied;
    }

pub take_text-requires-clause-before : goal.take_text-requires-clause-before
take_text-requires-clause-before c = record { taken = _; has = (c.loop-offset.invariant.taken c.requires.before.taken c.requires.before.has).1 }

pub take_text-requires-clause-text : goal.take_text-requires-clause-text
take_text-requires-clause-text c =
    let rules = rules_of c.args.rules.now in
    let text = c.args.text.now in
    let offset = c.loop-offset.offset in
    let n = c.in-Token.length in
    let here = take (length text - offset) (drop offset text) in
    let stated : IsTextStart (front.Token n) (string_bytes c.start_of_text.new.letters) here =
    subst (λ f. IsTextStart f (string_bytes c.start_of_text.new.letters) here) c.in-Token.is c.in_ok-start_of_text.ensures in
    subst IsTokenText (sym c.as_str.ensures.value)
    (All-head (λ t. IsTokenText t.text) _ _
    (subst HaveTexts (sym (stated.2 rules c.loop-offset.after_blank none)) (after-texts rules c.loop-offset.after_blank here)))

pub take_front-requires-clause-before : goal.take_front-requires-clause-before
take_front-requires-clause-before c = record { taken = _; has = (c.loop-offset.invariant.taken c.requires.before.taken c.requires.before.has).1 }

pub loop-offset-preserved-in-Token : goal.loop-offset-preserved-in-Token
loop-offset-preserved-in-Token c =
    let rules = rules_of c.args.rules.now in
    let text = c.args.text.now in
    let offset = c.loop-offset.offset in
    let n = c.in-Token.length in
    let known = c.loop-offset.invariant in
    let here = take (length text - offset) (drop offset text) in
    let rest : here ≡ drop offset text = take_rest text offset in
    let stated : IsTextStart (front.Token n) (string_bytes c.start_of_text.new.letters) here =
    subst (λ f. IsTextStart f (string_bytes c.start_of_text.new.letters) here) c.in-Token.is c.in_ok-start_of_text.ensures in
    let token_with = λ (letters : List ℕ). let t : Token = record {
      text = letters;
      start = (get_or here 0 none).start;
      end = (get_or here (n - 1) none).end;
      after_blank = c.loop-offset.after_blank;
    } in t in
    let token = token_with c.as_str.result.now in
    let done = c.in_ok-take_text-in-Token.ensures in
    record {
      within = omega (arith, stated.1, ap length rest, length-drop offset text);
      taken = λ taken has.
          let before = known.taken taken has in (
            before.0 ++ token ∷ [],
            subst (HasTaken c.take_text.new.self) (append_assoc taken before.0 (token ∷ [])) (done.taken (taken ++ before.0) before.1),
            append_assoc before.0 (token ∷ []) _
                ∙ ap (λ l. before.0 ++ l)
                (ap (λ l. token ∷ text_tokens_after rules false l) (sym (ap (drop n) rest ∙ drop-drop n offset text))
                ∙ ap (λ l. token_with l ∷ text_tokens_after rules false (drop n here)) c.as_str.ensures.value
                ∙ stated.2 rules c.loop-offset.after_blank none
                ∙ ap (text_tokens_after rules c.loop-offset.after_blank) rest)
                ∙ before.2,
          );
      phrases = c.take_text.ensures.phrases ∙ known.phrases;
      emptied = done.emptied;
    }

pub loop-offset-preserved : goal.loop-offset-preserved
loop-offset-preserved c =
    let rules = rules_of c.args.rules.now in
    let text = c.args.text.now in
    let offset = c.loop-offset.offset in
    let known = c.loop-offset.invariant in
    let rest : take (length text - offset) (drop offset text) ≡ drop offset text = take_rest text offset in
    let part = c.in_ok-part-in-Other.part in
    let done = c.in_ok-part-in-Other.ensures in
    record {
      within = omega (arith, done.within, ap length rest, length-drop offset text);
      taken = λ taken has.
          let before = known.taken taken has in
          let more = done.taken (taken ++ before.0) before.1 in (
            before.0 ++ more.0,
            subst (HasTaken c.take_front.new.self) (append_assoc taken before.0 more.0) more.1,
            append_assoc before.0 more.0 _
                ∙ ap (λ l. before.0 ++ l) (ap (λ l. more.0 ++ text_tokens_after rules part.blank_after l)
                (sym (ap (drop part.length) rest ∙ drop-drop part.length offset text))
                ∙ more.2 ∙ ap (text_tokens_after rules c.loop-offset.after_blank) rest)
                ∙ before.2,
          );
      phrases = c.take_front.ensures.phrases ∙ known.phrases;
      emptied = done.emptied;
    }

pub returns-clause-taken : goal.returns-clause-taken
returns-clause-taken c = λ taken has.
    let rules = rules_of c.args.rules.now in
    let before = c.loop-offset.invariant.taken taken has in
    let none : text_tokens_after rules c.loop-offset.after_blank (drop c.loop-offset.offset c.args.text.now) ≡ [] =
    ap (text_tokens_after rules c.loop-offset.after_blank) (drop_all c.loop-offset.offset c.args.text.now c.loop-offset-test.false)
    ∙ ap single_signs (no_tokens_after rules c.loop-offset.after_blank) in
    subst (λ ts. HasTaken c.loop-offset.self (taken ++ ts)) (sym (append-nil before.0) ∙ ap (λ l. before.0 ++ l) (sym none) ∙ before.2) before.1
