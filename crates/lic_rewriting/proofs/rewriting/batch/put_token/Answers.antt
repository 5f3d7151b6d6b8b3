use Rattle.std.proofs.Common.{◌≡◌, ◌+◌, ◌-◌, ◌*◌, ◌≤◌, ◌&&◌, ◌++◌, length, take, get_or, refl, sym, ap, ap₂, subst, ◌∙◌, arith}
use Rattle.std.proofs.lemmas.List.{length-take-le}
use Rattle.std.proofs.lemmas.List.Elements.{All-get_or}
use Rattle.lic_lines.specs.Tokens.{Token}
use Rattle.lic_phrases.specs.Spelling.{blank_if, is_parted, spelled}
use Rattle.lic_phrases.specs.TokenTexts.{IsTokenText}
use Rattle.lic_tokens.specs.Places.{texts_of}
use Rattle.lic_tokens.specs.Entries.{Entry, entries_by}
use Rattle.lic_tokens.specs.declared.entries.SourceBytes.{SourceBytes}
use Rattle.lic_tokens.proofs.EntriesBy.{set_by}
use Rattle.lic_rewriting.proofs.BatchLemmas.{blank_is, one_more_spelled, short_blank, word_is}
use Rattle.lic_rewriting.proofs.SectionTokens.{no_token, token_taken}
use Rattle.lic_rewriting.proofs.rewriting.batch.put_token.Goals as goal

pub is_word_at-requires : goal.is_word_at-requires
is_word_at-requires c =
    (subst IsTokenText (sym (c.requires.text no_token))
    (All-get_or (λ t. IsTokenText t.text) c.args.section.now (c.args.i + c.args.state.count) no_token c.requires.within c.requires.texts)).not_empty

pub overflow_add-batch : goal.overflow_add-batch
overflow_add-batch c =
    omega (
      arith,
      c.requires.fits,
      c.requires.few,
      c.requires.short,
      c.requires.most,
      c.requires.held.short,
      c.put-offset.ensures.offset,
      short_blank (c.args.state.after_word && c.is_word_at.result),
    )

pub overflow_sub-text : goal.overflow_sub-text
overflow_sub-text c =
    let is : IsTokenText c.args.text.now =
    subst IsTokenText (sym (c.requires.text no_token))
    (All-get_or (λ t. IsTokenText t.text) c.args.section.now (c.args.i + c.args.state.count) no_token c.requires.within c.requires.texts) in
    omega (arith, is.not_empty)

pub is_word_at-requires-2 : goal.is_word_at-requires-2
is_word_at-requires-2 c =
    let is : IsTokenText c.args.text.now =
    subst IsTokenText (sym (c.requires.text no_token))
    (All-get_or (λ t. IsTokenText t.text) c.args.section.now (c.args.i + c.args.state.count) no_token c.requires.within c.requires.texts) in
    omega (arith, is.not_empty)

pub returns-clause-held : goal.returns-clause-held
returns-clause-held c =
    let tokens = c.args.section.now in
    let i = c.args.i in
    let rewriting = c.args.rewriting.now in
    let batch = c.args.batch.now in
    let state = c.args.state in
    let known = c.requires.held in
    let text = c.args.text.now in
    let before = spelled (texts_of rewriting.tokens) in
    let so_far = take state.offset batch.bytes in
    let is : IsTokenText text =
    subst IsTokenText (sym (c.requires.text no_token))
    (All-get_or (λ t. IsTokenText t.text) tokens (i + state.count) no_token c.requires.within c.requires.texts) in
    let parted = is_parted (before ++ so_far) text in
    let grown : take c.put-offset.result c.put-offset.new.bytes ≡ so_far ++ (blank_if parted ++ text) =
    c.put-offset.ensures.bytes
    ∙ ap (λ b. so_far ++ (blank_if b ++ take (length text) c.args.letters.now))
    (blank_is tokens i rewriting batch state text known c.requires.utf8 is c.requires.words c.is_word_at.result c.is_word_at.ensures)
    ∙ ap (λ l. so_far ++ (blank_if parted ++ l)) (sym c.requires.front) in
    let token : Token = record {
      text = text;
      start = c.args.start;
      end = c.args.end;
      after_blank = (get_or tokens (i + state.count) no_token).after_blank;
    } in
    let entry : Entry = record { text_end = c.args.before + c.put-offset.result; start = c.args.start; end = c.args.end } in
    let source : SourceBytes = record { start = c.args.start; end = c.args.end } in
    let short : c.put-offset.result ≤ 33 * (state.count + 1) =
    omega (arith, c.requires.short, c.requires.most, known.short, c.put-offset.ensures.offset, short_blank (state.after_word && c.is_word_at.result)) in
    let long : length (take c.put-offset.result c.put-offset.new.bytes) ≡ c.put-offset.result =
    length-take-le c.put-offset.result c.put-offset.new.bytes (omega (arith, short, c.requires.few)) in
    record {
      short = short;
      utf8 = known.utf8;
      holds = one_more_spelled tokens i (i + state.count) (i + (state.count + 1)) rewriting so_far (take c.put-offset.result c.put-offset.new.bytes)
          (entries_by (take state.count batch.ends) (take state.count batch.sources)) _ token entry
          known.holds c.requires.none c.requires.utf8 is (λ settled taken. c.requires.left settled taken token refl)
          (token_taken tokens (i + state.count) text token.start token.end token.after_blank c.requires.within c.requires.no_sign c.requires.words
          (c.requires.text no_token) (c.requires.start no_token) (c.requires.end no_token) refl)
          grown
          (ap₂ (λ m n. let e : Entry = record { text_end = m + n; start = c.args.start; end = c.args.end } in e) c.requires.before (sym long))
          (set_by batch.ends batch.sources state.count (state.count + 1) (c.args.before + c.put-offset.result) source refl
          (omega (arith, c.requires.few)) (omega (arith, c.requires.few)))
          (let one_more : i + state.count + 1 ≡ i + (state.count + 1) = omega arith in one_more);
      word = word_is tokens i rewriting batch state text known c.requires.utf8 is c.requires.words (length text - 1) c.is_word_at-2.result
          (take c.put-offset.result c.put-offset.new.bytes) (omega (arith, is.not_empty)) c.is_word_at-2.ensures grown;
    }
