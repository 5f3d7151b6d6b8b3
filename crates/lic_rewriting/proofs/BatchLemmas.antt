-- Tokens that are spelled together before they are added to a list.
use Rattle.std.proofs.Common.{◌≡◌, ℕ, ◌+◌, ◌≤◌, ◌&&◌, Bool, true, false, List, [], ◌∷◌, ◌++◌, length, take, drop, get_or, sym, ap, ap₂, subst, ◌∙◌, arith, append_assoc, append-nil, length-append}
use Rattle.std.specs.Int.{from_bool}
use Rattle.std.specs.Prelude.{slice_set}
use Rattle.std.specs.Str.{IsUtf8}
use Rattle.std.proofs.Math.Seq.{take-append-add}
use Rattle.std.proofs.lemmas.List.{length-set, length-take-le, take-set, take-take, take_more_set}
use Rattle.std.proofs.lemmas.Str.{IsUtf8-append, IsUtf8-nil}
use Rattle.lic_columns.specs.Bytes.{is_word}
use Rattle.lic_columns.specs.PlainLines.{HasWords}
use Rattle.lic_lines.specs.Tokens.{Token, single_signs}
use Rattle.lic_phrases.specs.Rewriting.{SpannedText, spanned}
use Rattle.lic_phrases.specs.Settling.{Settles, nothing_kept}
use Rattle.lic_phrases.specs.Spelling.{is_parted, blank_if, ends_in_word, spelled}
use Rattle.lic_phrases.specs.TokenTexts.{IsTokenText}
use Rattle.lic_rewriting.specs.Batches.{AreInBatch, HasSpelledUpTo}
use Rattle.lic_rewriting.specs.Taking.{HasTakenUpTo}
use Rattle.lic_tokens.specs.Places.{texts_of}
use Rattle.lic_tokens.specs.Tokens.{TokenValue, reported}
use Rattle.lic_tokens.specs.Entries.{AreSpelledAfter, Entry, IsKept}
use Rattle.lic_rewriting.specs.declared.rewriting.Rewriting.{Rewriting}
use Rattle.lic_rewriting.specs.declared.rewriting.batch.Batch.{Batch}
use Rattle.lic_rewriting.specs.declared.rewriting.batch.Spelled.{Spelled}
use Rattle.lic_tokens.proofs.EntryLemmas.{kept_more}
use Rattle.lic_tokens.proofs.SpellingPlaces.{blank_utf8, ends_as}
use Rattle.lic_rewriting.proofs.TakenSteps.{none_taken, one_taken, taken_in_turn, token_left}
use Rattle.lic_rewriting.proofs.WordTexts.{begins-words, ends-words}

-- ---- bytes

small_bool : (b : Bool) → from_bool b ≤ 1
small_bool true = omega arith
small_bool false = omega arith

pub short_blank : (b : Bool) → length (blank_if b) ≤ 1
short_blank true = omega arith
short_blank false = omega arith

-- a blank was written, and n letters after it or over it
module _ (old letters : List ℕ) (offset len n : ℕ) (fits : offset + (n + 1) ≤ length old) (long : n ≤ length letters) (short : len ≤ n) where
  abbrev blank_put : List ℕ
  blank_put = slice_set old offset 0x20

  front : (blank : Bool) → take (offset + from_bool blank) blank_put ≡ take offset old ++ blank_if blank
  front true = take_more_set old offset 0x20 (omega (arith, fits))
  front false =
      ap (λ m. take m blank_put) (let e : offset + 0 ≡ offset = omega arith in e) ∙ take-set old offset 0x20 ∙ sym (append-nil (take offset old))

  pub written : (blank : Bool) (start : ℕ) (whole : List ℕ) → start ≡ offset + from_bool blank → take (start + n) whole ≡ take start blank_put ++ take n letters
      → take (start + len) whole ≡ take offset old ++ (blank_if blank ++ take len letters)
  written blank start whole is copied =
      let within : start ≤ length blank_put = omega (arith, is, small_bool blank, fits, length-set old offset 0x20) in
      sym (take-take (start + len) (start + n) whole (omega (arith, short)))
      ∙ ap (take (start + len)) copied
      ∙ ap (λ m. take (m + len) (take start blank_put ++ take n letters)) (sym (length-take-le start blank_put within))
      ∙ take-append-add (take start blank_put) (take n letters) len
      ∙ ap₂ (λ (a b : List ℕ). a ++ b) (ap (λ m. take m blank_put) is ∙ front blank) (take-take len n letters short)
      ∙ append_assoc (take offset old) (blank_if blank) (take len letters)

-- whether a text ends in a word, by its last byte
pub word_after : (front text : List ℕ) (n : ℕ) (word : Bool) → IsUtf8 front → IsUtf8 text → HasWords text → n + 1 ≡ length text
    → word ≡ is_word (get_or text n 0) → word ≡ ends_in_word (front ++ text)
word_after front text n word front_utf8 utf8 words count is =
    is ∙ ends-words text n utf8 words count ∙ sym (ends_as front text front_utf8 utf8 (omega (arith, count)))

-- ---- tokens

pub none_spelled : (before : List TokenValue) → AreSpelledAfter before [] [] []
none_spelled before = record {
  utf8 = IsUtf8-nil;
  kept = λ spelling others kept.
      subst (λ s. IsKept s (others ++ []) (before ++ [])) (sym (append-nil spelling))
      (subst (λ es. IsKept spelling es (before ++ [])) (sym (append-nil others))
      (subst (λ ts. IsKept spelling others ts) (sym (append-nil before)) kept));
}

-- one more token
module _ (before tokens : List TokenValue) (bytes text : List ℕ) (entries : List Entry) (e : Entry)
    (known : AreSpelledAfter before tokens bytes entries) (utf8 : IsUtf8 text) (is : IsTokenText text) where
  abbrev added : List ℕ
  added = bytes ++ (blank_if (is_parted (spelled (texts_of before) ++ bytes) text) ++ text)

  abbrev token : TokenValue
  token = record { text = text; span = record { start = e.start; end = e.end } }

  one_spelled : e.text_end ≡ length (spelled (texts_of before)) + length added
      → AreSpelledAfter before (tokens ++ token ∷ []) added (entries ++ e ∷ [])
  one_spelled ends =
      let parted = is_parted (spelled (texts_of before) ++ bytes) text in
      record {
        utf8 = IsUtf8-append bytes (blank_if parted ++ text) known.utf8 (IsUtf8-append (blank_if parted) text (blank_utf8 parted) utf8);
        kept = λ spelling others kept.
            let grown : spelling ++ added ≡ (spelling ++ bytes) ++ (blank_if (is_parted (spelling ++ bytes) text) ++ text) =
            ap (λ s. spelling ++ (bytes ++ (blank_if (is_parted (s ++ bytes) text) ++ text))) (sym kept.spells)
            ∙ sym (append_assoc spelling bytes (blank_if (is_parted (spelling ++ bytes) text) ++ text)) in
            let long : e.text_end ≡ length (spelling ++ added) =
            ends ∙ sym (length-append (spelled (texts_of before)) added) ∙ ap (λ s. length (s ++ added)) (sym kept.spells) in
            subst (λ ts. IsKept (spelling ++ added) (others ++ (entries ++ e ∷ [])) ts) (append_assoc before tokens (token ∷ []))
            (kept_more (spelling ++ bytes) (spelling ++ added) text (others ++ entries) (others ++ (entries ++ e ∷ [])) (before ++ tokens) e
            utf8 is grown long (sym (append_assoc others entries (e ∷ []))) (known.kept spelling others kept));
      }

-- ---- tokens of a section

pub none_spelled_yet : (tokens : List Token) (i : ℕ) (rewriting : Rewriting) → HasSpelledUpTo tokens i i rewriting [] []
none_spelled_yet tokens i rewriting = record {
  added = [];
  spelled = none_spelled rewriting.tokens;
  taken = subst (λ (ts : List TokenValue). HasTakenUpTo tokens i i rewriting (record rewriting { tokens = ts })) (sym (append-nil rewriting.tokens))
      (none_taken tokens i rewriting);
}

pub one_more_spelled : (tokens : List Token) (i next after : ℕ) (rewriting : Rewriting) (bytes bytes' : List ℕ) (entries entries' : List Entry) (token : Token) (e : Entry)
    → HasSpelledUpTo tokens i next rewriting bytes entries → rewriting.rewriter ≡ nothing_kept → IsUtf8 token.text → IsTokenText token.text
    → ((settled : List SpannedText) (taken : List Token) → Settles rewriting.phrases.now.phrases taken settled nothing_kept
    → Settles rewriting.phrases.now.phrases (taken ++ token ∷ []) (settled ++ spanned token ∷ []) nothing_kept)
    → token ∷ single_signs (drop (next + 1) tokens) ≡ single_signs (drop next tokens)
    → bytes' ≡ bytes ++ (blank_if (is_parted (spelled (texts_of rewriting.tokens) ++ bytes) token.text) ++ token.text)
    → e ≡ record { text_end = length (spelled (texts_of rewriting.tokens)) + length bytes'; start = token.start; end = token.end }
    → entries' ≡ entries ++ e ∷ [] → next + 1 ≡ after → HasSpelledUpTo tokens i after rewriting bytes' entries'
one_more_spelled tokens i next after rewriting bytes bytes' entries entries' token e known none utf8 is leaves first grown entry added one_more =
    let before = rewriting.tokens in
    let value : TokenValue = reported (spanned token) in
    let one : Entry = record {
      text_end = length (spelled (texts_of before)) + length bytes';
      start = token.start;
      end = token.end;
    } in
    let more : Rewriting = record rewriting { tokens = before ++ known.added } in
    subst (λ n. HasSpelledUpTo tokens i n rewriting bytes' entries') one_more
    (record {
      added = known.added ++ value ∷ [];
      spelled = subst (λ es. AreSpelledAfter before (known.added ++ value ∷ []) bytes' es)
          (ap (λ x. entries ++ x ∷ []) (sym entry) ∙ sym added)
          (subst (λ bs. AreSpelledAfter before (known.added ++ value ∷ []) bs (entries ++ one ∷ [])) (sym grown)
          (one_spelled before known.added bytes token.text entries one known.spelled utf8 is
          (ap (λ bs. length (spelled (texts_of before)) + length bs) grown)));
      taken = taken_in_turn tokens i next (next + 1) rewriting more (record rewriting { tokens = before ++ (known.added ++ value ∷ []) }) known.taken
          (one_taken tokens next (next + 1) more (record rewriting { tokens = before ++ (known.added ++ value ∷ []) }) token
          (token_left more (before ++ (known.added ++ value ∷ [])) token none (sym (append_assoc before known.added (value ∷ []))) is leaves) first);
    })

-- ---- a batch

module _ (tokens : List Token) (i : ℕ) (rewriting : Rewriting) (batch : Batch) (state : Spelled) (text : List ℕ)
    (known : AreInBatch tokens i rewriting batch state) (utf8 : IsUtf8 text) (is : IsTokenText text) (words : HasWords text) where
  abbrev so_far : List ℕ
  so_far = take state.offset batch.bytes

  abbrev parted : Bool
  parted = is_parted (spelled (texts_of rewriting.tokens) ++ so_far) text

  pub blank_is : (first : Bool) → first ≡ is_word (get_or text 0 0) → (state.after_word && first) ≡ parted
  blank_is first is_first = ap₂ (λ a b. a && b) known.word (is_first ∙ begins-words text utf8 words is.not_empty)

  pub word_is : (n : ℕ) (word : Bool) (bytes : List ℕ) → n + 1 ≡ length text → word ≡ is_word (get_or text n 0)
      → bytes ≡ so_far ++ (blank_if parted ++ text) → word ≡ ends_in_word (spelled (texts_of rewriting.tokens) ++ bytes)
  word_is n word bytes count is_word grown =
      let before = spelled (texts_of rewriting.tokens) in
      let blank = blank_if parted in
      word_after ((before ++ so_far) ++ blank) text n word
      (IsUtf8-append (before ++ so_far) blank (IsUtf8-append before so_far known.utf8 known.holds.spelled.utf8) (blank_utf8 parted))
      utf8 words count is_word
      ∙ ap ends_in_word (append_assoc (before ++ so_far) blank text ∙ append_assoc before so_far (blank ++ text) ∙ ap (λ bs. before ++ bs) (sym grown))
