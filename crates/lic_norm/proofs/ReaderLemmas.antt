-- Lines that a reader takes as they end.
use Rattle.std.proofs.Common.{◌≡◌, ◌≢◌, ℕ, ◌+◌, ◌-◌, ◌≤◌, List, [], ◌∷◌, ◌++◌, map, length, take, drop, sym, ap, ap₂, subst, ◌∙◌, append_assoc, append-nil, arith, All, get_or, get_or-drop, ◌<◌, ◌⊎◌, inl, inr, Option, Some, None, length-drop, take-append-drop, take-add, take_all, drop-drop}
use Rattle.std.specs.List.{slice_range}
use Rattle.std.proofs.lemmas.List.{map-append, drop_all, length-map}
use Rattle.std.proofs.lemmas.List.Elements.{All-append, All-drop, All-get_or, All-nil}
use Rattle.memchr.specs.Find.{IsLastByte, is_byte}
use Rattle.lic_kind.specs.LineRules.{LineRules, rules_of}
use Rattle.lic_phrases.specs.Rewriting.{rewritten}
use Rattle.lic_phrases.specs.Settling.{left_of}
use Rattle.lic_norm.specs.Feeding.{FeederValue, settled_in, AreLines, AreFirst, lines_read}
use Rattle.lic_norm.specs.LineEnds.{IsFirstLine}
use Rattle.lic_rewriting.specs.Taking.{HasTaken}
use Rattle.lic_norm.specs.Reading.{HasRead, HasReadLines}
use Rattle.lic_tokens.specs.Tokens.{reported}
use Rattle.lic_norm.specs.Tokens.{first_tokens_of, tokens_of}
use Rattle.lic_norm.specs.declared.fault.TextFault.{TextFault}
use Rattle.lic_norm.specs.declared.reader.Reader.{Reader}
use Rattle.lic_rewriting.specs.declared.rewriting.Rewriting.{Rewriting}
use Rattle.lic_norm.proofs.LineCuts.{found_last, found_none}
use Rattle.lic_norm.proofs.WholeLines.{first_tokens_of-lines, lines_read-is}

abbrev NoEnd : ℕ → Type 0
NoEnd b = b ≢ 0x0A

-- the rest is a slice and the rest after it
rest_parts : (source : List ℕ) (at mid : ℕ) → at ≤ mid → drop at source ≡ slice_range source at mid ++ drop mid source
rest_parts source at mid le =
    sym (take-append-drop (mid - at) (drop at source))
    ∙ ap (λ l. slice_range source at mid ++ l) (drop-drop (mid - at) at source ∙ ap (λ k. drop k source) (let e : at + (mid - at) ≡ mid = omega arith in e))

-- ---- lines that are taken

-- a line of the rest is a line of the source
pub rest_line : (source : List ℕ) (at n : ℕ) → IsFirstLine (take n (drop at source)) (drop n (drop at source))
    → IsFirstLine (slice_range source at (at + n)) (drop (at + n) source)
rest_line source at n first =
    subst (λ l. IsFirstLine l (drop (at + n) source)) (ap (λ k. take k (drop at source)) (let e : n ≡ at + n - at = omega arith in e))
    (subst (λ l. IsFirstLine (take n (drop at source)) l) (drop-drop n at source) first)

-- lines after lines
pub more_lines : (source : List ℕ) (at n : ℕ) → AreLines (take at source) → AreLines (take n (drop at source)) → AreLines (take (at + n) source)
more_lines source at n before (inl none) =
    subst AreLines (sym (take-add at n source ∙ ap (λ l. take at source ++ l) none ∙ append-nil (take at source))) before
more_lines source at n before (inr (front, is)) =
    inr (take at source ++ front, take-add at n source ∙ ap (λ l. take at source ++ l) is ∙ sym (append_assoc (take at source) front (0x0A ∷ [])))

-- what has a U+000A has a line that ends
pub ended_lines : (rest : List ℕ) (n : ℕ) → ¬ All NoEnd rest → AreLines (take n rest) ⊎ All NoEnd rest → AreLines (take n rest)
ended_lines rest n ended (inl lines) = lines
ended_lines rest n ended (inr none) = absurd (ended none)

-- and is not empty
pub some_rest : (rest : List ℕ) → ¬ All NoEnd rest → 0 < length rest
some_rest [] ended = absurd (ended (All-nil NoEnd))
some_rest (b ∷ rest) ended = omega arith

-- the last U+000A, from an offset on
module _ (source : List ℕ) (from offset : ℕ) (found : IsLastByte (is_byte 0x0A) (drop from source) (Some offset)) where
  pub last_within : from + offset < length source
  last_within = omega (arith, (found_last (drop from source) offset found).2, length-drop from source)

  -- it is in the rest from each offset before it
  pub has_ended : (at : ℕ) → at ≤ from + offset → ¬ All NoEnd (drop at source)
  has_ended at before none =
      let there : at + (from + offset - at) ≡ from + offset = omega arith in
      All-get_or NoEnd (drop at source) (from + offset - at) 0 (omega (arith, last_within, length-drop at source)) none
      (get_or-drop at source (from + offset - at) 0 ∙ ap (λ k. get_or source k 0) there
      ∙ sym (get_or-drop from source offset 0) ∙ (found_last (drop from source) offset found).3)

  -- and there is none from each offset after it
  pub none_later : (at : ℕ) → from + offset < at → All NoEnd (drop at source)
  none_later at past =
      let there : from + (offset + 1) + (at - (from + offset + 1)) ≡ at = omega arith in
      subst (All NoEnd)
      (ap (drop (at - (from + offset + 1))) (drop-drop (offset + 1) from source)
      ∙ drop-drop (at - (from + offset + 1)) (from + (offset + 1)) source ∙ ap (λ k. drop k source) there)
      (All-drop NoEnd (at - (from + offset + 1)) (drop (offset + 1) (drop from source)) (found_last (drop from source) offset found).1)

-- after the last line that has ended there is no U+000A
pub no_more_ends : (source : List ℕ) (at searched : ℕ) → at ≤ searched → All NoEnd (slice_range source at searched)
    → IsLastByte (is_byte 0x0A) (drop searched source) None → All NoEnd (drop at source)
no_more_ends source at searched order clear none =
    subst (All NoEnd) (sym (rest_parts source at searched order))
    (All-append NoEnd (slice_range source at searched) (drop searched source) clear
    (found_none (drop searched source) none))

-- what has not ended is a line, if the input ends there
pub last_line : (source : List ℕ) (at : ℕ) → at ≤ length source → All NoEnd (drop at source)
    → IsFirstLine (slice_range source at (length source)) (drop (length source) source)
last_line source at within clear =
    let whole : slice_range source at (length source) ≡ drop at source =
    take_all (length source - at) (drop at source) (omega (arith, length-drop at source)) in
    record { front = drop at source; no_end = clear; ends = inr (whole, drop_all (length source) source (omega arith)) }

-- the rest of the source, as it is searched
pub searched_rest : (here source : List ℕ) (searched : ℕ) → here ≡ source → take (length here - searched) (drop searched here) ≡ drop searched source
searched_rest here source searched same =
    take_all (length here - searched) (drop searched here) (omega (arith, length-drop searched here))
    ∙ ap (drop searched) same

-- a reader that took the lines that end here has read up to there
pub read_on : (old new : Reader) (end : ℕ) → new.rules.now ≡ old.rules.now → new.line_start ≡ end → new.source.items ≡ old.source.items
    → end ≤ length old.source.items → AreLines (take end old.source.items)
    → HasTaken new.rewriting (first_tokens_of (rules_of old.rules.now) 0 (take end old.source.items)) → HasRead new
read_on old new end rules start source within lines taken =
    let same : take new.line_start new.source.items ≡ take end old.source.items = ap₂ (λ n l. take n l) start source in
    record {
      within = omega (arith, start, ap length source, within);
      lines = subst AreLines (sym same) lines;
      taken = subst (HasTaken new.rewriting) (sym (ap₂ (λ r bytes. first_tokens_of (rules_of r) 0 bytes) rules same)) taken;
    }

-- ---- more bytes

-- ---- settled tokens

-- the settled tokens of whole lines begin those of every input that begins so
pub settled_first : (rules : LineRules) (rewriting : Rewriting) (source more : List ℕ) (at : ℕ)
    → AreLines (take at source) → HasTaken rewriting (first_tokens_of rules 0 (take at source))
    → AreFirst rewriting.tokens (tokens_of rules rewriting.phrases.now.phrases (source ++ more))
settled_first rules rewriting source more at lines has =
    let words = rewriting.phrases.now.phrases in
    let front = take at source in
    let past = drop at source ++ more in
    let whole : source ++ more ≡ front ++ past = ap (λ l. l ++ more) (sym (take-append-drop at source)) ∙ append_assoc front (drop at source) more in
    let rest = first_tokens_of rules (0 + length front) past in
    let kept = left_of words rewriting.rewriter rest in (
      map reported kept,
      ap (λ l. map reported (rewritten words (first_tokens_of rules 0 l))) whole
          ∙ ap (λ l. map reported (rewritten words l)) (first_tokens_of-lines rules 0 front past lines)
          ∙ ap (map reported) (has.settles.continues rest)
          ∙ map-append reported has.settled kept
          ∙ ap (λ l. l ++ map reported kept) (sym has.listed),
    )

-- nearly all tokens of the lines that have ended are settled
pub nearly_all_settled : (rules : LineRules) (rewriting : Rewriting) (source : List ℕ) (at : ℕ)
    → AreLines (take at source) → All NoEnd (drop at source)
    → HasTaken rewriting (first_tokens_of rules 0 (take at source))
    → length (tokens_of rules rewriting.phrases.now.phrases (lines_read source)) ≤ length rewriting.tokens + 12
nearly_all_settled rules rewriting source at lines clear has =
    let words = rewriting.phrases.now.phrases in
    let read : lines_read source ≡ take at source =
    ap lines_read (sym (take-append-drop at source))
    ∙ lines_read-is (take at source) (drop at source) lines clear in
    let all = rewritten words (first_tokens_of rules 0 (take at source)) in
    let count : length (tokens_of rules words (lines_read source)) ≡ length all = ap (λ l. length (tokens_of rules words l)) read ∙ length-map all reported in
    let listed : length rewriting.tokens ≡ length has.settled = ap length has.listed ∙ length-map has.settled reported in
    omega (arith, count, listed, has.settles.nearly_all)

-- ---- as callers see them

-- a caller sees the bytes, the words, the rules and the settled tokens of a reader that was not refused
module _ (value : FeederValue) (reader : Reader) (refused : Option TextFault)
    (bytes : reader.source.items ≡ value.bytes) (words : reader.rewriting.phrases.now.phrases ≡ value.words)
    (rules : rules_of reader.rules.now ≡ value.rules)
    (tokens : settled_in refused reader.rewriting.tokens ≡ value.tokens) (none : refused ≡ None) (read : HasReadLines reader) where
  settled_same : reader.rewriting.tokens ≡ value.tokens
  settled_same = sym (ap (λ r. settled_in r reader.rewriting.tokens) none) ∙ tokens

  pub seen_first : (more : List ℕ) → AreFirst value.tokens (tokens_of value.rules value.words (value.bytes ++ more))
  seen_first more =
      let first : AreFirst reader.rewriting.tokens (tokens_of (rules_of reader.rules.now) reader.rewriting.phrases.now.phrases (reader.source.items ++ more)) =
      settled_first (rules_of reader.rules.now) reader.rewriting reader.source.items more reader.line_start read.read.lines read.read.taken in
      subst (λ ts. AreFirst ts (tokens_of value.rules value.words (value.bytes ++ more))) settled_same
      (subst (λ rs. AreFirst reader.rewriting.tokens (tokens_of rs value.words (value.bytes ++ more))) rules
      (subst (λ ws. AreFirst reader.rewriting.tokens (tokens_of (rules_of reader.rules.now) ws (value.bytes ++ more))) words
      (subst (λ bs. AreFirst reader.rewriting.tokens (tokens_of (rules_of reader.rules.now) reader.rewriting.phrases.now.phrases (bs ++ more))) bytes first)))

  pub seen_nearly_all : length (tokens_of value.rules value.words (lines_read value.bytes)) ≤ length reader.rewriting.tokens + 12
  seen_nearly_all =
      let all : length (tokens_of (rules_of reader.rules.now) reader.rewriting.phrases.now.phrases
      (lines_read reader.source.items)) ≤ length reader.rewriting.tokens + 12 =
      nearly_all_settled (rules_of reader.rules.now) reader.rewriting reader.source.items reader.line_start read.read.lines read.open_line read.read.taken in
      subst (λ rs. length (tokens_of rs value.words (lines_read value.bytes)) ≤ length reader.rewriting.tokens + 12) rules
      (subst (λ ws. length (tokens_of (rules_of reader.rules.now) ws (lines_read value.bytes)) ≤ length reader.rewriting.tokens + 12) words
      (subst (λ bs. length (tokens_of (rules_of reader.rules.now) reader.rewriting.phrases.now.phrases (lines_read bs))
      ≤ length reader.rewriting.tokens + 12) bytes all))
