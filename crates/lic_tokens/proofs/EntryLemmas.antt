-- Tokens as they are kept.
use Rattle.std.proofs.Common.{◌≡◌, ℕ, zero, suc, ◌+◌, ◌^◌, ◌≤◌, ◌<◌, List, [], ◌∷◌, ◌++◌, length, take, get_or, refl, sym, ap, ap₂, subst, ◌∙◌, arith, append_assoc, append-nil, length-append, false, ◌==◌}
use Rattle.std.specs.List.{slice_range}
use Rattle.std.specs.Str.{IsUtf8}
use Rattle.std.proofs.lemmas.Bool.{cond-true, cond-false, eqb-true, false_from_ne_true}
use Rattle.std.proofs.lemmas.List.{map-append}
use Rattle.std.proofs.lemmas.List.Elements.{All-nil, All-push}
use Rattle.lic_phrases.specs.Spelling.{is_parted, blank_if, ends_in_word, spelled}
use Rattle.lic_phrases.specs.TokenTexts.{IsTokenText}
use Rattle.lic_tokens.specs.Places.{texts_of, place_end, place_start}
use Rattle.lic_tokens.specs.Tokens.{AreTokenTexts}
use Rattle.lic_tokens.specs.Tokens.{TokenValue}
use Rattle.lic_tokens.specs.Entries.{AreEntries, AreNear, Entry, IsKept, entry_values, text_from}
use Rattle.lic_tokens.specs.declared.token.Span.{Span}
use Rattle.lic_tokens.proofs.SpellingPlaces.{AreTexts, AreTexts-snoc, are_texts, no_last_letter, slice_parts, spelled-snoc, spelled_utf8, occurs, occurs_at}

-- ---- the tokens of entries

values-are : (whole : List ℕ) (before : List (List ℕ)) (tokens : List TokenValue) (entries : List Entry) → AreTexts before → AreTexts (texts_of tokens)
    → AreEntries before tokens entries → whole ≡ spelled (before ++ texts_of tokens)
    → entry_values whole (length (spelled before)) entries ≡ tokens
values-are whole before [] [] known texts are is = refl
values-are whole before [] (e ∷ entries) known texts are is = absurd are
values-are whole before (t ∷ tokens) [] known texts are is = absurd are
values-are whole before (t ∷ tokens) (e ∷ entries) known texts are is =
    let s = occurs before t.text (texts_of tokens) known texts.0 texts.1 texts.2 in
    let text : slice_range whole (text_from whole (length (spelled before))) e.text_end ≡ t.text =
    slice_parts whole s.front t.text s.more _ _ (is ∙ s.parts) (ap (λ l. text_from l (length (spelled before))) is ∙ s.from) (are.0 ∙ s.ends) in
    let later : entry_values whole e.text_end entries ≡ tokens =
    ap (λ n. entry_values whole n entries) are.0
    ∙ values-are whole (before ++ t.text ∷ []) tokens entries (AreTexts-snoc before t.text known texts.0 texts.1) texts.2 are.2
    (is ∙ ap spelled (sym (append_assoc before (t.text ∷ []) (texts_of tokens)))) in
    ap₂ (λ (v : TokenValue) vs. v ∷ vs)
    (ap₂ (λ (l : List ℕ) (span : Span). let v : TokenValue = record { text = l; span = span } in v) text are.1) later

pub kept-values : (spelling : List ℕ) (entries : List Entry) (tokens : List TokenValue) → IsKept spelling entries tokens
    → entry_values spelling 0 entries ≡ tokens
kept-values spelling entries tokens kept = values-are spelling [] tokens entries tt (are_texts tokens kept.utf8 kept.texts) kept.each kept.spells

-- a spelling is in UTF-8
pub kept_utf8 : (spelling : List ℕ) (entries : List Entry) (tokens : List TokenValue) → IsKept spelling entries tokens → IsUtf8 spelling
kept_utf8 spelling entries tokens kept =
    subst IsUtf8 (sym kept.spells) (spelled_utf8 (texts_of tokens) (are_texts tokens kept.utf8 kept.texts))

-- what is at a place of a list has nothing to do with what is there after its end
pub at_place : (l : List ℕ) (n a b : ℕ) → n < length l → get_or l n a ≡ get_or l n b
at_place [] n a b lt = absurd (omega arith)
at_place (x ∷ l) zero a b lt = refl
at_place (x ∷ l) (suc n) a b lt = at_place l n a b (omega arith)

-- a text begins after a blank, or where the one before it ends
pub from_blank : (spelling : List ℕ) (place : ℕ) → get_or spelling place 0 ≡ 0x20 → place + 1 ≡ text_from spelling place
from_blank spelling place blank =
    (let e : place + 1 ≡ suc place = omega arith in e)
    ∙ sym (cond-true (get_or spelling place 0 == 0x20) (suc place) place (ap (λ b. b == 0x20) blank))

pub from_end : (spelling : List ℕ) (place : ℕ) → ¬ (get_or spelling place 0 ≡ 0x20) → place ≡ text_from spelling place
from_end spelling place other =
    sym (cond-false (get_or spelling place 0 == 0x20) (suc place) place
    (false_from_ne_true (get_or spelling place 0 == 0x20) (λ blank. other (eqb-true (get_or spelling place 0) 0x20 blank))))

-- no tokens are kept by nothing
no_tokens_kept : IsKept [] [] []
no_tokens_kept = record { spells = refl; each = tt; utf8 = All-nil (λ (t : TokenValue). IsUtf8 t.text); texts = All-nil (λ (t : TokenValue). IsTokenText t.text) }

pub none_kept : (spelling : List ℕ) (entries : List Entry) → spelling ≡ [] → entries ≡ []
    → IsKept spelling entries (entry_values spelling 0 entries) × (false ≡ ends_in_word spelling)
none_kept spelling entries no_spelling no_entries =
    subst (λ s. IsKept s entries (entry_values s 0 entries) × (false ≡ ends_in_word s)) (sym no_spelling)
    (subst (λ es. IsKept [] es (entry_values [] 0 es) × (false ≡ ends_in_word [])) (sym no_entries) (no_tokens_kept, sym no_last_letter))

-- ---- one entry of them

pub AreEntries-length : (before : List (List ℕ)) (tokens : List TokenValue) (entries : List Entry) → AreEntries before tokens entries
    → length entries ≡ length tokens
AreEntries-length before [] [] are = refl
AreEntries-length before [] (e ∷ entries) are = absurd are
AreEntries-length before (t ∷ tokens) [] are = absurd are
AreEntries-length before (t ∷ tokens) (e ∷ entries) are = ap suc (AreEntries-length (before ++ t.text ∷ []) tokens entries are.2)

end_at : (before : List (List ℕ)) (tokens : List TokenValue) (entries : List Entry) (i : ℕ) (d : Entry) → AreEntries before tokens entries
    → i < length tokens → (get_or entries i d).text_end ≡ length (spelled (before ++ take (suc i) (texts_of tokens)))
end_at before [] entries i d are inside = absurd (omega arith)
end_at before (t ∷ tokens) [] i d are inside = absurd are
end_at before (t ∷ tokens) (e ∷ entries) zero d are inside = are.0
end_at before (t ∷ tokens) (e ∷ entries) (suc i) d are inside =
    end_at (before ++ t.text ∷ []) tokens entries i d are.2 (omega arith)
    ∙ ap (λ l. length (spelled l)) (append_assoc before (t.text ∷ []) (take (suc i) (texts_of tokens)))

span_at : (before : List (List ℕ)) (tokens : List TokenValue) (entries : List Entry) (i : ℕ) (d : Entry) (v : TokenValue)
    → AreEntries before tokens entries → i < length tokens
    → record { start = (get_or entries i d).start; end = (get_or entries i d).end } ≡ (get_or tokens i v).span
span_at before [] entries i d v are inside = absurd (omega arith)
span_at before (t ∷ tokens) [] i d v are inside = absurd are
span_at before (t ∷ tokens) (e ∷ entries) zero d v are inside = are.1
span_at before (t ∷ tokens) (e ∷ entries) (suc i) d v are inside = span_at (before ++ t.text ∷ []) tokens entries i d v are.2 (omega arith)

-- the text of a token as a text of the list
text_at : (tokens : List TokenValue) (i : ℕ) (v : TokenValue) → i < length tokens → get_or (texts_of tokens) i [] ≡ (get_or tokens i v).text
text_at [] i v inside = absurd (omega arith)
text_at (t ∷ tokens) zero v inside = refl
text_at (t ∷ tokens) (suc i) v inside = text_at tokens i v (omega arith)

text_some : (tokens : List TokenValue) (i : ℕ) → i < length tokens → AreTokenTexts tokens → 0 < length (get_or (texts_of tokens) i [])
text_some tokens i inside texts =
    let v : TokenValue = record { text = []; span = record { start = 0; end = 0 } } in
    subst (λ l. 0 < length l) (sym (text_at tokens i v inside)) (texts i v inside).not_empty

-- the first text begins where the spelling does
pub first_start : (tokens : List TokenValue) (i : ℕ) → i ≡ 0 → i < length tokens → 0 ≡ place_start tokens i
unfolding place_end place_start
first_start [] i first inside = absurd (omega arith)
first_start (t ∷ tokens) zero first inside = omega arith
first_start (t ∷ tokens) (suc i) first inside = absurd (omega arith)

-- another text begins where the one before it ends, or after the blank there
module _ (spelling : List ℕ) (entries : List Entry) (tokens : List TokenValue) (i j : ℕ) (d : Entry) (kept : IsKept spelling entries tokens)
    (next : j + 1 ≡ i) (inside : i < length tokens) where
  abbrev end : ℕ
  end = (get_or entries j d).text_end

  end_before : end ≡ length (spelled (take i (texts_of tokens)))
  end_before =
      end_at [] tokens entries j d kept.each (omega arith)
      ∙ ap (λ n. length (spelled (take n (texts_of tokens)))) (let e : suc j ≡ i = omega arith in e)

  pub end_inside : end < length spelling
  end_inside =
      let s = occurs_at tokens i spelling inside (are_texts tokens kept.utf8 kept.texts) kept.spells in
      let text = get_or (texts_of tokens) i [] in
      omega (arith, end_before, s.order, ap length s.parts, length-append s.front (text ++ s.more), length-append text s.more, text_some tokens i inside kept.texts)

  pub start_is : text_from spelling end ≡ place_start tokens i
  start_is =
      let s = occurs_at tokens i spelling inside (are_texts tokens kept.utf8 kept.texts) kept.spells in
      ap (text_from spelling) end_before ∙ s.from ∙ sym s.starts

-- where a text is, and what it is
module _ (spelling : List ℕ) (entries : List Entry) (tokens : List TokenValue) (i : ℕ) (kept : IsKept spelling entries tokens)
    (inside : i < length tokens) where
  pub end_is : (d : Entry) → (get_or entries i d).text_end ≡ place_end tokens i
  unfolding place_end
  end_is d = end_at [] tokens entries i d kept.each inside

  pub start_before_end : place_start tokens i ≤ place_end tokens i
  start_before_end =
      let s = occurs_at tokens i spelling inside (are_texts tokens kept.utf8 kept.texts) kept.spells in
      omega (arith, s.starts, s.ends)

  pub end_within : place_end tokens i ≤ length spelling
  end_within =
      let s = occurs_at tokens i spelling inside (are_texts tokens kept.utf8 kept.texts) kept.spells in
      let text = get_or (texts_of tokens) i [] in
      omega (arith, s.ends, ap length s.parts, length-append s.front (text ++ s.more), length-append text s.more)

  pub text_is : (v : TokenValue) → slice_range spelling (place_start tokens i) (place_end tokens i) ≡ (get_or tokens i v).text
  text_is v =
      let s = occurs_at tokens i spelling inside (are_texts tokens kept.utf8 kept.texts) kept.spells in
      slice_parts spelling s.front (get_or (texts_of tokens) i []) s.more (place_start tokens i) (place_end tokens i) s.parts s.starts s.ends
      ∙ text_at tokens i v inside

  pub text_utf8 : (bytes : List ℕ) → bytes ≡ slice_range spelling (place_start tokens i) (place_end tokens i) → IsUtf8 bytes
  text_utf8 bytes is =
      let v : TokenValue = record { text = []; span = record { start = 0; end = 0 } } in
      subst IsUtf8 (sym (is ∙ text_is v)) (kept.utf8 i v inside)

  pub near_end : (d : Entry) → length spelling < 2 ^ 32 → (get_or entries i d).text_end < 2 ^ 32
  near_end d small = omega (arith, end_is d, end_within, small)

  pub span_is : (d : Entry) (v : TokenValue) → record { start = (get_or entries i d).start; end = (get_or entries i d).end } ≡ (get_or tokens i v).span
  span_is d v = span_at [] tokens entries i d v kept.each inside

-- where the spelling has fewer than 2^32 bytes, 32 bits say where the texts end
pub kept_near : (spelling : List ℕ) (entries : List Entry) (tokens : List TokenValue) → IsKept spelling entries tokens → length spelling < 2 ^ 32
    → AreNear entries
kept_near spelling entries tokens kept small =
    λ i d inside. near_end spelling entries tokens i kept (omega (arith, inside, AreEntries-length [] tokens entries kept.each)) d small

-- ---- one more token

AreEntries-push : (before : List (List ℕ)) (tokens : List TokenValue) (entries : List Entry) (t : TokenValue) (e : Entry) → AreEntries before tokens entries
    → e.text_end ≡ length (spelled ((before ++ texts_of tokens) ++ t.text ∷ [])) → record { start = e.start; end = e.end } ≡ t.span
    → AreEntries before (tokens ++ t ∷ []) (entries ++ e ∷ [])
AreEntries-push before [] [] t e are ends span = (ends ∙ ap (λ l. length (spelled (l ++ t.text ∷ []))) (append-nil before), span, tt)
AreEntries-push before [] (f ∷ entries) t e are ends span = absurd are
AreEntries-push before (u ∷ tokens) [] t e are ends span = absurd are
AreEntries-push before (u ∷ tokens) (f ∷ entries) t e are ends span = (
  are.0,
  are.1,
  AreEntries-push (before ++ u.text ∷ []) tokens entries t e are.2
      (ends ∙ ap (λ l. length (spelled (l ++ t.text ∷ []))) (sym (append_assoc before (u.text ∷ []) (texts_of tokens)))) span,
)

-- one more token, whose text comes after the others
module _ (spelling spelling' text : List ℕ) (entries entries' : List Entry) (tokens : List TokenValue) (e : Entry) (utf8 : IsUtf8 text)
    (is : IsTokenText text) (grown : spelling' ≡ spelling ++ (blank_if (is_parted spelling text) ++ text))
    (ends : e.text_end ≡ length spelling') (added : entries' ≡ entries ++ e ∷ []) (kept : IsKept spelling entries tokens) where
  abbrev token : TokenValue
  token = record { text = text; span = record { start = e.start; end = e.end } }

  texts_more : texts_of (tokens ++ token ∷ []) ≡ texts_of tokens ++ text ∷ []
  texts_more = map-append (λ t. t.text) tokens (token ∷ [])

  spelled_more : spelling' ≡ spelled (texts_of tokens ++ text ∷ [])
  spelled_more =
      grown ∙ ap (λ l. l ++ (blank_if (is_parted l text) ++ text)) kept.spells
      ∙ sym (spelled-snoc (texts_of tokens) text (are_texts tokens kept.utf8 kept.texts))

  pub kept_more : IsKept spelling' entries' (tokens ++ token ∷ [])
  kept_more = record {
    spells = spelled_more ∙ ap spelled (sym texts_more);
    each = subst (λ es. AreEntries [] (tokens ++ token ∷ []) es) (sym added)
        (AreEntries-push [] tokens entries token e kept.each (ends ∙ ap length spelled_more) refl);
    utf8 = All-push (λ t. IsUtf8 t.text) tokens token kept.utf8 utf8;
    texts = All-push (λ t. IsTokenText t.text) tokens token kept.texts is;
  }

  pub values-pushed : entry_values spelling' 0 entries' ≡ tokens ++ token ∷ []
  values-pushed = kept-values spelling' entries' (tokens ++ token ∷ []) kept_more

  pub kept-pushed : IsKept spelling' entries' (entry_values spelling' 0 entries')
  kept-pushed = subst (IsKept spelling' entries') (sym values-pushed) kept_more
