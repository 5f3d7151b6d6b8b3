-- Phrases of waiting tokens, by their keys.
use Rattle.std.proofs.Common.{◌≡◌, ℕ, zero, suc, ◌-◌, ◌<◌, ◌≤◌, ◌⊎◌, Bool, true, min, List, [], ◌∷◌, ◌++◌, length, take, drop, get_or, map, Option, Some, None, refl, sym, ap, ap₂, ◌∙◌, subst, ⊎_elim, append_assoc, append-nil, arith}
use Rattle.std.proofs.Math.Seq.{drop-cons}
use Rattle.std.specs.Prelude.{option_map, slice_index_or, IfSome, Result, Ok, Err, OnOk}
use Rattle.std.specs.Option.{option_or}
use Rattle.std.proofs.lemmas.Str.{IsUtf8-had}
use Rattle.std.proofs.lemmas.List.{get_or-map, length-map, length-take-le, drop-map}
use Rattle.lic_lines.specs.Tokens.{Token, small_bytes, token_in, tokens_in}
use Rattle.lic_lines.specs.declared.tokens.FirstToken.{FirstToken}
use Rattle.lic_phrases.specs.Rewriting.{Phrase, SpannedText, spanned, end_of_last, longest_phrase, count_after, first_as, phrases_joined}
use Rattle.lic_phrases.specs.PhraseLists.{PhraseList, HaveTokens, longest_from, phrase_with, phrase_of, key_of, key_texts, IsKey}
use Rattle.lic_phrases.specs.Waiting.{texts_of, first_phrase, phrase_found, count_found, first_given, spanned_in, GivesMore}
use Rattle.lic_phrases.specs.declared.rewriter.merging.Found.{Found}
use Rattle.lic_phrases.specs.declared.final_token.FinalToken.{FinalToken}
use Rattle.lic_phrases.proofs.PhraseKeyLemmas.{HaveNoSeparator, HaveNoSeparator-take, utf8_has_none, key_texts-key_of, IsKey-key_of}
use Rattle.lic_phrases.proofs.PhraseLemmas.{BeginWithin, BeginWithin-min, BeginWithin-from, BeginWithin-length, first_phrase-longest, longest_phrase-decided, phrases_joined-first}

tokens_have_none : (items : List FirstToken) → HaveNoSeparator (texts_of (tokens_in items))
tokens_have_none [] = tt
tokens_have_none (t ∷ items) = (utf8_has_none (small_bytes t.text) (IsUtf8-had (small_bytes t.text) t.text.utf8), tokens_have_none items)

-- the text of a waiting token
pub waiting_text : (items : List FirstToken) (n : ℕ) (t : FirstToken) (d : List ℕ) → n < length items
    → t ≡ get_or items n t → get_or (texts_of (tokens_in items)) n d ≡ small_bytes t.text
waiting_text items n t d lt is =
    get_or-map (λ u. u.text) (tokens_in items) n (token_in t) d (omega (arith, length-map items token_in))
    ∙ ap (λ u. u.text) (get_or-map token_in items n t (token_in t) lt ∙ ap token_in (sym is))

-- what a look-up by the key of the first n texts finds
pub class-front : (words : List Phrase) (spellings : List (List ℕ)) (items : List FirstToken) (n : ℕ) (key : List ℕ)
    (class : Option ℕ) → key ≡ key_of (take n (texts_of (tokens_in items)))
    → (IsKey key → option_map (phrase_of spellings key) class ≡ phrase_with words (key_texts key))
    → option_map (λ k. record {
      texts = take n (texts_of (tokens_in items));
      spelling =
          slice_index_or spellings k [];
    }) class ≡ phrase_with words (take n (texts_of (tokens_in items)))
class-front words spellings items n key class is looked_up =
    let texts = take n (texts_of (tokens_in items)) in
    let none = HaveNoSeparator-take n (texts_of (tokens_in items)) (tokens_have_none items) in
    let back : key_texts key ≡ texts = ap key_texts is ∙ key_texts-key_of texts none in
    subst (λ l. option_map (λ k. record { texts = l; spelling = slice_index_or spellings k [] }) class
    ≡ phrase_with words l) back (looked_up (subst IsKey (sym is) (IsKey-key_of texts none)))

-- an option that is no value
pub none_from : {A : Type 0} (o : Option A) → ((x : A) → o ≡ Some x → ⊥) → o ≡ None
none_from None never = refl
none_from (Some x) never = absurd (never x refl)

pub empty_list : {A : Type 0} (xs : List A) → length xs ≡ 0 → xs ≡ []
empty_list [] none = refl
empty_list (x ∷ xs) none = absurd (omega arith)

-- what follows from a fact of an answer
pub OnOk-one : {X E : Type 0} (r : Result X E) (P Q : Type 0) → (P → Q) → OnOk r P → OnOk r Q
OnOk-one (Ok x) P Q follows p = follows p
OnOk-one (Err e) P Q follows p = tt

-- one more token, with which the texts are a phrase
pub first_phrase-some : (words : List Phrase) (texts : List (List ℕ)) (n m : ℕ) (p : Phrase) → m ≡ suc n
    → Some p ≡ phrase_with words (take m texts) → Some p ≡ first_phrase words texts m
first_phrase-some words texts n m p next is =
    subst (λ k. Some p ≡ phrase_with words (take k texts) → Some p ≡ first_phrase words texts k)
    (sym next) (λ found. ap (λ o. option_or o (first_phrase words texts n)) found) is

-- one more token, with which they are none
pub first_phrase-none : (words : List Phrase) (texts : List (List ℕ)) (n m : ℕ) → m ≡ suc n
    → None ≡ phrase_with words (take m texts) → first_phrase words texts n ≡ first_phrase words texts m
first_phrase-none words texts n m next is =
    subst (λ k. None ≡ phrase_with words (take k texts) → first_phrase words texts n ≡ first_phrase words texts k)
    (sym next) (λ none. ap (λ o. option_or o (first_phrase words texts n)) none) is

-- ---- what is given

-- the first of what is left
pub drop_head : {A : Type 0} (xs ys : List A) (n : ℕ) (x : A) → n < length xs → drop n xs ≡ x ∷ ys → (get_or xs n x ≡ x) × (ys ≡ drop (suc n) xs)
drop_head xs ys n x lt is =
    let both = sym (drop-cons xs n x lt) ∙ is in
    (ap (λ l. get_or l 0 x) both, sym (ap (drop 1) both))

-- where the last of some tokens ends
pub end_of_last-more : (t : Token) (ts : List Token) (n : ℕ) (d : Token) → n < length ts → end_of_last t (take (suc n) ts) ≡ (get_or ts n d).end
end_of_last-more t [] n d lt = absurd (omega arith)
end_of_last-more t (u ∷ ts) zero d lt = refl
end_of_last-more t (u ∷ ts) (suc n) d lt = end_of_last-more u ts n d (omega arith)

less_one : (n : ℕ) → suc n - 1 ≡ n
less_one n = omega arith

-- what is left of the tokens after the first
left_after : (spellings : List (List ℕ)) (found : Option Found) (t : FirstToken) (items : List FirstToken)
    → IfSome found (λ f. (0 < f.count) × (f.count ≤ suc (length items)))
    → drop (count_after (option_map (phrase_found spellings (tokens_in (t ∷ items))) found)) (tokens_in items)
    ≡ tokens_in (drop (count_found found) (t ∷ items))
left_after spellings None t items within = refl
left_after spellings (Some f) t items within = by f.count within
  where
    by : (count : ℕ) → (0 < count) × (count ≤ suc (length items))
        → drop (length (take count (texts_of (tokens_in (t ∷ items)))) - 1) (tokens_in items)
        ≡ tokens_in (drop count (t ∷ items))
    by zero fits = absurd (omega (arith, fits.0))
    by (suc count) fits =
        let texts = texts_of (tokens_in items) in
        let size : length (take count texts) ≡ count =
        length-take-le count texts (omega
        (arith, fits.1, length-map (tokens_in items) (λ u. u.text), length-map items token_in)) in
        ap (λ k. drop k (tokens_in items)) (less_one (length (take count texts)) ∙ size) ∙ drop-map token_in count items

-- the first of the waiting tokens is given
pub GivesMore-first : (list : PhraseList) (at_end : Bool) (given : List FinalToken) (items : List FirstToken)
    (first : FirstToken) (most : ℕ) (found : Option Found) (given' : List FinalToken) (items' : List FirstToken)
    → 0 < length items → first ≡ get_or items 0 first → HaveTokens list.phrases
    → longest_from list.phrases (small_bytes first.text) ≤ most → (at_end ≡ true) ⊎ (most ≤ length items)
    → option_map (phrase_found list.spellings (tokens_in items)) found ≡ first_phrase list.phrases (texts_of (tokens_in items)) (min most (length items))
    → IfSome found (λ f. (0 < f.count) × (f.count ≤ min most (length items)))
    → items' ≡ drop (count_found found) items
    → map (spanned_in list.spellings) given' ≡ map (spanned_in list.spellings) given ++ first_given list.spellings found (tokens_in items)
    → GivesMore list at_end given items given' items'
GivesMore-first list at_end given [] first most found given' items' some is tokens bound known found_is within left more = absurd (omega arith)
GivesMore-first list at_end given (t ∷ items) first most found given' items' some is tokens bound known found_is within left more = λ rest ends.
    let words = list.phrases in
    let ts = tokens_in items in
    let size : length ts ≡ length items = length-map items token_in in
    let from_t : longest_from words (small_bytes t.text) ≤ most = subst (λ u. longest_from words (small_bytes u.text) ≤ most) is bound in
    let n = min most (length (t ∷ items)) in
    let begin_within : BeginWithin n words (token_in t ∷ ts) =
    BeginWithin-min most (length (t ∷ items)) words (token_in t ∷ ts) (BeginWithin-from most words (token_in t) ts tokens from_t)
    (subst (λ k. BeginWithin k words (token_in t ∷ ts)) (ap suc size) (BeginWithin-length words (token_in t ∷ ts))) in
    let longest : option_map (phrase_found list.spellings (token_in t ∷ ts)) found ≡ longest_phrase words (token_in t ∷ ts) =
    found_is ∙ first_phrase-longest n words (token_in t ∷ ts) (omega arith) tokens begin_within in
    let decided : longest_phrase words (token_in t ∷ (ts ++ rest)) ≡ longest_phrase words (token_in t ∷ ts) =
    (⊎_elim
    (λ at. ap (λ l. longest_phrase words (token_in t ∷ (ts ++ l))) (ends at) ∙ ap (λ l. longest_phrase words (token_in t ∷ l)) (append-nil ts))
    (λ long. longest_phrase-decided words (token_in t) ts rest tokens (omega arith))
    known) in
    let within_all : IfSome found (λ f. (0 < f.count) × (f.count ≤ suc (length items))) = weaker found n (suc (length items)) (omega arith) within in
    let rest_of : List Token → List SpannedText = λ l. map spanned (phrases_joined words (l ++ rest)) in
    let first_of : Option Phrase → List SpannedText = λ phrase. spanned (first_as phrase (token_in t) ts) ∷ rest_of (drop (count_after phrase) ts) in
    ap (λ l. map (spanned_in list.spellings) given ++ map spanned l) (phrases_joined-first words (token_in t) ts rest decided)
    ∙ ap (λ l. map (spanned_in list.spellings) given ++ l) (ap first_of (sym longest))
    ∙ sym (append_assoc (map (spanned_in list.spellings) given) (first_given list.spellings found (token_in t ∷ ts))
    (rest_of (drop (count_after (option_map (phrase_found list.spellings (token_in t ∷ ts)) found)) ts)))
    ∙ ap₂ (λ a b. a ++ rest_of b) (sym more) (left_after list.spellings found t items within_all ∙ sym (ap tokens_in left))
  where
    weaker : (o : Option Found) (m n : ℕ) → m ≤ n → IfSome o (λ f. (0 < f.count) × (f.count ≤ m)) → IfSome o (λ f. (0 < f.count) × (f.count ≤ n))
    weaker None m n le h = tt
    weaker (Some f) m n le h = (h.0, omega (arith, h.1))
