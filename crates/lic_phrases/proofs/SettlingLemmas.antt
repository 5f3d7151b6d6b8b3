-- The three steps of the rewriting in a row.
use Rattle.std.proofs.Common.{◌≡◌, ℕ, ◌+◌, ◌≤◌, false, List, [], ◌∷◌, ◌++◌, length, map, Option, Some, None, zero, suc, refl, sym, ap, ◌∙◌, subst, ⊎_elim, append_assoc, append-nil, length-append, arith}
use Rattle.std.specs.Prelude.{codes, Result, Ok, Err, OnOk}
use Rattle.std.specs.List.{flat_map}
use Rattle.std.proofs.lemmas.Bool.{cases_Bool, cond-true, cond-false, false≢true}
use Rattle.std.proofs.lemmas.List.{length-map, map-append}
use Rattle.lic_trim.specs.Texts.{groups, join_group}
use Rattle.lic_lines.specs.Tokens.{Token, is_text, token_in, tokens_in}
use Rattle.lic_lines.specs.declared.tokens.FirstToken.{FirstToken}
use Rattle.lic_phrases.specs.Rewriting.{Phrase, SpannedText, spanned, is_sign, both_signs, sign_of_sequence, sign_sequences, https_as_http, longest_phrase, count_after, first_as, phrases_after, phrases_joined, rewritten}
use Rattle.lic_phrases.specs.Settling.{Kept, nothing_kept, IsShort, left_of, left_of_sequences, GivesSequences, Settles}
use Rattle.lic_phrases.specs.Held.{held}
use Rattle.lic_phrases.specs.PhraseLists.{PhraseList, HaveTokens, longest_from}
use Rattle.lic_phrases.specs.Waiting.{spanned_in, GivesMore}
use Rattle.lic_phrases.specs.declared.final_token.FinalToken.{FinalToken}
use Rattle.lic_phrases.proofs.PhraseLemmas.{longest_phrase-none, BeginWithin-from}
use Rattle.lic_phrases.proofs.SignLemmas.{sign_sequences-other}
use Rattle.lic_phrases.proofs.AddressLemmas.{https_as_http-other, https_as_http-few}

-- ---- no step makes tokens

length-join_group : (t : Token) (gs : List (List Token)) → length (flat_map sign_of_sequence (join_group both_signs t gs)) ≤ 1 + length (flat_map sign_of_sequence gs)
length-join_group t [] = omega arith
length-join_group t ([] ∷ gs) = omega arith
length-join_group t ((u ∷ g) ∷ gs) =
    ⊎_elim
    (λ joins. subst (λ l. length (flat_map sign_of_sequence l) ≤ 1 + length (flat_map sign_of_sequence ((u ∷ g) ∷ gs)))
    (sym (cond-true (both_signs t u) ((t ∷ u ∷ g) ∷ gs) ((t ∷ []) ∷ (u ∷ g) ∷ gs) joins)) (omega arith))
    (λ alone. subst (λ l. length (flat_map sign_of_sequence l) ≤ 1 + length (flat_map sign_of_sequence ((u ∷ g) ∷ gs)))
    (sym (cond-false (both_signs t u) ((t ∷ u ∷ g) ∷ gs) ((t ∷ []) ∷ (u ∷ g) ∷ gs) alone)) (omega arith))
    (cases_Bool (both_signs t u))

length-sign_sequences : (ts : List Token) → length (sign_sequences ts) ≤ length ts
length-sign_sequences [] = omega arith
length-sign_sequences (t ∷ ts) = omega (arith, length-join_group t (groups both_signs ts), length-sign_sequences ts)

length-https_as_http : (ts : List Token) → length (https_as_http ts) ≡ length ts
length-https_as_http [] = refl
length-https_as_http (t ∷ ts) = omega (arith, length-https_as_http ts)

length-phrases_after : (words : List Phrase) (n : ℕ) (ts : List Token) → length (phrases_after words n ts) ≤ length ts
length-phrases_after words n [] = omega arith
length-phrases_after words (suc n) (t ∷ ts) = omega (arith, length-phrases_after words n ts)
length-phrases_after words zero (t ∷ ts) = omega (arith, length-phrases_after words (count_after (longest_phrase words (t ∷ ts))) ts)

-- what is kept gives no more tokens than it has
length-left_of : (words : List Phrase) (kept : Kept) → length (left_of words kept []) ≤ length kept.phrase + (length kept.address + length kept.sign)
length-left_of words kept =
    let signs = kept.sign ++ [] in
    let addresses = kept.address ++ sign_sequences signs in
    let waiting = kept.phrase ++ https_as_http addresses in
    omega (
      arith,
      length-map (phrases_joined words waiting) spanned,
      length-phrases_after words 0 waiting,
      length-append kept.phrase (https_as_http addresses),
      length-https_as_http addresses,
      length-append kept.address (sign_sequences signs),
      length-sign_sequences signs,
      ap length (append-nil kept.sign),
    )

-- two lists that are the same are so after any prefix
pub after_front : (front xs ys xs' ys' : List SpannedText) → xs ++ xs' ≡ ys ++ ys' → (front ++ xs) ++ xs' ≡ (front ++ ys) ++ ys'
after_front front xs ys xs' ys' same = append_assoc front xs xs' ∙ ap (λ l. front ++ l) same ∙ sym (append_assoc front ys ys')

pub length-held : (o : Option FirstToken) → length (held o) ≤ 1
length-held None = omega arith
length-held (Some t) = omega arith

-- ---- one token more

-- where little is kept, what is settled is nearly all
pub Settles-short : (words : List Phrase) (taken : List Token) (settled : List SpannedText) (kept : Kept)
    → ((rest : List Token) → rewritten words (taken ++ rest) ≡ settled ++ left_of words kept rest) → IsShort kept
    → Settles words taken settled kept
Settles-short words taken settled kept continues short = record {
  continues = continues;
  short = short;
  nearly_all = omega (
    arith,
    ap (λ l. length (rewritten words l)) (append-nil taken),
    ap length (continues []),
    length-append settled (left_of words kept []),
    length-left_of words kept,
    short.sign,
    short.address,
    short.phrase,
  );
}

-- The first step takes a token and passes sequences on, and the steps after it take these.
pub Settles-more : (words : List Phrase) (taken : List Token) (settled settled' : List SpannedText) (kept kept' : Kept) (t : Token) (sequences : List Token)
    → Settles words taken settled kept
    → ((rest : List Token) → sign_sequences (kept.sign ++ t ∷ rest) ≡ sequences ++ sign_sequences (kept'.sign ++ rest))
    → GivesSequences words settled kept sequences settled' kept'
    → IsShort kept'
    → Settles words (taken ++ t ∷ []) settled' kept'
Settles-more words taken settled settled' kept kept' t sequences before sign_eq gives short =
    Settles-short words (taken ++ t ∷ []) settled' kept'
    (λ rest.
    ap (rewritten words) (append_assoc taken (t ∷ []) rest)
    ∙ before.continues (t ∷ rest)
    ∙ ap (λ l. settled ++ left_of_sequences words kept l) (sign_eq rest)
    ∙ gives (sign_sequences (kept'.sign ++ rest)))
    short

-- sequences that are taken one after the other
pub GivesSequences-both : (words : List Phrase) (given given' given'' : List SpannedText) (kept kept' kept'' : Kept)
    (sequences more : List Token) → GivesSequences words given kept sequences given' kept'
    → GivesSequences words given' kept' more given'' kept'' → GivesSequences words given kept (sequences ++ more) given'' kept''
GivesSequences-both words given given' given'' kept kept' kept'' sequences more first second =
    λ rest. ap (λ l. given ++ left_of_sequences words kept l) (append_assoc sequences more rest) ∙ first (more ++ rest)
    ∙ second rest

-- what was given before stays in front
pub GivesSequences-past : (words : List Phrase) (front given given' : List SpannedText) (kept kept' : Kept)
    (sequences : List Token) → GivesSequences words given kept sequences given' kept'
    → GivesSequences words (front ++ given) kept sequences (front ++ given') kept'
GivesSequences-past words front given given' kept kept' sequences gives =
    λ rest. after_front front given given' (left_of_sequences words kept (sequences ++ rest)) (left_of_sequences words kept' rest)
    (gives rest)

-- a token that is no `https` goes straight on where none waits before it
pub GivesSequences-plain : (list : PhraseList) (given given' : List FinalToken) (waiting waiting' : List FirstToken) (sequence : FirstToken) (sign : List Token) → is_text (codes "https") (token_in sequence) ≡ false → GivesMore list false given (waiting ++ sequence ∷ []) given' waiting'
    → GivesSequences list.phrases (map (spanned_in list.spellings) given)
    (record { sign = sign; address = []; phrase = tokens_in waiting }) (token_in sequence ∷ [])
    (map (spanned_in list.spellings) given') (record { sign = sign; address = []; phrase = tokens_in waiting' })
GivesSequences-plain list given given' waiting waiting' sequence sign other more = λ rest.
    let old = map (spanned_in list.spellings) given in
    let past = https_as_http rest in
    ap (λ l. old ++ map spanned (phrases_joined list.phrases (tokens_in waiting ++ l))) (https_as_http-other (token_in sequence) rest other)
    ∙ ap (λ l. old ++ map spanned (phrases_joined list.phrases l))
    (sym (append_assoc (tokens_in waiting) (token_in sequence ∷ []) past)
    ∙ ap (λ l. l ++ past) (sym (map-append token_in waiting (sequence ∷ []))))
    ∙ more past (λ e. absurd (false≢true e))

pub Settles-new : (words : List Phrase) → Settles words [] [] nothing_kept
Settles-new words = record {
  continues = λ rest. refl;
  short = record { sign = omega arith; address = omega arith; phrase = omega arith };
  nearly_all = omega arith;
}

-- ---- the end of a text

sign_sequences-one : (ts : List Token) → length ts ≤ 1 → sign_sequences (ts ++ []) ≡ ts ++ []
sign_sequences-one [] one = refl
sign_sequences-one (t ∷ []) one = refl
sign_sequences-one (t ∷ u ∷ ts) one = absurd (omega arith)

-- at the end of a text the steps give what they keep
pub Settles-end : (words : List Phrase) (taken : List Token) (settled settled' settled'' : List SpannedText) (kept kept' : Kept) (waiting : List Token)
    → Settles words taken settled kept
    → GivesSequences words settled kept kept.sign settled' kept'
    → IsShort kept'
    → waiting ≡ kept'.phrase ++ kept'.address
    → settled' ++ map spanned (phrases_joined words (waiting ++ [])) ≡ settled'' ++ []
    → settled'' ≡ rewritten words taken
Settles-end words taken settled settled' settled'' kept kept' waiting before gives short gathered given =
    sym
    (ap (rewritten words) (sym (append-nil taken))
    ∙ before.continues []
    ∙ ap (λ l. settled ++ left_of_sequences words kept l) (sign_sequences-one kept.sign before.short.sign)
    ∙ gives []
    ∙ ap (λ l. settled' ++ map spanned (phrases_joined words (kept'.phrase ++ https_as_http l))) (append-nil kept'.address)
    ∙ ap (λ l. settled' ++ map spanned (phrases_joined words (kept'.phrase ++ l))) (https_as_http-few kept'.address short.address)
    ∙ ap (λ l. settled' ++ map spanned (phrases_joined words l)) (sym gathered ∙ sym (append-nil waiting))
    ∙ given
    ∙ append-nil settled'')

-- ---- answers

-- what follows from two facts of an answer
pub OnOk-both : {X E : Type 0} (r : Result X E) (P Q R : Type 0) → (P → Q → R) → OnOk r P → OnOk r Q → OnOk r R
OnOk-both (Ok x) P Q R follows p q = follows p q
OnOk-both (Err e) P Q R follows p q = tt

-- an answer whose fact rests on another
pub OnOk-from : {X E : Type 0} (r : Result X E) (P Q : Type 0) → (P → OnOk r Q) → OnOk r (P → Q)
OnOk-from (Ok x) P Q follows = follows
OnOk-from (Err e) P Q follows = tt

-- ---- a token that is settled at once

-- where nothing is kept back, and the token is no sign, no `https` and begins no phrase
pub Settles-alone : (words : List Phrase) (t : Token) (settled : List SpannedText) (taken : List Token)
    → is_sign t ≡ false → is_text (codes "https") t ≡ false → HaveTokens words → longest_from words t.text ≤ 0
    → Settles words taken settled nothing_kept
    → Settles words (taken ++ t ∷ []) (settled ++ spanned t ∷ []) nothing_kept
Settles-alone words t settled taken no_sign no_https some bound before =
    let one : List SpannedText = spanned t ∷ [] in
    Settles-more words taken settled (settled ++ one) nothing_kept nothing_kept t (t ∷ []) before
    (λ rest. sign_sequences-other t rest no_sign)
    (λ rest.
    let past = https_as_http rest in
    let none : longest_phrase words (t ∷ past) ≡ None = longest_phrase-none words (t ∷ past) some (BeginWithin-from 0 words t past some bound) in
    ap (λ l. settled ++ map spanned (phrases_joined words l)) (https_as_http-other t rest no_https)
    ∙ ap (λ phrase. settled ++ map spanned (first_as phrase t past ∷ phrases_after words (count_after phrase) past)) none
    ∙ sym (append_assoc settled one (left_of_sequences words nothing_kept rest)))
    (record { sign = omega arith; address = omega arith; phrase = omega arith })
