-- The longest phrase at the start of some tokens.
use Rattle.std.proofs.Common.{◌≡◌, ℕ, zero, suc, ◌-◌, ◌<◌, ◌≤◌, ◌&&◌, Bool, true, false, ◌⊎◌, List, [], ◌∷◌, ◌++◌, length, take, drop, max, min, Option, Some, None, refl, sym, ap, ap₂, ◌∙◌, subst, inl, inr, ⊎_elim, arith}
use Rattle.std.specs.Prelude.{nat_lt, if◌then◌else◌}
use Rattle.std.specs.Option.{option_or}
use Rattle.std.proofs.lemmas.Bool.{cases_Bool, cond-true, cond-false, and_parts, true≢false, lt-ltb, cases_lt}
use Rattle.std.proofs.lemmas.Bool.Decides.{nat_tests}
use Rattle.std.proofs.lemmas.List.{length-take-le, length-map, take-append-le, drop-append-le}
use Rattle.std.proofs.lemmas.Slice.Eq.{bytes_eq-Decides, slice_eq-Decides}
use Rattle.lic_lines.specs.Tokens.{Token, is_text}
use Rattle.lic_phrases.specs.Rewriting.{Phrase, begin_with_texts, longer, longest_phrase, count_after, first_as, phrases_after, phrases_joined, joined_as}
use Rattle.lic_phrases.specs.PhraseLists.{same_texts, phrase_with, begins_with, longest_from, HaveTokens}
use Rattle.lic_phrases.specs.Waiting.{texts_of, first_phrase}

below_or_same : (a b : ℕ) → a ≤ b → (a < b) ⊎ (a ≡ b)
below_or_same a b le = ⊎_elim (λ less. inl less) (λ not_less. inr (omega arith)) (cases_lt a b)

-- ---- what comes first

-- no more tokens are than there are
begin_with_texts-length : (texts : List (List ℕ)) (ts : List Token) → begin_with_texts texts ts ≡ true → length texts ≤ length ts
begin_with_texts-length [] ts h = omega arith
begin_with_texts-length (text ∷ texts) [] h = absurd (true≢false (sym h))
begin_with_texts-length (text ∷ texts) (t ∷ ts) h = omega (arith, begin_with_texts-length texts ts (and_parts (is_text text t) (begin_with_texts texts ts) h).1)

-- texts that occur are those of the tokens
begin_with_texts-texts : (texts : List (List ℕ)) (ts : List Token) → begin_with_texts texts ts ≡ true → texts ≡ take (length texts) (texts_of ts)
begin_with_texts-texts [] ts h = refl
begin_with_texts-texts (text ∷ texts) [] h = absurd (true≢false (sym h))
begin_with_texts-texts (text ∷ texts) (t ∷ ts) h =
    let parts = and_parts (is_text text t) (begin_with_texts texts ts) h in
    ap₂ (λ x l. x ∷ l) ((bytes_eq-Decides text t.text).0 parts.0) (begin_with_texts-texts texts ts parts.1)

-- and the texts of the first tokens are
texts-begin : (n : ℕ) (ts : List Token) → begin_with_texts (take n (texts_of ts)) ts ≡ true
texts-begin zero ts = refl
texts-begin (suc n) [] = refl
texts-begin (suc n) (t ∷ ts) = ap₂ (λ a b. a && b) ((bytes_eq-Decides t.text t.text).1 refl) (texts-begin n ts)

same-is : (a b : List (List ℕ)) → same_texts a b ≡ true → a ≡ b
same-is a b h = (slice_eq-Decides bytes_eq-Decides a b (same_texts a b) refl).0 h

is-same : (a b : List (List ℕ)) → a ≡ b → same_texts a b ≡ true
is-same a b e = (slice_eq-Decides bytes_eq-Decides a b (same_texts a b) refl).1 e

-- a phrase that is looked up has the texts
phrase_with-texts : (words : List Phrase) (texts : List (List ℕ)) (p : Phrase) → phrase_with words texts ≡ Some p → p.texts ≡ texts
phrase_with-texts [] texts p h = cc
phrase_with-texts (q ∷ words) texts p h =
    ⊎_elim
    (λ same.
    let is : Some q ≡ Some p = sym (cond-true (same_texts texts q.texts) (Some q) (phrase_with words texts) same) ∙ h in
    let q_is : q ≡ p = cc in
    sym (same-is texts q.texts same ∙ ap (λ r. r.texts) q_is))
    (λ other. phrase_with-texts words texts p (sym (cond-false (same_texts texts q.texts) (Some q) (phrase_with words texts) other) ∙ h))
    (cases_Bool (same_texts texts q.texts))

-- ---- the longest phrase

-- each phrase that comes first has at most n tokens
abbrev pub BeginWithin : ℕ → List Phrase → List Token → Type 0
BeginWithin n [] ts = Unit {0}
BeginWithin n (p ∷ words) ts = (begin_with_texts p.texts ts ≡ true → length p.texts ≤ n) × BeginWithin n words ts

-- a phrase, if there is one, has at most n tokens
abbrev pub IsWithin : ℕ → Option Phrase → Type 0
IsWithin n None = Unit {0}
IsWithin n (Some p) = length p.texts ≤ n

longer-within : (n : ℕ) (p : Phrase) (best : Option Phrase) → length p.texts ≤ n → IsWithin n best → IsWithin n (Some (longer p best))
longer-within n p None h k = h
longer-within n p (Some q) h k =
    ⊎_elim
    (λ less. subst (λ r. IsWithin n (Some r)) (sym (cond-true (nat_lt (length p.texts) (length q.texts)) q p less)) k)
    (λ not_less. subst (λ r. IsWithin n (Some r)) (sym (cond-false (nat_lt (length p.texts) (length q.texts)) q p not_less)) h)
    (cases_Bool (nat_lt (length p.texts) (length q.texts)))

pub longest_phrase-within : (n : ℕ) (words : List Phrase) (ts : List Token) → BeginWithin n words ts → IsWithin n (longest_phrase words ts)
longest_phrase-within n [] ts h = tt
longest_phrase-within n (p ∷ words) ts h =
    let rest = longest_phrase-within n words ts h.1 in
    ⊎_elim
    (λ there. subst (IsWithin n) (sym
    (cond-true (begin_with_texts p.texts ts) (Some (longer p (longest_phrase words ts)))
    (longest_phrase words ts) there)) (longer-within n p (longest_phrase words ts) (h.0 there) rest))
    (λ missing. subst (IsWithin n) (sym (cond-false (begin_with_texts p.texts ts) (Some (longer p (longest_phrase words ts))) (longest_phrase words ts) missing)) rest)
    (cases_Bool (begin_with_texts p.texts ts))

-- a phrase is the longer where the other has no more tokens
longer-first : (p : Phrase) (best : Option Phrase) → IsWithin (length p.texts) best → longer p best ≡ p
longer-first p None h = refl
longer-first p (Some q) h = cond-false (nat_lt (length p.texts) (length q.texts)) q p (grind (arith, nat_tests))

-- where no phrase that occurs has a token, there is no longest
pub longest_phrase-none : (words : List Phrase) (ts : List Token) → HaveTokens words → BeginWithin 0 words ts → longest_phrase words ts ≡ None
longest_phrase-none [] ts some h = refl
longest_phrase-none (p ∷ words) ts some h =
    ⊎_elim
    (λ there. absurd (omega (arith, some.0, h.0 there)))
    (λ missing. cond-false (begin_with_texts p.texts ts) (Some (longer p (longest_phrase words ts)))
    (longest_phrase words ts) missing ∙ longest_phrase-none words ts some.1 h.1)
    (cases_Bool (begin_with_texts p.texts ts))

-- a phrase of n tokens that occurs is the longest where no longer one is
longest_phrase-found : (n : ℕ) (words : List Phrase) (ts : List Token) (p : Phrase) → n ≤ length ts
    → BeginWithin n words ts → phrase_with words (take n (texts_of ts)) ≡ Some p → longest_phrase words ts ≡ Some p
longest_phrase-found n [] ts p fits h found = cc
longest_phrase-found n (q ∷ words) ts p fits h found =
    let texts = take n (texts_of ts) in
    let size : length texts ≡ n = length-take-le n (texts_of ts) (omega (arith, length-map ts (λ t. t.text))) in
    let begin_within = cond-true (begin_with_texts q.texts ts) (Some (longer q (longest_phrase words ts))) (longest_phrase words ts) in
    ⊎_elim
    (λ same.
    let is : Some q ≡ Some p = sym (cond-true (same_texts texts q.texts) (Some q) (phrase_with words texts) same) ∙ found in
    let q_texts : texts ≡ q.texts = same-is texts q.texts same in
    let there : begin_with_texts q.texts ts ≡ true = subst (λ l. begin_with_texts l ts ≡ true) q_texts (texts-begin n ts) in
    let long : n ≡ length q.texts = sym size ∙ ap length q_texts in
    begin_within there ∙ ap Some (longer-first q (longest_phrase words ts)
    (subst (λ k. IsWithin k (longest_phrase words ts)) long (longest_phrase-within n words ts h.1))) ∙ is)
    (λ other.
    let later : phrase_with words texts ≡ Some p = sym (cond-false (same_texts texts q.texts) (Some q) (phrase_with words texts) other) ∙ found in
    let rest : longest_phrase words ts ≡ Some p = longest_phrase-found n words ts p fits h.1 later in
    let p_long : length p.texts ≡ n = ap length (phrase_with-texts words texts p later) ∙ size in
    ⊎_elim
    (λ there.
    let at_most : length q.texts ≤ n = h.0 there in
    let shorter : length q.texts < n =
    (⊎_elim
    (λ less. less)
    (λ as_long. absurd (true≢false (sym (is-same texts q.texts (sym (begin_with_texts-texts q.texts ts there ∙ ap (λ k. take k (texts_of ts)) as_long))) ∙ other)))
    (below_or_same (length q.texts) n at_most)) in
    begin_within there
    ∙ ap (λ best. Some (longer q best)) rest
    ∙ ap Some (cond-true (nat_lt (length q.texts) (length p.texts)) p q (lt-ltb (length q.texts) (length p.texts) (omega (arith, shorter, p_long)))))
    (λ missing. cond-false (begin_with_texts q.texts ts) (Some (longer q (longest_phrase words ts))) (longest_phrase words ts) missing ∙ rest)
    (cases_Bool (begin_with_texts q.texts ts)))
    (cases_Bool (same_texts texts q.texts))

-- where no phrase has n + 1 of these texts, those that occur have at most n
BeginWithin-less : (n : ℕ) (words : List Phrase) (ts : List Token) → BeginWithin (suc n) words ts
    → phrase_with words (take (suc n) (texts_of ts)) ≡ None → BeginWithin n words ts
BeginWithin-less n [] ts h none = tt
BeginWithin-less n (q ∷ words) ts h none =
    let texts = take (suc n) (texts_of ts) in
    ⊎_elim
    (λ same. let no : Some q ≡ None = sym (cond-true (same_texts texts q.texts) (Some q) (phrase_with words texts) same) ∙ none in cc)
    (λ other. (
      λ there.
          ⊎_elim
          (λ less. omega (arith, less))
          (λ as_long. absurd (true≢false (sym (is-same texts q.texts (sym (begin_with_texts-texts q.texts ts there ∙ ap (λ k. take k (texts_of ts)) as_long))) ∙ other)))
          (below_or_same (length q.texts) (suc n) (h.0 there)),
      BeginWithin-less n words ts h.1 (sym (cond-false (same_texts texts q.texts) (Some q) (phrase_with words texts) other) ∙ none),
    ))
    (cases_Bool (same_texts texts q.texts))

-- the longest prefix that is a phrase is the longest phrase that occurs, where the prefixes reach far enough
pub first_phrase-longest : (n : ℕ) (words : List Phrase) (ts : List Token) → n ≤ length ts → HaveTokens words
    → BeginWithin n words ts → first_phrase words (texts_of ts) n ≡ longest_phrase words ts
first_phrase-longest zero words ts fits some h = sym (longest_phrase-none words ts some h)
first_phrase-longest (suc n) words ts fits some h =
    by (phrase_with words (take (suc n) (texts_of ts))) refl (λ none. first_phrase-longest n words ts (omega arith) some (BeginWithin-less n words ts h none))
  where
    by : (o : Option Phrase) → phrase_with words (take (suc n) (texts_of ts)) ≡ o
        → (phrase_with words (take (suc n) (texts_of ts)) ≡ None
        → first_phrase words (texts_of ts) n ≡ longest_phrase words ts)
        → option_or o (first_phrase words (texts_of ts) n) ≡ longest_phrase words ts
    by (Some p) is fewer = sym (longest_phrase-found (suc n) words ts p fits h is)
    by None is fewer = fewer is

-- ---- how many tokens it takes

-- no phrase that occurs has more tokens than there are
pub BeginWithin-length : (words : List Phrase) (ts : List Token) → BeginWithin (length ts) words ts
BeginWithin-length [] ts = tt
BeginWithin-length (p ∷ words) ts = (begin_with_texts-length p.texts ts, BeginWithin-length words ts)

longest_from-first : (p : Phrase) (words : List Phrase) (text : List ℕ) → begins_with text p.texts ≡ true → length p.texts ≤ longest_from (p ∷ words) text
longest_from-first p words text begins =
    let is : longest_from (p ∷ words) text ≡ max (length p.texts) (longest_from words text) = cond-true (begins_with text p.texts) _ _ begins in
    omega (arith, is)

longest_from-rest : (p : Phrase) (words : List Phrase) (text : List ℕ) → longest_from words text ≤ longest_from (p ∷ words) text
longest_from-rest p words text = split (begins_with text p.texts)
  where
    split : (b : Bool) → longest_from words text ≤ (if b then max (length p.texts) (longest_from words text) else longest_from words text)
    split true = omega arith
    split false = omega arith

-- a phrase with a token that occurs begins with the first token's text
begin_with_texts-begins : (texts : List (List ℕ)) (t : Token) (ts : List Token) → 0 < length texts → begin_with_texts texts (t ∷ ts) ≡ true → begins_with t.text texts ≡ true
begin_with_texts-begins [] t ts some there = absurd (omega arith)
begin_with_texts-begins (text ∷ texts) t ts some there = (and_parts (is_text text t) (begin_with_texts texts ts) there).0

-- no phrase that occurs has more tokens than the longest that begins with the first token's text
pub BeginWithin-from : (most : ℕ) (words : List Phrase) (t : Token) (ts : List Token) → HaveTokens words
    → longest_from words t.text ≤ most → BeginWithin most words (t ∷ ts)
BeginWithin-from most [] t ts some bound = tt
BeginWithin-from most (p ∷ words) t ts some bound = (
  λ there. let long = longest_from-first p words t.text (begin_with_texts-begins p.texts t ts some.0 there) in omega arith,
  BeginWithin-from most words t ts some.1 (let less = longest_from-rest p words t.text in omega arith),
)

pub BeginWithin-min : (m n : ℕ) (words : List Phrase) (ts : List Token) → BeginWithin m words ts → BeginWithin n words ts → BeginWithin (min m n) words ts
BeginWithin-min m n [] ts h k = tt
BeginWithin-min m n (p ∷ words) ts h k = (λ there. omega (arith, h.0 there, k.0 there), BeginWithin-min m n words ts h.1 k.1)

-- ---- what follows

-- whether texts occur does not hang on what follows as many tokens
begin_with_texts-front : (texts : List (List ℕ)) (ts rest : List Token) → length texts ≤ length ts → begin_with_texts texts (ts ++ rest) ≡ begin_with_texts texts ts
begin_with_texts-front [] ts rest fits = refl
begin_with_texts-front (text ∷ texts) [] rest fits = absurd (omega arith)
begin_with_texts-front (text ∷ texts) (t ∷ ts) rest fits = ap (λ b. is_text text t && b) (begin_with_texts-front texts ts rest (omega arith))

begin_with_texts-decided : (texts : List (List ℕ)) (t : Token) (ts rest : List Token) → 0 < length texts
    → (begins_with t.text texts ≡ true → length texts ≤ suc (length ts))
    → begin_with_texts texts (t ∷ (ts ++ rest)) ≡ begin_with_texts texts (t ∷ ts)
begin_with_texts-decided [] t ts rest some fits = absurd (omega arith)
begin_with_texts-decided (text ∷ texts) t ts rest some fits = by (is_text text t) refl
  where
    by : (b : Bool) → is_text text t ≡ b → (b && begin_with_texts texts (ts ++ rest)) ≡ (b && begin_with_texts texts ts)
    by true begins = let long = fits begins in begin_with_texts-front texts ts rest (omega arith)
    by false other = refl

-- the longest phrase is known once as many tokens are there as the longest that begins with the first token's text has
pub longest_phrase-decided : (words : List Phrase) (t : Token) (ts rest : List Token) → HaveTokens words
    → longest_from words t.text ≤ suc (length ts)
    → longest_phrase words (t ∷ (ts ++ rest)) ≡ longest_phrase words (t ∷ ts)
longest_phrase-decided [] t ts rest some bound = refl
longest_phrase-decided (p ∷ words) t ts rest some bound =
    ap₂ (λ b best. if b then Some (longer p best) else best)
    (begin_with_texts-decided p.texts t ts rest some.0 (λ begins. let long = longest_from-first p words t.text begins in omega arith))
    (longest_phrase-decided words t ts rest some.1 (let less = longest_from-rest p words t.text in omega arith))

-- tokens that went into a phrase
phrases_after-drop : (words : List Phrase) (n : ℕ) (ts : List Token) → phrases_after words n ts ≡ phrases_joined words (drop n ts)
phrases_after-drop words zero [] = refl
phrases_after-drop words (suc n) [] = refl
phrases_after-drop words zero (t ∷ ts) = refl
phrases_after-drop words (suc n) (t ∷ ts) = phrases_after-drop words n ts

first_as-front : (phrase : Option Phrase) (t : Token) (ts rest : List Token) → IsWithin (suc (length ts)) phrase
    → first_as phrase t (ts ++ rest) ≡ first_as phrase t ts
first_as-front None t ts rest h = refl
first_as-front (Some p) t ts rest h = ap (joined_as p.spelling t) (take-append-le (length p.texts - 1) ts rest (omega arith))

count_after-within : (phrase : Option Phrase) (n : ℕ) → IsWithin (suc n) phrase → count_after phrase ≤ n
count_after-within None n h = omega arith
count_after-within (Some p) n h = omega arith

-- what the first token becomes, and what is left, where the tokens that follow do not change the longest phrase
pub phrases_joined-first : (words : List Phrase) (t : Token) (ts rest : List Token) → longest_phrase words (t ∷ (ts ++ rest)) ≡ longest_phrase words (t ∷ ts)
    → phrases_joined words ((t ∷ ts) ++ rest)
    ≡ first_as (longest_phrase words (t ∷ ts)) t ts
    ∷ phrases_joined words (drop (count_after (longest_phrase words (t ∷ ts))) ts ++ rest)
phrases_joined-first words t ts rest decided =
    let phrase = longest_phrase words (t ∷ ts) in
    let within : IsWithin (suc (length ts)) phrase = longest_phrase-within (suc (length ts)) words (t ∷ ts) (BeginWithin-length words (t ∷ ts)) in
    ap (λ p. first_as p t (ts ++ rest) ∷ phrases_after words (count_after p) (ts ++ rest)) decided
    ∙ ap₂ (λ u us. u ∷ us) (first_as-front phrase t ts rest within)
    (phrases_after-drop words (count_after phrase) (ts ++ rest)
    ∙ ap (phrases_joined words) (drop-append-le (count_after phrase) ts rest (count_after-within phrase (length ts) within)))
