-- The ends of a list of tokens that gets one token more.
use Rattle.std.proofs.Common.{◌≡◌, ℕ, zero, suc, Bool, true, false, ◌&&◌, ◌==◌, List, [], ◌∷◌, ◌++◌, inl, inr, drop, refl, sym, ap, ◌∙◌, subst, append-nil}
use Rattle.lic_words.specs.Words.{Word, blank, blanks}
use Rattle.lic_words.specs.Letters.{is_word}
use Rattle.lic_words.specs.Expressions.{Expression}
use Rattle.lic_words.specs.Spelling.{Gap, free, gap_of, gapped, gapped_from, last_letter, last_of}
use Rattle.lic_words.proofs.Sequences.{gapped_from-blank, gapped_from-letter, last_letter-blank, last_letter-letter, last_of-snoc}
use Rattle.lic_words.proofs.Spellings.{gap-after_blank}
use Rattle.lic_marks.specs.Cores.{Core, HasWordsOf, WordsOf}
use Rattle.lic_marks.specs.Representing.{After, AfterAny, each_with}
use Rattle.lic_marks.specs.Unanchored.{DescribesEnd, ends_of, AllEndWith}
use Rattle.lic_marks.proofs.TokenRows.{gapped-snoc}
use Rattle.lic_marks.proofs.Representing.{After-spells, spells-After}
use Rattle.lic_marks.proofs.Lists.{each_with-append}

-- ---- the first letter of a token

-- after another letter, the first gap of a token alone is another
abbrev HasFirst : ℕ → ℕ → Gap × ℕ → List (Gap × ℕ) → List ℕ → Type 0
HasFirst l m p rest xs =
    (p.0 ≡ gap_of true (is_word l && is_word p.1)) × (gapped_from m true xs ≡ (gap_of true (is_word m && is_word p.1), p.1) ∷ rest)
    × (last_letter l xs ≡ last_letter m xs)

first_letter : (l m : ℕ) (xs : List ℕ) (p : Gap × ℕ) (rest : List (Gap × ℕ)) → gapped_from l true xs ≡ p ∷ rest → HasFirst l m p rest xs
first_letter l m [] p rest e = cc
first_letter l m (c ∷ xs) p rest e = by_letter (λ f. first_letter l m xs p rest f) (c == blank) refl
  where
    by_letter : (gapped_from l true xs ≡ p ∷ rest → HasFirst l m p rest xs) → (b : Bool) → (c == blank) ≡ b → HasFirst l m p rest (c ∷ xs)
    by_letter others true h =
        let t = others (sym (gapped_from-blank l true c xs h) ∙ e) in
        (t.0, gapped_from-blank m true c xs h ∙ t.1, last_letter-blank l true c xs h ∙ t.2 ∙ sym (last_letter-blank m true c xs h))
    by_letter others false h =
        let same : (gap_of true (is_word l && is_word c), c) ∷ gapped_from c false xs ≡ p ∷ rest = sym (gapped_from-letter l true c xs h) ∙ e in
        let letter : (gap_of true (is_word l && is_word c), c) ≡ p = cc in
        let past : gapped_from c false xs ≡ rest = cc in (
          ap (λ q. q.0) (sym letter) ∙ ap (λ d. gap_of true (is_word l && is_word d)) (ap (λ q. q.1) letter),
          gapped_from-letter m true c xs h ∙ ap (λ r. (gap_of true (is_word m && is_word c), c) ∷ r) past
              ∙ ap (λ d. (gap_of true (is_word m && is_word d), d) ∷ rest) (ap (λ q. q.1) letter),
          last_letter-letter l true c xs h ∙ sym (last_letter-letter m true c xs h),
        )

gap_apart : (a b w : Bool) → gap_of a b ≡ gap_of true w → a ≡ true
gap_apart true b w e = refl
gap_apart false b true e = cc
gap_apart false b false e = cc

module _ (last : ℕ) (t : List ℕ) (p : Gap × ℕ) (rest : List (Gap × ℕ)) (e : gapped_from last true t ≡ p ∷ rest) where
  -- it is set apart
  pub first_apart : (a b : Bool) → p.0 ≡ gap_of a b → a ≡ true
  first_apart a b g = gap_apart a b (is_word last && is_word p.1) (sym g ∙ (first_letter last blank t p rest e).0)

  -- the token alone begins with a free gap
  pub gapped-token : (free, p.1) ∷ rest ≡ gapped (t ∷ [])
  gapped-token =
      ap (λ g. (g, p.1) ∷ rest) (sym (gap-after_blank p.1)) ∙ sym (first_letter last blank t p rest e).1
      ∙ ap (gapped_from blank true) (sym (append-nil t))

  -- its last letter is its own
  pub last_letter-own : last_letter last t ≡ last_letter blank t
  last_letter-own = (first_letter last blank t p rest e).2

-- ---- one token more

-- the lists of letters once a token was entered
abbrev pub with_token : ℕ → List ℕ → List (List (Gap × ℕ)) → List (List (Gap × ℕ))
with_token last t lists = gapped (t ∷ []) ∷ each_with (gapped_from last true t) lists

pub enters : (last : ℕ) (t : List ℕ) (p : Gap × ℕ) (rest : List (Gap × ℕ)) (lists : List (List (Gap × ℕ))) → gapped_from last true t ≡ p ∷ rest →
    each_with rest (((free, p.1) ∷ []) ∷ each_with (p ∷ []) lists) ≡ with_token last t lists
enters last t p rest lists e =
    let older : each_with rest (each_with (p ∷ []) lists) ≡ each_with (gapped_from last true t) lists =
    each_with-append (p ∷ []) rest lists ∙ ap (λ more. each_with more lists) (sym e) in
    λ i. gapped-token last t p rest e i ∷ older i

module _ (last : ℕ) (t : List ℕ) where
  one_more : (ts : List (List ℕ)) → last ≡ last_of blank ts → gapped (ts ++ t ∷ []) ≡ gapped ts ++ gapped_from last true t
  one_more ts same = gapped-snoc ts t ∙ ap (λ l. gapped ts ++ gapped_from l true t) (sym same)

  module _ (P : Word → Type 0) (v : Word) where
    pub ends_more : (ts : List (List ℕ)) → AllEndWith last ts → AfterAny P (with_token last t (ends_of ts)) v → AfterAny P (ends_of (ts ++ t ∷ [])) v
    ends_more [] all h = h
    ends_more (u ∷ ts) all (inl h) = inr (ends_more ts all.1 (inl h))
    ends_more (u ∷ ts) all (inr (inl h)) = inl (subst (λ letters. After P letters v) (sym (one_more (u ∷ ts) all.0)) h)
    ends_more (u ∷ ts) all (inr (inr h)) = inr (ends_more ts all.1 (inr h))

    pub more_ends : (ts : List (List ℕ)) → AllEndWith last ts → AfterAny P (ends_of (ts ++ t ∷ [])) v → AfterAny P (with_token last t (ends_of ts)) v
    more_ends [] all h = h
    more_ends (u ∷ ts) all (inl h) = inr (inl (subst (λ letters. After P letters v) (one_more (u ∷ ts) all.0) h))
    more_ends (u ∷ ts) all (inr h) = elim (more_ends ts all.1 h) [ inl p ↦ inl p | inr p ↦ inr (inr p) ]

  pub last_more : last_letter last t ≡ last_letter blank t → (ts : List (List ℕ)) → AllEndWith last ts → AllEndWith (last_letter last t) (ts ++ t ∷ [])
  last_more own [] all = (own, tt)
  last_more own (u ∷ ts) all = (ap (λ l. last_letter l t) all.0 ∙ sym (last_of-snoc blank (u ∷ ts) t), last_more own ts all.1)

-- ---- the answers

module _ (P : Word → Type 0) (v : Word) where
  some_end : (ts : List (List ℕ)) → AfterAny P (ends_of ts) v → (n : ℕ) × (drop n ts ≡ [] → ⊥) × After P (gapped (drop n ts)) v
  some_end [] h = absurd h
  some_end (t ∷ ts) (inl h) = (0, (λ e. cc), h)
  some_end (t ∷ ts) (inr h) = let end = some_end ts h in (suc end.0, end.1, end.2)

  any_end : (ts : List (List ℕ)) (n : ℕ) → (drop n ts ≡ [] → ⊥) → After P (gapped (drop n ts)) v → AfterAny P (ends_of ts) v
  any_end [] zero some h = absurd (some refl)
  any_end [] (suc n) some h = absurd (some refl)
  any_end (t ∷ ts) zero some h = inl h
  any_end (t ∷ ts) (suc n) some h = inr (any_end ts n some h)

module _ (e : Expression) (r : Core) (words : HasWordsOf r e) (ts : List (List ℕ)) where
  pub answer_sound : (n : ℕ) × AfterAny (WordsOf r) (ends_of ts) (blanks n) → DescribesEnd e ts
  answer_sound (n, h) =
      let end = some_end (WordsOf r) (blanks n) ts h in
      let word = spells-After (gapped (drop end.0 ts)) (WordsOf r) n end.2 in
      (end.0, (end.1, word.0, (words word.0).0 word.1, word.2))

  pub answer_complete : DescribesEnd e ts → (n : ℕ) × AfterAny (WordsOf r) (ends_of ts) (blanks n)
  answer_complete (n, described) =
      let some = After-spells (gapped (drop n ts)) (WordsOf r) described.1 ((words described.1).1 described.2) described.3 in
      (some.0, any_end (WordsOf r) (blanks some.0) ts n described.0 some.1)
