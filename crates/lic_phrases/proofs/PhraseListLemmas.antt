-- Lists of phrases by their entries.
use Rattle.std.proofs.Common.{◌≡◌, ℕ, ◌<◌, ◌≤◌, Bool, true, false, List, [], ◌∷◌, ◌++◌, length, max, get_or, cond, Some, None, refl, sym, ap, ap₂, ◌∙◌, subst, ⊎_elim, length-append, arith}
use Rattle.std.specs.Prelude.{bytes_eq, option_map, unwrap_or, IfSome, Option, if◌then◌else◌}
use Rattle.std.specs.Map.{lookup, update}
use Rattle.std.proofs.Math.ListN.{get_or-append}
use Rattle.std.proofs.lemmas.Bool.{cases_Bool, cond-true, cond-false}
use Rattle.std.proofs.lemmas.Slice.Eq.{bytes_eq-Decides, slice_eq-Decides}
use Rattle.indexmap.specs.IndexMap.{insert_entry}
use Rattle.lic_phrases.specs.Rewriting.{Phrase}
use Rattle.lic_phrases.specs.PhraseLists.{same_texts, phrase_with, with_added, begins_with, longest_from, key_texts, IsKey, phrase_of, IsEntry, AreEntries, phrases_in, IsRaised, IsStored, HaveTokens}
use Rattle.lic_phrases.proofs.PhraseKeyLemmas.{same_keys}

-- ---- how long the phrases are that begin with a text

-- the bound that a phrase needs at a text
abbrev pub needed_for : List ℕ → Phrase → ℕ
needed_for text p = if begins_with text p.texts then length p.texts else 0

-- one more phrase makes the longest no longer than itself
pub longest_from-with_added : (words : List Phrase) (p : Phrase) (text : List ℕ)
    → longest_from (with_added words p) text ≤ max (longest_from words text) (needed_for text p)
longest_from-with_added [] p text = split (begins_with text p.texts)
  where
    split : (b : Bool) → (if b then max (length p.texts) 0 else 0) ≤ max 0 (if b then length p.texts else 0)
    split true = omega arith
    split false = omega arith
longest_from-with_added (q ∷ words) p text =
    ⊎_elim
    (λ same.
    subst (λ l. longest_from l text ≤ max (longest_from (q ∷ words) text) (needed_for text p))
    (sym (cond-true (same_texts p.texts q.texts) (p ∷ words) (q ∷ with_added words p) same))
    (subst (λ texts. (if begins_with text texts then max (length texts)
    (longest_from words text) else longest_from words text)
    ≤ max (longest_from (q ∷ words) text) (needed_for text p))
    (sym ((slice_eq-Decides bytes_eq-Decides p.texts q.texts (same_texts p.texts q.texts) refl).0 same))
    (omega arith)))
    (λ other.
    subst (λ l. longest_from l text ≤ max (longest_from (q ∷ words) text) (needed_for text p))
    (sym (cond-false (same_texts p.texts q.texts) (p ∷ words) (q ∷ with_added words p) other))
    (split (begins_with text q.texts) (longest_from (with_added words p) text) (longest_from words text) (longest_from-with_added words p text)))
    (cases_Bool (same_texts p.texts q.texts))
  where
    split : (b : Bool) (new old : ℕ) → new ≤ max old (needed_for text p)
        → (if b then max (length q.texts) new else new)
        ≤ max (if b then max (length q.texts) old else old) (needed_for text p)
    split true new old h = omega arith
    split false new old h = omega arith

-- where texts have a first, they begin with it alone
pub begins_with-first : (texts : List (List ℕ)) (first text : List ℕ) → 0 < length texts → get_or texts 0 first ≡ first
    → begins_with text texts ≡ bytes_eq first text
begins_with-first [] first text some is = absurd (omega arith)
begins_with-first (t ∷ texts) first text some is = ap (λ x. bytes_eq x text) is

-- a table of bounds after an insertion is raised
pub IsRaised-update : (first : List ℕ) (count value : ℕ) (old new : List ℕ → Option ℕ)
    → value ≡ max (unwrap_or (old first) 0) count → count ≤ 8
    → ((text : List ℕ) → new text ≡ update bytes_eq old first (Some value) text)
    → IsRaised first count (λ text. unwrap_or (old text) 0) (λ text. unwrap_or (new text) 0)
IsRaised-update first count value old new is few after = record {
  at_text = λ text. ap (λ o. unwrap_or o 0) (after text) ∙ split (bytes_eq first text) (old text);
  few = few;
}
  where
    split : (b : Bool) (o : Option ℕ) → unwrap_or (cond b (Some value) o) 0 ≡ (if b then max (unwrap_or (old first) 0) count else unwrap_or o 0)
    split true o = is
    split false o = refl

module _ (first : List ℕ) (count : ℕ) (most_from raised : List ℕ → ℕ) (h : IsRaised first count most_from raised) where
  at_first : (text : List ℕ) → bytes_eq first text ≡ true → raised text ≡ max (most_from text) count
  at_first text same =
      h.at_text text ∙ cond-true (bytes_eq first text) _ _ same ∙ ap (λ t. max (most_from t) count) ((bytes_eq-Decides first text).0 same)

  at_other : (text : List ℕ) → bytes_eq first text ≡ false → raised text ≡ most_from text
  at_other text other = h.at_text text ∙ cond-false (bytes_eq first text) _ _ other

  pub raised-above : (text : List ℕ) → most_from text ≤ raised text
  raised-above text =
      ⊎_elim
      (λ same. omega (arith, at_first text same))
      (λ other. omega (arith, at_other text other))
      (cases_Bool (bytes_eq first text))

  pub raised-short : ((text : List ℕ) → most_from text ≤ 8) → (text : List ℕ) → raised text ≤ 8
  raised-short short text =
      ⊎_elim
      (λ same. omega (arith, at_first text same, short text, h.few))
      (λ other. omega (arith, at_other text other, short text))
      (cases_Bool (bytes_eq first text))

  pub raised-needed : (p : Phrase) → 0 < length p.texts → get_or p.texts 0 first ≡ first → length p.texts ≡ count
      → (text : List ℕ) → needed_for text p ≤ raised text
  raised-needed p some is long text =
      let begins = begins_with-first p.texts first text some is in
      ⊎_elim
      (λ same. subst (λ n. n ≤ raised text) (sym (cond-true (begins_with text p.texts) (length p.texts) 0 (begins ∙ same))) (omega (arith, at_first text same)))
      (λ other. subst (λ n. n ≤ raised text) (sym (cond-false (begins_with text p.texts) (length p.texts) 0 (begins ∙ other))) (omega arith))
      (cases_Bool (bytes_eq first text))

-- ---- entries

module _ {K : Type 0} (bytes : K → List ℕ) where
  abbrev same_key : K → K → Bool
  same_key j k = bytes_eq (bytes j) (bytes k)

  pub AreEntries-insert : (count : ℕ) (entries : List (K × ℕ)) (k : K) (class : ℕ) → AreEntries bytes count entries
      → IsEntry count (bytes k) class → AreEntries bytes count (insert_entry same_key entries k class)
  AreEntries-insert count [] k class all new = (new, tt)
  AreEntries-insert count (e ∷ entries) k class all new =
      ⊎_elim
      (λ same. subst (AreEntries bytes count)
      (sym (cond-true (same_key k e.0) ((e.0, class) ∷ entries)
      (e ∷ insert_entry same_key entries k class) same))
      (record { is_key = all.0.is_key; some = all.0.some; few = all.0.few; known = new.known }, all.1))
      (λ other. subst (AreEntries bytes count)
      (sym (cond-false (same_key k e.0) ((e.0, class) ∷ entries)
      (e ∷ insert_entry same_key entries k class) other))
      (all.0, AreEntries-insert count entries k class all.1 new))
      (cases_Bool (same_key k e.0))

  -- more classes leave the entries in order
  pub AreEntries-more : (count more : ℕ) (entries : List (K × ℕ)) → count ≤ more → AreEntries bytes count entries → AreEntries bytes more entries
  AreEntries-more count more [] le all = tt
  AreEntries-more count more (e ∷ entries) le all =
      let known : e.1 < more = omega (arith, all.0.known) in
      (record { is_key = all.0.is_key; some = all.0.some; few = all.0.few; known = known }, AreEntries-more count more entries le all.1)

  -- one more spelling leaves the phrases as they are
  pub phrases_in-more : (spellings : List (List ℕ)) (spelling : List ℕ) (entries : List (K × ℕ))
      → AreEntries bytes (length spellings) entries
      → phrases_in bytes (spellings ++ spelling ∷ []) entries ≡ phrases_in bytes spellings entries
  phrases_in-more spellings spelling [] all = refl
  phrases_in-more spellings spelling (e ∷ entries) all =
      ap₂ (λ s words. record { texts = key_texts (bytes e.0); spelling = s } ∷ words)
      (get_or-append spellings (spelling ∷ []) [] e.1 all.0.known)
      (phrases_in-more spellings spelling entries all.1)

  -- one more entry is one more phrase
  pub phrases_in-insert : (count : ℕ) (spellings : List (List ℕ)) (entries : List (K × ℕ)) (k : K) (class : ℕ)
      → AreEntries bytes count entries → IsKey (bytes k)
      → phrases_in bytes spellings (insert_entry same_key entries k class)
      ≡ with_added (phrases_in bytes spellings entries) (phrase_of spellings (bytes k) class)
  phrases_in-insert count spellings [] k class all is_key = refl
  phrases_in-insert count spellings (e ∷ entries) k class all is_key =
      let agree = same_keys (bytes k) (bytes e.0) is_key all.0.is_key in
      ⊎_elim
      (λ same.
      ap (phrases_in bytes spellings) (cond-true (same_key k e.0) ((e.0, class) ∷ entries) (e ∷ insert_entry same_key entries k class) same)
      ∙ ap (λ key. phrase_of spellings key class ∷ phrases_in bytes spellings entries) (sym ((bytes_eq-Decides (bytes k) (bytes e.0)).0 same))
      ∙ sym (cond-true (same_texts (key_texts (bytes k)) (key_texts (bytes e.0))) _ _ (sym agree ∙ same)))
      (λ other.
      ap (phrases_in bytes spellings) (cond-false (same_key k e.0) ((e.0, class) ∷ entries) (e ∷ insert_entry same_key entries k class) other)
      ∙ ap (λ words. phrase_of spellings (bytes e.0) e.1 ∷ words) (phrases_in-insert count spellings entries k class all.1 is_key)
      ∙ sym (cond-false (same_texts (key_texts (bytes k)) (key_texts (bytes e.0))) _ _ (sym agree ∙ other)))
      (cases_Bool (same_key k e.0))

  -- a look-up by key finds the phrase with the key's texts
  pub lookup-phrases : (count : ℕ) (spellings : List (List ℕ)) (entries : List (K × ℕ)) (key : List ℕ)
      → AreEntries bytes count entries → IsKey key
      → option_map (phrase_of spellings key) (lookup (λ k. bytes_eq key (bytes k)) entries)
      ≡ phrase_with (phrases_in bytes spellings entries) (key_texts key)
  lookup-phrases count spellings [] key all is_key = refl
  lookup-phrases count spellings (e ∷ entries) key all is_key =
      let agree = same_keys key (bytes e.0) is_key all.0.is_key in
      ⊎_elim
      (λ same.
      ap (option_map (phrase_of spellings key)) (cond-true (bytes_eq key (bytes e.0)) (Some e.1) (lookup (λ k. bytes_eq key (bytes k)) entries) same)
      ∙ ap (λ other. Some (phrase_of spellings other e.1)) ((bytes_eq-Decides key (bytes e.0)).0 same)
      ∙ sym (cond-true (same_texts (key_texts key) (key_texts (bytes e.0))) _ _ (sym agree ∙ same)))
      (λ other.
      ap (option_map (phrase_of spellings key)) (cond-false (bytes_eq key (bytes e.0)) (Some e.1) (lookup (λ k. bytes_eq key (bytes k)) entries) other)
      ∙ lookup-phrases count spellings entries key all.1 is_key
      ∙ sym (cond-false (same_texts (key_texts key) (key_texts (bytes e.0))) _ _ (sym agree ∙ other)))
      (cases_Bool (bytes_eq key (bytes e.0)))

  -- a look-up finds a class that there is
  pub lookup-known : (count : ℕ) (entries : List (K × ℕ)) (test : K → Bool) → AreEntries bytes count entries
      → IfSome (lookup test entries) (λ class. class < count)
  lookup-known count [] test all = tt
  lookup-known count (e ∷ entries) test all =
      ⊎_elim
      (λ passes. subst (λ o. IfSome o (λ class. class < count)) (sym (cond-true (test e.0) (Some e.1) (lookup test entries) passes)) all.0.known)
      (λ fails. subst (λ o. IfSome o (λ class. class < count))
      (sym (cond-false (test e.0) (Some e.1) (lookup test entries) fails))
      (lookup-known count entries test all.1))
      (cases_Bool (test e.0))

  -- each phrase has a token
  pub phrases_in-HaveTokens : (count : ℕ) (spellings : List (List ℕ)) (entries : List (K × ℕ))
      → AreEntries bytes count entries → HaveTokens (phrases_in bytes spellings entries)
  phrases_in-HaveTokens count spellings [] all = tt
  phrases_in-HaveTokens count spellings (e ∷ entries) all = (all.0.some, phrases_in-HaveTokens count spellings entries all.1)

  -- ---- what a list of phrases keeps

  pub IsStored-class : (entries : List (K × ℕ)) (spellings : List (List ℕ)) (most_from : List ℕ → ℕ)
      (spelling : List ℕ) → IsStored bytes entries spellings most_from
      → IsStored bytes entries (spellings ++ spelling ∷ []) most_from
  IsStored-class entries spellings most_from spelling h = record {
    entered = AreEntries-more (length spellings) (length (spellings ++ spelling ∷ [])) entries
        (omega (arith, length-append spellings (spelling ∷ []))) h.entered;
    bound = λ text. subst (λ words. longest_from words text ≤ most_from text) (sym (phrases_in-more spellings spelling entries h.entered)) (h.bound text);
    short = h.short;
  }

  pub IsStored-raised : (entries : List (K × ℕ)) (spellings : List (List ℕ)) (first : List ℕ) (count : ℕ)
      (most_from raised : List ℕ → ℕ) → IsRaised first count most_from raised
      → IsStored bytes entries spellings most_from → IsStored bytes entries spellings raised
  IsStored-raised entries spellings first count most_from raised r h = record {
    entered = h.entered;
    bound = λ text. omega (arith, h.bound text, raised-above first count most_from raised r text);
    short = raised-short first count most_from raised r h.short;
  }

  pub IsStored-entry : (entries : List (K × ℕ)) (spellings : List (List ℕ)) (most_from : List ℕ → ℕ) (k : K)
      (class : ℕ) → IsStored bytes entries spellings most_from → IsEntry (length spellings) (bytes k) class
      → ((text : List ℕ) → needed_for text (phrase_of spellings (bytes k) class) ≤ most_from text)
      → IsStored bytes (insert_entry same_key entries k class) spellings most_from
  IsStored-entry entries spellings most_from k class h new needed = record {
    entered = AreEntries-insert (length spellings) entries k class h.entered new;
    bound = λ text.
        let p = phrase_of spellings (bytes k) class in
        subst (λ words. longest_from words text ≤ most_from text) (sym (phrases_in-insert (length spellings) spellings entries k class h.entered new.is_key))
        (omega (arith, longest_from-with_added (phrases_in bytes spellings entries) p text, h.bound text, needed text));
    short = h.short;
  }

-- a phrase whose texts are new comes last
pub with_added-new : (words : List Phrase) (p : Phrase) → phrase_with words p.texts ≡ None → with_added words p ≡ words ++ p ∷ []
with_added-new [] p new = refl
with_added-new (q ∷ words) p new =
    ⊎_elim
    (λ same. let found : Some q ≡ None = sym (cond-true (same_texts p.texts q.texts) (Some q) (phrase_with words p.texts) same) ∙ new in cc)
    (λ other.
    cond-false (same_texts p.texts q.texts) (p ∷ words) (q ∷ with_added words p) other
    ∙ ap (λ l. q ∷ l) (with_added-new words p (sym (cond-false (same_texts p.texts q.texts) (Some q) (phrase_with words p.texts) other) ∙ new)))
    (cases_Bool (same_texts p.texts q.texts))
