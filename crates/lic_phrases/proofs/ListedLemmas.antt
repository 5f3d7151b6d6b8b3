-- What the reader of a list keeps: keys and phrases are side by side.
use Rattle.std.proofs.Common.{◌≡◌, ◌≢◌, ℕ, zero, suc, ◌+◌, ◌<◌, ◌≤◌, Bool, true, false, cond, not, ◌||◌, List, [], ◌∷◌, ◌++◌, length, get_or, drop, map, String, string_bytes, string_eq, refl, sym, ap, ap₂, subst, ◌∙◌, arith, length-append, true≢false, inl, inr, take, take_all, append-nil}
use Rattle.std.proofs.lemmas.Bool.{cases_Bool, cases_lt}
use Rattle.std.proofs.lemmas.List.{length-map, map-append, drop_all, take_more}
use Rattle.std.proofs.lemmas.Slice.Eq.{bytes_eq-Decides}
use Rattle.std.specs.List.{All, list_any, position_or_len, zip}
use Rattle.std.proofs.lemmas.List.Elements.{All-push}
use Rattle.std.proofs.lemmas.Slice.Zip.{length-zip, get_or-zip}
use Rattle.lic_phrases.specs.declared.words.phrase.ListedPhrase.{ListedPhrase}
use Rattle.lic_phrases.specs.Keys.{texts_in, key_of, HaveNoBlank, AreWithoutBlanks}
use Rattle.lic_phrases.specs.Spelling.{spelled}
use Rattle.lic_phrases.specs.TokenTexts.{IsTokenText}
use Rattle.lic_phrases.specs.Listed.{AreListed, ReadsPhrase, phrases_in, spellings_in, with_representatives}
use Rattle.lic_phrases.specs.WordReading.{HasRead}
use Rattle.lic_phrases.proofs.PhraseKeys.{key_of-same}
use Rattle.lic_phrases.specs.Classes.{AreRepresentatives}
use Rattle.lic_phrases.specs.Rewriting.{Phrase}
use Rattle.lic_phrases.specs.WordLists.{AreWords, in_order}
use Rattle.lic_phrases.specs.WordReading.{AreInOrder}
use Rattle.lic_phrases.proofs.ClassLemmas.{new_line}
use Rattle.lic_phrases.proofs.ReadingLemmas.{read_again, read_new, read_line}
use Rattle.lic_phrases.proofs.WordClasses.{get-map, get_front, get_last, words_are}

-- the index of an element, step by step
pub index_here : {A : Type 0} (p : A → Bool) (x : A) (xs : List A) → p x ≡ true → position_or_len p (x ∷ xs) ≡ 0
index_here p x xs e = ap (λ b. cond (not b) (1 + position_or_len p xs) 0) e

pub index_later : {A : Type 0} (p : A → Bool) (x : A) (xs : List A) → p x ≡ false → position_or_len p (x ∷ xs) ≡ suc (position_or_len p xs)
index_later p x xs e = ap (λ b. cond (not b) (1 + position_or_len p xs) 0) e ∙ omega arith

any_here : {A : Type 0} (p : A → Bool) (x : A) (xs : List A) → p x ≡ false → list_any p (x ∷ xs) ≡ list_any p xs
any_here p x xs e = ap (λ b. b || list_any p xs) e

pub absent_index : {A : Type 0} (p : A → Bool) (xs : List A) → list_any p xs ≡ false → position_or_len p xs ≡ length xs
absent_index p [] none = refl
absent_index p (x ∷ xs) none = elim (cases_Bool (p x)) [
  | inl e ↦ absurd (true≢false (sym (ap (λ b. b || list_any p xs) e) ∙ none))
  | inr e ↦ index_later p x xs e ∙ ap suc (absent_index p xs (sym (any_here p x xs e) ∙ none)) ∙ omega arith
]

-- a key that is found is that of the phrase at its index
pub found_phrase : {A : Type 0} (key : String A) (phrase : List (List ℕ)) (keys : List (String A)) (phrases : List (List (List ℕ)))
    → texts_in keys ≡ map key_of phrases → AreWithoutBlanks phrases → HaveNoBlank phrase → string_bytes key ≡ key_of phrase
    → position_or_len (string_eq key) keys < length keys → get_or phrases (position_or_len (string_eq key) keys) [] ≡ phrase
found_phrase key phrase [] phrases keyed no_blanks no_blank is within = absurd (omega arith)
found_phrase key phrase (k ∷ keys) [] keyed no_blanks no_blank is within = absurd (omega (arith, ap length keyed))
found_phrase key phrase (k ∷ keys) (p ∷ phrases) keyed no_blanks no_blank is within = elim (cases_Bool (string_eq key k)) [
  | inl e ↦
      ap (λ i. get_or (p ∷ phrases) i []) (index_here (string_eq key) k keys e)
      ∙ key_of-same p phrase no_blanks.0 no_blank (sym (head_of keyed) ∙ sym ((bytes_eq-Decides (string_bytes key) (string_bytes k)).0 e) ∙ is)
  | inr e ↦
      let later = index_later (string_eq key) k keys e in
      ap (λ i. get_or (p ∷ phrases) i []) later
      ∙ found_phrase key phrase keys phrases (ap (drop 1) keyed) no_blanks.1 no_blank is (omega arith)
]
  where
    head_of : {x y : List ℕ} {xs ys : List (List ℕ)} → x ∷ xs ≡ y ∷ ys → x ≡ y
    head_of {x} {y} {xs} {ys} e = ap (λ l. get_or l 0 x) e

-- a key that is not found is that of no phrase
pub absent_phrase : {A : Type 0} (key : String A) (phrase : List (List ℕ)) (keys : List (String A)) (phrases : List (List (List ℕ)))
    → texts_in keys ≡ map key_of phrases → string_bytes key ≡ key_of phrase → list_any (string_eq key) keys ≡ false
    → (i : ℕ) → i < length phrases → get_or phrases i [] ≢ phrase
absent_phrase key phrase keys [] keyed is none i within = absurd (omega arith)
absent_phrase key phrase [] (p ∷ phrases) keyed is none i within = absurd (omega (arith, ap length keyed))
absent_phrase key phrase (k ∷ keys) (p ∷ phrases) keyed is none zero within = λ same.
    let equal : string_bytes key ≡ string_bytes k = is ∙ ap key_of (sym same) ∙ sym (ap (λ l. get_or l 0 []) keyed) in
    true≢false (sym (ap (λ b. b || list_any (string_eq key) keys) ((bytes_eq-Decides (string_bytes key) (string_bytes k)).1 equal)) ∙ none)
absent_phrase key phrase (k ∷ keys) (p ∷ phrases) keyed is none (suc i) within = elim (cases_Bool (string_eq key k)) [
  | inl e ↦ absurd (true≢false (sym (ap (λ b. b || list_any (string_eq key) keys) e) ∙ none))
  | inr e ↦ absent_phrase key phrase keys phrases (ap (drop 1) keyed) is (sym (any_here (string_eq key) k keys e) ∙ none) i (omega arith)
]

pub AreWithoutBlanks-push : (phrases : List (List (List ℕ))) (phrase : List (List ℕ)) → AreWithoutBlanks phrases
    → HaveNoBlank phrase → AreWithoutBlanks (phrases ++ phrase ∷ [])
AreWithoutBlanks-push [] phrase known more = (more, tt)
AreWithoutBlanks-push (p ∷ phrases) phrase known more = (known.0, AreWithoutBlanks-push phrases phrase known.1 more)

module _ {A : Type 0} (keys keys' : List (String A)) (phrases phrases' : List ListedPhrase) (heads heads' : List ℕ)
    (key : String A) (p : ListedPhrase) (number : ℕ)
    (known : AreListed keys phrases heads) (is_key : string_bytes key ≡ key_of (texts_in p.texts.items))
    (spelling : string_bytes p.spelling ≡ spelled (texts_in p.texts.items))
    (no_blank : HaveNoBlank (texts_in p.texts.items)) (token_text : IsTokenText (string_bytes p.spelling)) where
  abbrev phrase : List (List ℕ)
  phrase = texts_in p.texts.items

  -- a phrase that is new is listed
  pub listed_more : keys' ≡ keys ++ key ∷ [] → phrases' ≡ phrases ++ p ∷ [] → heads' ≡ heads ++ number ∷ [] → AreListed keys' phrases' heads'
  listed_more ks ps hs = record {
    keyed =
        ap texts_in ks ∙ map-append (λ (t : String A). string_bytes t) keys (key ∷ []) ∙ ap₂ (λ a b. a ++ b ∷ []) known.keyed is_key
        ∙ sym (ap (λ l. map key_of l) now ∙ map-append key_of (phrases_in phrases) (phrase ∷ []));
    spellings =
        ap spellings_in ps ∙ map-append (λ (q : ListedPhrase). string_bytes q.spelling) phrases (p ∷ []) ∙ ap₂ (λ a b. a ++ b ∷ []) known.spellings spelling
        ∙ sym (ap (λ l. map spelled l) now ∙ map-append spelled (phrases_in phrases) (phrase ∷ []));
    no_blanks = subst AreWithoutBlanks (sym now) (AreWithoutBlanks-push (phrases_in phrases) phrase known.no_blanks no_blank);
    token_texts =
        subst (All IsTokenText) (sym (ap spellings_in ps ∙ map-append (λ (q : ListedPhrase). string_bytes q.spelling) phrases (p ∷ [])))
        (All-push IsTokenText (spellings_in phrases) (string_bytes p.spelling) known.token_texts token_text);
    as_many = omega (arith, ap length hs, ap length ps, length-append heads (number ∷ []), length-append phrases (p ∷ []), known.as_many);
  }
    where
      now : phrases_in phrases' ≡ phrases_in phrases ++ phrase ∷ []
      now = ap phrases_in ps ∙ map-append (λ (q : ListedPhrase). texts_in q.texts.items) phrases (p ∷ [])

  -- and read
  pub reads_new : list_any (string_eq key) keys ≡ false → number ≡ position_or_len (string_eq key) keys
      → phrases' ≡ phrases ++ p ∷ [] → heads' ≡ heads ++ number ∷ []
      → ReadsPhrase phrases heads phrases' heads' phrase number
  reads_new none at ps hs lines line numbers read =
      let many : length keys ≡ length (phrases_in phrases) =
      sym (length-map keys (λ (t : String A). string_bytes t)) ∙ ap length known.keyed
      ∙ length-map (phrases_in phrases) key_of in
      let index : number ≡ length (phrases_in phrases) = at ∙ absent_index (string_eq key) keys none ∙ many in
      let head : number ≡ length heads = index ∙ sym read.as_many in
      let now : phrases_in phrases' ≡ phrases_in phrases ++ phrase ∷ [] =
      ap phrases_in ps ∙ map-append (λ (q : ListedPhrase). texts_in q.texts.items) phrases (p ∷ []) in
      let new = read_new [] lines line (phrases_in phrases) heads numbers read phrase
      (absent_phrase key phrase keys (phrases_in phrases) known.keyed is_key none) in
      subst (λ (l : List (List (List ℕ))). HasRead [] lines (line ++ phrase ∷ []) l heads' (numbers ++ number ∷ [])) (sym now)
      (subst (λ (l : List ℕ). HasRead [] lines (line ++ phrase ∷ []) (phrases_in phrases ++ phrase ∷ []) l (numbers ++ number ∷ [])) (sym hs)
      (subst (λ n. HasRead [] lines (line ++ phrase ∷ []) (phrases_in phrases ++ phrase ∷ []) (heads ++ n ∷ []) (numbers ++ number ∷ [])) (sym head)
      (subst (λ n. HasRead [] lines (line ++ phrase ∷ []) (phrases_in phrases ++ phrase ∷ [])
      (heads ++ length heads ∷ []) (numbers ++ n ∷ [])) (sym index) new)))

  -- a phrase that occurs there already
  pub reads_again : number ≡ position_or_len (string_eq key) keys → number < length keys → ReadsPhrase phrases heads phrases heads phrase number
  reads_again at within lines line numbers read =
      let many : length keys ≡ length (phrases_in phrases) =
      sym (length-map keys (λ (t : String A). string_bytes t)) ∙ ap length known.keyed
      ∙ length-map (phrases_in phrases) key_of in
      let same : get_or (phrases_in phrases) number [] ≡ phrase =
      ap (λ i. get_or (phrases_in phrases) i []) at
      ∙ found_phrase key phrase keys (phrases_in phrases) known.keyed known.no_blanks no_blank is_key
      (omega arith) in
      subst (λ q. HasRead [] lines (line ++ q ∷ []) (phrases_in phrases) heads (numbers ++ number ∷ [])) same
      (read_again [] lines line (phrases_in phrases) heads numbers read number (omega arith))

-- ---- a line

-- the element of a list of parts, with a function of each
pub mapped_at : {A B : Type 0} (f : A → B) (xs : List A) (k : ℕ) (x : A) (d : B) → k < length xs → x ≡ get_or xs k x
    → (k < length (map f xs)) × (f x ≡ get_or (map f xs) k d)
mapped_at f xs k x d within is = (omega (arith, length-map xs f), ap f is ∙ sym (get-map f xs k x d within))

-- the first elements and the next one
pub take-next : {A B : Type 0} (xs : List A) (yielded : List B) (y : B) (x d : A) → length yielded < length xs → x ≡ get_or xs (length yielded) d
    → take (length yielded) xs ++ x ∷ [] ≡ take (length (yielded ++ y ∷ [])) xs
take-next xs yielded y x d within is =
    ap (λ z. take (length yielded) xs ++ z ∷ []) is ∙ sym (take_more xs (length yielded) d within) ∙ ap (λ n. take n xs) (sym (length-append yielded (y ∷ [])))

pub numbered_more : (xs : List ℕ) (n bound bound' : ℕ) → ((k : ℕ) → k < length xs → get_or xs k 0 < bound) → bound ≤ bound' → n < bound'
    → (k : ℕ) → k < length (xs ++ n ∷ []) → get_or (xs ++ n ∷ []) k 0 < bound'
numbered_more xs n bound bound' known grown less k within = elim (cases_lt k (length xs)) [
  | inl old ↦ omega (arith, get_front xs (n ∷ []) k old, known k old)
  | inr new ↦ omega (arith, get_last xs n k (let last : k ≡ length xs = omega (arith, length-append xs (n ∷ [])) in last))
]

-- a list of which all elements were written
pub written_back : (old new : List ℕ) (n : ℕ) → length new ≡ length old → n ≡ length old → take n (new ++ drop (length new) old) ≡ new
written_back old new n same len =
    ap (λ l. take n (new ++ l)) (drop_all (length new) old (omega arith)) ∙ ap (take n) (append-nil new) ∙ take_all n new (omega arith)

-- the phrases of a line are one class
pub line_is_read : (lines : List (List (List (List ℕ)))) (line phrases : List (List (List ℕ)))
    (heads heads' numbers : List ℕ) → HasRead [] lines line phrases heads numbers → length heads' ≡ length heads
    → ((before : List (List ℕ)) → AreRepresentatives (before ++ [] ∷ []) heads → AreRepresentatives (before ++ numbers ∷ []) heads')
    → HasRead [] (lines ++ line ∷ []) [] phrases heads' []
line_is_read lines line phrases heads heads' numbers read same joined =
    read_line [] lines line phrases heads numbers read heads' same (joined read.numbers (new_line read.numbers heads read.classes))

-- ---- the whole list

pub nothing_read : HasRead {A = List (List ℕ)} [] [] [] [] [] []
nothing_read = record {
  numbers = [];
  named = refl;
  line_named = refl;
  classes = record {
    numbered = λ line i there has. absurd (let k = there.1 in omega arith);
    same = λ i j hi hj e. absurd (omega arith);
    back = λ i j o. absurd (let k = o.1.1 in omega arith);
    low = λ i hi. absurd (omega arith);
    own = λ i hi. absurd (omega arith);
  };
  as_many = refl;
  distinct = λ i j hi hj e. absurd (omega arith);
  ordered = record { all = λ m h. absurd (omega arith); order = λ k h m lower. absurd (omega arith); below = λ k h. absurd (omega arith) };
}

-- phrases with the spelling of the head of their class
pub words_with_heads : (lines : List (List (List (List ℕ)))) (phrases : List (List (List ℕ))) (heads : List ℕ)
    → HasRead [] lines [] phrases heads [] → AreWords lines (with_representatives phrases (map spelled phrases) heads)
words_with_heads lines phrases heads read =
    subst (λ l. AreWords l (with_representatives phrases (map spelled phrases) heads)) read.named
    (words_are phrases read.numbers heads read.classes read.as_many read.distinct
    (subst (λ l. AreInOrder l (length phrases)) (append-nil (in_order read.numbers)) read.ordered)
    (with_representatives phrases (map spelled phrases) heads) no_phrase many each)
  where
    no_phrase : Phrase
    no_phrase = record { texts = []; spelling = [] }

    many : length (with_representatives phrases (map spelled phrases) heads) ≡ length phrases
    many = length-map (zip phrases heads) _ ∙ length-zip phrases heads ∙ omega (arith, read.as_many)

    each : (i : ℕ) → i < length phrases
        → get_or (with_representatives phrases (map spelled phrases) heads) i no_phrase
        ≡ record { texts = get_or phrases i []; spelling = spelled (get_or phrases (get_or heads i 0) []) }
    each i within =
        let inside : i < length heads = omega (arith, read.as_many) in
        let low = read.classes.low i inside in
        let paired : i < length (zip phrases heads) = omega (arith, length-zip phrases heads, read.as_many) in
        get-map (λ (p : List (List ℕ) × ℕ). let w : Phrase =
        record { texts = p.0; spelling = get_or (map spelled phrases) p.1 [] } in w) (zip phrases heads) i
        ([], 0) no_phrase paired
        ∙ ap (λ (p : List (List ℕ) × ℕ). let w : Phrase =
        record { texts = p.0; spelling = get_or (map spelled phrases) p.1 [] } in w)
        (get_or-zip phrases heads i ([], 0) within inside)
        ∙ ap (λ (s : List ℕ). let w : Phrase = record { texts = get_or phrases i []; spelling = s } in w)
        (get-map spelled phrases (get_or heads i 0) [] [] (omega arith))

pub words_read : {A : Type 0} (lines : List (List (List (List ℕ)))) (keys : List (String A))
    (phrases : List ListedPhrase) (heads : List ℕ) → AreListed keys phrases heads
    → HasRead [] lines [] (phrases_in phrases) heads [] → AreWords lines (with_representatives (phrases_in phrases) (spellings_in phrases) heads)
words_read lines keys phrases heads known read =
    subst (λ s. AreWords lines (with_representatives (phrases_in phrases) s heads)) (sym known.spellings) (words_with_heads lines (phrases_in phrases) heads read)
