-- Which places a tidy word of letters and blanks leads from: where a letter begins.
use Rattle.std.proofs.Common.{◌≡◌, ◌⊎◌, ℕ, suc, ◌+◌, ◌-◌, ◌<◌, ◌≤◌, Bool, true, false, IsTrue, List, [], ◌∷◌, ◌++◌, length, get_or, take, drop, refl, sym, ap, ◌∙◌, subst, arith, inl, inr, slice_range, append_assoc, append-nil, eq-eqb, eqb-true, lit<, take-append-drop, ◌&&◌}
use Rattle.std.specs.Char.{IsScalar, encode_utf8}
use Rattle.std.specs.Str.{IsUtf8, IsCharBoundary, encode_utf8_all}
use Rattle.std.proofs.Math.ListN.{get_or-append}
use Rattle.std.proofs.Math.Utf8.{scalar, scalars}
use Rattle.std.proofs.lemmas.Bool.{cases_eq, true≢false}
use Rattle.std.proofs.lemmas.List.{drop-drop, drop_at, take_at, get_or-drop, length-take-le, length-append, length-drop}
use Rattle.std.proofs.lemmas.Str.{IsCharBoundary-start, IsUtf8-between, IsUtf8-encode, encode_ascii, encodes-append, inside_one, len_utf8_bounds, length-encode}
use Rattle.lic_words.specs.Words.{Word, blank, IsTidy}
use Rattle.lic_tokens.specs.Tokens.{TokenValue}
use Rattle.lic_places.specs.Places.{AreTexts, IsAfterBlank, OverBlank, Occurs, is_blank_at, spelling_of}
use Rattle.lic_places.specs.Places.OverBlank.{over}
use Rattle.lic_places.specs.Reads.{Reads, Takes}
use Rattle.lic_places.proofs.TokenPlaces.{blank-alone, spelling-utf8}
use Rattle.lic_view.specs.PlaceSets.{IsLetterPlace}
use Rattle.lic_view.proofs.Back.{reads-forward}

-- ---- what is at a place

-- these bytes occur from the place on, and then those
abbrev pub Follows : List ℕ → ℕ → List ℕ → List ℕ → Type 0
Follows bytes p text after = drop p bytes ≡ text ++ after

follows-more : (bytes : List ℕ) (p : ℕ) (xs ys after : List ℕ) → Follows bytes p (xs ++ ys) after
    → Follows bytes p xs (ys ++ after) × Follows bytes (p + length xs) ys after
follows-more bytes p xs ys after h =
    let first : drop p bytes ≡ xs ++ (ys ++ after) = h ∙ append_assoc xs ys after in
    (first, sym (drop-drop (length xs) p bytes) ∙ ap (drop (length xs)) first ∙ drop_at xs (ys ++ after) (length xs) refl)

follows-occurs : (bytes : List ℕ) (p : ℕ) (xs after : List ℕ) → Follows bytes p xs after → Occurs bytes p xs (p + length xs)
follows-occurs bytes p xs after h =
    let n : (p + length xs) - p ≡ length xs = omega arith in
    (refl, ap (λ k. take k (drop p bytes)) n ∙ ap (take (length xs)) h ∙ take_at xs after (length xs) refl)

pub occurs-follows : (bytes : List ℕ) (p : ℕ) (xs : List ℕ) (q : ℕ) → Occurs bytes p xs q → Follows bytes p xs (drop q bytes)
occurs-follows bytes p xs q h =
    let n : q - p ≡ length xs = let e : q ≡ p + length xs = h.0 in omega arith in
    let back : p + (q - p) ≡ q = let e : q ≡ p + length xs = h.0 in omega arith in
    sym (take-append-drop (q - p) (drop p bytes))
    ∙ ap (λ l. l ++ drop (q - p) (drop p bytes)) h.1
    ∙ ap (λ l. xs ++ l) (drop-drop (q - p) p bytes ∙ ap (λ k. drop k bytes) back)

-- the byte at a place within them
pub follows-byte : (bytes : List ℕ) (p : ℕ) (xs after : List ℕ) (k : ℕ) → Follows bytes p xs after → k < length xs
    → get_or bytes (p + k) 0 ≡ get_or xs k 0
follows-byte bytes p xs after k h l =
    sym (get_or-drop p bytes k 0) ∙ ap (λ x. get_or x k 0) h ∙ get_or-append xs after 0 k l

-- a blank among them
follows-blank : (bytes : List ℕ) (p : ℕ) (xs ys after : List ℕ) → Follows bytes p (xs ++ (blank ∷ ys)) after
    → IsTrue (is_blank_at bytes (p + length xs))
follows-blank bytes p xs ys after h =
    let later = follows-more bytes p xs (blank ∷ ys) after h in
    let n : p + length xs + 0 ≡ p + length xs = omega arith in
    eq-eqb (get_or bytes (p + length xs) 0) blank
    (ap (λ k. get_or bytes k 0) (sym n) ∙ follows-byte bytes (p + length xs) (blank ∷ ys) after 0 later.1 (omega arith))

-- ---- one letter

some_bytes : (c : ℕ) → 1 ≤ length (encode_utf8 c)
some_bytes c = let b = len_utf8_bounds c in omega (arith, length-encode c, b.0)

blank_bytes : encode_utf8 blank ≡ blank ∷ []
blank_bytes = encode_ascii blank (lit< tt)

-- no letter but a blank has the byte of a blank
no_blank_byte : (c k : ℕ) → (c ≡ blank → ⊥) → k < length (encode_utf8 c) → get_or (encode_utf8 c) k 0 ≡ blank → ⊥
no_blank_byte c k other within e =
    let low : get_or (encode_utf8 c) k 0 < 128 = omega arith in
    other (inside_one c [] (encode_utf8 c) k (sym (append-nil (encode_utf8 c))) within low ∙ e)

-- a letter begins where its bytes occur
letter_begins : (tokens : List TokenValue) (p c q : ℕ) → (c ≡ blank → ⊥) → IsScalar c → Occurs (spelling_of tokens) p (encode_utf8 c) q
    → IsLetterPlace tokens p
letter_begins tokens p c q other scalar occurs =
    let bytes = spelling_of tokens in
    let follows = occurs-follows bytes p (encode_utf8 c) q occurs in
    let zero_more : p + 0 ≡ p = omega arith in
    let some = some_bytes c in
    let byte : get_or bytes p 0 ≡ get_or (encode_utf8 c) 0 0 =
    ap (λ k. get_or bytes k 0) (sym zero_more) ∙ follows-byte bytes p (encode_utf8 c) (drop q bytes) 0 follows (omega arith) in
    let long : length bytes - p ≡ length (encode_utf8 c) + length (drop q bytes) =
    sym (length-drop p bytes) ∙ ap length follows ∙ length-append (encode_utf8 c) (drop q bytes) in
    let start = IsCharBoundary-start (encode_utf8 c) (IsUtf8-encode c scalar) in
    record {
      whole = (omega arith, λ within high. subst (λ b. 192 ≤ b) (sym byte) (start.1 (omega arith) (subst (λ b. 128 ≤ b) byte high)));
      letter = λ e. no_blank_byte c 0 other (omega arith) (sym byte ∙ e);
    }

-- no blank comes before the place where it ends
letter_ends : (tokens : List TokenValue) (p c q : ℕ) → (c ≡ blank → ⊥) → Occurs (spelling_of tokens) p (encode_utf8 c) q
    → IsAfterBlank (spelling_of tokens) q → ⊥
letter_ends tokens p c q other occurs (r, e, is) =
    let bytes = spelling_of tokens in
    let follows = occurs-follows bytes p (encode_utf8 c) q occurs in
    let some = some_bytes c in
    let end : q ≡ p + length (encode_utf8 c) = occurs.0 in
    let at : p + (length (encode_utf8 c) - 1) ≡ r = omega arith in
    let byte = follows-byte bytes p (encode_utf8 c) (drop q bytes) (length (encode_utf8 c) - 1) follows (omega arith) in
    no_blank_byte c (length (encode_utf8 c) - 1) other (omega arith)
    (sym byte ∙ ap (λ k. get_or bytes k 0) at ∙ eqb-true (get_or bytes r 0) blank is)

-- ---- words that are read

reads-ends : (tokens : List TokenValue) (w : Word) (c p q : ℕ) → ((u : Word) → c ∷ w ≡ u ++ blank ∷ [] → ⊥) → Reads tokens p (c ∷ w) q
    → IsAfterBlank (spelling_of tokens) q → ⊥
reads-ends tokens [] c p q last (r, inl (e, o), reads) past = last [] (ap (λ x. x ∷ []) e)
reads-ends tokens [] c p q last (r, inr (other, scalar, occurs), reads) past =
    letter_ends tokens p c r other occurs (subst (IsAfterBlank (spelling_of tokens)) (sym reads) past)
reads-ends tokens (d ∷ w) c p q last (r, takes, reads) past =
    reads-ends tokens w d r q (λ u e. last (c ∷ u) (ap (λ x. c ∷ x) e)) reads past

-- what is known of places between which a tidy word is read
pub record IsFree (tokens : List TokenValue) (p q : ℕ) : Type 0 where
  pub before : p < q
  pub begins : IsLetterPlace tokens p
  pub ends : ¬ (IsAfterBlank (spelling_of tokens) q)

pub counted-reads : (tokens : List TokenValue) (w : Word) (p q : ℕ) → IsTidy w → 1 ≤ length w → Reads tokens p w q → IsFree tokens p q
counted-reads tokens [] p q tidied some reads = absurd (omega arith)
counted-reads tokens (c ∷ w) p q tidied some (r, inl (e, o), reads) = absurd (tidied.not_first w (ap (λ x. x ∷ w) e))
counted-reads tokens (c ∷ w) p q tidied some (r, inr (other, scalar, occurs), reads) =
    let bytes = some_bytes c in
    let end : r ≡ p + length (encode_utf8 c) = occurs.0 in
    let later : r ≤ q = reads-forward tokens w r q reads in
    record {
      before = omega arith;
      begins = letter_begins tokens p c r other scalar occurs;
      ends = reads-ends tokens w c p q tidied.not_last (r, inr (other, scalar, occurs), reads);
    }

-- ---- the word that is between two places

pub scalar-head : (c : ℕ) (cs : List ℕ) → scalars (c ∷ cs) ≡ true → (scalar c ≡ true) × (scalars cs ≡ true)
scalar-head c cs h = both (scalar c) (scalars cs) h
  where
    both : (a b : Bool) → a && b ≡ true → (a ≡ true) × (b ≡ true)
    both true b e = (refl, e)
    both false b e = absurd (true≢false (sym e))

reads-letters : (tokens : List TokenValue) (cs : Word) (p : ℕ) (after : List ℕ) → scalars cs ≡ true
    → Follows (spelling_of tokens) p (encode_utf8_all cs) after → Reads tokens p cs (p + length (encode_utf8_all cs))
reads-letters tokens [] p after all follows = omega arith
reads-letters tokens (c ∷ cs) p after all follows =
    by_letter (reads-letters tokens cs (p + length (encode_utf8 c)) after (scalar-head c cs all).1 parts.1) (cases_eq c blank)
  where
    parts : Follows (spelling_of tokens) p (encode_utf8 c) (encode_utf8_all cs ++ after)
        × Follows (spelling_of tokens) (p + length (encode_utf8 c)) (encode_utf8_all cs) after
    parts = follows-more (spelling_of tokens) p (encode_utf8 c) (encode_utf8_all cs) after follows

    by_letter : Reads tokens (p + length (encode_utf8 c)) cs (p + length (encode_utf8 c) + length (encode_utf8_all cs))
        → (c ≡ blank) ⊎ (c ≡ blank → ⊥) → Reads tokens p (c ∷ cs) (p + length (encode_utf8_all (c ∷ cs)))
    by_letter more letter =
        let n : p + length (encode_utf8 c) + length (encode_utf8_all cs) ≡ p + length (encode_utf8_all (c ∷ cs)) =
        omega (arith, length-append (encode_utf8 c) (encode_utf8_all cs)) in
        let later = subst (Reads tokens (p + length (encode_utf8 c)) cs) n more in
        (p + length (encode_utf8 c), taken letter, later)
      where
        taken : (c ≡ blank) ⊎ (c ≡ blank → ⊥) → Takes tokens p c (p + length (encode_utf8 c))
        taken (inl e) =
            let bs : encode_utf8 c ≡ blank ∷ [] = ap encode_utf8 e ∙ blank_bytes in
            let n : suc p ≡ p + length (encode_utf8 c) = let l : length (encode_utf8 c) ≡ 1 = ap length bs in omega arith in
            let here : Follows (spelling_of tokens) p (blank ∷ []) (encode_utf8_all cs ++ after) =
            subst (λ x. Follows (spelling_of tokens) p x (encode_utf8_all cs ++ after)) bs parts.0 in
            let z : p + 0 ≡ p = omega arith in
            let is : IsTrue (is_blank_at (spelling_of tokens) p) =
            subst (λ k. IsTrue (is_blank_at (spelling_of tokens) k)) z (follows-blank (spelling_of tokens) p [] [] (encode_utf8_all cs ++ after) here) in
            inl (e, subst (OverBlank tokens p) n (over is))
        taken (inr other) =
            inr (other, (scalar-head c cs all).0, follows-occurs (spelling_of tokens) p (encode_utf8 c) (encode_utf8_all cs ++ after) parts.0)

-- the bytes of a word with a blank in it
blank-within : (u v : Word) → encode_utf8_all (u ++ blank ∷ v) ≡ encode_utf8_all u ++ (blank ∷ encode_utf8_all v)
blank-within u v = encodes-append u (blank ∷ v) ∙ ap (λ x. encode_utf8_all u ++ (x ++ encode_utf8_all v)) blank_bytes

-- the word whose letters are side by side between the places
pub record IsSpelled (tokens : List TokenValue) (p q : ℕ) (w : Word) : Type 0 where
  pub follows : Follows (spelling_of tokens) p (encode_utf8_all w) (drop q (spelling_of tokens))
  pub end : q ≡ p + length (encode_utf8_all w)

spelled-blank : (tokens : List TokenValue) (p q : ℕ) (w u v : Word) → IsSpelled tokens p q w → w ≡ u ++ blank ∷ v
    → IsTrue (is_blank_at (spelling_of tokens) (p + length (encode_utf8_all u)))
spelled-blank tokens p q w u v is e =
    follows-blank (spelling_of tokens) p (encode_utf8_all u) (encode_utf8_all v) (drop q (spelling_of tokens))
    (subst (λ x. Follows (spelling_of tokens) p x (drop q (spelling_of tokens))) (ap encode_utf8_all e ∙ blank-within u v) is.follows)

spelled-tidy : (tokens : List TokenValue) (p q : ℕ) (w : Word) → AreTexts tokens → IsFree tokens p q → IsSpelled tokens p q w → IsTidy w
spelled-tidy tokens p q w texts free is = record {
  not_first = λ v e.
      let z : p + 0 ≡ p = omega arith in
      let at : IsTrue (is_blank_at (spelling_of tokens) p) =
      subst (λ k. IsTrue (is_blank_at (spelling_of tokens) k)) z (spelled-blank tokens p q w [] v is e) in
      free.begins.letter (eqb-true (get_or (spelling_of tokens) p 0) blank at);
  not_last = λ u e.
      let n : length (encode_utf8_all w) ≡ length (encode_utf8_all u) + 1 =
      ap length (ap encode_utf8_all e ∙ blank-within u []) ∙ length-append (encode_utf8_all u) (blank ∷ []) in
      let end : q ≡ p + length (encode_utf8_all w) = is.end in
      free.ends (p + length (encode_utf8_all u), omega arith, spelled-blank tokens p q w u [] is e);
  not_two = λ u v e.
      let n : p + length (encode_utf8_all (u ++ blank ∷ [])) ≡ suc (p + length (encode_utf8_all u)) =
      let l : length (encode_utf8_all (u ++ blank ∷ [])) ≡ length (encode_utf8_all u) + 1 =
      ap length (blank-within u []) ∙ length-append (encode_utf8_all u) (blank ∷ []) in omega arith in
      let second : IsTrue (is_blank_at (spelling_of tokens) (suc (p + length (encode_utf8_all u)))) =
      subst (λ k. IsTrue (is_blank_at (spelling_of tokens) k)) n
      (spelled-blank tokens p q w (u ++ blank ∷ []) v is (e ∙ sym (append_assoc u (blank ∷ []) (blank ∷ v)))) in
      true≢false (sym second ∙ blank-alone tokens (p + length (encode_utf8_all u)) texts (spelled-blank tokens p q w u (blank ∷ v) is e));
}

pub record HasWord (tokens : List TokenValue) (p q : ℕ) : Type 0 where
  pub word : Word
  pub reads : Reads tokens p word q
  pub tidied : IsTidy word
  pub some : 1 ≤ length word

pub counted-word : (tokens : List TokenValue) (p q : ℕ) → AreTexts tokens → IsCharBoundary (spelling_of tokens) q
    → IsFree tokens p q → HasWord tokens p q
counted-word tokens p q texts whole free =
    of_letters (IsUtf8-between bytes p q (spelling-utf8 tokens texts) (omega (arith, free.before)) free.begins.whole whole)
  where
    bytes : List ℕ
    bytes = spelling_of tokens

    of_letters : IsUtf8 (slice_range (spelling_of tokens) p q) → HasWord tokens p q
    of_letters (cs, (all, same)) =
        let long : length (slice_range bytes p q) ≡ q - p =
        let inside : q ≤ length (spelling_of tokens) = whole.0 in
        length-take-le (q - p) (drop p bytes) (omega (arith, length-drop p bytes)) in
        let end : q ≡ p + length (encode_utf8_all cs) =
        let l : length (encode_utf8_all cs) ≡ q - p = ap length same ∙ long in
        let before : p < q = free.before in omega arith in
        let follows = occurs-follows bytes p (encode_utf8_all cs) q (end, sym same) in
        record {
          word = cs;
          reads = subst (Reads tokens p cs) (sym end) (reads-letters tokens cs p (drop q bytes) all follows);
          tidied = spelled-tidy tokens p q cs texts free (record { follows = follows; end = end });
          some = some_letters cs (let before : p < q = free.before in omega arith);
        }
      where
        some_letters : (w : Word) → 1 ≤ length (encode_utf8_all w) → 1 ≤ length w
        some_letters [] h = h
        some_letters (c ∷ w) h = omega arith
