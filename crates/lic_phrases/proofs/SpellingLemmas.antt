-- Canonical spelling and keys, one more text at a time.
use Rattle.std.proofs.Common.{◌≡◌, ℕ, zero, suc, ◌+◌, ◌<◌, List, [], ◌∷◌, ◌++◌, length, get_or, take, map, String, string_bytes, refl, sym, ap, ◌∙◌, arith, append_assoc, append-nil, Bool, true, false, ◌&&◌, ap₂, add-one}
use Rattle.std.proofs.lemmas.List.{length-map}
use Rattle.lic_phrases.specs.Keys.{key_of, texts_in}
use Rattle.lic_phrases.specs.Spelling.{is_parted, is_parted_at, blank_if, spelled}

pub map-itself : {A : Type 0} (xs : List A) → map (λ x. x) xs ≡ xs
map-itself [] = refl
map-itself (x ∷ xs) = ap (λ l. x ∷ l) (map-itself xs)

pub length-texts_in : {A : Type 0} (texts : List (String A)) → length (texts_in texts) ≡ length texts
length-texts_in texts = length-map texts _

-- the text at an index
pub text_at : {A : Type 0} (texts : List (String A)) (k : ℕ) (d : String A) → k < length texts → get_or (texts_in texts) k [] ≡ string_bytes (get_or texts k d)
text_at [] k d h = absurd (omega arith)
text_at (t ∷ texts) zero d h = refl
text_at (t ∷ texts) (suc k) d h = text_at texts k d (omega arith)

-- the first texts and one more
pub key_of-more : (texts : List (List ℕ)) (k : ℕ) → k < length texts → key_of (take (suc k) texts) ≡ key_of (take k texts) ++ (get_or texts k [] ++ 0x20 ∷ [])
key_of-more [] k h = absurd (omega arith)
key_of-more (t ∷ texts) zero h = append-nil (t ++ 0x20 ∷ [])
key_of-more (t ∷ texts) (suc k) h =
    ap (λ l. (t ++ 0x20 ∷ []) ++ l) (key_of-more texts k (omega arith))
    ∙ sym (append_assoc (t ++ 0x20 ∷ []) (key_of (take k texts)) (get_or texts k [] ++ 0x20 ∷ []))

pub spelled-more : (texts : List (List ℕ)) (k : ℕ) → k < length texts
    → spelled (take (suc k) texts) ≡ spelled (take k texts) ++ (blank_if (is_parted_at texts k) ++ get_or texts k [])
spelled-more [] k h = absurd (omega arith)
spelled-more (t ∷ texts) zero h = refl
spelled-more (t ∷ []) (suc k) h = absurd (omega arith)
spelled-more (t ∷ u ∷ texts) (suc zero) h = refl
spelled-more (t ∷ u ∷ texts) (suc (suc k)) h =
    let blank = blank_if (is_parted t u) in
    let rest = spelled (u ∷ take k texts) in
    let last = blank_if (is_parted_at (u ∷ texts) (suc k)) ++ get_or (u ∷ texts) (suc k) [] in
    ap (λ l. t ++ (blank ++ l)) (spelled-more (u ∷ texts) (suc k) (omega arith))
    ∙ ap (λ l. t ++ l) (sym (append_assoc blank rest last))
    ∙ sym (append_assoc t (blank ++ rest) last)

-- one more text of a key
pub key_step : {A : Type 0} (texts : List (String A)) (i : ℕ) (item : String A) (before middle after : List ℕ) → i < length texts → item ≡ get_or texts i item
    → before ≡ key_of (take i (texts_in texts)) → middle ≡ before ++ string_bytes item → after ≡ middle ++ 0x20 ∷ []
    → after ≡ key_of (take (i + 1) (texts_in texts))
key_step texts i item before middle after h is b m a =
    let text : string_bytes item ≡ get_or (texts_in texts) i [] = ap string_bytes is ∙ sym (text_at texts i item h) in
    let blank : List ℕ = 0x20 ∷ [] in
    a
    ∙ ap (λ l. l ++ blank) (m ∙ ap₂ (λ x y. x ++ y) b text)
    ∙ append_assoc (key_of (take i (texts_in texts))) (get_or (texts_in texts) i []) blank
    ∙ sym (key_of-more (texts_in texts) i (omega (arith, length-texts_in texts)))
    ∙ ap (λ n. key_of (take n (texts_in texts))) (sym (add-one i))

-- one more text of a spelling
pub spelling_step : {A : Type 0} (texts : List (String A)) (i : ℕ) (item : String A) (parted : Bool)
    (before middle after : List ℕ) → i < length texts → item ≡ get_or texts i item
    → parted ≡ is_parted_at (texts_in texts) i → before ≡ spelled (take i (texts_in texts))
    → middle ≡ before ++ blank_if parted → after ≡ middle ++ string_bytes item
    → after ≡ spelled (take (i + 1) (texts_in texts))
spelling_step texts i item parted before middle after h is p b m a =
    let text : string_bytes item ≡ get_or (texts_in texts) i [] = ap string_bytes is ∙ sym (text_at texts i item h) in
    a
    ∙ ap₂ (λ x y. x ++ y) (m ∙ ap₂ (λ x y. x ++ blank_if y) b p) text
    ∙ append_assoc (spelled (take i (texts_in texts))) (blank_if (is_parted_at (texts_in texts) i)) (get_or (texts_in texts) i [])
    ∙ sym (spelled-more (texts_in texts) i (omega (arith, length-texts_in texts)))
    ∙ ap (λ n. spelled (take n (texts_in texts))) (sym (add-one i))

-- whether two neighbours are parted
pub parted_neighbours : {A : Type 0} (texts : List (String A)) (index j : ℕ) (a b : String A) → j + 1 ≡ index
    → index < length texts → a ≡ get_or texts j a → b ≡ get_or texts index b
    → is_parted_at (texts_in texts) index ≡ is_parted (string_bytes a) (string_bytes b)
parted_neighbours texts zero j a b e h is_a is_b = absurd (omega arith)
parted_neighbours texts (suc k) j a b e h is_a is_b =
    let same : j ≡ k = omega arith in
    ap₂ is_parted
    (text_at texts k a (omega arith) ∙ ap string_bytes (sym (is_a ∙ ap (λ i. get_or texts i a) same)))
    (text_at texts (suc k) b h ∙ ap string_bytes (sym is_b))

pub both-true : (a b : Bool) → a ≡ true → b ≡ a && b
both-true true b e = refl
both-true false b e = cc

pub both-false : (a b : Bool) → a ≡ false → a ≡ a && b
both-false true b e = cc
both-false false b e = refl
