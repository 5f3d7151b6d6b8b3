-- Where the texts of tokens are in the canonical spelling.
use Rattle.std.proofs.Common.{◌≡◌, ℕ, suc, ◌+◌, ◌-◌, ◌<◌, ◌≤◌, true, false, ◌⊎◌, inl, inr, List, [], ◌∷◌, ◌++◌, length, get_or, take, drop, refl, sym, ap, ◌∙◌, subst, arith, length-append, eqb-true, All, IsTrue}
use Rattle.std.specs.Str.{IsUtf8}
use Rattle.std.proofs.lemmas.Bool.{cases_Bool, false_from_ne_true, true≢false}
use Rattle.std.proofs.lemmas.List.{length-map, take_all, take_more, get_or-drop, get_or_append_left}
use Rattle.std.proofs.lemmas.List.Elements.{All-get_or, All-map}
use Rattle.lic_phrases.specs.Spelling.{is_parted_at, blank_if, spelled}
use Rattle.lic_phrases.specs.TokenTexts.{IsTokenText}
use Rattle.lic_tokens.specs.Tokens.{TokenValue}
use Rattle.lic_tokens.specs.Places.{texts_of, place_end, place_start}
use Rattle.lic_places.specs.Places.{AreTexts, IsAfterBlank, OverBlank, Occurs, is_blank_at, spelling_of}
use Rattle.lic_places.specs.Places.OverBlank.{over, stays}
use Rattle.lic_places.proofs.Spelled.{before, spelled-before, spelled-around, spelled-cut, spelled-apart, spelled-utf8, apart_at, text_begins, text_ends}
use Rattle.lic_places.proofs.Occurring.{Occurs-among, Occurs-drop, Occurs-first, occurs_blank}

-- ---- the texts of tokens

pub length-texts_of : (tokens : List TokenValue) → length (texts_of tokens) ≡ length tokens
length-texts_of tokens = length-map tokens (λ (t : TokenValue). t.text)

pub texts_of-utf8 : (tokens : List TokenValue) → AreTexts tokens → All IsUtf8 (texts_of tokens)
texts_of-utf8 tokens are = All-map IsUtf8 (λ (t : TokenValue). t.text) tokens are.utf8

pub texts_of-texts : (tokens : List TokenValue) → AreTexts tokens → All IsTokenText (texts_of tokens)
texts_of-texts tokens are = All-map IsTokenText (λ (t : TokenValue). t.text) tokens are.texts

pub text_token : (tokens : List TokenValue) (i : ℕ) → AreTexts tokens → i < length tokens
    → IsTokenText (get_or (texts_of tokens) i [])
text_token tokens i are within =
    All-get_or IsTokenText (texts_of tokens) i [] (omega (arith, length-texts_of tokens)) (texts_of-texts tokens are)

-- ---- places

pub place_end-is : (tokens : List TokenValue) (i : ℕ)
    → place_end tokens i ≡ length (spelled (take (suc i) (texts_of tokens)))
unfolding place_end
place_end-is tokens i = refl

pub place_end-before : (tokens : List TokenValue) (i : ℕ) → i < length tokens
    → place_end tokens i ≡ length (before (texts_of tokens) i) + length (get_or (texts_of tokens) i [])
place_end-before tokens i within =
    let texts = texts_of tokens in
    let inside : i < length texts = omega (arith, length-texts_of tokens) in
    place_end-is tokens i ∙ ap length (spelled-before texts i inside)
    ∙ length-append (before texts i) (get_or texts i [])

pub place_start-is : (tokens : List TokenValue) (i : ℕ) → i < length tokens
    → place_start tokens i ≡ length (before (texts_of tokens) i)
unfolding place_start
place_start-is tokens i within = omega (arith, place_end-before tokens i within)

pub place_end-start : (tokens : List TokenValue) (i : ℕ) → i < length tokens
    → place_end tokens i ≡ place_start tokens i + length (get_or (texts_of tokens) i [])
place_end-start tokens i within = omega (arith, place_end-before tokens i within, place_start-is tokens i within)

pub place_start-first : (tokens : List TokenValue) → 0 < length tokens → place_start tokens 0 ≡ 0
place_start-first tokens within = place_start-is tokens 0 within

pub place_start-text : (tokens : List TokenValue) (i : ℕ) → i < length tokens
    → Occurs (spelling_of tokens) (place_start tokens i) (get_or (texts_of tokens) i []) (place_end tokens i)
place_start-text tokens i within =
    let texts = texts_of tokens in
    let text = get_or texts i [] in
    let around = spelled-around texts i (omega (arith, length-texts_of tokens)) in
    let starts = place_start-is tokens i within in
    let ends : place_end tokens i ≡ length (before texts i) + length text = place_end-before tokens i within in
    subst (λ bytes. Occurs bytes (place_start tokens i) text (place_end tokens i)) (sym around.1)
    (subst (λ p. Occurs (before texts i ++ (text ++ around.0)) p text (place_end tokens i)) (sym starts)
    (subst (λ q. Occurs (before texts i ++ (text ++ around.0)) (length (before texts i)) text q) (sym ends)
    (Occurs-among (before texts i) text around.0)))

pub place_end-order : (tokens : List TokenValue) (i : ℕ) → AreTexts tokens → i < length tokens
    → place_start tokens i < place_end tokens i
place_end-order tokens i are within =
    omega (arith, place_end-start tokens i within, (text_token tokens i are within).not_empty)

pub place_end-last : (tokens : List TokenValue) (i : ℕ) → suc i ≡ length tokens
    → place_end tokens i ≡ length (spelling_of tokens)
place_end-last tokens i last =
    place_end-is tokens i
    ∙ ap (λ l. length (spelled l)) (take_all (suc i) (texts_of tokens) (omega (arith, length-texts_of tokens)))

-- the place at which the next token begins
pub place_start-next : (tokens : List TokenValue) (i : ℕ) → suc i < length tokens
    → place_start tokens (suc i) ≡ place_end tokens i + length (blank_if (is_parted_at (texts_of tokens) (suc i)))
place_start-next tokens i within =
    let texts = texts_of tokens in
    place_start-is tokens (suc i) within
    ∙ length-append (spelled (take (suc i) texts)) (blank_if (is_parted_at texts (suc i)))
    ∙ ap (λ n. n + length (blank_if (is_parted_at texts (suc i)))) (sym (place_end-is tokens i))

-- the blank before it
pub blank-between : (tokens : List TokenValue) (i : ℕ) → suc i < length tokens
    → is_parted_at (texts_of tokens) (suc i) ≡ true → IsTrue (is_blank_at (spelling_of tokens) (place_end tokens i))
blank-between tokens i within parted =
    let texts = texts_of tokens in
    let front = spelled (take (suc i) texts) in
    let cut = spelled-cut texts i (omega (arith, length-texts_of tokens)) in
    let bytes = cut ∙ ap (λ b. front ++ (blank_if b ++ spelled (drop (suc i) texts))) parted in
    subst (λ p. IsTrue (is_blank_at (spelling_of tokens) p)) (sym (place_end-is tokens i))
    (subst (λ l. IsTrue (is_blank_at l (length front))) (sym bytes)
    (occurs_blank (front ++ (0x20 ∷ spelled (drop (suc i) texts))) (length front) [] (length front + 1)
    (Occurs-among front (0x20 ∷ []) (spelled (drop (suc i) texts)))))

pub tokens-next : (tokens : List TokenValue) (i : ℕ) → suc i < length tokens
    → (place_start tokens (suc i) ≡ place_end tokens i)
    ⊎ ((place_start tokens (suc i) ≡ suc (place_end tokens i))
    × IsTrue (is_blank_at (spelling_of tokens) (place_end tokens i)))
tokens-next tokens i within =
    let parted = is_parted_at (texts_of tokens) (suc i) in
    let next = place_start-next tokens i within in
    elim (cases_Bool parted) [
      | inl are_parted ↦
          let e : place_start tokens (suc i) ≡ place_end tokens i + 1 = next ∙ ap (λ b. place_end tokens i + length (blank_if b)) are_parted in
          inr (omega (arith, e), blank-between tokens i within are_parted)
      | inr are_joined ↦
          let e : place_start tokens (suc i) ≡ place_end tokens i + 0 = next ∙ ap (λ b. place_end tokens i + length (blank_if b)) are_joined in
          inl (omega (arith, e))
    ]

-- ---- edges

no_blank_first : (bytes text : List ℕ) (p q : ℕ) → IsTokenText text → Occurs bytes p text q → is_blank_at bytes p ≡ true → ⊥
no_blank_first bytes [] p q token occurs blank = absurd (omega (arith, token.not_empty))
no_blank_first bytes (c ∷ text) p q token occurs blank =
    text_begins (c ∷ text) text token
    (ap (λ x. x ∷ text) (sym (Occurs-first bytes p c text q occurs) ∙ eqb-true (get_or bytes p 0) 0x20 blank))

pub token-starts : (tokens : List TokenValue) (i : ℕ) → AreTexts tokens → i < length tokens
    → is_blank_at (spelling_of tokens) (place_start tokens i) ≡ false
token-starts tokens i are within =
    false_from_ne_true (is_blank_at (spelling_of tokens) (place_start tokens i))
    (λ blank. no_blank_first (spelling_of tokens) (get_or (texts_of tokens) i []) (place_start tokens i) (place_end tokens i)
    (text_token tokens i are within) (place_start-text tokens i within) blank)

last_cut : (text : List ℕ) (n : ℕ) → length text ≡ suc n → text ≡ take n text ++ (get_or text n 0 ∷ [])
last_cut text n many =
    sym (take_all (n + 1) text (omega arith)) ∙ take_more text n 0 (omega arith)

last_byte : (bytes text : List ℕ) (p r n : ℕ) → length text ≡ suc n → Occurs bytes p text (suc r)
    → get_or text n 0 ≡ get_or bytes r 0
last_byte bytes text p r n many occurs =
    let at : r ≡ p + n = omega (arith, occurs.0) in
    let within : n < length text = omega arith in
    sym (get_or_append_left text (drop (suc r) bytes) 0 n within)
    ∙ ap (λ l. get_or l n 0) (sym (Occurs-drop bytes p text (suc r) occurs))
    ∙ get_or-drop p bytes n 0 ∙ ap (λ k. get_or bytes k 0) (sym at)

no_blank_last : (bytes text : List ℕ) (p q : ℕ) → IsTokenText text → Occurs bytes p text q → IsAfterBlank bytes q → ⊥
no_blank_last bytes text p q token occurs after =
    let r = after.0 in
    let n = length text - 1 in
    let many : length text ≡ suc n = omega (arith, token.not_empty) in
    let here : Occurs bytes p text (suc r) = subst (λ k. Occurs bytes p text k) after.1 occurs in
    text_ends text (take n text) token
    (last_cut text n many
    ∙ ap (λ c. take n text ++ (c ∷ [])) (last_byte bytes text p r n many here ∙ eqb-true (get_or bytes r 0) 0x20 after.2))

pub token-ends : (tokens : List TokenValue) (i : ℕ) → AreTexts tokens → i < length tokens
    → IsAfterBlank (spelling_of tokens) (place_end tokens i) → ⊥
token-ends tokens i are within after =
    no_blank_last (spelling_of tokens) (get_or (texts_of tokens) i []) (place_start tokens i) (place_end tokens i)
    (text_token tokens i are within) (place_start-text tokens i within) after

-- ---- the whole spelling

pub spelling-utf8 : (tokens : List TokenValue) → AreTexts tokens → IsUtf8 (spelling_of tokens)
spelling-utf8 tokens are = spelled-utf8 (texts_of tokens) (texts_of-utf8 tokens are)

pub blank-alone : (tokens : List TokenValue) (p : ℕ) → AreTexts tokens → IsTrue (is_blank_at (spelling_of tokens) p)
    → is_blank_at (spelling_of tokens) (suc p) ≡ false
blank-alone tokens p are blank =
    let bytes = spelling_of tokens in
    false_from_ne_true (is_blank_at bytes (suc p))
    (λ next. apart_at bytes p (spelled-apart (texts_of tokens) (texts_of-texts tokens are))
    (eqb-true (get_or bytes p 0) 0x20 blank) (eqb-true (get_or bytes (suc p) 0) 0x20 next))

-- ---- blanks of a word

blank_apart : (tokens : List TokenValue) (p q : ℕ) → AreTexts tokens → IsTrue (is_blank_at (spelling_of tokens) p)
    → suc p ≡ q → IsTrue (is_blank_at (spelling_of tokens) q) → ⊥
blank_apart tokens p q are blank next second =
    true≢false (sym second ∙ ap (is_blank_at (spelling_of tokens)) (sym next) ∙ blank-alone tokens p are blank)

pub OverBlank-order : (tokens : List TokenValue) (p q : ℕ) → OverBlank tokens p q → (p ≤ q) × (q ≤ suc p)
OverBlank-order tokens p q (over blank) = (omega arith, omega arith)
OverBlank-order tokens p q (stays free gap) = (omega arith, omega arith)

-- what it leads over, by where it leads
OverBlank-was : (tokens : List TokenValue) (p q : ℕ) → OverBlank tokens p q
    → ((suc p ≡ q) × IsTrue (is_blank_at (spelling_of tokens) p))
    ⊎ ((p ≡ q) × (IsAfterBlank (spelling_of tokens) p → ⊥))
OverBlank-was tokens p q (over blank) = inl (refl, blank)
OverBlank-was tokens p q (stays free gap) = inr (refl, free)

pub OverBlank-one : (tokens : List TokenValue) (p r q : ℕ) → OverBlank tokens p q → OverBlank tokens r q → p ≡ r
OverBlank-one tokens p r q first second =
    elim (OverBlank-was tokens p q first) [
      | inl a ↦ elim (OverBlank-was tokens r q second) [
        | inl b ↦ omega (arith, a.0, b.0)
        | inr b ↦ absurd (b.1 (p, b.0 ∙ sym a.0, a.1))
      ]
      | inr a ↦ elim (OverBlank-was tokens r q second) [
        | inl b ↦ absurd (a.1 (r, a.0 ∙ sym b.0, b.1))
        | inr b ↦ a.0 ∙ sym b.0
      ]
    ]

pub OverBlank-twice : (tokens : List TokenValue) (p r q : ℕ) → AreTexts tokens → OverBlank tokens r q
    → OverBlank tokens p r → p ≡ r
OverBlank-twice tokens p r q are second first =
    elim (OverBlank-was tokens p r first) [
      | inl a ↦ elim (OverBlank-was tokens r q second) [
        | inl b ↦ absurd (blank_apart tokens p r are a.1 a.0 b.1)
        | inr b ↦ absurd (b.1 (p, sym a.0, a.1))
      ]
      | inr a ↦ a.0
    ]
