-- No token ends between letters of words: a blank would be between them.
use Rattle.std.proofs.Common.{◌≡◌, ℕ, suc, ◌+◌, ◌-◌, ◌<◌, ◌&&◌, inl, inr, Bool, true, IsTrue, List, [], length, get_or, drop, sym, ap, ap₂, ◌∙◌, arith}
use Rattle.std.specs.Str.{IsUtf8}
use Rattle.std.proofs.lemmas.Bool.{cases_Bool, cases_lt, eqb-true, true≢false}
use Rattle.std.proofs.lemmas.List.{get_or-drop, get_or_append_left}
use Rattle.lic_kind.specs.Kinds.{is_word_kind, kind_of}
use Rattle.lic_phrases.specs.Spelling.{blank_if, is_parted, is_parted_at}
use Rattle.lic_tokens.specs.Tokens.{TokenValue}
use Rattle.lic_tokens.specs.Places.{IsTokenEnd, place_end, place_start, texts_of}
use Rattle.lic_tokens.proofs.PartedLemmas.{begins-ascii, ends-ascii}
use Rattle.lic_places.specs.Places.{AreTexts, Occurs, spelling_of}
use Rattle.lic_places.proofs.Occurring.{Occurs-drop}
use Rattle.lic_places.proofs.TieEnds.{text-utf8}
use Rattle.lic_places.proofs.TokenPlaces.{blank-between, place_end-last, place_start-next, place_start-text, text_token}
use Rattle.lic_view.specs.Views.{IsWordByte}

-- a byte of what occurs
byte_of : (bytes text : List ℕ) (p q n : ℕ) → Occurs bytes p text q → n < length text → get_or text n 0 ≡ get_or bytes (p + n) 0
byte_of bytes text p q n occurs within =
    sym (get_or_append_left text (drop q bytes) 0 n within)
    ∙ (ap (λ l. get_or l n 0) (sym (Occurs-drop bytes p text q occurs)) ∙ get_or-drop p bytes n 0)

-- the letters that meet are of ASCII
ascii_parted : (spelling text : List ℕ) (n : ℕ) (a b : Bool) → IsUtf8 spelling → IsUtf8 text → n + 1 ≡ length spelling → 0 < length text
    → get_or spelling n 0 < 128 → get_or text 0 0 < 128 → a ≡ is_word_kind (kind_of (get_or spelling n 0))
    → b ≡ is_word_kind (kind_of (get_or text 0 0)) → (a && b) ≡ is_parted spelling text
ascii_parted spelling text n a b spelling_utf8 text_utf8 count some last first is_a is_b =
    ap₂ (λ x y. x && y) (is_a ∙ ends-ascii spelling n spelling_utf8 count last) (is_b ∙ begins-ascii text text_utf8 some first)

-- the blank is no word character
blank_no_word : (byte : ℕ) → byte ≡ 0x20 → IsTrue (is_word_kind (kind_of byte)) → ⊥
unfolding kind_of
blank_no_word byte is word = true≢false (sym word ∙ ap (λ b. is_word_kind (kind_of b)) is)

module _ (tokens : List TokenValue) (place : ℕ) (are : AreTexts tokens) (inside : place < length (spelling_of tokens))
    (before : IsWordByte (get_or (spelling_of tokens) (place - 1) 0)) (here : IsWordByte (get_or (spelling_of tokens) place 0)) where
  -- another token comes after one that ends there
  another : (i : ℕ) → i < length tokens → place ≡ place_end tokens i → suc i < length tokens
  another i within at =
      elim (cases_lt (suc i) (length tokens)) [
        | inl more ↦ more
        | inr last ↦
            let e : place_end tokens i ≡ length (spelling_of tokens) = place_end-last tokens i (omega (arith, within, last)) in
            absurd (omega (arith, e, at, inside))
      ]

  -- words touch there
  touch : (i : ℕ) → i < length tokens → suc i < length tokens → place ≡ place_end tokens i → place ≡ place_start tokens (suc i)
      → true ≡ is_parted_at (texts_of tokens) (suc i)
  touch i within more ends starts =
      let text = get_or (texts_of tokens) i [] in
      let next = get_or (texts_of tokens) (suc i) [] in
      let some = (text_token tokens i are within).not_empty in
      let some_next = (text_token tokens (suc i) are more).not_empty in
      let occurs = place_start-text tokens i within in
      let occurs_next = place_start-text tokens (suc i) more in
      let last : get_or text (length text - 1) 0 ≡ get_or (spelling_of tokens) (place - 1) 0 =
      byte_of (spelling_of tokens) text (place_start tokens i) (place_end tokens i) (length text - 1) occurs (omega (arith, some))
      ∙ ap (λ n. get_or (spelling_of tokens) n 0) (omega (arith, some, ends, occurs.0)) in
      let first : get_or next 0 0 ≡ get_or (spelling_of tokens) place 0 =
      byte_of (spelling_of tokens) next (place_start tokens (suc i)) (place_end tokens (suc i)) 0 occurs_next (omega (arith, some_next))
      ∙ ap (λ n. get_or (spelling_of tokens) n 0) (omega (arith, starts)) in
      ascii_parted text next (length text - 1) true true (text-utf8 tokens i are within) (text-utf8 tokens (suc i) are more)
      (omega (arith, some)) (omega (arith, some_next)) (omega (arith, before.0, last)) (omega (arith, here.0, first))
      (sym before.1 ∙ ap (λ b. is_word_kind (kind_of b)) (sym last)) (sym here.1 ∙ ap (λ b. is_word_kind (kind_of b)) (sym first))

  pub no_end : ¬ (IsTokenEnd tokens place)
  no_end end =
      let more = another end.number end.within end.ends in
      let parted = is_parted_at (texts_of tokens) (suc end.number) in
      elim (cases_Bool parted) [
        | inl is ↦
            let blank : get_or (spelling_of tokens) (place_end tokens end.number) 0 ≡ 0x20 = eqb-true _ _ (blank-between tokens end.number more is) in
            blank_no_word _ (ap (λ n. get_or (spelling_of tokens) n 0) end.ends ∙ blank) here.1
        | inr is ↦
            let next : place_start tokens (suc end.number) ≡ place_end tokens end.number + 0 =
            place_start-next tokens end.number more ∙ ap (λ b. place_end tokens end.number + length (blank_if b)) is in
            true≢false (touch end.number end.within more end.ends (omega (arith, next, end.ends)) ∙ is)
      ]
