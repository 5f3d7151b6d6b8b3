-- Neighbouring bytes of a text of simple characters, and the letters that are spelled in their place.
use Rattle.std.proofs.Common.{◌≡◌, ℕ, zero, suc, ◌+◌, ◌/◌, ◌%◌, ◌<◌, ◌≤◌, true, false, ◌==◌, List, [], ◌∷◌, ◌++◌, length, map, get_or, inl, inr, refl, sym, ap, ◌∙◌, arith, subst, eqb-true, eq-eqb}
use Rattle.std.specs.Prelude.{encode_utf8_all}
use Rattle.std.specs.Char.{len_utf8}
use Rattle.std.proofs.lemmas.Bool.{cases_lt}
use Rattle.std.proofs.lemmas.List.{length-map, length-replicate, get_or-replicate}
use Rattle.std.proofs.lemmas.Str.{encode_ascii, length-encode}
use Rattle.lic_letters.specs.Bytes as bytes
use Rattle.lic_letters.specs.Bytes.{letter}
use Rattle.lic_columns.specs.Marks.{HaveLetters}
use Rattle.lic_columns.specs.Masks.{flag_at}
use Rattle.lic_letters.specs.Simple.{AreSimple, in_place, all_in_place}
use Rattle.lic_columns.proofs.WideTexts.{shape_of, AsciiShape, PlainShape, MarkShape}
use Rattle.lic_letters.proofs.InPlace.{offsets_size}
use Rattle.lic_letters.proofs.FirstBytes.{encoded_two, encoded_three, encoded_four, Starts, starts}
use Rattle.lic_columns.proofs.WideMarks.{wide_lead, is_big}

-- the next byte, where it is a mark and the same as this, has one letter with it
abbrev SameLetter : ℕ → ℕ → List ℕ → List ℕ → Type 0
SameLetter b d source spelled =
    bytes.is_mark (get_or spelled 0 0) ≡ true → (b == get_or source 0 0) ≡ true → (letter d == letter (get_or spelled 0 0)) ≡ true

abbrev AreAlike : List ℕ → List ℕ → Type 0
AreAlike [] spelled = Unit {0}
AreAlike (b ∷ source) [] = Unit {0}
AreAlike (b ∷ source) (d ∷ spelled) = SameLetter b d source spelled × AreAlike source spelled

-- a byte of ASCII is spelled by itself
abbrev FirstIs : List ℕ → List ℕ → Type 0
FirstIs source spelled = get_or source 0 0 < 128 → bytes.is_mark (get_or spelled 0 0) ≡ true → get_or spelled 0 0 ≡ get_or source 0 0

-- ---- neighbours of another byte

apart : (b d : ℕ) (source spelled : List ℕ) → 128 ≤ b → b < 192 → Starts source → SameLetter b d source spelled
apart b d [] spelled low high h = λ mark same. absurd (let e : b ≡ 0 = eqb-true b 0 same in omega (arith, e))
apart b d (n ∷ source) spelled low high h = λ mark same. absurd (elim h [
  | inl small ↦ let e : b ≡ n = eqb-true b n same in omega (arith, e, small)
  | inr large ↦ let e : b ≡ n = eqb-true b n same in omega (arith, e, large)
])

other : (b n d : ℕ) (source spelled : List ℕ) → (b ≡ n → ⊥) → SameLetter b d (n ∷ source) spelled
other b n d source spelled h = λ mark same. absurd (h (eqb-true b n same))

no_mark : (b d p : ℕ) (source spelled : List ℕ) → bytes.is_mark p ≡ false → SameLetter b d source (p ∷ spelled)
no_mark b d p source spelled none = λ mark same. absurd (let e : true ≡ false = sym mark ∙ none in cc)

one_letter : (b d p : ℕ) (source spelled : List ℕ) → letter d ≡ letter p → SameLetter b d source (p ∷ spelled)
one_letter b d p source spelled e = λ mark same. eq-eqb (letter d) (letter p) e

-- ---- characters

abbrev text_of : List ℕ → List ℕ
text_of = encode_utf8_all

wide_large : (c : ℕ) (cs : List ℕ) → 128 ≤ c → get_or (text_of (c ∷ cs)) 0 0 < 128 → ⊥
wide_large c cs big small =
    let lead = wide_lead c big in
    let e : get_or (text_of (c ∷ cs)) 0 0 ≡ lead.0 = ap (λ l. get_or (l ++ text_of cs) 0 0) lead.2 in
    omega (arith, e, lead.3, small)

first_is : (cs : List ℕ) → AreSimple cs → FirstIs (text_of cs) (all_in_place cs)
first_is [] are = λ small mark. refl
first_is (c ∷ cs) are = elim (shape_of c are.0) [
  | inl ascii ↦ subst (λ l. FirstIs (l ++ text_of cs) (all_in_place (c ∷ cs))) (sym (encode_ascii c ascii.small))
      (subst (λ l. FirstIs (c ∷ text_of cs) (l ++ all_in_place cs)) (sym ascii.own) (λ small mark. refl))
  | inr wide ↦ λ small mark. absurd (wide_large c cs (is_big c wide) small)
]

ascii_same : (c : ℕ) (source spelled : List ℕ) → c < 128 → FirstIs source spelled → SameLetter c c source spelled
ascii_same c source spelled small first = λ mark same.
    let e : c ≡ get_or source 0 0 = eqb-true c (get_or source 0 0) same in
    let low : get_or source 0 0 < 128 = omega (arith, e, small) in
    eq-eqb (letter c) (letter (get_or spelled 0 0)) (ap letter (e ∙ sym (first low mark)))

two_of : (t : List ℕ) → length t ≡ 2 → (p : ℕ) × (q : ℕ) × (t ≡ p ∷ q ∷ [])
two_of [] e = absurd (omega (arith, e))
two_of (p ∷ []) e = absurd (omega (arith, e))
two_of (p ∷ q ∷ []) e = (p, q, refl)
two_of (p ∷ q ∷ r ∷ t) e = absurd (omega (arith, e))

three_of : (t : List ℕ) → length t ≡ 3 → (p : ℕ) × (q : ℕ) × (r : ℕ) × (t ≡ p ∷ q ∷ r ∷ [])
three_of [] e = absurd (omega (arith, e))
three_of (p ∷ t) e = let more = two_of t (omega (arith, e)) in (p, more.0, more.1, ap (λ l. p ∷ l) more.2)

four_of : (t : List ℕ) → length t ≡ 4 → (p : ℕ) × (q : ℕ) × (r : ℕ) × (s : ℕ) × (t ≡ p ∷ q ∷ r ∷ s ∷ [])
four_of [] e = absurd (omega (arith, e))
four_of (p ∷ t) e = let more = three_of t (omega (arith, e)) in (p, more.0, more.1, more.2, ap (λ l. p ∷ l) more.3)

-- what is spelled in place of a character goes on as its first byte does
abbrev Goes : ℕ → ℕ → ℕ → Type 0
Goes b d p = (source spelled : List ℕ) → SameLetter b d source (p ∷ spelled)

module _ (c : ℕ) (cs : List ℕ) (rest : AreAlike (text_of cs) (all_in_place cs)) where
  abbrev Step : Type 0
  Step = AreAlike (text_of (c ∷ cs)) (all_in_place (c ∷ cs))

  ends : (b d : ℕ) → 128 ≤ b → b < 192 → SameLetter b d (text_of cs) (all_in_place cs)
  ends b d low high = apart b d (text_of cs) (all_in_place cs) low high (starts cs)

  two_step : 128 ≤ c → c < 2048 → (p q : ℕ) → in_place c ≡ p ∷ q ∷ [] → ((b : ℕ) → Goes b p q) → Step
  two_step big small p q own goes =
      let b = 128 + c % 64 in
      subst (λ l. AreAlike (l ++ text_of cs) (all_in_place (c ∷ cs))) (sym (encoded_two c big small))
      (subst (λ l. AreAlike ((192 + c / 64) ∷ b ∷ text_of cs) (l ++ all_in_place cs)) (sym own)
      (goes (192 + c / 64) (b ∷ text_of cs) (all_in_place cs), (ends b q (omega arith) (omega arith), rest)))

  three_step : 2048 ≤ c → c < 65536 → (p q r : ℕ) → in_place c ≡ p ∷ q ∷ r ∷ [] → ((b : ℕ) → Goes b p q) → ((b : ℕ) → Goes b q r) → Step
  three_step big small p q r own first second =
      let a = 224 + c / 4096 in
      let b = 128 + c / 64 % 64 in
      let d = 128 + c % 64 in
      subst (λ l. AreAlike (l ++ text_of cs) (all_in_place (c ∷ cs))) (sym (encoded_three c big small))
      (subst (λ l. AreAlike (a ∷ b ∷ d ∷ text_of cs) (l ++ all_in_place cs)) (sym own)
      (first a (b ∷ d ∷ text_of cs) (r ∷ all_in_place cs), (second b (d ∷ text_of cs) (all_in_place cs), (ends d r (omega arith) (omega arith), rest))))

  four_step : 65536 ≤ c → (p q r s : ℕ) → in_place c ≡ p ∷ q ∷ r ∷ s ∷ [] → ((b : ℕ) → Goes b p q) → ((b : ℕ) → Goes b q r) → ((b : ℕ) → Goes b r s) → Step
  four_step big p q r s own first second third =
      let a = 240 + c / 262144 in
      let b = 128 + c / 4096 % 64 in
      let d = 128 + c / 64 % 64 in
      let e = 128 + c % 64 in
      subst (λ l. AreAlike (l ++ text_of cs) (all_in_place (c ∷ cs))) (sym (encoded_four c big))
      (subst (λ l. AreAlike (a ∷ b ∷ d ∷ e ∷ text_of cs) (l ++ all_in_place cs)) (sym own) (
        first a (b ∷ d ∷ e ∷ text_of cs) (r ∷ s ∷ all_in_place cs),
        (
          second b (d ∷ e ∷ text_of cs) (s ∷ all_in_place cs),
          (third d (e ∷ text_of cs) (all_in_place cs), (ends e s (omega arith) (omega arith), rest)),
        ),
      ))

  -- how the bytes in place of a character go on, whatever their number is
  wide_step : 128 ≤ c → length (in_place c) ≡ len_utf8 c
      → ((k : ℕ) → suc k < length (in_place c) → (b : ℕ) → Goes b (get_or (in_place c) k 0) (get_or (in_place c) (suc k) 0)) → Step
  wide_step big size goes = elim (cases_lt c 2048) [
    | inl small ↦
        let two : length (in_place c) ≡ 2 = size ∙ sym (length-encode c) ∙ ap length (encoded_two c big small) in
        let t = two_of (in_place c) two in
        two_step big small t.0 t.1 t.2
        (subst (λ l. (b : ℕ) → Goes b (get_or l 0 0) (get_or l 1 0)) t.2 (goes 0 (omega (arith, two))))
    | inr more ↦ elim (cases_lt c 65536) [
      | inl small ↦
          let three : length (in_place c) ≡ 3 = size ∙ sym (length-encode c) ∙ ap length (encoded_three c more small) in
          let t = three_of (in_place c) three in
          three_step more small t.0 t.1 t.2 t.3
          (subst (λ l. (b : ℕ) → Goes b (get_or l 0 0) (get_or l 1 0)) t.3 (goes 0 (omega (arith, three))))
          (subst (λ l. (b : ℕ) → Goes b (get_or l 1 0) (get_or l 2 0)) t.3 (goes 1 (omega (arith, three))))
      | inr most ↦
          let four : length (in_place c) ≡ 4 = size ∙ sym (length-encode c) ∙ ap length (encoded_four c most) in
          let t = four_of (in_place c) four in
          four_step most t.0 t.1 t.2 t.3 t.4
          (subst (λ l. (b : ℕ) → Goes b (get_or l 0 0) (get_or l 1 0)) t.4 (goes 0 (omega (arith, four))))
          (subst (λ l. (b : ℕ) → Goes b (get_or l 1 0) (get_or l 2 0)) t.4 (goes 1 (omega (arith, four))))
          (subst (λ l. (b : ℕ) → Goes b (get_or l 2 0) (get_or l 3 0)) t.4 (goes 2 (omega (arith, four))))
    ]
  ]

  plain_step : PlainShape c → Step
  plain_step is = wide_step is.big is.size
      (λ k lt b source spelled. no_mark b (get_or (in_place c) k 0) (get_or (in_place c) (suc k) 0) source spelled (is.plain (suc k) lt))

  mark_step : MarkShape c → Step
  mark_step is =
      let size : length (in_place c) ≡ len_utf8 c = ap length is.own ∙ length-replicate (len_utf8 c) is.letter in
      let at = λ (k : ℕ) (lt : k < length (in_place c)).
      ap (λ l. letter (get_or l k 0)) is.own ∙ ap letter (get_or-replicate (len_utf8 c) k is.letter 0 (omega (arith, lt, size))) in
      wide_step is.big size (λ k lt b source spelled.
      one_letter b (get_or (in_place c) k 0) (get_or (in_place c) (suc k) 0) source spelled (at k (omega (arith, lt)) ∙ sym (at (suc k) lt)))

  ascii_step : AreSimple cs → AsciiShape c → Step
  ascii_step are is =
      subst (λ l. AreAlike (l ++ text_of cs) (all_in_place (c ∷ cs))) (sym (encode_ascii c is.small))
      (subst (λ l. AreAlike (c ∷ text_of cs) (l ++ all_in_place cs)) (sym is.own)
      (ascii_same c (text_of cs) (all_in_place cs) is.small (first_is cs are), rest))

all_alike : (cs : List ℕ) → AreSimple cs → AreAlike (text_of cs) (all_in_place cs)
all_alike [] are = tt
all_alike (c ∷ cs) are = elim (shape_of c are.0) [
  | inl ascii ↦ ascii_step c cs (all_alike cs are.2) are.2 ascii
  | inr wide ↦ elim wide [
    | inl plain ↦ plain_step c cs (all_alike cs are.2) plain
    | inr mark ↦ mark_step c cs (all_alike cs are.2) mark
  ]
]

alike_at : (source spelled : List ℕ) → length source ≡ length spelled → AreAlike source spelled → (k : ℕ) → flag_at (map bytes.is_mark spelled) (suc k) ≡ true
    → (get_or source k 0 == get_or source (suc k) 0) ≡ true → (get_or (map letter spelled) k 0 == get_or (map letter spelled) (suc k) 0) ≡ true
alike_at [] [] size h k mark same = refl
alike_at [] (d ∷ spelled) size h k mark same = absurd (omega (arith, size))
alike_at (b ∷ source) [] size h k mark same = absurd (omega (arith, size))
alike_at (b ∷ source) (d ∷ []) size h zero mark same = absurd (let e : false ≡ true = mark in cc)
alike_at (b ∷ source) (d ∷ p ∷ spelled) size h zero mark same = h.0 mark same
alike_at (b ∷ source) (d ∷ spelled) size h (suc k) mark same = alike_at source spelled (omega (arith, size)) h.1 k mark same

-- the letters of what is spelled are such as the tokens of columns ask
pub simple_letters : (cs : List ℕ) → AreSimple cs
    → HaveLetters (text_of cs) (map letter (all_in_place cs)) (map bytes.is_mark (all_in_place cs))
simple_letters cs are = record {
  long = length-map (all_in_place cs) letter ∙ sym (offsets_size cs are);
  alike = alike_at (text_of cs) (all_in_place cs) (offsets_size cs are) (all_alike cs are);
}
