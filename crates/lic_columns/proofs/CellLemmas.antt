-- The tokens of cells by the offsets where they begin and end.
use Rattle.std.proofs.Common.{◌≡◌, ℕ, zero, suc, Bool, true, false, not, ◌&&◌, ◌||◌, List, [], ◌∷◌, length, get_or, refl, ap, sym, ◌∙◌, inl, inr, arith, cond}
use Rattle.std.proofs.lemmas.Bool.{cases_lt}
use Rattle.std.proofs.lemmas.List.{get_or_past}
use Rattle.std.proofs.lemmas.List.FromFn.{get_or-map-range_with_len, length-map-range_with_len}
use Rattle.lic_columns.specs.Masks.{flag_at, flag_before}
use Rattle.lic_columns.specs.Offsets.{offsets}
use Rattle.lic_columns.specs.Cells.{Cell, Blank, Word, Mark, Joined, cell_of, cells_of, is_blank, continues, Span, from_here, next_cell, with_cell, spans, starts_of, ends_of, is_first, is_last, firsts, lasts, AreCells}

-- ---- where tokens end

ends_from_here : (at : ℕ) (ss : List Span) → ends_of (from_here at ss) ≡ ends_of ss
ends_from_here at [] = refl
ends_from_here at (s ∷ ss) = refl

ends_with : (at : ℕ) (b more : Bool) (ss : List Span) (flags : List Bool) → offsets (suc (suc at)) flags ≡ ends_of ss
    → offsets (suc at) ((not b && not more) ∷ flags) ≡ ends_of (with_cell at b more ss)
ends_with at true more ss flags rest = rest
ends_with at false true ss flags rest = rest ∙ sym (ends_from_here at ss)
ends_with at false false ss flags rest = ap (λ l. suc at ∷ l) rest

-- the offsets after those at which tokens end
pub ends_are : (at : ℕ) (cells : List Cell) → offsets (suc at) (lasts cells) ≡ ends_of (spans at cells)
ends_are at [] = refl
ends_are at (c ∷ cells) = ends_with at (is_blank c) (continues c (next_cell cells)) (spans (suc at) cells) (lasts cells) (ends_are (suc at) cells)

-- ---- where tokens begin

starts_from_here : (at x : ℕ) (ss : List Span) (rest : List ℕ) → starts_of ss ≡ x ∷ rest → starts_of (from_here at ss) ≡ at ∷ rest
starts_from_here at x [] rest e = absurd cc
starts_from_here at x (s ∷ ss) rest e = let others : starts_of ss ≡ rest = cc in ap (λ l. at ∷ l) others

starts_with : (at : ℕ) (b on more : Bool) (ss : List Span) (flags : List Bool) → (b ≡ true → on ≡ false) → (b ≡ true → more ≡ false)
    → starts_of ss ≡ cond more (suc at ∷ offsets (suc at) flags) (offsets (suc at) flags)
    → starts_of (with_cell at b more ss) ≡ cond on (at ∷ offsets at ((not b && not on) ∷ flags)) (offsets at ((not b && not on) ∷ flags))
starts_with at true true more ss flags h k rest = absurd (let e : true ≡ false = h refl in cc)
starts_with at true false true ss flags h k rest = absurd (let e : true ≡ false = k refl in cc)
starts_with at true false false ss flags h k rest = rest
starts_with at false true true ss flags h k rest = starts_from_here at (suc at) ss (offsets (suc at) flags) rest
starts_with at false false true ss flags h k rest = starts_from_here at (suc at) ss (offsets (suc at) flags) rest
starts_with at false true false ss flags h k rest = ap (λ l. at ∷ l) rest
starts_with at false false false ss flags h k rest = ap (λ l. at ∷ l) rest

blank_before : (c d : Cell) → is_blank c ≡ true → continues c d ≡ false
blank_before Blank Blank e = refl
blank_before Blank Word e = refl
blank_before Blank Mark e = refl
blank_before Blank Joined e = refl
blank_before Word d e = absurd cc
blank_before Mark d e = absurd cc
blank_before Joined d e = absurd cc

blank_after : (before c : Cell) → is_blank c ≡ true → continues before c ≡ false
blank_after before Blank e = refl
blank_after before Word e = absurd cc
blank_after before Mark e = refl
blank_after before Joined e = absurd cc

starts_after : (before : Cell) (at : ℕ) (cells : List Cell)
    → starts_of (spans at cells) ≡ cond (continues before (next_cell cells)) (at ∷ offsets at (firsts before cells)) (offsets at (firsts before cells))
starts_after before at [] = refl
starts_after before at (c ∷ cells) =
    starts_with at (is_blank c) (continues before c) (continues c (next_cell cells)) (spans (suc at) cells) (firsts c cells)
    (blank_after before c) (blank_before c (next_cell cells)) (starts_after c (suc at) cells)

-- the offsets at which tokens begin
pub starts_are : (at : ℕ) (cells : List Cell) → offsets at (firsts Blank cells) ≡ starts_of (spans at cells)
starts_are at cells =
    sym (starts_after Blank at cells
    ∙ ap (λ t. cond t (at ∷ offsets at (firsts Blank cells)) (offsets at (firsts Blank cells))) (blank_before Blank (next_cell cells) refl))

-- ---- each cell by its neighbours

pub flag_at-lasts : (cells : List Cell) (k : ℕ) → flag_at (lasts cells) k ≡ is_last (get_or cells k Blank) (get_or cells (suc k) Blank)
flag_at-lasts [] k = refl
flag_at-lasts (c ∷ []) zero = refl
flag_at-lasts (c ∷ d ∷ cells) zero = refl
flag_at-lasts (c ∷ cells) (suc k) = flag_at-lasts cells k

pub flag_at-firsts : (before : Cell) (cells : List Cell) (k : ℕ) → flag_at (firsts before cells) (suc k) ≡ is_first (get_or cells k Blank) (get_or cells (suc k) Blank)
flag_at-firsts before [] k = refl
flag_at-firsts before (c ∷ []) zero = refl
flag_at-firsts before (c ∷ d ∷ cells) zero = refl
flag_at-firsts before (c ∷ cells) (suc k) = flag_at-firsts c cells k

pub first_of_firsts : (cells : List Cell) → flag_at (firsts Blank cells) 0 ≡ is_first Blank (get_or cells 0 Blank)
first_of_firsts [] = refl
first_of_firsts (c ∷ cells) = refl

-- ---- by the flags

first_is : (w m j v n i : Bool) → (v && n) ≡ false → (w && m) ≡ false → (i ≡ true → n ≡ true) → (i ≡ true → m ≡ true)
    → is_first (cell_of w m j) (cell_of v n i) ≡ ((v && not w) || (n && not i))
first_is w m j true true i a b h g = absurd cc
first_is true m j true false i a b h g = refl
first_is false false j true false i a b h g = refl
first_is false true true true false i a b h g = refl
first_is false true false true false i a b h g = refl
first_is w m j false false i a b h g = refl
first_is w m j false true false a b h g = refl
first_is true m j false true true a b h g = absurd (let e : m ≡ true = g refl in cc)
first_is false false j false true true a b h g = absurd (let e : false ≡ true = g refl in cc)
first_is false true true false true true a b h g = refl
first_is false true false false true true a b h g = refl

last_is : (w m j v n i : Bool) → (v && n) ≡ false → (w && m) ≡ false → (i ≡ true → n ≡ true) → (i ≡ true → m ≡ true)
    → is_last (cell_of w m j) (cell_of v n i) ≡ ((w && not v) || (m && not i))
last_is w m j true true i a b h g = absurd cc
last_is true true j v n i a b h g = absurd cc
last_is true false j true false i a b h g = refl
last_is true false j false false i a b h g = refl
last_is true false j false true false a b h g = refl
last_is true false j false true true a b h g = absurd (let e : false ≡ true = g refl in cc)
last_is false false j v n i a b h g = refl
last_is false true true true false true a b h g = absurd (let e : false ≡ true = h refl in cc)
last_is false true false true false true a b h g = absurd (let e : false ≡ true = h refl in cc)
last_is false true true true false false a b h g = refl
last_is false true false true false false a b h g = refl
last_is false true true false false true a b h g = absurd (let e : false ≡ true = h refl in cc)
last_is false true false false false true a b h g = absurd (let e : false ≡ true = h refl in cc)
last_is false true true false false false a b h g = refl
last_is false true false false false false a b h g = refl
last_is false true true false true false a b h g = refl
last_is false true false false true false a b h g = refl
last_is false true true false true true a b h g = refl
last_is false true false false true true a b h g = refl

module _ (word mark joined : List Bool) (are : AreCells word mark joined) where
  pub cell_is : (k : ℕ) → get_or (cells_of word mark joined) k Blank ≡ cell_of (flag_at word k) (flag_at mark k) (flag_at joined k)
  cell_is k = elim (cases_lt k (length word)) [
    | inl inside ↦
        get_or-map-range_with_len (λ i. cell_of (flag_at word i) (flag_at mark i) (flag_at joined i)) 0 (length word) k k Blank inside (omega arith)
    | inr past ↦
        let none_word : flag_at word k ≡ false = get_or_past word k false past in
        let none_mark : flag_at mark k ≡ false = get_or_past mark k false (omega (arith, are.within)) in
        get_or_past (cells_of word mark joined) k Blank
        (omega (arith, length-map-range_with_len (λ i. cell_of (flag_at word i) (flag_at mark i) (flag_at joined i)) 0 (length word)))
        ∙ sym (ap (λ t. cell_of t (flag_at mark k) (flag_at joined k)) none_word ∙ ap (λ t. cell_of false t (flag_at joined k)) none_mark)
  ]

  begins : (k : ℕ) → flag_at (firsts Blank (cells_of word mark joined)) (suc k)
      ≡ ((flag_at word (suc k) && not (flag_at word k)) || (flag_at mark (suc k) && not (flag_at joined (suc k))))
  begins k =
      flag_at-firsts Blank (cells_of word mark joined) k
      ∙ ap (λ c. is_first c (get_or (cells_of word mark joined) (suc k) Blank)) (cell_is k)
      ∙ ap (λ c. is_first (cell_of (flag_at word k) (flag_at mark k) (flag_at joined k)) c) (cell_is (suc k))
      ∙ first_is (flag_at word k) (flag_at mark k) (flag_at joined k) (flag_at word (suc k)) (flag_at mark (suc k)) (flag_at joined (suc k))
      (are.apart (suc k)) (are.apart k) (are.is_mark (suc k)) (are.after_mark k)

  begins_first : flag_at (firsts Blank (cells_of word mark joined)) 0 ≡ ((flag_at word 0 && true) || (flag_at mark 0 && not (flag_at joined 0)))
  begins_first =
      first_of_firsts (cells_of word mark joined) ∙ ap (λ c. is_first Blank c) (cell_is 0)
      ∙ first_is false false false (flag_at word 0) (flag_at mark 0) (flag_at joined 0) (are.apart 0) refl (are.is_mark 0)
      (λ e. absurd (let f : true ≡ false = sym e ∙ are.none_first in cc))

  pub begins_at : (k : ℕ) → flag_at (firsts Blank (cells_of word mark joined)) k
      ≡ ((flag_at word k && not (flag_before word k)) || (flag_at mark k && not (flag_at joined k)))
  begins_at zero = begins_first
  begins_at (suc k) = begins k

  pub length-cells : length (cells_of word mark joined) ≡ length word
  length-cells = length-map-range_with_len (λ i. cell_of (flag_at word i) (flag_at mark i) (flag_at joined i)) 0 (length word)

  pub ends : (k : ℕ) → flag_at (lasts (cells_of word mark joined)) k
      ≡ ((flag_at word k && not (flag_at word (suc k))) || (flag_at mark k && not (flag_at joined (suc k))))
  ends k =
      flag_at-lasts (cells_of word mark joined) k
      ∙ ap (λ c. is_last c (get_or (cells_of word mark joined) (suc k) Blank)) (cell_is k)
      ∙ ap (λ c. is_last (cell_of (flag_at word k) (flag_at mark k) (flag_at joined k)) c) (cell_is (suc k))
      ∙ last_is (flag_at word k) (flag_at mark k) (flag_at joined k) (flag_at word (suc k)) (flag_at mark (suc k)) (flag_at joined (suc k))
      (are.apart (suc k)) (are.apart k) (are.is_mark (suc k)) (are.after_mark k)

  -- which cells come right after the last of a token
  pub ended : (k : ℕ) → flag_at (false ∷ lasts (cells_of word mark joined)) k
      ≡ ((flag_before word k && not (flag_at word k)) || (flag_before mark k && not (flag_at joined k)))
  ended zero = refl
  ended (suc k) = ends k

pub length-firsts : (before : Cell) (cells : List Cell) → length (firsts before cells) ≡ length cells
length-firsts before [] = refl
length-firsts before (c ∷ cells) = ap suc (length-firsts c cells)

pub length-lasts : (cells : List Cell) → length (lasts cells) ≡ length cells
length-lasts [] = refl
length-lasts (c ∷ cells) = ap suc (length-lasts cells)
