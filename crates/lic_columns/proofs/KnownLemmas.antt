-- What is known of bytes, block by block.
use Rattle.std.proofs.Common.{◌≡◌, ℕ, ◌^◌, ◌<◌, ◌≤◌, Bool, false, List, ◌++◌, map, length, take, get_or, refl, ap, sym, ◌∙◌, subst, inl, inr, arith}
use Rattle.std.proofs.lemmas.Bool.{cases_lt}
use Rattle.std.proofs.lemmas.List.{get_or-map, get_or_past, get_or-take, length-map, length-take-le, map-append, get_or_default}
use Rattle.lic_kind.specs.Kinds.{kind_of}
use Rattle.lic_letters.specs.Bytes.{letter, is_word, is_mark, is_feed}
use Rattle.lic_columns.specs.Masks.{flag_at, IsMask}
use Rattle.lic_columns.specs.Flags.{bits_of}
use Rattle.lic_columns.specs.Known.{Known, HasLength, known_of, followed_by}
use Rattle.lic_columns.proofs.MaskLemmas.{mask-lt}
use Rattle.lic_columns.proofs.FlagLemmas.{bits_of-mask}

-- a blank is of no kind that has a flag
pub blank_is_none : (is_word 32 ≡ false) × (is_mark 32 ≡ false) × (is_feed 32 ≡ false)
unfolding kind_of
blank_is_none = (refl, refl, refl)

flag_at-map : (p : ℕ → Bool) (bytes : List ℕ) (k : ℕ) → p 32 ≡ false → flag_at (map p bytes) k ≡ p (get_or bytes k 32)
flag_at-map p bytes k none = elim (cases_lt k (length bytes)) [
  | inl inside ↦ get_or-map p bytes k 32 false inside
  | inr past ↦ get_or_past (map p bytes) k false (omega (arith, length-map bytes p)) ∙ sym (ap p (get_or_past bytes k 32 past) ∙ none)
]

module _ (p : ℕ → Bool) (none : p 32 ≡ false) (bytes : List ℕ) (long : length bytes ≡ 64) (count : ℕ) (small : count ≤ 64)
    (blank : (k : ℕ) → count ≤ k → k < 64 → get_or bytes k 0 ≡ 32) (mask : ℕ) (is : IsMask mask (map p bytes)) where
  -- the mask is that of the bytes before the blanks
  part_mask : IsMask mask (map p (take count bytes))
  part_mask = record {
    bit = λ k. is.bit k ∙ flag_at-map p bytes k none ∙ elim (cases_lt k count) [
      | inl low ↦ ap p (sym (get_or-take count bytes k 32 low))
      | inr high ↦ ap p (blank_at k high ∙ sym (get_or_past (take count bytes) k 32 (omega (arith, length-take-le count bytes (omega arith)))))
    ] ∙ sym (flag_at-map p (take count bytes) k none);
  }
    where
      blank_at : (k : ℕ) → count ≤ k → get_or bytes k 32 ≡ 32
      blank_at k high = elim (cases_lt k 64) [
        | inl inside ↦ get_or_default bytes k 32 0 (omega arith) ∙ blank k high inside
        | inr past ↦ get_or_past bytes k 32 (omega arith)
      ]

  part_length : length (map p (take count bytes)) ≡ count
  part_length = length-map (take count bytes) p ∙ length-take-le count bytes (omega arith)

  pub part_fits : mask < 2 ^ count
  part_fits = subst (λ n. mask < 2 ^ n) part_length (mask-lt mask (map p (take count bytes)) part_mask)

  pub part_bits : bits_of count mask ≡ map p (take count bytes)
  part_bits = bits_of-mask mask (map p (take count bytes)) count part_mask part_length

-- ---- the record

abbrev pub made : List ℕ → List Bool → List Bool → List Bool → Known
made letters word mark feed = record { letters = letters; word = word; mark = mark; feed = feed }

pub same_known : {l l' : List ℕ} {w w' m m' f f' : List Bool} → l ≡ l' → w ≡ w' → m ≡ m' → f ≡ f' → made l w m f ≡ made l' w' m' f'
same_known {l = l} {l' = l'} {w = w} {w' = w'} {m = m} {m' = m'} {f = f} {f' = f'} a b c d =
    ap (λ x. made x w m f) a ∙ ap (λ x. made l' x m f) b ∙ ap (λ x. made l' w' x f) c ∙ ap (λ x. made l' w' m' x) d

pub known_of-append : (one two : List ℕ) → followed_by (known_of one) (known_of two) ≡ known_of (one ++ two)
known_of-append one two = same_known
    (sym (map-append letter one two)) (sym (map-append is_word one two)) (sym (map-append is_mark one two)) (sym (map-append is_feed one two))

pub HasLength-known_of : (bytes : List ℕ) → HasLength (length bytes) (known_of bytes)
HasLength-known_of bytes = record {
  letters = length-map bytes letter;
  word = length-map bytes is_word;
  mark = length-map bytes is_mark;
  feed = length-map bytes is_feed;
}
