-- Two texts, `a b` and `a-b`: where their tokens are, and words that spell them.
use Rattle.std.proofs.Common.{◌≡◌, ℕ, zero, suc, true, false, List, [], ◌∷◌, inl, inr, get_or, refl, sym, ap, ◌∙◌, arith, IsTrue}
use Rattle.std.proofs.lemmas.Bool.{true≢false}
use Rattle.std.specs.Char.{encode_utf8}
use Rattle.std.specs.Str.{chars}
use Rattle.lic_kind.specs.Kinds.{kind_of}
use Rattle.lic_tokens.specs.Tokens.{TokenValue}
use Rattle.lic_tokens.specs.Places.{place_start, place_end}
use Rattle.lic_places.specs.Places.{IsAfterBlank, OverBlank, is_blank_at, spelling_of}
use Rattle.lic_places.specs.Places.OverBlank.{over, stays}
use Rattle.lic_places.specs.Reads.{Takes, Reads, ReadsTokens}
use Rattle.lic_places.proofs.Occurring.{Occurs-first}

abbrev token : List ℕ → ℕ → ℕ → TokenValue
token text start end = record { text = text; span = record { start = start; end = end } }

-- the tokens of `a b`
abbrev parted : List TokenValue
parted = token (0x61 ∷ []) 0 1 ∷ token (0x62 ∷ []) 2 3 ∷ []

-- those of `a-b`
abbrev marked : List TokenValue
marked = token (0x61 ∷ []) 0 1 ∷ token (0x2D ∷ []) 1 2 ∷ token (0x62 ∷ []) 2 3 ∷ []

-- ---- spelling

spelling-parted : spelling_of parted ≡ 0x61 ∷ 0x20 ∷ 0x62 ∷ []
unfolding kind_of chars
spelling-parted = refl

spelling-marked : spelling_of marked ≡ 0x61 ∷ 0x2D ∷ 0x62 ∷ []
unfolding kind_of chars
spelling-marked = refl

-- ---- places

parted-places : (place_start parted 0 ≡ 0) × (place_end parted 0 ≡ 1) × (place_start parted 1 ≡ 2) × (place_end parted 1 ≡ 3)
unfolding kind_of chars place_start place_end
parted-places = (refl, refl, refl, refl)

marked-places : (place_end marked 0 ≡ 1) × (place_start marked 1 ≡ 1) × (place_end marked 1 ≡ 2) × (place_start marked 2 ≡ 2)
unfolding kind_of chars place_start place_end
marked-places = (refl, refl, refl, refl)

parted-blanks : (is_blank_at (spelling_of parted) 1 ≡ true) × (is_blank_at (spelling_of parted) 2 ≡ false)
unfolding kind_of chars
parted-blanks = (refl, refl)

-- ---- where blanks of words lead

-- no blank comes before the second byte where the first is none
begins_in_letter : (bytes : List ℕ) → is_blank_at bytes 0 ≡ false → IsAfterBlank bytes 1 → ⊥
begins_in_letter bytes first after = by_place after.0 after.1 after.2
  where
    by_place : (p : ℕ) → 1 ≡ suc p → IsTrue (is_blank_at bytes p) → ⊥
    by_place zero e blank = true≢false (sym blank ∙ first)
    by_place (suc p) e blank = omega (arith, e)

-- over the blank of `a b`, or nowhere before it
over-parted : OverBlank parted 1 2
unfolding kind_of chars
over-parted = over refl

stays-parted : OverBlank parted 1 1
unfolding kind_of chars
stays-parted = stays (begins_in_letter (spelling_of parted) refl) (inr (inl refl))

-- in `a-b` nowhere, and it may be wherever a token ends
stays-marked : OverBlank marked 1 1
unfolding kind_of chars place_end
stays-marked = stays (begins_in_letter (spelling_of marked) refl)
    (inr (inr (record { number = 0; within = omega arith; ends = refl })))

-- ---- words

a-parted : Takes parted 0 0x61 1
unfolding kind_of chars encode_utf8
a-parted = inr (λ e. omega (arith, e), refl, (refl, refl))

b-parted : Takes parted 2 0x62 3
unfolding kind_of chars encode_utf8
b-parted = inr (λ e. omega (arith, e), refl, (refl, refl))

a-marked : Takes marked 0 0x61 1
unfolding kind_of chars encode_utf8
a-marked = inr (λ e. omega (arith, e), refl, (refl, refl))

mark-marked : Takes marked 1 0x2D 2
unfolding kind_of chars encode_utf8
mark-marked = inr (λ e. omega (arith, e), refl, (refl, refl))

b-marked : Takes marked 2 0x62 3
unfolding kind_of chars encode_utf8
b-marked = inr (λ e. omega (arith, e), refl, (refl, refl))

-- `a  b` spells `a b`: the first blank leads nowhere, the second over the blank of the text
two_blanks : Reads parted 0 (0x61 ∷ 0x20 ∷ 0x20 ∷ 0x62 ∷ []) 3
two_blanks = (1, a-parted, (1, inl (refl, stays-parted), (2, inl (refl, over-parted), (3, b-parted, refl))))

-- `a -b` spells `a-b`
blank_at_mark : Reads marked 0 (0x61 ∷ 0x20 ∷ 0x2D ∷ 0x62 ∷ []) 3
blank_at_mark = (1, a-marked, (1, inl (refl, stays-marked), (2, mark-marked, (3, b-marked, refl))))

-- ` b` spells the second token of `a b`: it begins at the blank before that token
begins_at_blank : ReadsTokens parted 1 (0x20 ∷ 0x62 ∷ []) 1
unfolding kind_of chars place_start place_end
begins_at_blank = (1, inr (refl, (1, refl, refl)), (2, inl (refl, over-parted), (3, b-parted, refl)))

-- `ab` spells nothing of `a b`
no_b : (p q : ℕ) → p ≡ 1 → Takes parted p 0x62 q → ⊥
unfolding kind_of chars encode_utf8
no_b p q at (inl gap) = omega (arith, gap.0)
no_b p q at (inr letter) =
    let here : 0x20 ≡ 0x62 =
    sym (ap (λ r. get_or (spelling_of parted) r 0) at) ∙ Occurs-first (spelling_of parted) p 0x62 [] q letter.2 in
    omega (arith, here)

after_a : (q : ℕ) → Takes parted 0 0x61 q → q ≡ 1
unfolding encode_utf8
after_a q (inl gap) = absurd (omega (arith, gap.0))
after_a q (inr letter) = letter.2.0

missing_blank : (q : ℕ) → Reads parted 0 (0x61 ∷ 0x62 ∷ []) q → ⊥
missing_blank q reads = no_b reads.0 reads.2.0 (after_a reads.0 reads.1) reads.2.1
