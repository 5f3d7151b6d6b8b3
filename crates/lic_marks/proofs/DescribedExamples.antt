-- The test whether an expression describes a list of tokens, computed on a few rows.
use Rattle.std.proofs.Common.{◌≡◌, true, false, [], ◌∷◌, Some, None, refl}
use Rattle.lic_kind.specs.Kinds.{kind_of}
use Rattle.lic_words.specs.Expressions.{Expression, empty, one, cat, alt, repeat, tidy, letter, letters}
use Rattle.lic_marks.specs.Deciding.{is_described}

-- 'a' or nothing
abbrev a_or_nothing : Expression
a_or_nothing = alt (letter 0x61) empty

optional-there : is_described a_or_nothing ((0x61 ∷ []) ∷ []) ≡ true
unfolding kind_of
optional-there = refl

-- the empty list of tokens is never described
optional-nothing : is_described a_or_nothing [] ≡ false
optional-nothing = refl

optional-other : is_described a_or_nothing ((0x62 ∷ []) ∷ []) ≡ false
unfolding kind_of
optional-other = refl

optional-twice : is_described a_or_nothing ((0x61 ∷ []) ∷ (0x61 ∷ []) ∷ []) ≡ false
unfolding kind_of
optional-twice = refl

-- one letter or more, no blank first, none last, no two together
abbrev any_tidy : Expression
any_tidy = tidy (repeat 1 None (one (λ c. true)))

-- 'ab'
tidy-token : is_described any_tidy ((0x61 ∷ 0x62 ∷ []) ∷ []) ≡ true
unfolding kind_of
tidy-token = refl

-- 'ab' and 'c', as in 'ab c'
tidy-tokens : is_described any_tidy ((0x61 ∷ 0x62 ∷ []) ∷ (0x63 ∷ []) ∷ []) ≡ true
unfolding kind_of
tidy-tokens = refl

-- two words that only a blank parts
abbrev two_words : Expression
two_words = letters (0x61 ∷ 0x20 ∷ 0x62 ∷ [])

words-apart : is_described two_words ((0x61 ∷ []) ∷ (0x62 ∷ []) ∷ []) ≡ true
unfolding kind_of
words-apart = refl

words-together : is_described two_words ((0x61 ∷ 0x62 ∷ []) ∷ []) ≡ false
unfolding kind_of
words-together = refl

-- blanks at the beginning and at the end make no difference
blanks-around : is_described (letters (0x20 ∷ 0x20 ∷ 0x61 ∷ 0x20 ∷ [])) ((0x61 ∷ []) ∷ []) ≡ true
unfolding kind_of
blanks-around = refl

-- 'a', three blanks and 'b'
abbrev far_apart : Expression
far_apart = cat (letter 0x61) (cat (repeat 3 (Some 3) (letter 0x20)) (letter 0x62))

blanks-apart : is_described far_apart ((0x61 ∷ []) ∷ (0x62 ∷ []) ∷ []) ≡ true
unfolding kind_of
blanks-apart = refl

blanks-together : is_described far_apart ((0x61 ∷ 0x62 ∷ []) ∷ []) ≡ false
unfolding kind_of
blanks-together = refl
