-- The test of a set is what the set says.
use Rattle.std.proofs.Common.{◌≡◌, ℕ, ◌+◌, ◌-◌, ◌≤◌, max, min, Bool, true, false, cond, not, ◌&&◌, ◌||◌, leb, List, [], ◌∷◌, ◌⊎◌, inl, inr, refl, sym, subst, ◌∙◌, arith, eq-eqb}
use Rattle.std.specs.Prelude.{◌==◌, nat_lt}
use Rattle.std.specs.Bool.{Decides, MatchBool}
use Rattle.std.specs.List.{list_any}
use Rattle.std.specs.Int.{is_in_range}
use Rattle.std.specs.Char.{is_whitespace, is_ascii_uppercase, is_ascii_lowercase}
use Rattle.std.proofs.lemmas.List.Folds.{Any-from_list_any, list_any-from_Any}
use Rattle.std.proofs.lemmas.Bool.{false≢true, eqb-true}
use Rattle.std.proofs.lemmas.Bool.Decides.{nat_tests, Decides-not}
use Rattle.lic_kind.specs.Kinds.{is_dash, is_quote}
use Rattle.lic_ere.specs.declared.class.Member.{Member}
use Rattle.lic_ere.specs.Sets.{Brackets, image, HasImage, SomeImage, IsIn, meets, meets_any, spaces, dashes, quotes, has_image, is_in}

abbrev in_ranges : List (ℕ × ℕ) → ℕ → Bool
in_ranges ranges c = list_any (λ r. is_in_range r.0 r.1 c) ranges

in_dashes : (c : ℕ) → in_ranges dashes c ≡ is_dash c
unfolding is_dash is_quote
in_dashes c = grind (arith, nat_tests)

in_quotes : (c : ℕ) → in_ranges quotes c ≡ is_quote c
unfolding is_dash is_quote
in_quotes c = grind (arith, nat_tests)

single : (a c : ℕ) → (leb a c && leb c a) ≡ (c == a)
single a c = grind (arith, nat_tests)

or_assoc : (a b c : Bool) → (a || (b || c)) ≡ ((a || b) || c)
or_assoc true b c = refl
or_assoc false b c = refl

or_none : (b : Bool) → (b || false) ≡ b
or_none true = refl
or_none false = refl

in_spaces : (c : ℕ) → in_ranges spaces c ≡ is_whitespace c
in_spaces c =
    let tabs : is_in_range 0x9 0xD c ≡ (nat_lt 8 c && nat_lt c 14) = grind (arith, nat_tests) in
    let wide : is_in_range 0x2000 0x200A c ≡ (nat_lt 8191 c && nat_lt c 8203) = grind (arith, nat_tests) in
    let separators : is_in_range 0x2028 0x2029 c ≡ ((c == 8232) || (c == 8233)) = grind (arith, nat_tests) in
    simp (tabs, wide, separators, single, or_assoc, or_none)

-- ---- images

-- the image of a character, by what it is
data Shows (c : ℕ) : Type 0 where
  upper : is_ascii_uppercase c ≡ true → image c ≡ c + 32 → Shows c
  dash : is_ascii_uppercase c ≡ false → is_dash c ≡ true → image c ≡ 0x2D → Shows c
  quote : is_ascii_uppercase c ≡ false → is_dash c ≡ false → is_quote c ≡ true → image c ≡ 0x27 → Shows c
  space : is_ascii_uppercase c ≡ false → is_dash c ≡ false → is_quote c ≡ false → is_whitespace c ≡ true → image c ≡ 0x20 → Shows c
  other : is_ascii_uppercase c ≡ false → is_dash c ≡ false → is_quote c ≡ false → is_whitespace c ≡ false → image c ≡ c → Shows c

by_tests : (c : ℕ) (a b d e : Bool) → is_ascii_uppercase c ≡ a → is_dash c ≡ b → is_quote c ≡ d → is_whitespace c ≡ e
    → image c ≡ cond a (c + 32) (cond b 0x2D (cond d 0x27 (cond e 0x20 c))) → Shows c
by_tests c true b d e ea eb ed ee is = upper ea is
by_tests c false true d e ea eb ed ee is = dash ea eb is
by_tests c false false true e ea eb ed ee is = quote ea eb ed is
by_tests c false false false true ea eb ed ee is = space ea eb ed ee is
by_tests c false false false false ea eb ed ee is = other ea eb ed ee is

shows : (c : ℕ) → Shows c
unfolding image
shows c = by_tests c (is_ascii_uppercase c) (is_dash c) (is_quote c) (is_whitespace c) refl refl refl refl refl

-- ---- ranges

-- some character of a member passes a test
abbrev Shares : Member → (ℕ → Bool) → Type 0
Shares m test = (c : ℕ) × (m.first ≤ c) × (c ≤ m.last) × (test c ≡ true)

shares_range : (m : Member) (r : ℕ × ℕ) → meets m r ≡ true → Shares m (λ c. is_in_range r.0 r.1 c)
shares_range m r h =
    let low : max m.first r.0 ≤ min m.last r.1 = grind (arith, nat_tests) in
    let one : leb r.0 (max m.first r.0) ≡ true = grind (arith, nat_tests) in
    let two : leb (max m.first r.0) r.1 ≡ true = grind (arith, nat_tests) in
    (max m.first r.0, omega arith, omega arith, rw (one, two) refl)

meets_shared : (m : Member) (r : ℕ × ℕ) (c : ℕ) → m.first ≤ c → c ≤ m.last → is_in_range r.0 r.1 c ≡ true → meets m r ≡ true
meets_shared m r c low high h = grind (arith, nat_tests)

pub or_left : (a b : Bool) → a ≡ true → (a || b) ≡ true
or_left true b h = refl
or_left false b h = absurd (false≢true h)

pub or_right : (a b : Bool) → b ≡ true → (a || b) ≡ true
or_right true b h = refl
or_right false b h = h

pub or_cases : (a b : Bool) → (a || b) ≡ true → (a ≡ true) ⊎ (b ≡ true)
or_cases true b h = inl refl
or_cases false b h = inr h

shares_any : (m : Member) (ranges : List (ℕ × ℕ)) → meets_any m ranges ≡ true → Shares m (in_ranges ranges)
shares_any m [] h = absurd (false≢true h)
shares_any m (r ∷ rs) h =
    let others = shares_any m rs in
    elim (or_cases (meets m r) (meets_any m rs) h) [
      | inl e ↦ (let s = shares_range m r e in (s.0, s.1, s.2, or_left (is_in_range r.0 r.1 s.0) (in_ranges rs s.0) s.3))
      | inr e ↦ (let s = others e in (s.0, s.1, s.2, or_right (is_in_range r.0 r.1 s.0) (in_ranges rs s.0) s.3))
    ]

meets_any_shared : (m : Member) (ranges : List (ℕ × ℕ)) (c : ℕ) → m.first ≤ c → c ≤ m.last → in_ranges ranges c ≡ true → meets_any m ranges ≡ true
meets_any_shared m [] c low high h = absurd (false≢true h)
meets_any_shared m (r ∷ rs) c low high h =
    let others = meets_any_shared m rs c low high in
    elim (or_cases (is_in_range r.0 r.1 c) (in_ranges rs c) h) [
      | inl e ↦ or_left (meets m r) (meets_any m rs) (meets_shared m r c low high e)
      | inr e ↦ or_right (meets m r) (meets_any m rs) (others e)
    ]

-- ---- one member

-- the characters with one image are those that pass a test
abbrev Origins : ℕ → (ℕ → Bool) → Type 0
Origins letter test = (c : ℕ) → Decides (test c) (image c ≡ letter)

dash_origins : Origins 0x2D is_dash
unfolding is_dash is_quote
dash_origins c =
    elim (shows c) [
      | upper u is ↦ (λ h. absurd (grind (arith, nat_tests)), λ h. absurd (grind (arith, nat_tests)))
      | dash u d is ↦ (λ h. is, λ h. d)
      | quote u d q is ↦ (λ h. absurd (false≢true (sym d ∙ h)), λ h. absurd (omega arith))
      | space u d q s is ↦ (λ h. absurd (false≢true (sym d ∙ h)), λ h. absurd (omega arith))
      | other u d q s is ↦ (λ h. absurd (false≢true (sym d ∙ h)), λ h. absurd (grind (arith, nat_tests)))
    ]

quote_origins : Origins 0x27 is_quote
unfolding is_dash is_quote
quote_origins c =
    elim (shows c) [
      | upper u is ↦ (λ h. absurd (grind (arith, nat_tests)), λ h. absurd (grind (arith, nat_tests)))
      | dash u d is ↦ (λ h. absurd (grind (arith, nat_tests)), λ h. absurd (omega arith))
      | quote u d q is ↦ (λ h. is, λ h. q)
      | space u d q s is ↦ (λ h. absurd (false≢true (sym q ∙ h)), λ h. absurd (omega arith))
      | other u d q s is ↦ (λ h. absurd (false≢true (sym q ∙ h)), λ h. absurd (grind (arith, nat_tests)))
    ]

dash_no_space : (c : ℕ) → is_dash c ≡ true → is_whitespace c ≡ true → ⊥
unfolding is_dash is_quote
dash_no_space c d s = grind (arith, nat_tests)

quote_no_space : (c : ℕ) → is_quote c ≡ true → is_whitespace c ≡ true → ⊥
unfolding is_dash is_quote
quote_no_space c d s = grind (arith, nat_tests)

space_origins : Origins 0x20 is_whitespace
unfolding is_dash is_quote
space_origins c =
    elim (shows c) [
      | upper u is ↦ (λ h. absurd (grind (arith, nat_tests)), λ h. absurd (grind (arith, nat_tests)))
      | dash u d is ↦ (λ h. absurd (dash_no_space c d h), λ h. absurd (omega arith))
      | quote u d q is ↦ (λ h. absurd (quote_no_space c q h), λ h. absurd (omega arith))
      | space u d q s is ↦ (λ h. is, λ h. s)
      | other u d q s is ↦ (λ h. absurd (false≢true (sym s ∙ h)), λ h. absurd (grind (arith, nat_tests)))
    ]

from_ranges : (m : Member) (letter : ℕ) (ranges : List (ℕ × ℕ)) (test : ℕ → Bool)
    → ((c : ℕ) → in_ranges ranges c ≡ test c) → Origins letter test → Decides (meets_any m ranges) (HasImage m letter)
from_ranges m letter ranges test same origins = (
  λ h. let s = shares_any m ranges h in (s.0, s.1, s.2, (origins s.0).0 (sym (same s.0) ∙ s.3)),
  λ h. meets_any_shared m ranges h.0 h.1 h.2 (same h.0 ∙ (origins h.0).1 h.3),
)

alone : (m : Member) (c : ℕ) → Decides (meets m (c, c)) ((m.first ≤ c) × (c ≤ m.last))
alone m c = (
  λ h. let s = shares_range m (c, c) h in let low : m.first ≤ c = grind (arith, nat_tests) in
      let high : c ≤ m.last = grind (arith, nat_tests) in (low, high),
  λ h. grind (arith, nat_tests),
)

lower_no_dash : (c : ℕ) → is_ascii_lowercase c ≡ true → is_dash c ≡ true → ⊥
unfolding is_dash is_quote
lower_no_dash c l d = grind (arith, nat_tests)

lower_no_quote : (c : ℕ) → is_ascii_lowercase c ≡ true → is_quote c ≡ true → ⊥
unfolding is_dash is_quote
lower_no_quote c l q = grind (arith, nat_tests)

lower_no_space : (c : ℕ) → is_ascii_lowercase c ≡ true → is_whitespace c ≡ true → ⊥
lower_no_space c l s = grind (arith, nat_tests)

upper_image : (c : ℕ) → is_ascii_uppercase c ≡ true → image c ≡ c + 32
unfolding image
upper_image c u = rw u refl

lower_image : (c : ℕ) → is_ascii_lowercase c ≡ true → image c ≡ c
unfolding is_dash is_quote
lower_image c l =
    elim (shows c) [
      | upper u is ↦ absurd (grind (arith, nat_tests))
      | dash u d is ↦ absurd (lower_no_dash c l d)
      | quote u d q is ↦ absurd (lower_no_quote c l q)
      | space u d q s is ↦ absurd (lower_no_space c l s)
      | other u d q s is ↦ is
    ]

-- a lower case letter is the image of itself and of its upper case letter
lower_case : (m : Member) (letter : ℕ) → is_ascii_lowercase letter ≡ true
    → Decides (meets m (letter, letter) || meets m (letter - 32, letter - 32)) (HasImage m letter)
lower_case m letter l =
    let low : 97 ≤ letter = grind (arith, nat_tests) in
    let high : is_ascii_uppercase (letter - 32) ≡ true = grind (arith, nat_tests) in
    let raised : image (letter - 32) ≡ letter = upper_image (letter - 32) high ∙ omega arith in
    let back : (c : ℕ) → m.first ≤ c → c ≤ m.last → image c ≡ letter → Shows c → (meets m (letter, letter) || meets m (letter - 32, letter - 32)) ≡ true =
    λ c first last is shown. elim shown [
      | upper u e ↦ (let same : c ≡ letter - 32 = omega arith in or_right (meets m (letter, letter)) _ ((alone m (letter - 32)).1 (omega arith, omega arith)))
      | dash u d e ↦ absurd (omega arith)
      | quote u d q e ↦ absurd (omega arith)
      | space u d q s e ↦ absurd (omega arith)
      | other u d q s e ↦ (let same : c ≡ letter = omega arith in
          or_left _ (meets m (letter - 32, letter - 32)) ((alone m letter).1 (omega arith, omega arith)))
    ] in (
      λ h. elim (or_cases (meets m (letter, letter)) (meets m (letter - 32, letter - 32)) h) [
        | inl e ↦ (let in_it = (alone m letter).0 e in (letter, in_it.0, in_it.1, lower_image letter l))
        | inr e ↦ (let in_it = (alone m (letter - 32)).0 e in (letter - 32, in_it.0, in_it.1, raised))
      ],
      λ h. back h.0 h.1 h.2 h.3 (shows h.0),
    )

pub and_cases : (a b : Bool) → (a && b) ≡ true → (a ≡ true) × (b ≡ true)
and_cases true b h = (refl, h)
and_cases false b h = absurd (false≢true h)

pub and_true : (a b : Bool) → a ≡ true → b ≡ true → (a && b) ≡ true
and_true true b h k = k
and_true false b h k = absurd (false≢true h)

raised_is_lower : (c letter : ℕ) → is_ascii_uppercase c ≡ true → c + 32 ≡ letter → is_ascii_lowercase letter ≡ true
raised_is_lower c letter u e = grind (arith, nat_tests)

not_this : (letter n : ℕ) → (letter == n) ≡ false → letter ≡ n → ⊥
not_this letter n f e = grind (arith, nat_tests)

-- another letter is the image of itself alone, or of no character
other_case : (m : Member) (letter : ℕ) → is_ascii_lowercase letter ≡ false → (letter == 0x2D) ≡ false
    → (letter == 0x27) ≡ false → (letter == 0x20) ≡ false
    → Decides (image letter == letter && meets m (letter, letter)) (HasImage m letter)
other_case m letter l d q s =
    let back : (c : ℕ) → m.first ≤ c → c ≤ m.last → image c ≡ letter → Shows c → (image letter == letter && meets m (letter, letter)) ≡ true =
    λ c first last is shown. elim shown [
      | upper u e ↦ absurd (false≢true (sym l ∙ raised_is_lower c letter u (sym e ∙ is)))
      | dash u dd e ↦ absurd (not_this letter 0x2D d (sym is ∙ e))
      | quote u dd qq e ↦ absurd (not_this letter 0x27 q (sym is ∙ e))
      | space u dd qq ss e ↦ absurd (not_this letter 0x20 s (sym is ∙ e))
      | other u dd qq ss e ↦ (let same : c ≡ letter = sym e ∙ is in
          and_true (image letter == letter) _ (eq-eqb _ _ (subst (λ x. image x ≡ letter) same is))
          ((alone m letter).1 (omega arith, omega arith)))
    ] in (
      λ h. let both = and_cases (image letter == letter) (meets m (letter, letter)) h in let in_it =
          (alone m letter).0 both.1 in (letter, in_it.0, in_it.1, eqb-true _ _ both.0),
      λ h. back h.0 h.1 h.2 h.3 (shows h.0),
    )

by_letter : (m : Member) (letter : ℕ) (a b d e : Bool) → is_ascii_lowercase letter ≡ a → (letter == 0x2D) ≡ b → (letter == 0x27) ≡ d → (letter == 0x20) ≡ e
    → Decides (cond a (meets m (letter, letter) || meets m (letter - 32, letter - 32))
    (cond b (meets_any m dashes)
    (cond d (meets_any m quotes)
    (cond e (meets_any m spaces) (image letter == letter && meets m (letter, letter))))))
    (HasImage m letter)
by_letter m letter true b d e ea eb ed ee = lower_case m letter ea
by_letter m letter false true d e ea eb ed ee = rw (eqb-true _ _ eb) (from_ranges m 0x2D dashes is_dash in_dashes dash_origins)
by_letter m letter false false true e ea eb ed ee = rw (eqb-true _ _ ed) (from_ranges m 0x27 quotes is_quote in_quotes quote_origins)
by_letter m letter false false false true ea eb ed ee = rw (eqb-true _ _ ee) (from_ranges m 0x20 spaces is_whitespace in_spaces space_origins)
by_letter m letter false false false false ea eb ed ee = other_case m letter ea eb ed ee

pub has_image-is : (m : Member) (letter : ℕ) → Decides (has_image m letter) (HasImage m letter)
has_image-is m letter = by_letter m letter (is_ascii_lowercase letter) (letter == 0x2D) (letter == 0x27) (letter == 0x20) refl refl refl refl

-- ---- the set

any_image : (letter : ℕ) (ms : List Member) → Decides (list_any (λ m. has_image m letter) ms) (SomeImage ms letter)
any_image letter ms = (
  λ h. let some = Any-from_list_any (λ m. has_image m letter) ms h in (some.0, some.1, some.2, some.3, (has_image-is some.1 letter).0 some.4),
  λ h. list_any-from_Any (λ m. has_image m letter) ms (h.0, h.1, h.2, h.3, (has_image-is h.1 letter).1 h.4),
)

complement_is : (c b : Bool) (P : Type 0) → Decides b P → Decides (cond c (not b) b) (MatchBool c (¬ P) P)
complement_is true b P h = Decides-not b h
complement_is false b P h = h

pub is_in-is : (b : Brackets) (letter : ℕ) → Decides (is_in b letter) (IsIn b letter)
is_in-is b letter = complement_is b.complement (list_any (λ m. has_image m letter) b.members) (SomeImage b.members letter) (any_image letter b.members)
