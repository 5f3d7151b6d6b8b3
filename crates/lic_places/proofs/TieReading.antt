-- Letters with gaps that are between two places of a text, and the words that are read there.
use Rattle.std.proofs.Common.{◌≡◌, ◌≢◌, ℕ, zero, suc, ◌≤◌, ◌<◌, ◌⊎◌, inl, inr, List, [], ◌∷◌, ◌++◌, IsTrue, refl, sym, ap, ◌∙◌, subst, arith}
use Rattle.std.specs.Char.{IsScalar, encode_utf8}
use Rattle.std.proofs.lemmas.Str.{length-encode, len_utf8_bounds}
use Rattle.lic_words.specs.Words.{Word, blank, blanks}
use Rattle.lic_words.specs.Spelling.{Gap, no_gap, free, needed, Allows, SpellsGapped}
use Rattle.lic_tokens.specs.Tokens.{TokenValue}
use Rattle.lic_places.specs.Places.{IsAfterBlank, OverBlank, over, stays, Occurs, is_blank_at, spelling_of}
use Rattle.lic_places.specs.Reads.{Takes, Reads}

-- ---- what is between places

-- a letter is between two places, and no other begins at the first of them
pub record HasLetter (tokens : List TokenValue) (p c q : ℕ) : Type 0 where
  pub other : c ≢ blank
  pub scalar : IsScalar c
  pub occurs : Occurs (spelling_of tokens) p (encode_utf8 c) q
  pub only : (d r : ℕ) → IsScalar d → Occurs (spelling_of tokens) p (encode_utf8 d) r → (d ≡ c) × (r ≡ q)

-- no blank of a word leads on from a place
pub record IsShut (tokens : List TokenValue) (p : ℕ) : Type 0 where
  pub nowhere : (q : ℕ) → OverBlank tokens p q → ⊥

-- a blank of a word stays at a place
pub record IsFree (tokens : List TokenValue) (p : ℕ) : Type 0 where
  pub stay : OverBlank tokens p p
  pub only : (q : ℕ) → OverBlank tokens p q → q ≡ p

-- a blank is between two places, and some blank of a word has to lead over it
pub record IsNeeded (tokens : List TokenValue) (p r : ℕ) : Type 0 where
  pub stay : OverBlank tokens p p
  pub is_blank : IsTrue (is_blank_at (spelling_of tokens) p)
  pub next : r ≡ suc p
  pub shut : IsShut tokens r
  pub no_letter : (d q : ℕ) → d ≢ blank → IsScalar d → Occurs (spelling_of tokens) p (encode_utf8 d) q → ⊥

-- a gap is between two places
abbrev pub HasGapAt : List TokenValue → ℕ → Gap → ℕ → Type 0
HasGapAt tokens p no_gap r = (p ≡ r) × IsShut tokens p
HasGapAt tokens p free r = (p ≡ r) × IsFree tokens p
HasGapAt tokens p needed r = IsNeeded tokens p r

-- letters, each with the gap before it, are between two places, and blanks may follow
abbrev pub AreGappedAt : List TokenValue → ℕ → List (Gap × ℕ) → ℕ → Type 0
AreGappedAt tokens p [] e = (p ≡ e) × OverBlank tokens p p
AreGappedAt tokens p (x ∷ gaps) e =
    (r s : ℕ) × HasGapAt tokens p x.0 r × HasLetter tokens r x.1 s × AreGappedAt tokens s gaps e

-- ---- reading continues

OverBlank-order : (tokens : List TokenValue) (p q : ℕ) → OverBlank tokens p q → p ≤ q
OverBlank-order tokens p q (over is) = omega arith
OverBlank-order tokens p q (stays not_after gap) = omega arith

-- a blank stays, or leads over one byte
OverBlank-either : (tokens : List TokenValue) (p q : ℕ) → OverBlank tokens p q → (q ≡ p) ⊎ (q ≡ suc p)
OverBlank-either tokens p q (over is) = inr refl
OverBlank-either tokens p q (stays not_after gap) = inl refl

-- a blank that leads to the place where it is leaves it there
OverBlank-back : (tokens : List TokenValue) (p q : ℕ) → OverBlank tokens p q → q ≤ p → q ≡ p
OverBlank-back tokens p q leads order = let far = OverBlank-order tokens p q leads in omega arith

Occurs-forward : (bytes : List ℕ) (p c q : ℕ) → Occurs bytes p (encode_utf8 c) q → p < q
Occurs-forward bytes p c q occurs = omega (arith, occurs.0, length-encode c, (len_utf8_bounds c).0)

Takes-order : (tokens : List TokenValue) (p c q : ℕ) → Takes tokens p c q → p ≤ q
Takes-order tokens p c q (inl (is, leads)) = OverBlank-order tokens p q leads
Takes-order tokens p c q (inr (other, scalar, occurs)) =
    let far = Occurs-forward (spelling_of tokens) p c q occurs in omega arith

Reads-order : (tokens : List TokenValue) (p : ℕ) (w : Word) (q : ℕ) → Reads tokens p w q → p ≤ q
Reads-order tokens p [] q same = omega arith
Reads-order tokens p (c ∷ w) q (r, takes, read) =
    let first = Takes-order tokens p c r takes in
    let later = Reads-order tokens r w q read in
    omega arith

HasGapAt-order : (tokens : List TokenValue) (p : ℕ) (gap : Gap) (r : ℕ) → HasGapAt tokens p gap r → p ≤ r
HasGapAt-order tokens p no_gap r (same, shut) = omega arith
HasGapAt-order tokens p free r (same, is) = omega arith
HasGapAt-order tokens p needed r is = omega (arith, is.next)

AreGappedAt-order : (tokens : List TokenValue) (p : ℕ) (gaps : List (Gap × ℕ)) (e : ℕ) → AreGappedAt tokens p gaps e → p ≤ e
AreGappedAt-order tokens p [] e (same, stay) = omega arith
AreGappedAt-order tokens p (x ∷ gaps) e (r, s, gap, letter, later) =
    let before = HasGapAt-order tokens p x.0 r gap in
    let over = Occurs-forward (spelling_of tokens) r x.1 s letter.occurs in
    let farther = AreGappedAt-order tokens s gaps e later in
    omega arith

-- blanks may come after the last letter
pub AreGappedAt-end : (tokens : List TokenValue) (p : ℕ) (gaps : List (Gap × ℕ)) (e : ℕ) → AreGappedAt tokens p gaps e
    → OverBlank tokens e e
AreGappedAt-end tokens p [] e (same, stay) = subst (λ x. OverBlank tokens x x) same stay
AreGappedAt-end tokens p (x ∷ gaps) e (r, s, gap, letter, later) = AreGappedAt-end tokens s gaps e later

-- a blank that stays does not come right after another
not_after_over : (tokens : List TokenValue) (p q : ℕ) → OverBlank tokens p q → q ≡ p → IsAfterBlank (spelling_of tokens) p → ⊥
not_after_over tokens p q (over is) same blank_before = omega arith
not_after_over tokens p q (stays not_after gap) same blank_before = not_after blank_before

pub not_after_stay : (tokens : List TokenValue) (p : ℕ) → OverBlank tokens p p → IsAfterBlank (spelling_of tokens) p → ⊥
not_after_stay tokens p stay = not_after_over tokens p p stay refl

-- ---- what spells the letters is read

read_blanks : (tokens : List TokenValue) (p : ℕ) (gap : Gap) (r e n : ℕ) (v : Word) → HasGapAt tokens p gap r → Allows gap n
    → Reads tokens r v e → Reads tokens p (blanks n ++ v) e
read_blanks tokens p no_gap r e zero v (same, shut) allows read = subst (λ x. Reads tokens x v e) (sym same) read
read_blanks tokens p no_gap r e (suc n) v (same, shut) allows read = absurd (omega arith)
read_blanks tokens p free r e zero v (same, is) allows read = subst (λ x. Reads tokens x v e) (sym same) read
read_blanks tokens p free r e (suc n) v (same, is) allows read =
    (p, inl (refl, is.stay), read_blanks tokens p free r e n v (same, is) tt read)
read_blanks tokens p needed r e zero v is allows read = absurd (omega arith)
read_blanks tokens p needed r e (suc zero) v is allows read =
    (suc p, inl (refl, over is.is_blank), subst (λ x. Reads tokens x v e) is.next read)
read_blanks tokens p needed r e (suc (suc n)) v is allows read =
    (p, inl (refl, is.stay), read_blanks tokens p needed r e (suc n) v is (omega arith) read)

read_end : (tokens : List TokenValue) (p e n : ℕ) → p ≡ e → OverBlank tokens p p → Reads tokens p (blanks n) e
read_end tokens p e zero same stay = same
read_end tokens p e (suc n) same stay = (p, inl (refl, stay), read_end tokens p e n same stay)

pub read_gapped : (tokens : List TokenValue) (p : ℕ) (gaps : List (Gap × ℕ)) (e : ℕ) (w : Word) → AreGappedAt tokens p gaps e
    → SpellsGapped w gaps → Reads tokens p w e
read_gapped tokens p [] e w (same, stay) (n, is) =
    subst (λ x. Reads tokens p x e) (sym is) (read_end tokens p e n same stay)
read_gapped tokens p (x ∷ gaps) e w (r, s, gap, letter, later) (n, allows, v, is, spells) =
    subst (λ y. Reads tokens p y e) (sym is)
    (read_blanks tokens p x.0 r e n (x.1 ∷ v) gap allows
    (s, inr (letter.other, letter.scalar, letter.occurs), read_gapped tokens s gaps e v later spells))

-- ---- what is read spells the letters

-- what is read from further on spells what is left there
abbrev Spell : List TokenValue → ℕ → Word → Type 0
Spell tokens e w = (p : ℕ) (gaps : List (Gap × ℕ)) → AreGappedAt tokens p gaps e → Reads tokens p w e → SpellsGapped w gaps

-- one blank more before the letters
one_more : (c : ℕ) (w : Word) (gap : Gap) (l : ℕ) (gaps : List (Gap × ℕ)) → c ≡ blank → ((n : ℕ) → Allows gap n → Allows gap (suc n))
    → SpellsGapped w ((gap, l) ∷ gaps) → SpellsGapped (c ∷ w) ((gap, l) ∷ gaps)
one_more c w gap l gaps is more (n, allows, v, same, spells) =
    let longer : c ∷ w ≡ blanks (suc n) ++ l ∷ v = cc in
    (suc n, more n allows, v, longer, spells)

-- the blank of a needed gap
the_one : (c : ℕ) (w : Word) (l : ℕ) (gaps : List (Gap × ℕ)) → c ≡ blank → SpellsGapped w ((no_gap, l) ∷ gaps)
    → SpellsGapped (c ∷ w) ((needed, l) ∷ gaps)
the_one c w l gaps is (n, none, v, same, spells) =
    let longer : c ∷ w ≡ blanks (suc n) ++ l ∷ v = cc in
    (suc n, omega arith, v, longer, spells)

module _ (tokens : List TokenValue) (e d : ℕ) (w : Word) (r0 : ℕ) (later : Spell tokens e w) (read : Reads tokens r0 w e) where
  spell_end : (p : ℕ) → p ≡ e → OverBlank tokens p p → Takes tokens p d r0 → SpellsGapped (d ∷ w) []
  spell_end p same stay (inl (is, leads)) =
      let far = Reads-order tokens r0 w e read in
      let here : r0 ≡ p = OverBlank-back tokens p r0 leads (omega arith) in
      let (n, is_blanks) = later p [] (same, stay) (subst (λ x. Reads tokens x w e) here read) in
      let longer : d ∷ w ≡ blanks (suc n) = cc in
      (suc n, longer)
  spell_end p same stay (inr (other, scalar, occurs)) =
      let far = Reads-order tokens r0 w e read in
      let forward = Occurs-forward (spelling_of tokens) p d r0 occurs in
      absurd (omega arith)

  module _ (c : ℕ) (gaps : List (Gap × ℕ)) (r s : ℕ) (letter : HasLetter tokens r c s) (after : AreGappedAt tokens s gaps e) where
    -- the letter is read
    spell_letter : (p : ℕ) (gap : Gap) → p ≡ r → Allows gap 0 → IsScalar d → Occurs (spelling_of tokens) p (encode_utf8 d) r0
        → SpellsGapped (d ∷ w) ((gap, c) ∷ gaps)
    spell_letter p gap same none scalar occurs =
        let (is, there) = letter.only d r0 scalar (subst (λ x. Occurs (spelling_of tokens) x (encode_utf8 d) r0) same occurs) in
        (0, none, w, ap (λ x. x ∷ w) is, later s gaps after (subst (λ x. Reads tokens x w e) there read))

    -- a blank is read that stays before the blank of the text, or leads over it
    spell_needed : (p : ℕ) → IsNeeded tokens p r → d ≡ blank → (r0 ≡ p) ⊎ (r0 ≡ suc p) → SpellsGapped (d ∷ w) ((needed, c) ∷ gaps)
    spell_needed p is_needed is (inl here) =
        one_more d w needed c gaps is (λ n allows. omega arith)
        (later p ((needed, c) ∷ gaps) (r, s, is_needed, letter, after) (subst (λ x. Reads tokens x w e) here read))
    spell_needed p is_needed is (inr next) =
        the_one d w c gaps is
        (later r ((no_gap, c) ∷ gaps) (r, s, (refl, is_needed.shut), letter, after)
        (subst (λ x. Reads tokens x w e) (next ∙ sym is_needed.next) read))

    spell_step : (p : ℕ) (gap : Gap) → HasGapAt tokens p gap r → Takes tokens p d r0 → SpellsGapped (d ∷ w) ((gap, c) ∷ gaps)
    spell_step p no_gap (same, shut) (inl (is, leads)) = absurd (shut.nowhere r0 leads)
    spell_step p no_gap (same, shut) (inr (other, scalar, occurs)) = spell_letter p no_gap same refl scalar occurs
    spell_step p free (same, is_free) (inl (is, leads)) =
        one_more d w free c gaps is (λ n allows. tt)
        (later p ((free, c) ∷ gaps) (r, s, (same, is_free), letter, after)
        (subst (λ x. Reads tokens x w e) (is_free.only r0 leads) read))
    spell_step p free (same, is_free) (inr (other, scalar, occurs)) = spell_letter p free same tt scalar occurs
    spell_step p needed is_needed (inl (is, leads)) = spell_needed p is_needed is (OverBlank-either tokens p r0 leads)
    spell_step p needed is_needed (inr (other, scalar, occurs)) = absurd (is_needed.no_letter d r0 other scalar occurs)

pub spell_gapped : (tokens : List TokenValue) (e : ℕ) (w : Word) (p : ℕ) (gaps : List (Gap × ℕ)) → AreGappedAt tokens p gaps e
    → Reads tokens p w e → SpellsGapped w gaps
spell_gapped tokens e [] p [] gapped read = (0, refl)
spell_gapped tokens e [] p (x ∷ gaps) (r, s, gap, letter, after) read =
    let before = HasGapAt-order tokens p x.0 r gap in
    let over = Occurs-forward (spelling_of tokens) r x.1 s letter.occurs in
    let farther = AreGappedAt-order tokens s gaps e after in
    absurd (omega arith)
spell_gapped tokens e (d ∷ w) p [] (same, stay) (r0, takes, read) =
    spell_end tokens e d w r0 (spell_gapped tokens e w) read p same stay takes
spell_gapped tokens e (d ∷ w) p ((gap, c) ∷ gaps) (r, s, occurs, letter, after) (r0, takes, read) =
    spell_step tokens e d w r0 (spell_gapped tokens e w) read c gaps r s letter after p gap occurs takes
