-- Letters and blanks that pass, side by side, and the words that they spell.
use Rattle.std.proofs.Common.{◌≡◌, ◌⊎◌, ℕ, zero, suc, ◌+◌, ◌-◌, ◌<◌, Bool, true, IsTrue, List, [], ◌∷◌, ◌++◌, length, get_or, drop, take, inl, inr, refl, sym, ap, arith, subst, ◌∙◌, length-append, append_assoc, eqb-true}
use Rattle.std.specs.Str.{IsCharBoundary, IsUtf8}
use Rattle.std.proofs.Math.Utf8.{encode, encodes}
use Rattle.std.proofs.Math.Seq.{drop-cons}
use Rattle.std.proofs.lemmas.Bool.{cases_eq, cases_lt, eq-eqb, true≢false}
use Rattle.std.proofs.lemmas.List.{drop-drop, get_or_past, length-drop, length-take, take-append-drop}
use Rattle.std.proofs.lemmas.Str.{IsUtf8-between, encode_ascii, encode_same, length-encode, len_utf8_bounds}
use Rattle.lic_words.specs.Words.{Word, blank}
use Rattle.lic_tokens.specs.Tokens.{TokenValue}
use Rattle.lic_places.specs.Places.{AreTexts, IsAfterBlank, OverBlank, Occurs, is_blank_at, over, spelling_of}
use Rattle.lic_places.specs.Reads.{Reads}
use Rattle.lic_view.specs.LettersBefore.{IsLetterBefore}
use Rattle.lic_reverse.specs.Streaks.{AllPass, IsChain}
use Rattle.lic_reverse.specs.Tidily.{IsTakenBack, Taken, a_blank, a_letter}
use Rattle.lic_view.proofs.PlaceLaws.{blanks-apart}
use Rattle.lic_view.proofs.LastLetters.{letter-whole, letter-within, occurs-drop}

encode-blank : encode blank ≡ 0x20 ∷ []
encode-blank = encode_ascii blank (omega arith)

pub letter-forward : (bytes : List ℕ) (q p c : ℕ) → IsLetterBefore bytes q p c → p < q
letter-forward bytes q p c is = omega (arith, is.occurs.0, length-encode c, (len_utf8_bounds c).0)

-- a blank of a text is a letter before the place after it
pub blank-before : (bytes : List ℕ) (p : ℕ) → IsTrue (is_blank_at bytes p) → IsLetterBefore bytes (suc p) p blank
blank-before bytes p is = record { scalar = refl; occurs = occurs }
  where
    byte : get_or bytes p 0 ≡ 0x20
    byte = eqb-true (get_or bytes p 0) 0x20 is

    within : p < length bytes
    within = elim (cases_lt p (length bytes)) [ inl below ↦ below | inr past ↦ absurd (let none = get_or_past bytes p 0 past in omega (arith, none, byte)) ]

    many : suc p - p ≡ 1
    many = omega arith

    here : take (suc p - p) (drop p bytes) ≡ 0x20 ∷ []
    here = ap (λ n. take n (drop p bytes)) many ∙ ap (take 1) (drop-cons bytes p 0 within) ∙ ap (λ b. b ∷ []) byte

    occurs : Occurs bytes p (encode blank) (suc p)
    occurs = (omega (arith, ap length encode-blank), here ∙ sym encode-blank)

-- the letter at a blank of a text is a blank
pub letter-blank : (bytes : List ℕ) (q p c : ℕ) → IsLetterBefore bytes q p c → IsTrue (is_blank_at bytes p) → c ≡ blank
letter-blank bytes q p c is at =
    let one = sym (occurs-drop bytes p (encode c) q is.occurs) ∙ occurs-drop bytes p (encode blank) (suc p) (blank-before bytes p at).occurs in
    (encode_same c blank (drop q bytes) (drop (suc p) bytes) one).0

-- and a blank is one of a text
pub blank-letter : (bytes : List ℕ) (q p : ℕ) → IsLetterBefore bytes q p blank → IsTrue (is_blank_at bytes p) × (q ≡ suc p)
blank-letter bytes q p is = (
  eq-eqb (get_or bytes p 0) 0x20 byte,
  end,
)
  where
    end : q ≡ suc p
    end = omega (arith, is.occurs.0, ap length encode-blank)

    from : drop p bytes ≡ 0x20 ∷ drop q bytes
    from = occurs-drop bytes p (encode blank) q is.occurs ∙ ap (λ x. x ++ drop q bytes) encode-blank

    within : p < length bytes
    within = let long = ap length from in omega (arith, length-drop p bytes)

    byte : get_or bytes p 0 ≡ 0x20
    byte = ap (λ x. get_or x 0 0) (sym (drop-cons bytes p 0 within) ∙ from)

-- no character begins within a letter
pub letter-inside : (bytes : List ℕ) (q p c r : ℕ) → IsUtf8 bytes → IsLetterBefore bytes q p c → IsCharBoundary bytes q → IsCharBoundary bytes r → p < r → r < q → ⊥
letter-inside bytes q p c r utf8 is end whole after before = by_chars between.0 between.1.1
  where
    between : IsUtf8 (take (r - p) (drop p bytes))
    between = IsUtf8-between bytes p r utf8 (omega arith) (letter-whole bytes q p c is) whole

    parts : encode c ++ drop q bytes ≡ take (r - p) (drop p bytes) ++ drop r bytes
    parts =
        let e : p + (r - p) ≡ r = omega arith in
        sym (occurs-drop bytes p (encode c) q is.occurs)
        ∙ sym (take-append-drop (r - p) (drop p bytes))
        ∙ ap (λ x. take (r - p) (drop p bytes) ++ x) (drop-drop (r - p) p bytes ∙ ap (λ n. drop n bytes) e)

    long : length (take (r - p) (drop p bytes)) ≡ r - p
    long = let within = letter-within bytes q p c is in
        let first = length-take (r - p) (drop p bytes) in
        let second = length-drop p bytes in
        omega arith

    by_chars : (cs : List ℕ) → encodes cs ≡ take (r - p) (drop p bytes) → ⊥
    by_chars [] same = let none = ap length same in omega (arith, long)
    by_chars (e ∷ es) same =
        let whole_one : encode c ++ drop q bytes ≡ encode e ++ (encodes es ++ drop r bytes) =
        parts ∙ ap (λ x. x ++ drop r bytes) (sym same) ∙ append_assoc (encode e) (encodes es) (drop r bytes) in
        let both = encode_same c e (drop q bytes) (encodes es ++ drop r bytes) whole_one in
        let one_letter : length (encode c) ≡ length (encode e) = ap (λ x. length (encode x)) both.0 in
        let size = ap length same in
        let sum = length-append (encode e) (encodes es) in
        omega (arith, long, is.occurs.0)

-- ---- what a chain spells

-- a letter was taken last, or no blank comes first
abbrev pub MayGoOn : List ℕ → Taken → ℕ → Type 0
MayGoOn bytes s q = (s ≡ a_letter) ⊎ ¬ (IsAfterBlank bytes q)

pub record Spelled (tokens : List TokenValue) (passes : ℕ → Bool) (t : Taken) (count low q : ℕ) : Type 0 where
  pub state : Taken
  pub word : Word
  pub may_go_on : MayGoOn (spelling_of tokens) state low
  pub passing : AllPass passes word
  pub long : length word ≡ count
  pub taken : IsTakenBack state word t
  pub reads : Reads tokens low word q

pub chain-spelled : (tokens : List TokenValue) (passes : ℕ → Bool) (t : Taken) (count low q : ℕ) → AreTexts tokens → MayGoOn (spelling_of tokens) t q →
    IsChain (spelling_of tokens) passes count low q → Spelled tokens passes t count low q
chain-spelled tokens passes t zero low q texts may chain = record {
  state = t;
  word = [];
  may_go_on = subst (λ x. MayGoOn (spelling_of tokens) t x) (sym chain) may;
  passing = tt;
  long = refl;
  taken = refl;
  reads = chain;
}
chain-spelled tokens passes t (suc count) low q texts may chain =
    by_letter (chain-spelled tokens passes t count chain.0 q texts may chain.4) (cases_eq chain.1 blank)
  where
    by_letter : Spelled tokens passes t count chain.0 q → (chain.1 ≡ blank) ⊎ (chain.1 ≡ blank → ⊥) → Spelled tokens passes t (suc count) low q
    by_letter more (inr dark) = record {
      state = a_letter;
      word = chain.1 ∷ more.word;
      may_go_on = inl refl;
      passing = (chain.3, more.passing);
      long = ap suc more.long;
      taken = (more.state, inr (dark, refl), more.taken);
      reads = (chain.0, inr (dark, chain.2.scalar, chain.2.occurs), more.reads);
    }
    by_letter more (inl is) = record {
      state = a_blank;
      word = chain.1 ∷ more.word;
      may_go_on = inr (λ following. apart following);
      passing = (chain.3, more.passing);
      long = ap suc more.long;
      taken = (more.state, inl (is, refl, letter more.may_go_on), more.taken);
      reads = (chain.0, inl (is, subst (λ x. OverBlank tokens low x) (sym at.1) (over at.0)), more.reads);
    }
      where
        at : IsTrue (is_blank_at (spelling_of tokens) low) × (chain.0 ≡ suc low)
        at = blank-letter (spelling_of tokens) chain.0 low (subst (λ x. IsLetterBefore (spelling_of tokens) chain.0 low x) is chain.2)

        letter : MayGoOn (spelling_of tokens) more.state chain.0 → more.state ≡ a_letter
        letter (inl same) = same
        letter (inr not) = absurd (not (low, at.1, at.0))

        apart : IsAfterBlank (spelling_of tokens) low → ⊥
        apart following =
            let no = blanks-apart tokens following.0 texts following.2 in
            true≢false (sym (subst (λ x. IsTrue (is_blank_at (spelling_of tokens) x)) following.1 at.0) ∙ no)
