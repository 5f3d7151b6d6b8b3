-- Reading one lexeme after another.
use Rattle.std.proofs.Common.{◌≡◌, ℕ, zero, suc, List, [], ◌∷◌, length, drop, Result, Ok, Err, refl, ap, sym, ◌∙◌, arith}
use Rattle.lic_ere.specs.declared.fault.EreFault.{EreFault}
use Rattle.lic_ere.specs.Located.{Located, with_remaining}
use Rattle.lic_ere.specs.Faults.{map_ok, ◌>>=◌}
use Rattle.lic_ere.specs.Trees.{Tree}
use Rattle.lic_ere.specs.Lexemes.{Lexeme, Lexemes, lexeme_at, and_then, lexemes}
use Rattle.lic_ere.specs.Reading.{State, meet, finish, read_on, read_from}

pub lexemes-skipped : (n : ℕ) (xs : List Located) → lexemes n xs ≡ lexemes 0 (drop n xs)
unfolding lexemes
lexemes-skipped zero xs = refl
lexemes-skipped (suc n) [] = refl
lexemes-skipped (suc n) (x ∷ xs) = lexemes-skipped n xs

module _ (s : State) (x : Located) (after : List Located) where
  abbrev read_these : Lexemes → Result Tree EreFault
  read_these ls = read_on s ls.found ls.fault

  abbrev next : Result (Lexeme × ℕ) EreFault → Lexemes
  next r = and_then x.0 r (λ taken. lexemes taken after)

  read-next : read_from s (x ∷ after) ≡ read_these (next (lexeme_at x after))
  unfolding lexemes
  read-next = refl

  next_turn : (r : Result (Lexeme × ℕ) EreFault) (l : Lexeme) (following : List Located)
      → map_ok (with_remaining after) r ≡ Ok (l, following) → read_these (next r) ≡ (meet x.0 l s >>= λ t. read_from t following)
  unfolding read_on
  next_turn (Err e) l following is = absurd cc
  next_turn (Ok y) l following is =
      let one : y.0 ≡ l = ap (λ (r : Result (Lexeme × List Located) EreFault). elim r [ Ok z ↦ z.0 | Err e ↦ l ]) is in
      let two : drop y.1 after ≡ following = ap (λ (r : Result (Lexeme × List Located) EreFault). elim r [ Ok z ↦ z.1 | Err e ↦ following ]) is in
      ap (λ (ls : Lexemes). meet x.0 y.0 s >>= λ t. read_on t ls.found ls.fault) (lexemes-skipped y.1 after)
      ∙ (λ i. meet x.0 (one i) s >>= λ t. read_from t (two i))

  next_fails : (r : Result (Lexeme × ℕ) EreFault) (e : EreFault) → map_ok (with_remaining after) r ≡ Err e → read_these (next r) ≡ Err e
  unfolding read_on
  next_fails (Ok y) e is = absurd cc
  next_fails (Err d) e is = ap (λ (r : Result (Lexeme × List Located) EreFault). elim r [ Ok z ↦ Err e | Err f ↦ Err f ]) is

  -- one lexeme, from a list that begins with it
  pub read_turn : (rest : List Located) (l : Lexeme) (following : List Located) → rest ≡ x ∷ after
      → map_ok (with_remaining after) (lexeme_at x after) ≡ Ok (l, following)
      → read_from s rest ≡ (meet x.0 l s >>= λ t. read_from t following)
  read_turn rest l following all is = ap (read_from s) all ∙ read-next ∙ next_turn (lexeme_at x after) l following is

  -- an offset where no lexeme can be read
  pub read_fails : (rest : List Located) (e : EreFault) → rest ≡ x ∷ after → map_ok (with_remaining after) (lexeme_at x after) ≡ Err e → read_from s rest ≡ Err e
  read_fails rest e all is = ap (read_from s) all ∙ read-next ∙ next_fails (lexeme_at x after) e is

-- nothing is left
pub read_ends : (s : State) (rest : List Located) → length rest ≡ 0 → read_from s rest ≡ finish s.level s.outer
unfolding lexemes read_on
read_ends s [] none = refl
read_ends s (x ∷ rest) none = absurd (omega arith)

-- a lexeme that is refused
pub read_refused : (s : State) (x : Located) (after rest : List Located) (l : Lexeme) (following : List Located)
    (e : EreFault) (total : Result Tree EreFault) → rest ≡ x ∷ after
    → map_ok (with_remaining after) (lexeme_at x after) ≡ Ok (l, following) → read_from s rest ≡ total → meet x.0 l s ≡ Err e
    → total ≡ Err e
read_refused s x after rest l following e total all is so_far met =
    sym so_far ∙ read_turn s x after rest l following all is ∙ ap (λ r. r >>= λ t. read_from t following) met

-- a lexeme that is taken
pub read_taken : (s t : State) (x : Located) (after rest : List Located) (l : Lexeme) (following : List Located)
    (total : Result Tree EreFault) → rest ≡ x ∷ after → map_ok (with_remaining after) (lexeme_at x after) ≡ Ok (l, following)
    → read_from s rest ≡ total → meet x.0 l s ≡ Ok t → read_from t following ≡ total
read_taken s t x after rest l following total all is so_far met =
    sym (ap (λ r. r >>= λ u. read_from u following) met) ∙ sym (read_turn s x after rest l following all is) ∙ so_far
