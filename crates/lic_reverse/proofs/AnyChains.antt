-- From the beginning of a text letters are side by side up to each place at which none is cut.
use Rattle.std.proofs.Common.{◌≡◌, ℕ, ◌+◌, ◌-◌, ◌≤◌, true, List, [], ◌∷◌, length, take, inr, refl, sym, ap, arith, ◌∙◌}
use Rattle.std.specs.Str.{IsCharBoundary, IsUtf8, chars}
use Rattle.std.proofs.Math.Utf8.{encode, encodes, scalars}
use Rattle.std.proofs.lemmas.List.{length-take-le}
use Rattle.std.proofs.lemmas.Str.{IsUtf8-take, encodes-chars, length-le-encodes, scalars-chars}
use Rattle.lic_places.specs.Places.{Occurs}
use Rattle.lic_places.proofs.Occurring.{Occurs-left, Occurs-right}
use Rattle.lic_reverse.specs.Streaks.{IsChain, IsStreakStart}
use Rattle.lic_view.proofs.CountReads.{scalar-head}
use Rattle.lic_reverse.proofs.StreakChains.{letter-forward}

-- the letters that bytes spell
letters-chain : (bytes : List ℕ) (cs : List ℕ) (low place : ℕ) → scalars cs ≡ true → Occurs bytes low (encodes cs) place →
    IsChain bytes (λ _. true) (length cs) low place
letters-chain bytes [] low place all occurs = omega (arith, occurs.0)
letters-chain bytes (c ∷ cs) low place all occurs = (
  low + length (encode c),
  c,
  record { scalar = (scalar-head c cs all).0; occurs = Occurs-left bytes low (encode c) (encodes cs) place occurs },
  refl,
  letters-chain bytes cs (low + length (encode c)) place (scalar-head c cs all).1 (Occurs-right bytes low (encode c) (encodes cs) place occurs),
)

-- where up to a place there may be as many letters of any kind as it has bytes before it, they begin at the beginning
pub any-start : (bytes : List ℕ) (count place : ℕ) → IsUtf8 bytes → IsCharBoundary bytes place → place ≤ count → IsStreakStart bytes (λ _. true) count place 0
any-start bytes count place utf8 whole many =
    let front : List ℕ = take place bytes in
    let spelled : encodes (chars front) ≡ front = encodes-chars front (IsUtf8-take bytes place utf8 whole) in
    let long : length front ≡ place = length-take-le place bytes whole.0 in
    let all : place - 0 ≡ place = omega arith in
    let occurs : Occurs bytes 0 (encodes (chars front)) place = (omega (arith, ap length spelled), ap (λ n. take n bytes) all ∙ sym spelled) in
    record {
      number = length (chars front);
      few = omega (arith, length-le-encodes (chars front), ap length spelled);
      chain = letters-chain bytes (chars front) 0 place (scalars-chars front (IsUtf8-take bytes place utf8 whole)) occurs;
      stop = inr (λ p c is passes. omega (arith, letter-forward bytes 0 p c is));
    }
