-- Words that spell what is from place to place: one after another, and forward.
use Rattle.std.proofs.Common.{◌≡◌, ℕ, ◌+◌, ◌*◌, ◌≤◌, inl, inr, List, [], ◌∷◌, ◌++◌, length, refl, sym, subst, arith}
use Rattle.std.specs.Char.{encode_utf8}
use Rattle.std.proofs.lemmas.Str.{length-encode, len_utf8_bounds}
use Rattle.lic_words.specs.Words.{Word}
use Rattle.lic_tokens.specs.Tokens.{TokenValue}
use Rattle.lic_places.specs.Reads.{Takes, Reads}
use Rattle.lic_places.proofs.TokenPlaces.{OverBlank-order}

-- ---- one after another

pub Reads-cut : (tokens : List TokenValue) (u v : Word) (p q : ℕ) → Reads tokens p (u ++ v) q
    → (r : ℕ) × Reads tokens p u r × Reads tokens r v q
Reads-cut tokens [] v p q reads = (p, refl, reads)
Reads-cut tokens (c ∷ u) v p q reads =
    let later = Reads-cut tokens u v reads.0 q reads.2 in
    (later.0, (reads.0, reads.1, later.1), later.2)

pub Reads-joined : (tokens : List TokenValue) (u v : Word) (p r q : ℕ) → Reads tokens p u r → Reads tokens r v q
    → Reads tokens p (u ++ v) q
Reads-joined tokens [] v p r q first second = subst (λ x. Reads tokens x v q) (sym first) second
Reads-joined tokens (c ∷ u) v p r q first second =
    (first.0, first.1, Reads-joined tokens u v first.0 r q first.2 second)

-- ---- forward

pub Takes-order : (tokens : List TokenValue) (p c q : ℕ) → Takes tokens p c q → (p ≤ q) × (q ≤ p + 4)
Takes-order tokens p c q (inl over) = let order = OverBlank-order tokens p q over.1 in (order.0, omega (arith, order.1))
Takes-order tokens p c q (inr letter) =
    let end : q ≡ p + length (encode_utf8 c) = letter.2.0 in
    let many : length (encode_utf8 c) ≤ 4 = omega (arith, length-encode c, (len_utf8_bounds c).1) in
    (omega arith, omega arith)

pub Reads-order : (tokens : List TokenValue) (w : Word) (p q : ℕ) → Reads tokens p w q → p ≤ q
Reads-order tokens [] p q reads = let e : p ≡ q = reads in omega arith
Reads-order tokens (c ∷ w) p q reads =
    omega (arith, (Takes-order tokens p c reads.0 reads.1).0, Reads-order tokens w reads.0 q reads.2)

pub Reads-most : (tokens : List TokenValue) (w : Word) (p q : ℕ) → Reads tokens p w q → q ≤ p + 4 * length w
Reads-most tokens [] p q reads = let e : p ≡ q = reads in omega arith
Reads-most tokens (c ∷ w) p q reads =
    omega (arith, (Takes-order tokens p c reads.0 reads.1).1, Reads-most tokens w reads.0 q reads.2)
