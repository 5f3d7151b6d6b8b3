-- First tokens that are noted, and the numbers that each keeps.
use Rattle.std.proofs.Common.{◌≡◌, ℕ, ◌+◌, ◌-◌, ◌<◌, ◌≤◌, List, [], ◌∷◌, ◌++◌, length, get_or, take, drop, reverse, Some, None, refl, sym, ap, ◌∙◌, arith, length-append, length-drop}
use Rattle.std.specs.List.{slice_get}
use Rattle.std.proofs.Math.Seq.{drop-append_seam, take-append_seam}
use Rattle.std.proofs.lemmas.List.{reverse-append, take_all, take_more}
use Rattle.std.proofs.lemmas.Option.{slice_get_within, slice_get-get_or, get_or_from_slice_get}
use Rattle.lic_find.specs.Firsts.{noted_at}
use Rattle.lic_find.specs.Starts.{HasAtMost, noted_in}
use Rattle.lic_find.specs.declared.starts.Entry.{Entry}
use Rattle.lic_find.specs.declared.starts.Starts.{Starts}

-- of more tokens
pub HasAtMost-more : (starts : Starts) (tokens more : ℕ) → tokens ≤ more → HasAtMost starts tokens → HasAtMost starts more
HasAtMost-more starts tokens more within most =
    let firsts = most.firsts in
    record { firsts = omega arith; numbers = most.numbers }

-- one more first token, with its numbers
pub noted_in-more : (entries : List Entry) (numbers few : List ℕ) (one : Entry) → one.count ≡ length few →
    noted_in (reverse (entries ++ one ∷ [])) (numbers ++ few) ≡ noted_at one.first few ∷ noted_in (reverse entries) numbers
noted_in-more entries numbers few one count =
    let from : length (numbers ++ few) - one.count ≡ length numbers = omega (arith, length-append numbers few) in
    ap (λ order. noted_in order (numbers ++ few)) (reverse-append entries (one ∷ []))
    ∙ ap (λ n. noted_at one.first (drop n (numbers ++ few)) ∷ noted_in (reverse entries) (take n (numbers ++ few))) from
    ∙ ap (λ l. noted_at one.first l ∷ noted_in (reverse entries) (take (length numbers) (numbers ++ few))) (drop-append_seam numbers few)
    ∙ ap (λ l. noted_at one.first few ∷ noted_in (reverse entries) l) (take-append_seam numbers few)

-- the last entry is the least first token
pub noted_in-least : (front : List Entry) (numbers : List ℕ) (one : Entry) →
    noted_in (reverse (front ++ one ∷ [])) numbers
    ≡ noted_at one.first (drop (length numbers - one.count) numbers) ∷ noted_in (reverse front) (take (length numbers - one.count) numbers)
noted_in-least front numbers one = ap (λ order. noted_in order numbers) (reverse-append front (one ∷ []))

-- a list that has a last element
pub last_of : {A : Type 0} → (xs : List A) (x : A) → slice_get xs (length xs - 1) ≡ Some x → xs ≡ take (length xs - 1) xs ++ x ∷ []
last_of xs x e =
    let n : ℕ = length xs - 1 in
    let within : n < length xs = slice_get_within xs n x e in
    sym (take_all (n + 1) xs (omega arith)) ∙ take_more xs n x within ∙ ap (λ y. take n xs ++ y ∷ []) (get_or_from_slice_get xs n x x e)

-- no entry, no first token
pub noted_in-none : (entries : List Entry) (numbers : List ℕ) → length entries ≡ 0 → noted_in (reverse entries) numbers ≡ []
noted_in-none [] numbers e = refl
noted_in-none (one ∷ entries) numbers e = absurd (omega arith)

-- no last element, no element
pub none_of : {A : Type 0} → (xs : List A) → None ≡ slice_get xs (length xs - 1) → length xs ≡ 0
none_of [] e = refl
none_of (x ∷ xs) e = absurd (let some = slice_get-get_or (x ∷ xs) (length (x ∷ xs) - 1) x (omega arith) in
    let never : None ≡ Some (get_or (x ∷ xs) (length (x ∷ xs) - 1) x) = e ∙ some in cc)

module _ (entries : List Entry) (numbers : List ℕ) where
  -- the least first token, as it is read
  pub noted_in-read : (read : List ℕ) (len : ℕ) (one : Entry) → slice_get entries (length entries - 1) ≡ Some one → read ≡ numbers → len ≡ length numbers →
      noted_in (reverse entries) numbers
      ≡ noted_at one.first (take (length read - (len - one.count)) (drop (len - one.count) read)) ∷ drop 1 (noted_in (reverse entries) numbers)
  noted_in-read read len one last same count =
      let front : List Entry = take (length entries - 1) entries in
      let from : ℕ = length numbers - one.count in
      let whole : noted_in (reverse entries) numbers ≡ noted_at one.first (drop from numbers) ∷ noted_in (reverse front) (take from numbers) =
      ap (λ l. noted_in (reverse l) numbers) (last_of entries one last) ∙ noted_in-least front numbers one in
      let rest : drop 1 (noted_in (reverse entries) numbers) ≡ noted_in (reverse front) (take from numbers) = ap (drop 1) whole in
      let part : take (length read - (len - one.count)) (drop (len - one.count) read) ≡ drop from numbers =
      take_all (length read - (len - one.count)) (drop (len - one.count) read) (omega (arith, length-drop (len - one.count) read))
      ∙ ap (λ l. drop (len - one.count) l) same ∙ ap (λ n. drop (n - one.count) numbers) count in
      whole ∙ ap (λ l. noted_at one.first l ∷ noted_in (reverse front) (take from numbers)) (sym part)
      ∙ ap (λ l. noted_at one.first (take (length read - (len - one.count)) (drop (len - one.count) read)) ∷ l) (sym rest)

  -- the others, where it is removed
  pub noted_in-removed : (front : List Entry) (len : ℕ) (one : Entry) → entries ≡ front ++ one ∷ [] → len ≡ length numbers →
      noted_in (reverse front) (take (len - one.count) numbers) ≡ drop 1 (noted_in (reverse entries) numbers)
  noted_in-removed front len one split count =
      sym (ap (λ l. drop 1 (noted_in (reverse l) numbers)) split ∙ ap (drop 1) (noted_in-least front numbers one)
      ∙ ap (λ n. noted_in (reverse front) (take (n - one.count) numbers)) (sym count))
