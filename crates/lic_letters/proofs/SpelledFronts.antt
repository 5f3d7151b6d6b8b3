-- Simple characters at the start of bytes, put one after another.
use Rattle.std.proofs.Common.{◌≡◌, ℕ, zero, suc, ◌+◌, ◌-◌, ◌<◌, ◌≤◌, true, false, not, ◌&&◌, le-leb, List, [], ◌∷◌, ◌++◌, length, take, drop, get_or, inl, inr, refl, sym, ap, ap₂, ◌∙◌, arith, subst, append_assoc, append-nil, length-append, length-take-le, take-add, take_at, take_all, drop_at}
use Rattle.std.specs.Prelude.{chars, nat_le, IsAscii, IsUtf8, encode_utf8_all}
use Rattle.std.specs.List.{prefix_len}
use Rattle.std.specs.Simd.Lanes.{chunk}
use Rattle.std.specs.Char.{encode_utf8}
use Rattle.std.proofs.lemmas.Bool.{and_parts, cases_lt, cond-true, false≢true, lt-ltb}
use Rattle.std.proofs.lemmas.Simd.{run_in_chunk_fails, run_in_chunk_le}
use Rattle.std.proofs.lemmas.List.{drop-drop, drop-append-le, drop_all, length-drop, take-append-drop, take-append-le}
use Rattle.std.proofs.lemmas.Str.{encodes-IsAscii, encodes-append, encodes-chars, chars-append, chars-encodes}
use Rattle.std.proofs.lemmas.Str.Ascii.{IsAscii-cons, IsAscii-nil}
use Rattle.std.proofs.Math.Seq.{drop-append_seam, take-append_seam}
use borrow.Rule.Slice.PartMut.{mid_of, post_of, put_mid}
use Rattle.std.proofs.Math.Utf8.{scalar, scalars, low_scalar}
use Rattle.lic_kind.specs.declared.Kind.TheVariants as kind
use Rattle.lic_kind.specs.Kinds.{kind_of}
use Rattle.lic_letters.proofs.InPlace.{offsets_size}
use Rattle.lic_letters.specs.Simple.{IsSimple, IsAlone, IsNoFront, AreDone, AreOwn, AreSimple, ArePut, IsSpelled, in_place, all_in_place}

-- ---- a character beyond ASCII

alone_from : (c : ℕ) (others after bytes : List ℕ) → (kind_of c ≡ kind.Mark → IsNoFront (encode_utf8 c) bytes) → bytes ≡ encode_utf8_all others ++ after → IsAlone c others
alone_from c [] after bytes no_front e = tt
alone_from c (d ∷ others) after bytes no_front e = λ big mark same.
    no_front mark (encode_utf8_all others ++ after)
    (e ∙ append_assoc (encode_utf8 d) (encode_utf8_all others) after ∙ ap (λ n. encode_utf8 n ++ (encode_utf8_all others ++ after)) (sym same))

pub char_put : (c n : ℕ) (bytes old new : List ℕ) → scalar c ≡ true → IsSimple c → n ≤ length bytes → bytes ≡ encode_utf8 c ++ drop n bytes
    → (kind_of c ≡ kind.Mark → IsNoFront (encode_utf8 c) (drop n bytes)) → new ≡ old ++ in_place c → ArePut bytes n old new
char_put c n bytes old new is_scalar simple within spells no_front added = record {
  front = c ∷ [];
  scalar = ap (λ t. t && true) is_scalar;
  within = within;
  spells = spells ∙ ap (λ l. l ++ drop n bytes) (sym (append-nil (encode_utf8 c)));
  added = added ∙ ap (λ l. old ++ l) (sym (append-nil (in_place c)));
  simple = λ others after are e. (simple, alone_from c others after (drop n bytes) no_front e, are);
}

-- ---- characters of ASCII

small_alone : (c : ℕ) (others : List ℕ) → c < 128 → IsAlone c others
small_alone c [] small = tt
small_alone c (d ∷ others) small = λ big mark same. absurd (omega (arith, small, big))

ascii_simple : (front others : List ℕ) → IsAscii front → AreSimple others → AreSimple (front ++ others)
ascii_simple [] others ascii are = are
ascii_simple (c ∷ front) others ascii are =
    (inl (ascii 0), small_alone c (front ++ others) (ascii 0), ascii_simple front others (λ i. ascii (suc i)) are)

ascii_scalars : (front : List ℕ) → IsAscii front → scalars front ≡ true
ascii_scalars [] ascii = refl
ascii_scalars (c ∷ front) ascii =
    ap₂ (λ t u. t && u) (low_scalar c (omega (arith, ascii 0))) (ascii_scalars front (λ i. ascii (suc i)))

ascii_in_place : (front : List ℕ) → IsAscii front → all_in_place front ≡ front
ascii_in_place [] ascii = refl
ascii_in_place (c ∷ front) ascii =
    ap₂ (λ k l. k ++ l) (cond-true _ (c ∷ []) _ (lt-ltb c 128 (ascii 0))) (ascii_in_place front (λ i. ascii (suc i)))

ascii_put : (n : ℕ) (bytes old : List ℕ) → n ≤ length bytes → IsAscii (take n bytes) → ArePut bytes n old (old ++ take n bytes)
ascii_put n bytes old within ascii = record {
  front = take n bytes;
  scalar = ascii_scalars (take n bytes) ascii;
  within = within;
  spells = sym (take-append-drop n bytes) ∙ ap (λ l. l ++ drop n bytes) (sym (encodes-IsAscii (take n bytes) ascii));
  added = ap (λ l. old ++ l) (sym (ascii_in_place (take n bytes) ascii));
  simple = λ others after are e. ascii_simple (take n bytes) others ascii are;
}

pub ascii_own : (n : ℕ) (bytes : List ℕ) → n ≤ length bytes → IsAscii (take n bytes) → AreOwn bytes n
ascii_own n bytes within ascii = record { within = within; put = λ old. ascii_put n bytes old within ascii }

pub one_own : (bytes : List ℕ) → 0 < length bytes → get_or bytes 0 0 < 128 → AreOwn bytes 1
one_own [] some small = absurd (omega (arith, some))
one_own (b ∷ bytes) some small = ascii_own 1 (b ∷ bytes) (omega arith) (IsAscii-cons b [] small IsAscii-nil)

low_take : (n : ℕ) (bytes : List ℕ) → ((k : ℕ) → k < n → get_or bytes k 0 < 128) → IsAscii (take n bytes)
low_take zero bytes low = IsAscii-nil
low_take (suc n) [] low = IsAscii-nil
low_take (suc n) (b ∷ bytes) low = IsAscii-cons b (take n bytes) (low 0 (omega arith)) (low_take n bytes (λ k lt. low (suc k) (omega (arith, lt))))

-- a byte is not beyond ASCII
not_high : (b : ℕ) → nat_le 128 b ≡ false → b < 128
not_high b not = elim (cases_lt b 128) [
  | inl low ↦ low
  | inr high ↦ absurd (false≢true (sym not ∙ le-leb 128 b high))
]

-- of 16 bytes those before the first that is beyond ASCII
pub before_high_own : (bytes : List ℕ) (n : ℕ) → 16 ≤ length bytes → n ≡ prefix_len (λ b. not (nat_le 128 b)) (chunk 0 16 bytes) → AreOwn bytes n
before_high_own bytes n long counted =
    let fits : 0 + 16 ≤ length bytes = omega (arith, long) in
    let few : n ≤ 16 = run_in_chunk_le (λ b. nat_le 128 b) bytes 0 16 n 0 fits counted in
    ascii_own n bytes (omega (arith, long, few))
    (low_take n bytes (λ k lt. not_high (get_or bytes k 0)
    (run_in_chunk_fails (λ b. nat_le 128 b) bytes 0 16 n 0 fits counted k (omega arith) (omega (arith, lt)))))

-- ---- one after another

scalars_both : (xs ys : List ℕ) → scalars xs ≡ true → scalars ys ≡ true → scalars (xs ++ ys) ≡ true
scalars_both [] ys h k = k
scalars_both (x ∷ xs) ys h k =
    let parts = and_parts (scalar x) (scalars xs) h in
    ap₂ (λ t u. t && u) parts.0 (scalars_both xs ys parts.1 k)

pub placed_both : (xs ys : List ℕ) → all_in_place (xs ++ ys) ≡ all_in_place xs ++ all_in_place ys
placed_both [] ys = refl
placed_both (x ∷ xs) ys = ap (λ l. in_place x ++ l) (placed_both xs ys) ∙ sym (append_assoc (in_place x) (all_in_place xs) (all_in_place ys))

pub none_put : (bytes old : List ℕ) → ArePut bytes 0 old old
none_put bytes old = record {
  front = [];
  scalar = refl;
  within = omega arith;
  spells = refl;
  added = sym (append-nil old);
  simple = λ others after are e. are;
}

next_of : (bytes rest : List ℕ) (at n : ℕ) (old new cs after : List ℕ) → rest ≡ drop at bytes → (put : ArePut rest n old new)
    → drop (at + n) bytes ≡ encode_utf8_all cs ++ after → drop at bytes ≡ encode_utf8_all (put.front ++ cs) ++ after
next_of bytes rest at n old new cs after here put e =
    sym here ∙ put.spells ∙ ap (λ l. encode_utf8_all put.front ++ l) (ap (drop n) here ∙ drop-drop n at bytes ∙ e)
    ∙ sym (append_assoc (encode_utf8_all put.front) (encode_utf8_all cs) after)
    ∙ ap (λ l. l ++ after) (sym (encodes-append put.front cs))

pub put_on : (bytes : List ℕ) (at n : ℕ) (rest old between new : List ℕ) → ArePut bytes at old between → rest ≡ drop at bytes → ArePut rest n between new
    → ArePut bytes (at + n) old new
put_on bytes at n rest old between new one here two =
    let left : drop n rest ≡ drop (at + n) bytes = ap (drop n) here ∙ drop-drop n at bytes in
    record {
      front = one.front ++ two.front;
      scalar = scalars_both one.front two.front one.scalar two.scalar;
      within = omega (arith, two.within, ap length here, length-drop at bytes, one.within);
      spells = one.spells ∙ ap (λ l. encode_utf8_all one.front ++ l) (sym here ∙ two.spells ∙ ap (λ l. encode_utf8_all two.front ++ l) left)
          ∙ sym (append_assoc (encode_utf8_all one.front) (encode_utf8_all two.front) (drop (at + n) bytes))
          ∙ ap (λ l. l ++ drop (at + n) bytes) (sym (encodes-append one.front two.front));
      added = two.added ∙ ap (λ l. l ++ all_in_place two.front) one.added ∙ append_assoc old (all_in_place one.front) (all_in_place two.front)
          ∙ ap (λ l. old ++ l) (sym (placed_both one.front two.front));
      simple = λ others after are e.
          subst AreSimple (sym (append_assoc one.front two.front others))
          (one.simple (two.front ++ others) after (two.simple others after are (left ∙ e)) (next_of bytes rest at n between new others after here two e));
    }

pub none_own : (bytes : List ℕ) → AreOwn bytes 0
none_own bytes = record { within = omega arith; put = λ old. subst (ArePut bytes 0 old) (sym (append-nil old)) (none_put bytes old) }

pub own_on : (bytes : List ℕ) (at n : ℕ) (rest : List ℕ) → AreOwn bytes at → rest ≡ drop at bytes → AreOwn rest n → AreOwn bytes (at + n)
own_on bytes at n rest one here two =
    record { within = (both []).within; put = both }
  where
    both : (old : List ℕ) → ArePut bytes (at + n) old (old ++ take (at + n) bytes)
    both old =
        let all : (old ++ take at bytes) ++ take n rest ≡ old ++ take (at + n) bytes =
        append_assoc old (take at bytes) (take n rest) ∙ ap (λ l. old ++ l) (ap (λ l. take at bytes ++ take n l) here ∙ sym (take-add at n bytes)) in
        subst (ArePut bytes (at + n) old) all
        (put_on bytes at n rest old (old ++ take at bytes) ((old ++ take at bytes) ++ take n rest) (one.put old) here (two.put (old ++ take at bytes)))

pub put_spelled : (bytes : List ℕ) (at : ℕ) (old new : List ℕ) → ArePut bytes at old new
    → (spelled : List ℕ) × (new ≡ old ++ spelled) × IsSpelled (take at bytes) spelled
put_spelled bytes at old new is =
    let all : AreSimple is.front = subst AreSimple (append-nil is.front) (is.simple [] (drop at bytes) tt refl) in
    let size : length (encode_utf8_all is.front) ≡ at =
    omega (arith, ap length is.spells, length-append (encode_utf8_all is.front) (drop at bytes), length-drop at bytes, is.within) in
    let front : take at bytes ≡ encode_utf8_all is.front =
    ap₂ take (sym size) is.spells ∙ take-append_seam (encode_utf8_all is.front) (drop at bytes) in
    let chars_are : chars (take at bytes) ≡ is.front = ap chars front ∙ chars-encodes is.front is.scalar in (
      all_in_place is.front,
      is.added,
      record {
        utf8 = (is.front, (is.scalar, sym front));
        simple = subst AreSimple (sym chars_are) all;
        is = ap all_in_place (sym chars_are);
      },
    )

-- ---- a beginning of simple characters

alone_front : (c : ℕ) (xs ys : List ℕ) → IsAlone c (xs ++ ys) → IsAlone c xs
alone_front c [] ys alone = tt
alone_front c (x ∷ xs) ys alone = alone

simple_front : (xs ys : List ℕ) → AreSimple (xs ++ ys) → AreSimple xs
simple_front [] ys are = tt
simple_front (x ∷ xs) ys are = (are.0, alone_front x xs ys are.1, simple_front xs ys are.2)

-- a beginning of a text of simple characters, and what it is spelled by
pub front_spelled : (text spelled : List ℕ) (n : ℕ) → IsSpelled text spelled → n ≤ length text → IsUtf8 (take n text)
    → IsSpelled (take n text) (take n spelled)
front_spelled text spelled n is within utf8 =
    let front = take n text in
    let xs = chars front in
    let ys = chars (drop n text) in
    let all : chars text ≡ xs ++ ys = ap chars (sym (take-append-drop n text)) ∙ chars-append front (drop n text) utf8 in
    let are : AreSimple xs = simple_front xs ys (subst AreSimple all is.simple) in
    let both : spelled ≡ all_in_place xs ++ all_in_place ys = is.is ∙ ap all_in_place all ∙ placed_both xs ys in
    let long : length (all_in_place xs) ≡ n = sym (offsets_size xs are) ∙ ap length (encodes-chars front utf8) ∙ length-take-le n text within in
    record {
      utf8 = utf8;
      simple = are;
      is = ap (take n) both ∙ take_at (all_in_place xs) (all_in_place ys) n long;
    }

-- ---- in a copy of the bytes

-- what is put may come after anything
pub put_after : (bytes : List ℕ) (n : ℕ) (old new : List ℕ) → ArePut bytes n [] new → ArePut bytes n old (old ++ new)
put_after bytes n old new put = record {
  front = put.front;
  scalar = put.scalar;
  within = put.within;
  spells = put.spells;
  added = ap (λ l. old ++ l) put.added;
  simple = put.simple;
}

pub none_done : (bytes : List ℕ) → AreDone bytes 0 []
none_done bytes = record { within = omega arith; put = none_put bytes []; after = bytes; copied = refl }

-- what comes after the copy
after_copy : (bytes : List ℕ) (n : ℕ) (copy : List ℕ) (done : AreDone bytes n copy) → done.after ≡ drop (length copy) bytes
after_copy bytes n copy done =
    let rest : length (drop n copy) ≡ length copy - n = length-drop n copy in
    let all : n + (length copy - n) ≡ length copy = omega (arith, done.within) in
    sym (ap (λ k. drop k (drop n copy ++ done.after)) (sym rest) ∙ drop-append_seam (drop n copy) done.after)
    ∙ ap (drop (length copy - n)) (sym done.copied) ∙ drop-drop (length copy - n) n bytes ∙ ap (λ k. drop k bytes) all

-- more of the bytes are copied
pub done_copied : (bytes : List ℕ) (n k : ℕ) (copy : List ℕ) → AreDone bytes n copy → AreDone bytes n (copy ++ take k (drop (length copy) bytes))
done_copied bytes n k copy done =
    let more = take k (drop (length copy) bytes) in
    let parts : done.after ≡ more ++ drop k done.after =
    sym (take-append-drop k done.after) ∙ ap (λ l. take k l ++ drop k done.after) (after_copy bytes n copy done) in
    record {
      within = omega (arith, done.within, length-append copy more);
      put = subst (ArePut bytes n []) (sym (take-append-le n copy more done.within)) done.put;
      after = drop k done.after;
      copied = done.copied ∙ ap (λ l. drop n copy ++ l) parts ∙ sym (append_assoc (drop n copy) more (drop k done.after))
          ∙ ap (λ l. l ++ drop k done.after) (sym (drop-append-le n copy more done.within));
    }

-- some more bytes that stay as they are
pub done_own : (bytes : List ℕ) (n k : ℕ) (rest copy : List ℕ) → AreDone bytes n copy → rest ≡ drop n bytes → AreOwn rest k → n + k ≤ length copy → AreDone bytes (n + k) copy
done_own bytes n k rest copy done here own within =
    let fits : k ≤ length (drop n copy) = omega (arith, within, length-drop n copy) in
    let same : take k rest ≡ take k (drop n copy) = ap (take k) (here ∙ done.copied) ∙ take-append-le k (drop n copy) done.after fits in
    let all : take n copy ++ take k rest ≡ take (n + k) copy = ap (λ l. take n copy ++ l) same ∙ sym (take-add n k copy) in
    record {
      within = within;
      put = subst (ArePut bytes (n + k) []) all (put_on bytes n k rest [] (take n copy) (take n copy ++ take k rest) done.put here (own.put (take n copy)));
      after = done.after;
      copied = sym (drop-drop k n bytes) ∙ ap (drop k) done.copied ∙ drop-append-le k (drop n copy) done.after fits ∙ ap (λ l. l ++ done.after) (drop-drop k n copy);
    }

-- some more that are put in place of bytes that were copied
pub done_put : (bytes : List ℕ) (n k : ℕ) (rest copy new : List ℕ) → AreDone bytes n copy → rest ≡ drop n bytes → k ≤ length copy - n
    → length new ≡ length copy - n → ArePut rest k [] (take k new) → drop k new ≡ drop k (drop n copy) → AreDone bytes (n + k) (take n copy ++ new)
done_put bytes n k rest copy new done here within long put same =
    let front : length (take n copy) ≡ n = length-take-le n copy done.within in
    let whole : length (take n copy ++ new) ≡ n + length new = omega (arith, length-append (take n copy) new, front) in
    let fits : k ≤ length (drop n copy) = omega (arith, within, length-drop n copy) in
    let first : take (n + k) (take n copy ++ new) ≡ take n copy ++ take k new =
    take-add n k (take n copy ++ new) ∙ ap₂ (λ xs ys. xs ++ take k ys) (take_at (take n copy) new n front) (drop_at (take n copy) new n front) in
    let last : drop (n + k) (take n copy ++ new) ≡ drop k new =
    sym (drop-drop k n (take n copy ++ new)) ∙ ap (drop k) (drop_at (take n copy) new n front) in
    record {
      within = omega (arith, whole, long, within, done.within);
      put = subst (ArePut bytes (n + k) []) (sym first)
          (put_on bytes n k rest [] (take n copy) (take n copy ++ take k new) done.put here (put_after rest k (take n copy) (take k new) put));
      after = done.after;
      copied = sym (drop-drop k n bytes) ∙ ap (drop k) done.copied ∙ drop-append-le k (drop n copy) done.after fits
          ∙ ap (λ l. l ++ done.after) (sym same ∙ sym last);
    }

-- the same, as the copy is after a write to its end
pub done_put_mid : (bytes : List ℕ) (n k : ℕ) (rest copy new : List ℕ) → AreDone bytes n copy → rest ≡ drop n bytes
    → k ≤ length (mid_of n (length copy - n) copy) → length new ≡ length (mid_of n (length copy - n) copy) → ArePut rest k [] (take k new)
    → drop k new ≡ drop k (mid_of n (length copy - n) copy) → AreDone bytes (n + k) (put_mid n (length copy - n) copy new)
done_put_mid bytes n k rest copy new done here within long put same =
    let left : length (drop n copy) ≡ length copy - n = length-drop n copy in
    let mid : mid_of n (length copy - n) copy ≡ drop n copy = take_all (length copy - n) (drop n copy) (omega (arith, left)) in
    let post : post_of n (length copy - n) copy ≡ [] = drop_all (length copy - n) (drop n copy) (omega (arith, left)) in
    let whole : put_mid n (length copy - n) copy new ≡ take n copy ++ new = ap (λ l. take n copy ++ l) (ap (λ l. new ++ l) post ∙ append-nil new) in
    subst (AreDone bytes (n + k)) (sym whole)
    (done_put bytes n k rest copy new done here (omega (arith, within, ap length mid, left)) (omega (arith, long, ap length mid, left)) put (same ∙ ap (drop k) mid))
