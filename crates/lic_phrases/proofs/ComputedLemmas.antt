-- The words that are computed are the words of the list.
use Rattle.std.proofs.Common.{◌≡◌, ◌≢◌, ℕ, zero, suc, ◌<◌, ◌≤◌, Bool, true, false, cond, nat_lt, Decides, inl, inr, List, [], ◌∷◌, ◌++◌, length, get_or, refl, sym, ap, subst, ◌∙◌, arith, append_assoc, append-nil}
use Rattle.std.proofs.lemmas.Bool.{cases_Bool, cases_lt}
use Rattle.std.proofs.lemmas.Bool.Decides.{nat_tests}
use Rattle.std.proofs.lemmas.List.{length-map}
use Rattle.std.proofs.lemmas.List.Elements.{Contains-append_left, Contains-get_or}
use Rattle.std.proofs.lemmas.Slice.Eq.{slice_eq-Decides, bytes_eq-Decides}
use Rattle.std.specs.List.{Contains, position_or_len}
use Rattle.lic_phrases.specs.Classes.{AreRepresentatives, classes_joined}
use Rattle.lic_phrases.specs.WordLists.{AreWords}
use Rattle.lic_phrases.specs.WordReading.{HasRead}
use Rattle.lic_phrases.proofs.ClassLemmas.{first_phrase, next_phrase}
use Rattle.lic_phrases.proofs.ListedLemmas.{index_here, index_later, line_is_read, nothing_read, words_with_heads}
use Rattle.lic_phrases.proofs.ReadingLemmas.{read_again, read_new, line_below}
use Rattle.lic_phrases.proofs.WordsComputed.{Reading, same_phrase, with_phrase, with_phrases, joined_with, all_joined, line_ended, with_lines, words_computed}

-- ---- the index of a phrase

same-Decides : (p q : List (List ℕ)) → Decides (same_phrase p q) (p ≡ q)
same-Decides p q = slice_eq-Decides bytes_eq-Decides p q (same_phrase p q) refl

index_within : {A : Type 0} (p : A → Bool) (xs : List A) → position_or_len p xs ≤ length xs
index_within p [] = omega arith
index_within p (x ∷ xs) = elim (cases_Bool (p x)) [
  | inl e ↦ omega (arith, index_here p x xs e)
  | inr e ↦ omega (arith, index_later p x xs e, index_within p xs)
]

found_at : (p : List (List ℕ)) (phrases : List (List (List ℕ)))
    → position_or_len (same_phrase p) phrases < length phrases
    → get_or phrases (position_or_len (same_phrase p) phrases) [] ≡ p
found_at p [] within = absurd (omega arith)
found_at p (q ∷ phrases) within = elim (cases_Bool (same_phrase p q)) [
  | inl e ↦ ap (λ i. get_or (q ∷ phrases) i []) (index_here (same_phrase p) q phrases e) ∙ sym ((same-Decides p q).0 e)
  | inr e ↦
      let later = index_later (same_phrase p) q phrases e in
      ap (λ i. get_or (q ∷ phrases) i []) later ∙ found_at p phrases (omega arith)
]

absent_at : (p : List (List ℕ)) (phrases : List (List (List ℕ)))
    → length phrases ≤ position_or_len (same_phrase p) phrases → (i : ℕ) → i < length phrases → get_or phrases i [] ≢ p
absent_at p [] many i within = absurd (omega arith)
absent_at p (q ∷ phrases) many zero within = λ same. omega (arith, index_here (same_phrase p) q phrases ((same-Decides p q).1 (sym same)))
absent_at p (q ∷ phrases) many (suc i) within = elim (cases_Bool (same_phrase p q)) [
  | inl e ↦ absurd (omega (arith, index_here (same_phrase p) q phrases e))
  | inr e ↦ absent_at p phrases (omega (arith, index_later (same_phrase p) q phrases e)) i (omega arith)
]

-- ---- a line

abbrev Known : List (List (List (List ℕ))) → List (List (List ℕ)) → Reading → Type 0
Known lines line r = HasRead [] lines line r.phrases r.heads r.numbers

with_phrase-known : (lines : List (List (List (List ℕ)))) (line : List (List (List ℕ))) (p : List (List ℕ))
    (r : Reading) → Known lines line r → Known lines (line ++ p ∷ []) (with_phrase p r)
with_phrase-known lines line p r known =
    let index = position_or_len (same_phrase p) r.phrases in
    let old : Reading = record { phrases = r.phrases; heads = r.heads; numbers = r.numbers ++ index ∷ [] } in
    let new : Reading = record { phrases = r.phrases ++ p ∷ []; heads = r.heads ++ length r.heads ∷ []; numbers = r.numbers ++ index ∷ [] } in
    elim (cases_lt index (length r.phrases)) [
      | inl within ↦
          let test : nat_lt index (length r.phrases) ≡ true = grind (arith, nat_tests) in
          subst (Known lines (line ++ p ∷ [])) (sym (ap (λ b. cond b old new) test))
          (subst (λ q. HasRead [] lines (line ++ q ∷ []) r.phrases r.heads (r.numbers ++ index ∷ [])) (found_at p r.phrases within)
          (read_again [] lines line r.phrases r.heads r.numbers known index within))
      | inr beyond ↦
          let test : nat_lt index (length r.phrases) ≡ false = grind (arith, nat_tests) in
          let last : length r.phrases ≡ index = omega (arith, index_within (same_phrase p) r.phrases) in
          subst (Known lines (line ++ p ∷ [])) (sym (ap (λ b. cond b old new) test))
          (subst (λ n. HasRead [] lines (line ++ p ∷ []) (r.phrases ++ p ∷ []) (r.heads ++ length r.heads ∷ []) (r.numbers ++ n ∷ [])) last
          (read_new [] lines line r.phrases r.heads r.numbers known p (absent_at p r.phrases beyond)))
    ]

with_phrases-known : (lines : List (List (List (List ℕ)))) (line phrases : List (List (List ℕ))) (r : Reading)
    → Known lines line r → Known lines (line ++ phrases) (with_phrases phrases r)
with_phrases-known lines line [] r known = subst (λ (l : List (List (List ℕ))). Known lines l r) (sym (append-nil line)) known
with_phrases-known lines line (p ∷ phrases) r known =
    subst (λ (l : List (List (List ℕ))). Known lines l (with_phrases phrases (with_phrase p r))) (append_assoc line (p ∷ []) phrases)
    (with_phrases-known lines (line ++ p ∷ []) phrases (with_phrase p r) (with_phrase-known lines line p r known))

-- ---- the class of a line

length-joined_with : (first : ℕ) (numbers heads : List ℕ) → length (joined_with first numbers heads) ≡ length heads
length-joined_with first [] heads = refl
length-joined_with first (number ∷ numbers) heads = length-joined_with first numbers (classes_joined heads first number) ∙ length-map heads _

length-all_joined : (numbers heads : List ℕ) → length (all_joined numbers heads) ≡ length heads
length-all_joined [] heads = refl
length-all_joined (first ∷ numbers) heads = length-joined_with first numbers heads

joined_with-heads : (before : List (List ℕ)) (first : ℕ) (line numbers heads : List ℕ)
    → AreRepresentatives (before ++ line ∷ []) heads → Contains line first
    → ((k : ℕ) → k < length numbers → get_or numbers k 0 < length heads)
    → AreRepresentatives (before ++ (line ++ numbers) ∷ []) (joined_with first numbers heads)
joined_with-heads before first line [] heads known has bound = subst (λ (l : List ℕ). AreRepresentatives (before ++ l ∷ []) heads) (sym (append-nil line)) known
joined_with-heads before first line (number ∷ numbers) heads known has bound =
    let here : number < length heads = bound 0 (omega arith) in
    let as_long : length (classes_joined heads first number) ≡ length heads = length-map heads _ in
    subst (λ (l : List ℕ). AreRepresentatives (before ++ l ∷ []) (joined_with first numbers (classes_joined heads first number)))
    (append_assoc line (number ∷ []) numbers)
    (joined_with-heads before first (line ++ number ∷ []) numbers (classes_joined heads first number)
    (next_phrase before line heads first number known has here) (Contains-append_left line (number ∷ []) first has)
    (λ k within. omega (arith, bound (suc k) (omega arith), as_long)))

all_joined-heads : (before : List (List ℕ)) (numbers heads : List ℕ)
    → ((k : ℕ) → k < length numbers → get_or numbers k 0 < length heads) → AreRepresentatives (before ++ [] ∷ []) heads
    → AreRepresentatives (before ++ numbers ∷ []) (all_joined numbers heads)
all_joined-heads before [] heads bound known = known
all_joined-heads before (first ∷ numbers) heads bound known =
    joined_with-heads before first (first ∷ []) numbers heads
    (first_phrase before heads first known (bound 0 (omega arith)))
    (0, omega arith, refl) (λ k within. bound (suc k) (omega arith))

line_ended-known : (lines : List (List (List (List ℕ)))) (line : List (List (List ℕ))) (r : Reading)
    → Known lines line r → Known (lines ++ line ∷ []) [] (line_ended r)
line_ended-known lines line r known =
    line_is_read lines line r.phrases r.heads (all_joined r.numbers r.heads) r.numbers known (length-all_joined r.numbers r.heads)
    (λ before heads. all_joined-heads before r.numbers r.heads
    (λ k within. omega (
      arith,
      line_below [] lines line r.phrases r.heads r.numbers known (get_or r.numbers k 0)
          (Contains-get_or r.numbers k 0 within),
      known.as_many,
    )) heads)

-- ---- the list

with_lines-known : (before lines : List (List (List (List ℕ)))) (r : Reading) → r.numbers ≡ []
    → HasRead [] before [] r.phrases r.heads []
    → HasRead [] (before ++ lines) [] (with_lines lines r).phrases (with_lines lines r).heads []
with_lines-known before [] r none known = subst (λ (l : List (List (List (List ℕ)))). HasRead [] l [] r.phrases r.heads []) (sym (append-nil before)) known
with_lines-known before (line ∷ lines) r none known =
    let begun : Known before [] r = subst (λ (l : List ℕ). HasRead [] before [] r.phrases r.heads l) (sym none) known in
    let next : Reading = line_ended (with_phrases line r) in
    let ended : Known (before ++ line ∷ []) [] next = line_ended-known before line (with_phrases line r) (with_phrases-known before [] line r begun) in
    subst (λ (l : List (List (List (List ℕ)))). HasRead [] l [] (with_lines lines next).phrases
    (with_lines lines next).heads []) (append_assoc before (line ∷ []) lines)
    (with_lines-known (before ++ line ∷ []) lines next refl ended)

pub words_computed-AreWords : (lines : List (List (List (List ℕ)))) → AreWords lines (words_computed lines)
words_computed-AreWords lines =
    let start : Reading = record { phrases = []; heads = []; numbers = [] } in
    let read : Reading = with_lines lines start in
    words_with_heads lines read.phrases read.heads (with_lines-known [] lines start refl nothing_read)
