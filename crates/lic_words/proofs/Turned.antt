-- Spelling read from the end.
use Rattle.std.proofs.Common.{◌≡◌, ℕ, zero, suc, Bool, true, false, ◌==◌, ◌&&◌, List, [], ◌∷◌, ◌++◌, inl, inr, reverse, map, refl, sym, ap, ◌∙◌, subst, append_assoc, append-nil, eqb-true, if◌then◌else◌}
use Rattle.std.proofs.lemmas.Bool.{cases_Bool}
use Rattle.std.proofs.lemmas.List.{reverse-append, reverse-reverse}
use Rattle.lic_words.specs.Words.{Word, blank, blanks}
use Rattle.lic_words.specs.Letters.{is_word}
use Rattle.lic_words.specs.Spelling.{Gap, free, gap_of, gapped_from, Allows, SpellsGapped, sequence_of, gapped, Spells, last_letter, apart_after}
use Rattle.lic_words.specs.Expressions.{Expression}
use Rattle.lic_words.specs.Describing.{IsDescribed}
use Rattle.lic_words.specs.Reversal.{reversed_expression, reversed_tokens}
use Rattle.lic_words.proofs.Reversal.{Language-reversed_expression, reversed_expression-Language}
use Rattle.lic_words.proofs.Spellings.{gap-after_blank}

-- the letters, each with the gap after it; after the last any number of blanks may be
abbrev pub past : List (Gap × ℕ) → List (Gap × ℕ)
past [] = []
past (p ∷ []) = (free, p.1) ∷ []
past (p ∷ q ∷ rest) = (q.0, p.1) ∷ past (q ∷ rest)

-- the same letters from the last on
abbrev pub mirror : List (Gap × ℕ) → List (Gap × ℕ)
mirror F = reverse (past F)

-- as SpellsGapped, with no blank at the end
abbrev SpellsEnd : Word → List (Gap × ℕ) → Type 0
SpellsEnd w [] = w ≡ []
SpellsEnd w (p ∷ rest) = (n : ℕ) × Allows p.0 n × (v : Word) × (w ≡ blanks n ++ p.1 ∷ v) × SpellsEnd v rest

-- each letter and then the gap after it
abbrev SpellsAfter : Word → List (Gap × ℕ) → Type 0
SpellsAfter w [] = w ≡ []
SpellsAfter w (p ∷ rest) = (n : ℕ) × Allows p.0 n × (v : Word) × (w ≡ p.1 ∷ blanks n ++ v) × SpellsAfter v rest

blanks_then : (n : ℕ) (w : Word) → blanks n ++ blank ∷ w ≡ blank ∷ blanks n ++ w
blanks_then zero w = refl
blanks_then (suc n) w = ap (λ s. blank ∷ s) (blanks_then n w)

reverse-blanks : (n : ℕ) → reverse (blanks n) ≡ blanks n
reverse-blanks zero = refl
reverse-blanks (suc n) =
    reverse-append (blank ∷ []) (blanks n) ∙ ap (λ s. s ++ blank ∷ []) (reverse-blanks n)
    ∙ blanks_then n [] ∙ ap (λ s. blank ∷ s) (append-nil (blanks n))

End-then_blanks : (F : List (Gap × ℕ)) (u : Word) (k : ℕ) → SpellsEnd u F → SpellsGapped (u ++ blanks k) F
End-then_blanks [] u k e = (k, ap (λ s. s ++ blanks k) e)
End-then_blanks (p ∷ rest) u k (n, a, v, e, s) =
    (n, a, v ++ blanks k, ap (λ t. t ++ blanks k) e ∙ append_assoc (blanks n) (p.1 ∷ v) (blanks k), End-then_blanks rest v k s)

End-snoc : (F : List (Gap × ℕ)) (u : Word) (g : Gap) (c n : ℕ) → SpellsEnd u F → Allows g n → SpellsEnd (u ++ blanks n ++ c ∷ []) (F ++ (g, c) ∷ [])
End-snoc [] u g c n e a = (n, a, [], ap (λ s. s ++ blanks n ++ c ∷ []) e, refl)
End-snoc (p ∷ rest) u g c n (k, b, v, e, s) a = (
  k,
  b,
  v ++ blanks n ++ c ∷ [],
  ap (λ t. t ++ blanks n ++ c ∷ []) e ∙ simp append_assoc,
  End-snoc rest v g c n s a,
)

-- from the end, the gap after a letter comes before it
After-reversed : (B : List (Gap × ℕ)) (w : Word) → SpellsAfter w B → SpellsEnd (reverse w) (reverse B)
After-reversed [] w e = ap reverse e
After-reversed (p ∷ rest) w (n, a, v, e, s) =
    let whole = End-snoc (reverse rest) (reverse v) p.0 p.1 n (After-reversed rest v s) a in
    let word : reverse w ≡ reverse v ++ blanks n ++ p.1 ∷ [] =
    ap reverse e ∙ reverse-append (p.1 ∷ []) (blanks n ++ v)
    ∙ ap (λ t. t ++ p.1 ∷ []) (reverse-append (blanks n) v ∙ ap (λ t. reverse v ++ t) (reverse-blanks n)) in
    let sequence : reverse (p ∷ rest) ≡ reverse rest ++ p ∷ [] = reverse-append (p ∷ []) rest in
    rw (sequence, word) whole

-- the blanks before the first letter, and the rest letter by letter
to_after : (p : Gap × ℕ) (rest : List (Gap × ℕ)) (w : Word) → SpellsGapped w (p ∷ rest)
    → (k : ℕ) × Allows p.0 k × (u : Word) × (w ≡ blanks k ++ u) × SpellsAfter u (past (p ∷ rest))
to_after p [] w (n, a, v, e, (m, t)) = (n, a, p.1 ∷ v, e, (m, tt, [], ap (λ s. p.1 ∷ s) (t ∙ sym (append-nil (blanks m))), refl))
to_after p (q ∷ rest) w (n, a, v, e, s) =
    let t = to_after q rest v s in
    (n, a, p.1 ∷ v, e, (t.0, t.1, t.2, ap (λ x. p.1 ∷ x) t.3, t.4))

-- a word that spells the letters spells them in reverse from its end
pub SpellsGapped-mirror : (F : List (Gap × ℕ)) (w : Word) → SpellsGapped w F → SpellsGapped (reverse w) (mirror F)
SpellsGapped-mirror [] w (k, e) = (k, ap reverse e ∙ reverse-blanks k)
SpellsGapped-mirror (p ∷ rest) w h =
    let t = to_after p rest w h in
    let word : reverse w ≡ reverse t.2 ++ blanks t.0 = ap reverse t.3 ∙ reverse-append (blanks t.0) t.2 ∙ ap (λ s. reverse t.2 ++ s) (reverse-blanks t.0) in
    rw word (End-then_blanks (mirror (p ∷ rest)) (reverse t.2) t.0 (After-reversed (past (p ∷ rest)) t.2 t.4))

abbrev head_gap : List (Gap × ℕ) → Gap
head_gap [] = free
head_gap (p ∷ rest) = p.0

mirror-cons : (p : Gap × ℕ) (F : List (Gap × ℕ)) → mirror (p ∷ F) ≡ mirror F ++ (head_gap F, p.1) ∷ []
mirror-cons p [] = refl
mirror-cons p (q ∷ rest) = reverse-append ((q.0, p.1) ∷ []) (past (q ∷ rest))

past-first : (g h : Gap) (c : ℕ) (F : List (Gap × ℕ)) → past ((g, c) ∷ F) ≡ past ((h, c) ∷ F)
past-first g h c [] = refl
past-first g h c (q ∷ rest) = refl

-- the letter before and the blanks before a sequence say its first gap alone
past-any : (l m : ℕ) (a b : Bool) (xs : List ℕ) → past (gapped_from l a xs) ≡ past (gapped_from m b xs)
past-any l m a b [] = refl
past-any l m a b (c ∷ xs) = elim (cases_Bool (c == blank)) [
  | inl h ↦ rw h (past-any l m true true xs)
  | inr h ↦ rw h (past-first (gap_of a (is_word l && is_word c)) (gap_of b (is_word m && is_word c)) c (gapped_from c false xs))
]

apart-snoc : (a : Bool) (xs : List ℕ) (c : ℕ) → apart_after a (xs ++ c ∷ []) ≡ (c == blank)
apart-snoc a [] c = refl
apart-snoc a (d ∷ xs) c = apart-snoc (d == blank) xs c

gapped-snoc : (l : ℕ) (a : Bool) (xs : List ℕ) (c : ℕ) → (c == blank) ≡ false
    → gapped_from l a (xs ++ c ∷ []) ≡ gapped_from l a xs ++ (gap_of (apart_after a xs) (is_word (last_letter l xs) && is_word c), c) ∷ []
gapped-snoc l a [] c h = rw h refl
gapped-snoc l a (d ∷ xs) c h = elim (cases_Bool (d == blank)) [
  | inl e ↦ rw e (gapped-snoc l true xs c h)
  | inr e ↦ rw e (ap (λ s. (gap_of a (is_word l && is_word d), d) ∷ s) (gapped-snoc d false xs c h))
]

gapped-snoc_blank : (l : ℕ) (a : Bool) (xs : List ℕ) → gapped_from l a (xs ++ blank ∷ []) ≡ gapped_from l a xs
gapped-snoc_blank l a [] = refl
gapped-snoc_blank l a (d ∷ xs) = elim (cases_Bool (d == blank)) [
  | inl e ↦ rw e (gapped-snoc_blank l true xs)
  | inr e ↦ rw e (ap (λ s. (gap_of a (is_word l && is_word d), d) ∷ s) (gapped-snoc_blank d false xs))
]

abbrev first_letter : List ℕ → ℕ
first_letter [] = blank
first_letter (c ∷ xs) = if c == blank then first_letter xs else c

last-snoc : (l : ℕ) (xs : List ℕ) (c : ℕ) → (c == blank) ≡ false → last_letter l (xs ++ c ∷ []) ≡ c
last-snoc l [] c h = rw h refl
last-snoc l (d ∷ xs) c h = elim (cases_Bool (d == blank)) [
  | inl e ↦ rw e (last-snoc l xs c h)
  | inr e ↦ rw e (last-snoc d xs c h)
]

last-snoc_blank : (l : ℕ) (xs : List ℕ) → last_letter l (xs ++ blank ∷ []) ≡ last_letter l xs
last-snoc_blank l [] = refl
last-snoc_blank l (d ∷ xs) = elim (cases_Bool (d == blank)) [
  | inl e ↦ rw e (last-snoc_blank l xs)
  | inr e ↦ rw e (last-snoc_blank d xs)
]

is_blank : (c : ℕ) → (c == blank) ≡ true → c ≡ blank
is_blank c h = eqb-true c blank h

last-reverse : (xs : List ℕ) → last_letter blank (reverse xs) ≡ first_letter xs
last-reverse [] = refl
last-reverse (c ∷ xs) = elim (cases_Bool (c == blank)) [
  | inl e ↦ ap (λ s. last_letter blank s) (reverse-append (c ∷ []) xs) ∙ ap (λ d. last_letter blank (reverse xs ++ d ∷ [])) (is_blank c e)
      ∙ last-snoc_blank blank (reverse xs) ∙ last-reverse xs ∙ rw e refl
  | inr e ↦ ap (λ s. last_letter blank s) (reverse-append (c ∷ []) xs) ∙ last-snoc blank (reverse xs) c e ∙ rw e refl
]

and-reversed_tokens : (x y : Bool) → (x && y) ≡ (y && x)
and-reversed_tokens true true = refl
and-reversed_tokens true false = refl
and-reversed_tokens false true = refl
and-reversed_tokens false false = refl

head-apart : (c : ℕ) (xs : List ℕ) → head_gap (gapped_from c true xs) ≡ gap_of true (is_word (first_letter xs) && is_word c)
head-apart c [] = sym (gap-after_blank c)
head-apart c (d ∷ xs) = elim (cases_Bool (d == blank)) [
  | inl e ↦ rw e (head-apart c xs)
  | inr e ↦ rw e (ap (λ b. gap_of true b) (and-reversed_tokens (is_word c) (is_word d)))
]

head-is : (c : ℕ) (xs : List ℕ)
    → head_gap (gapped_from c false xs)
    ≡ gap_of (apart_after true (reverse xs)) (is_word (last_letter blank (reverse xs)) && is_word c)
head-is c [] = sym (gap-after_blank c)
head-is c (d ∷ xs) =
    let gap : apart_after true (reverse (d ∷ xs)) ≡ (d == blank) = ap (λ s. apart_after true s) (reverse-append (d ∷ []) xs) ∙ apart-snoc true (reverse xs) d in
    rw (gap, last-reverse (d ∷ xs)) (elim (cases_Bool (d == blank)) [
      | inl e ↦ rw e (head-apart c xs)
      | inr e ↦ rw e (ap (λ b. gap_of false b) (and-reversed_tokens (is_word c) (is_word d)))
    ])

-- the gaps of a sequence read from its end
pub gapped-reversed : (xs : List ℕ) → gapped_from blank true (reverse xs) ≡ mirror (gapped_from blank true xs)
gapped-reversed [] = refl
gapped-reversed (c ∷ xs) = elim (cases_Bool (c == blank)) [
  | inl e ↦
      ap (λ s. gapped_from blank true s) (reverse-append (c ∷ []) xs) ∙ ap (λ d. gapped_from blank true (reverse xs ++ d ∷ [])) (is_blank c e)
      ∙ gapped-snoc_blank blank true (reverse xs) ∙ gapped-reversed xs ∙ rw e refl
  | inr e ↦
      let F : List (Gap × ℕ) = gapped_from c false xs in
      ap (λ s. gapped_from blank true s) (reverse-append (c ∷ []) xs) ∙ gapped-snoc blank true (reverse xs) c e
      ∙ ap (λ s. s ++ (
        gap_of (apart_after true (reverse xs)) (is_word (last_letter blank (reverse xs)) && is_word c),
        c,
      ) ∷ []) (gapped-reversed xs ∙ ap reverse (past-any blank c true false xs))
      ∙ ap (λ g. mirror F ++ (g, c) ∷ []) (sym (head-is c xs))
      ∙ sym (mirror-cons (gap_of true (is_word blank && is_word c), c) F) ∙ rw e refl
]

sequence-snoc : (us : List (List ℕ)) (t : List ℕ) → sequence_of (us ++ t ∷ []) ≡ sequence_of us ++ blank ∷ t
sequence-snoc [] t = ap (λ s. blank ∷ s) (append-nil t)
sequence-snoc (u ∷ us) t = ap (λ s. blank ∷ u ++ s) (sequence-snoc us t) ∙ simp append_assoc

reversed_tokens-cons : (t : List ℕ) (ts : List (List ℕ)) → reversed_tokens (t ∷ ts) ≡ reversed_tokens ts ++ reverse t ∷ []
reversed_tokens-cons t ts = reverse-append (reverse t ∷ []) (map reverse ts)

sequence-reversed_tokens : (ts : List (List ℕ)) → sequence_of (reversed_tokens ts) ++ blank ∷ [] ≡ blank ∷ reverse (sequence_of ts)
sequence-reversed_tokens [] = refl
sequence-reversed_tokens (t ∷ ts) =
    ap (λ us. sequence_of us ++ blank ∷ []) (reversed_tokens-cons t ts) ∙ ap (λ s. s ++ blank ∷ []) (sequence-snoc (reversed_tokens ts) (reverse t))
    ∙ append_assoc (sequence_of (reversed_tokens ts)) (blank ∷ reverse t) (blank ∷ [])
    ∙ sym (append_assoc (sequence_of (reversed_tokens ts)) (blank ∷ []) (reverse t ++ blank ∷ []))
    ∙ ap (λ s. s ++ (reverse t ++ blank ∷ [])) (sequence-reversed_tokens ts)
    ∙ ap (λ s. blank ∷ s) (sym (append_assoc (reverse (sequence_of ts)) (reverse t) (blank ∷ []))
    ∙ ap (λ s. s ++ blank ∷ []) (sym (reverse-append t (sequence_of ts)))
    ∙ sym (reverse-append (blank ∷ []) (t ++ sequence_of ts)))

gapped-at_blank : (ts : List (List ℕ)) → gapped_from blank true (sequence_of ts) ≡ gapped ts
gapped-at_blank [] = refl
gapped-at_blank (t ∷ ts) = refl

pub gapped-reversed_tokens : (ts : List (List ℕ)) → gapped (reversed_tokens ts) ≡ mirror (gapped ts)
gapped-reversed_tokens ts =
    sym (gapped-snoc_blank blank false (sequence_of (reversed_tokens ts))) ∙ ap (λ s. gapped_from blank false s) (sequence-reversed_tokens ts)
    ∙ gapped-reversed (sequence_of ts) ∙ ap mirror (gapped-at_blank ts)

-- what spells a list of tokens spells it from the end
pub Spells-reversed_tokens : (w : Word) (ts : List (List ℕ)) → Spells w ts → Spells (reverse w) (reversed_tokens ts)
Spells-reversed_tokens w ts h = rw (gapped-reversed_tokens ts) (SpellsGapped-mirror (gapped ts) w h)

reversed_tokens-turned_map : (ts : List (List ℕ)) → map reverse (map reverse ts) ≡ ts
reversed_tokens-turned_map [] = refl
reversed_tokens-turned_map (t ∷ ts) = λ i. reverse-reverse t i ∷ reversed_tokens-turned_map ts i

map-snoc : (us : List (List ℕ)) (t : List ℕ) → map reverse (us ++ t ∷ []) ≡ map reverse us ++ reverse t ∷ []
map-snoc [] t = refl
map-snoc (u ∷ us) t = ap (λ s. reverse u ∷ s) (map-snoc us t)

map-reverse : (ts : List (List ℕ)) → map reverse (reverse ts) ≡ reverse (map reverse ts)
map-reverse [] = refl
map-reverse (t ∷ ts) =
    ap (map reverse) (reverse-append (t ∷ []) ts) ∙ map-snoc (reverse ts) t ∙ ap (λ s. s ++ reverse t ∷ []) (map-reverse ts)
    ∙ sym (reverse-append (reverse t ∷ []) (map reverse ts))

pub reversed_tokens-reversed_tokens : (ts : List (List ℕ)) → reversed_tokens (reversed_tokens ts) ≡ ts
reversed_tokens-reversed_tokens ts = ap reverse (map-reverse (map reverse ts)) ∙ reverse-reverse (map reverse (map reverse ts)) ∙ reversed_tokens-turned_map ts

pub reversed_tokens-Spells : (w : Word) (ts : List (List ℕ)) → Spells (reverse w) (reversed_tokens ts) → Spells w ts
reversed_tokens-Spells w ts h =
    subst (λ x. Spells w x) (reversed_tokens-reversed_tokens ts) (subst (λ x. Spells x (reversed_tokens (reversed_tokens ts))) (reverse-reverse w) (Spells-reversed_tokens (reverse w) (reversed_tokens ts) h))

-- no token, from either end
reversed_tokens-none : (ts : List (List ℕ)) → reversed_tokens ts ≡ [] → ts ≡ []
reversed_tokens-none ts none = sym (reversed_tokens-reversed_tokens ts) ∙ ap reversed_tokens none

-- what an expression describes is described from its end by the mirrored expression
pub IsDescribed-reversed_tokens : (e : Expression) (ts : List (List ℕ)) → IsDescribed e ts → IsDescribed (reversed_expression e) (reversed_tokens ts)
IsDescribed-reversed_tokens e ts (some, w, p, s) =
    (λ none. some (reversed_tokens-none ts none), reverse w, Language-reversed_expression e w p, Spells-reversed_tokens w ts s)

pub reversed_tokens-IsDescribed : (e : Expression) (ts : List (List ℕ)) → IsDescribed (reversed_expression e) (reversed_tokens ts) → IsDescribed e ts
reversed_tokens-IsDescribed e ts (some, w, p, s) =
    let word : reverse (reverse w) ≡ w = reverse-reverse w in
    (λ none. some (ap reversed_tokens none), reverse w, reversed_expression-Language e (reverse w) (rw word p), reversed_tokens-Spells (reverse w) ts (rw word s))
