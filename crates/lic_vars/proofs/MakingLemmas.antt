-- Derivations of a template are the words that its moves make, and their least record is found choice by choice.
use Rattle.std.proofs.Common.{◌≡◌, ℕ, ◌<◌, ◌⊎◌, inl, inr, ◌↔◌, arith, List, [], ◌∷◌, ◌++◌, length, drop, chars, Some, None, refl, sym, ap, ◌∙◌, subst, append_assoc, append-nil}
use Rattle.lic_words.specs.Words.{Word}
use Rattle.lic_words.specs.Letters.{letters_in}
use Rattle.lic_words.specs.Expressions.{Expression, Language, tidy}
use Rattle.lic_words.specs.Spelling.{Spells}
use Rattle.lic_ere.specs.Trees.{Tree}
use Rattle.lic_markup.specs.Parts.{Nodes, no_node, one_more}
use Rattle.lic_markup.specs.Parts as parts
use Rattle.lic_ere.specs.Meaning.{tree_words}
use Rattle.lic_vars.specs.Derivations.{Choice, Derivation, IsAllowed, IsLeast, NotAfter, record_of, word_of}
use Rattle.lic_vars.specs.Moves.{Move, text, variable, optional, moves}
use Rattle.lic_vars.specs.Making.{CanMake, LeastOf, Makes, ends, writes, picks, enters, skips}

-- ---- derivations

drop-front : {A : Type 0} (xs ys : List A) → drop (length xs) (xs ++ ys) ≡ ys
drop-front [] ys = refl
drop-front (x ∷ xs) ys = drop-front xs ys

optional_moves : (body rest : Nodes) (ms : List Move)
    → moves (one_more (parts.optional body) rest) ++ ms
    ≡ optional (length (moves body)) ∷ (moves body ++ (moves rest ++ ms))
optional_moves body rest ms = ap (λ (xs : List Move). optional (length (moves body)) ∷ xs) (append_assoc (moves body) (moves rest) ms)

-- a choice's word, and then one that the moves after it make
makes-of : (ns : Nodes) (d : Choice ns) (ms : List Move) (r : List ℕ) (w : Word) → IsAllowed ns d → Makes ms r w
    → Makes (moves ns ++ ms) (record_of ns d ++ r) (word_of ns d ++ w)
makes-of no_node d ms r w h f = f
makes-of (one_more (parts.letters txt) rest) d ms r w h f =
    writes (word_of rest d ++ w) (append_assoc (chars txt) (word_of rest d) w) (makes-of rest d ms r w h f)
makes-of (one_more (parts.variable name original pattern) rest) (u, d) ms r w h f =
    picks u (word_of rest d ++ w) (h.0, h.1) (append_assoc u (word_of rest d) w) (makes-of rest d ms r w h.2 f)
makes-of (one_more (parts.optional body) rest) (None, d) ms r w h f =
    let here = makes-of rest d ms r w h f in
    let skipped : Makes (drop (length (moves body)) (moves body ++ (moves rest ++ ms))) (record_of rest d ++ r) (word_of rest d ++ w) =
    subst (λ (xs : List Move). Makes xs (record_of rest d ++ r) (word_of rest d ++ w)) (sym (drop-front (moves body) (moves rest ++ ms))) here in
    subst (λ (xs : List Move). Makes xs (1 ∷ (record_of rest d ++ r)) (word_of rest d ++ w)) (sym (optional_moves body rest ms)) (skips skipped)
makes-of (one_more (parts.optional body) rest) (Some b, d) ms r w h f =
    let here = makes-of rest d ms r w h.1 f in
    let inside : Makes (moves body ++ (moves rest ++ ms)) (record_of body b ++ (record_of rest d ++ r)) (word_of body b ++ (word_of rest d ++ w)) =
    makes-of body b (moves rest ++ ms) (record_of rest d ++ r) (word_of rest d ++ w) h.0 here in
    let records : record_of body b ++ (record_of rest d ++ r) ≡ (record_of body b ++ record_of rest d) ++ r =
    sym (append_assoc (record_of body b) (record_of rest d) r) in
    let words : word_of body b ++ (word_of rest d ++ w) ≡ (word_of body b ++ word_of rest d) ++ w = sym (append_assoc (word_of body b) (word_of rest d) w) in
    subst (λ (xs : List Move). Makes xs (0 ∷ ((record_of body b ++ record_of rest d) ++ r)) ((word_of body b ++ word_of rest d) ++ w)) (sym (optional_moves body rest ms))
    (enters (subst (λ (q : List ℕ). Makes (moves body ++ (moves rest ++ ms)) q ((word_of body b ++ word_of rest d) ++ w)) records
    (subst (λ (v : Word). Makes (moves body ++ (moves rest ++ ms)) (record_of body b ++ (record_of rest d ++ r)) v) words inside)))

-- the choice that a word was made by
record Made (ns : Nodes) (ms : List Move) (q : List ℕ) (v : Word) : Type 0 where
  choice : Choice ns
  rest : List ℕ
  word : Word
  allowed : IsAllowed ns choice
  makes : Makes ms rest word
  same : q ≡ record_of ns choice ++ rest
  whole : v ≡ word_of ns choice ++ word

text_made : (txt : List ℕ) (rest : Nodes) (ms : List Move) (q : List ℕ) (v : Word)
    → ((r : List ℕ) (w : Word) → Makes (moves rest ++ ms) r w → Made rest ms r w)
    → Makes (text (chars txt) ∷ (moves rest ++ ms)) q v → Made (one_more (parts.letters txt) rest) ms q v
text_made txt rest ms q v ih (writes w is f) =
    let made = ih q w f in
    record {
      choice = made.choice;
      rest = made.rest;
      word = made.word;
      allowed = made.allowed;
      makes = made.makes;
      same = made.same;
      whole = is ∙ ap (λ x. chars txt ++ x) made.whole ∙ sym (append_assoc (chars txt) (word_of rest made.choice) made.word);
    }

variable_made : (name original : List ℕ) (pattern : Tree) (rest : Nodes) (ms : List Move) (q : List ℕ) (v : Word)
    → ((r : List ℕ) (w : Word) → Makes (moves rest ++ ms) r w → Made rest ms r w)
    → Makes (variable name (tree_words pattern) ∷ (moves rest ++ ms)) q v → Made (one_more (parts.variable name original pattern) rest) ms q v
variable_made name original pattern rest ms q v ih (picks {r = r} u w l is f) =
    let made = ih r w f in
    record {
      choice = (u, made.choice);
      rest = made.rest;
      word = made.word;
      allowed = (l.0, l.1, made.allowed);
      makes = made.makes;
      same = ap (λ x. letters_in u ∷ x) made.same;
      whole = is ∙ ap (λ x. u ++ x) made.whole ∙ sym (append_assoc u (word_of rest made.choice) made.word);
    }

optional_made : (body rest : Nodes) (ms : List Move) (q : List ℕ) (v : Word)
    → ((r : List ℕ) (w : Word) → Makes (moves body ++ (moves rest ++ ms)) r w → Made body (moves rest ++ ms) r w)
    → ((r : List ℕ) (w : Word) → Makes (moves rest ++ ms) r w → Made rest ms r w)
    → Makes (optional (length (moves body)) ∷ (moves body ++ (moves rest ++ ms))) q v → Made (one_more (parts.optional body) rest) ms q v
optional_made body rest ms q v inside ih (enters {r = r} f) =
    let one = inside r v f in
    let two = ih one.rest one.word one.makes in
    record {
      choice = (Some one.choice, two.choice);
      rest = two.rest;
      word = two.word;
      allowed = (one.allowed, two.allowed);
      makes = two.makes;
      same = ap (λ x. 0 ∷ x) (one.same ∙ ap (λ x. record_of body one.choice ++ x) two.same
          ∙ sym (append_assoc (record_of body one.choice) (record_of rest two.choice) two.rest));
      whole = one.whole ∙ ap (λ x. word_of body one.choice ++ x) two.whole
          ∙ sym (append_assoc (word_of body one.choice) (word_of rest two.choice) two.word);
    }
optional_made body rest ms q v inside ih (skips {r = r} f) =
    let two = ih r v (subst (λ (xs : List Move). Makes xs r v) (drop-front (moves body) (moves rest ++ ms)) f) in
    record {
      choice = (None, two.choice);
      rest = two.rest;
      word = two.word;
      allowed = two.allowed;
      makes = two.makes;
      same = ap (λ x. 1 ∷ x) two.same;
      whole = two.whole;
    }

made-of : (ns : Nodes) (ms : List Move) (q : List ℕ) (v : Word) → Makes (moves ns ++ ms) q v → Made ns ms q v
made-of no_node ms q v f = record { choice = tt; rest = q; word = v; allowed = tt; makes = f; same = refl; whole = refl }
made-of (one_more (parts.letters txt) rest) ms q v f = text_made txt rest ms q v (λ r w g. made-of rest ms r w g) f
made-of (one_more (parts.variable name original pattern) rest) ms q v f =
    variable_made name original pattern rest ms q v (λ r w g. made-of rest ms r w g) f
made-of (one_more (parts.optional body) rest) ms q v f =
    optional_made body rest ms q v (λ r w g. made-of body (moves rest ++ ms) r w g) (λ r w g. made-of rest ms r w g)
    (subst (λ (xs : List Move). Makes xs q v) (optional_moves body rest ms) f)

pub made-by : (ns : Nodes) (d : Choice ns) → IsAllowed ns d → Makes (moves ns) (record_of ns d) (word_of ns d)
made-by ns d h =
    let made : Makes (moves ns ++ []) (record_of ns d ++ []) (word_of ns d ++ []) = makes-of ns d [] [] [] h ends in
    subst (λ (v : Word). Makes (moves ns) (record_of ns d) v) (append-nil (word_of ns d))
    (subst (λ (q : List ℕ). Makes (moves ns) q (word_of ns d ++ [])) (append-nil (record_of ns d))
    (subst (λ (xs : List Move). Makes xs (record_of ns d ++ []) (word_of ns d ++ [])) (append-nil (moves ns)) made))

-- a choice of an allowed word with the record
record Chosen (ns : Nodes) (q : List ℕ) (v : Word) : Type 0 where
  choice : Choice ns
  allowed : IsAllowed ns choice
  same : record_of ns choice ≡ q
  whole : word_of ns choice ≡ v

chosen_end : (ns : Nodes) (q rest : List ℕ) (v w : Word) (d : Choice ns) → IsAllowed ns d → q ≡ record_of ns d ++ rest → v ≡ word_of ns d ++ w
    → Makes [] rest w → Chosen ns q v
chosen_end ns q rest v w d h e f ends = record {
  choice = d;
  allowed = h;
  same = sym (e ∙ append-nil (record_of ns d));
  whole = sym (f ∙ append-nil (word_of ns d));
}

chosen : (ns : Nodes) (q : List ℕ) (v : Word) → Makes (moves ns) q v → Chosen ns q v
chosen ns q v f =
    let made = made-of ns [] q v (subst (λ (xs : List Move). Makes xs q v) (sym (append-nil (moves ns))) f) in
    chosen_end ns q made.rest v made.word made.choice made.allowed made.same made.whole made.makes

-- the least record is that of a least derivation
pub least-derivation : (ns : Nodes) (ts : List (List ℕ)) (P : Word → Type 0) (r : List ℕ) → ((w : Word) → P w ↔ Spells w ts) → LeastOf (moves ns) P r
    → (d : Derivation ns ts) × IsLeast ns ts d × (record_of ns d.choice ≡ r)
least-derivation ns ts P r same h =
    let found = chosen ns r h.word h.makes in
    let spells : Spells (word_of ns found.choice) ts = (same (word_of ns found.choice)).0 (subst P (sym found.whole) h.is) in (
      record { choice = found.choice; allowed = found.allowed; spells = spells },
      λ e. subst (λ (x : List ℕ). NotAfter x (record_of ns e.choice)) (sym found.same)
          (h.least (record_of ns e.choice) (word_of ns e.choice) (made-by ns e.choice e.allowed) ((same (word_of ns e.choice)).1 e.spells)),
      found.same,
    )

-- a derivation is one of the words
pub can-make : (ns : Nodes) (ts : List (List ℕ)) (P : Word → Type 0) → ((w : Word) → P w ↔ Spells w ts) → Derivation ns ts → CanMake (moves ns) P
can-make ns ts P same d = record {
  choices = record_of ns d.choice;
  word = word_of ns d.choice;
  makes = made-by ns d.choice d.allowed;
  is = (same (word_of ns d.choice)).1 d.spells;
}

-- ---- the least record, choice by choice

-- the same words
pub least-same : (ms : List Move) (P Q : Word → Type 0) (r : List ℕ) → ((w : Word) → P w ↔ Q w) → LeastOf ms P r → LeastOf ms Q r
least-same ms P Q r same h = record {
  word = h.word;
  makes = h.makes;
  is = (same h.word).0 h.is;
  least = λ q w f is. h.least q w f ((same w).1 is);
}

nothing_first : (P : Word → Type 0) (q : List ℕ) (w : Word) → Makes [] q w → P w → NotAfter [] q
nothing_first P q w f is = tt

ended : (P : Word → Type 0) (q : List ℕ) (w : Word) → Makes [] q w → P w → P []
ended P q w ends is = is

pub least-ended : (P : Word → Type 0) → CanMake [] P → LeastOf [] P []
least-ended P can = record {
  word = [];
  makes = ends;
  is = ended P can.choices can.word can.makes can.is;
  least = nothing_first P;
}

module _ (ms : List Move) (P : Word → Type 0) where
  -- a text
  text_first : (u : Word) (r : List ℕ) → LeastOf ms (λ w. P (u ++ w)) r → (q : List ℕ) (v : Word) → Makes (text u ∷ ms) q v → P v → NotAfter r q
  text_first u r h q v (writes w is f) p = h.least q w f (subst P is p)

  pub least-text : (u : Word) (r : List ℕ) → LeastOf ms (λ w. P (u ++ w)) r → LeastOf (text u ∷ ms) P r
  least-text u r h = record { word = u ++ h.word; makes = writes h.word refl h.makes; is = h.is; least = text_first u r h }

  text_can : (u : Word) (q : List ℕ) (v : Word) → Makes (text u ∷ ms) q v → P v → CanMake ms (λ w. P (u ++ w))
  text_can u q v (writes w is f) p = record { choices = q; word = w; makes = f; is = subst P is p }

  pub can-text : (u : Word) → CanMake (text u ∷ ms) P → CanMake ms (λ w. P (u ++ w))
  can-text u can = text_can u can.choices can.word can.makes can.is

  -- an optional part
  present_first : (n : ℕ) (r : List ℕ) → LeastOf ms P r → (q : List ℕ) (v : Word) → Makes (optional n ∷ ms) q v → P v → NotAfter (0 ∷ r) q
  present_first n r h q v (enters f) p = inr (refl, h.least _ v f p)
  present_first n r h q v (skips f) p = inl (omega arith)

  pub least-present : (n : ℕ) (r : List ℕ) → LeastOf ms P r → LeastOf (optional n ∷ ms) P (0 ∷ r)
  least-present n r h = record { word = h.word; makes = enters h.makes; is = h.is; least = present_first n r h }

  absent_first : (n : ℕ) (r : List ℕ) → (CanMake ms P → ⊥) → LeastOf (drop n ms) P r → (q : List ℕ) (v : Word) → Makes (optional n ∷ ms) q v → P v
      → NotAfter (1 ∷ r) q
  absent_first n r none h q v (enters f) p = absurd (none (record { choices = _; word = v; makes = f; is = p }))
  absent_first n r none h q v (skips f) p = inr (refl, h.least _ v f p)

  pub least-absent : (n : ℕ) (r : List ℕ) → (CanMake ms P → ⊥) → LeastOf (drop n ms) P r → LeastOf (optional n ∷ ms) P (1 ∷ r)
  least-absent n r none h = record { word = h.word; makes = skips h.makes; is = h.is; least = absent_first n r none h }

  optional_can : (n : ℕ) (q : List ℕ) (v : Word) → (CanMake ms P → ⊥) → Makes (optional n ∷ ms) q v → P v → CanMake (drop n ms) P
  optional_can n q v none (enters f) p = absurd (none (record { choices = _; word = v; makes = f; is = p }))
  optional_can n q v none (skips f) p = record { choices = _; word = v; makes = f; is = p }

  pub can-absent : (n : ℕ) → (CanMake ms P → ⊥) → CanMake (optional n ∷ ms) P → CanMake (drop n ms) P
  can-absent n none can = optional_can n can.choices can.word none can.makes can.is

  -- a variable
  pub record Picked (re : Expression) : Type 0 where
    pub word : Word
    pub is : Language (tidy re) word
    pub rest : List ℕ
    pub later : Word
    pub makes : Makes ms rest later
    pub all : P (word ++ later)

  picked : (name : List ℕ) (re : Expression) (q : List ℕ) (v : Word) → Makes (variable name re ∷ ms) q v → P v → Picked re
  picked name re q v (picks {r = r} u w l is f) p = record { word = u; is = l; rest = r; later = w; makes = f; all = subst P is p }

  pub can-picked : (name : List ℕ) (re : Expression) → CanMake (variable name re ∷ ms) P → Picked re
  can-picked name re can = picked name re can.choices can.word can.makes can.is

  -- with as few letters as possible, where each word with as few continues like this one
  abbrev pub AllNext : (re : Expression) (u : Word) → Type 0
  AllNext re u = (v w : Word) (q : List ℕ) → Language (tidy re) v → Makes ms q w → P (v ++ w)
      → (letters_in u < letters_in v) ⊎ ((letters_in u ≡ letters_in v) × P (u ++ w))

  variable_first : (name : List ℕ) (re : Expression) (u : Word) (r : List ℕ) → AllNext re u → LeastOf ms (λ w. P (u ++ w)) r
      → (q : List ℕ) (v : Word) → Makes (variable name re ∷ ms) q v → P v → NotAfter (letters_in u ∷ r) q
  variable_first name re u r next h q v (picks {r = s} x w l is f) p =
      elim (next x w s l f (subst P is p)) [
        | inl fewer ↦ inl fewer
        | inr same ↦ inr (same.0, h.least s w f same.1)
      ]

  pub least-variable : (name : List ℕ) (re : Expression) (u : Word) (r : List ℕ) → Language (tidy re) u → AllNext re u → LeastOf ms (λ w. P (u ++ w)) r
      → LeastOf (variable name re ∷ ms) P (letters_in u ∷ r)
  least-variable name re u r is next h = record {
    word = u ++ h.word;
    makes = picks u h.word is refl h.makes;
    is = h.is;
    least = variable_first name re u r next h;
  }
