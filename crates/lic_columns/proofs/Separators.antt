-- Separators, cell by cell: each of their marks is a blank of its own.
use Rattle.std.proofs.Common.{◌≡◌, ℕ, zero, suc, Bool, true, false, ◌&&◌, ◌||◌, if◌then◌else◌, List, [], ◌∷◌, ◌++◌, length, drop, map, get_or, refl, sym, ap, ◌∙◌, ⊎_elim, arith, le-leb}
use Rattle.std.specs.Prelude.{nat_le}
use Rattle.std.specs.List.{flat_map}
use Rattle.std.proofs.lemmas.Bool.{cases_Bool, cond-true, cond-false}
use Rattle.lic_trim.specs.Texts.{groups, join_group}
use Rattle.lic_trim.specs.declared.source.SourceChar.{SourceChar}
use Rattle.lic_lines.specs.declared.cell.Cell.{Cell}
use Rattle.lic_lines.specs.declared.cell.Cell.TheVariants.{Blank, Mark, Word}
use Rattle.lic_lines.specs.Streaks.{same_mark, without_separator, without_separators}
use Rattle.lic_lines.proofs.GroupLemmas.{groups_head}
use Rattle.lic_columns.proofs.FirstTokens.{cell_tokens, next, Alike, alike-same, alike-then, alike-cons, alike-append, alike-blank}

-- the first two cells are one same mark
abbrev pub same_first : List Cell → Bool
same_first [] = false
same_first (x ∷ cells) = same_mark x (next cells)

-- a mark that is taken out is a blank
abbrev pub unmarked : Bool → Cell → Cell
unmarked gone Blank = Blank
unmarked gone (Word s) = Word s
unmarked gone (Mark s) = if gone then Blank else Mark s

-- a mark is in a separator by these tests of the cell and the next: before the cell before, before it, of it, of the next
abbrev pub is_gone : Bool → Bool → Bool → Bool → Bool
is_gone two one here after = (one && here) || ((two && one) || (here && after))

-- the cells without separators, after two such tests
abbrev pub parted : Bool → Bool → List Cell → List Cell
parted two one [] = []
parted two one (x ∷ cells) =
    unmarked (is_gone two one (same_first (x ∷ cells)) (same_first cells)) x ∷ parted one (same_first (x ∷ cells)) cells

-- ---- by groups

abbrev is_some : List Cell → Bool
is_some [] = false
is_some (x ∷ cells) = true

abbrev is_long : List Cell → Bool
is_long [] = false
is_long (x ∷ []) = false
is_long (x ∷ y ∷ cells) = true

long_is : (cells : List Cell) → nat_le 2 (length cells) ≡ is_long cells
long_is [] = refl
long_is (x ∷ []) = refl
long_is (x ∷ y ∷ cells) = go (length cells)
  where
    go : (n : ℕ) → nat_le 2 (suc (suc n)) ≡ true
    go n = le-leb 2 (suc (suc n)) (omega arith)

-- a streak of a mark, whose first cell is after two such tests, is taken out
abbrev streak_gone : Bool → Bool → List Cell → Bool
streak_gone two one streak = (two && one) || ((one && is_some streak) || is_long streak)

abbrev blanks : List Cell → List Cell
blanks = map (λ x. Blank)

abbrev laid_streak : Bool → List Cell → List Cell
laid_streak gone [] = []
laid_streak gone (Blank ∷ streak) = Blank ∷ streak
laid_streak gone (Word s ∷ streak) = Word s ∷ streak
laid_streak gone (Mark s ∷ streak) = if gone then Blank ∷ blanks streak else Mark s ∷ streak

abbrev streak_rest : List Cell → List Cell
streak_rest [] = []
streak_rest (x ∷ streak) = streak

abbrev laid_out : Bool → Bool → List (List Cell) → List Cell
laid_out two one [] = []
laid_out two one (streak ∷ gs) = laid_streak (streak_gone two one (streak_rest streak)) streak ++ laid_out false false gs

same_none : (x : Cell) → same_mark x Blank ≡ false
same_none Blank = refl
same_none (Mark s) = refl
same_none (Word s) = refl

-- the first group is a streak
group_shape : (y : Cell) (ys : List Cell)
    → (g : List Cell) × (hs : List (List Cell)) × (groups same_mark (y ∷ ys) ≡ (y ∷ g) ∷ hs) × (is_some g ≡ same_first (y ∷ ys))
group_shape y [] = ([], [], refl, sym (same_none y))
group_shape y (z ∷ zs) =
    let g = groups_head same_mark z zs in
    ⊎_elim
    (λ hit. (z ∷ g.0, g.1, ap (join_group same_mark y) g.2 ∙ cond-true (same_mark y z) _ _ hit, sym hit))
    (λ miss. ([], (z ∷ g.0) ∷ g.1, ap (join_group same_mark y) g.2 ∙ cond-false (same_mark y z) _ _ miss, sym miss))
    (cases_Bool (same_mark y z))

-- one mark more before a streak
mark_more : (two one : Bool) (s t : SourceChar) (g rest : List Cell)
    → unmarked (is_gone two one true (is_some g)) (Mark s) ∷ (laid_streak (streak_gone one true g) (Mark t ∷ g) ++ rest)
    ≡ laid_streak (streak_gone two one (Mark t ∷ g)) (Mark s ∷ Mark t ∷ g) ++ rest
mark_more true true s t [] rest = refl
mark_more true false s t [] rest = refl
mark_more false true s t [] rest = refl
mark_more false false s t [] rest = refl
mark_more true true s t (x ∷ g) rest = refl
mark_more true false s t (x ∷ g) rest = refl
mark_more false true s t (x ∷ g) rest = refl
mark_more false false s t (x ∷ g) rest = refl

-- one cell alone
cell_alone : (two one after : Bool) (x : Cell) (rest : List Cell)
    → unmarked (is_gone two one false after) x ∷ rest ≡ laid_streak (streak_gone two one []) (x ∷ []) ++ rest
cell_alone two one after Blank rest = refl
cell_alone two one after (Word s) rest = refl
cell_alone true true after (Mark s) rest = refl
cell_alone true false after (Mark s) rest = refl
cell_alone false true after (Mark s) rest = refl
cell_alone false false after (Mark s) rest = refl

-- what comes before a streak without being of it has no effect
laid_out-other : (two : Bool) (gs : List (List Cell)) → laid_out two false gs ≡ laid_out false false gs
laid_out-other two [] = refl
laid_out-other true (streak ∷ gs) = refl
laid_out-other false (streak ∷ gs) = refl

-- the cells as they are given by their groups, wherever they are
abbrev AreLaidOut : List Cell → Type 0
AreLaidOut cells = (two one : Bool) → parted two one cells ≡ laid_out two one (groups same_mark cells)

parted-other : (two one : Bool) (x y : Cell) (ys : List Cell) → same_mark x y ≡ false → AreLaidOut (y ∷ ys)
    → parted two one (x ∷ y ∷ ys) ≡ laid_out two one (groups same_mark (x ∷ y ∷ ys))
parted-other two one x y ys miss rest =
    let shape = group_shape y ys in
    ap (λ u. unmarked (is_gone two one u (same_first (y ∷ ys))) x ∷ parted one u (y ∷ ys)) miss
    ∙ ap (λ l. unmarked (is_gone two one false (same_first (y ∷ ys))) x ∷ l) (rest one false ∙ laid_out-other one (groups same_mark (y ∷ ys)))
    ∙ cell_alone two one (same_first (y ∷ ys)) x (laid_out false false (groups same_mark (y ∷ ys)))
    ∙ ap (λ l. laid_streak (streak_gone two one []) (x ∷ []) ++ laid_out false false l) shape.2
    ∙ sym (ap (laid_out two one) (ap (join_group same_mark x) shape.2 ∙ cond-false (same_mark x y) _ _ miss))

parted-marks : (two one : Bool) (s t : SourceChar) (ys : List Cell) → same_mark (Mark s) (Mark t) ≡ true → AreLaidOut (Mark t ∷ ys)
    → parted two one (Mark s ∷ Mark t ∷ ys) ≡ laid_out two one (groups same_mark (Mark s ∷ Mark t ∷ ys))
parted-marks two one s t ys hit rest =
    let shape = group_shape (Mark t) ys in
    ap (λ u. unmarked (is_gone two one u (same_first (Mark t ∷ ys))) (Mark s) ∷ parted one u (Mark t ∷ ys)) hit
    ∙ ap (λ u. unmarked (is_gone two one true u) (Mark s) ∷ parted one true (Mark t ∷ ys)) (sym shape.3)
    ∙ ap (λ l. unmarked (is_gone two one true (is_some shape.0)) (Mark s) ∷ l) (rest one true ∙ ap (laid_out one true) shape.2)
    ∙ mark_more two one s t shape.0 (laid_out false false shape.1)
    ∙ sym (ap (laid_out two one) (ap (join_group same_mark (Mark s)) shape.2 ∙ cond-true (same_mark (Mark s) (Mark t)) _ _ hit))

parted-same : (two one : Bool) (x y : Cell) (ys : List Cell) → same_mark x y ≡ true → AreLaidOut (y ∷ ys)
    → parted two one (x ∷ y ∷ ys) ≡ laid_out two one (groups same_mark (x ∷ y ∷ ys))
parted-same two one (Mark s) (Mark t) ys hit rest = parted-marks two one s t ys hit rest
parted-same two one Blank Blank ys hit rest = absurd cc
parted-same two one Blank (Mark t) ys hit rest = absurd cc
parted-same two one Blank (Word t) ys hit rest = absurd cc
parted-same two one (Word s) Blank ys hit rest = absurd cc
parted-same two one (Word s) (Mark t) ys hit rest = absurd cc
parted-same two one (Word s) (Word t) ys hit rest = absurd cc
parted-same two one (Mark s) Blank ys hit rest = absurd cc
parted-same two one (Mark s) (Word t) ys hit rest = absurd cc

parted-groups : (two one : Bool) (cells : List Cell) → parted two one cells ≡ laid_out two one (groups same_mark cells)
parted-groups two one [] = refl
parted-groups two one (x ∷ []) = ap (λ t. unmarked (is_gone two one t false) x ∷ []) (same_none x) ∙ cell_alone two one false x []
parted-groups two one (x ∷ y ∷ ys) =
    ⊎_elim
    (λ hit. parted-same two one x y ys hit (λ a b. parted-groups a b (y ∷ ys)))
    (λ miss. parted-other two one x y ys miss (λ a b. parted-groups a b (y ∷ ys)))
    (cases_Bool (same_mark x y))

-- ---- as many blanks as marks are as good as one

alike-blanks : (streak cells : List Cell) → Alike (Blank ∷ blanks streak ++ cells) (Blank ∷ cells)
alike-blanks [] cells = alike-same (Blank ∷ cells)
alike-blanks (x ∷ streak) cells =
    alike-then (Blank ∷ Blank ∷ blanks streak ++ cells) (Blank ∷ blanks streak ++ cells) (Blank ∷ cells)
    (alike-blank (blanks streak ++ cells)) (alike-blanks streak cells)

streak_alike : (streak one two : List Cell) → Alike one two
    → Alike (laid_streak (streak_gone false false (streak_rest streak)) streak ++ one) (without_separator streak ++ two)
streak_alike [] one two h = h
streak_alike (Blank ∷ streak) one two h = alike-append (Blank ∷ streak) one two h
streak_alike (Word s ∷ streak) one two h = alike-append (Word s ∷ streak) one two h
streak_alike (Mark s ∷ streak) one two h = go (is_long streak) (nat_le 2 (length streak)) (sym (long_is streak))
  where
    go : (t u : Bool) → t ≡ u
        → Alike ((if t then Blank ∷ blanks streak else Mark s ∷ streak) ++ one) ((if u then Blank ∷ [] else Mark s ∷ streak) ++ two)
    go true true e =
        alike-then (Blank ∷ blanks streak ++ one) (Blank ∷ one) (Blank ∷ two) (alike-blanks streak one) (alike-cons Blank one two h)
    go false false e = alike-append (Mark s ∷ streak) one two h
    go true false e = absurd cc
    go false true e = absurd cc

laid-alike : (gs : List (List Cell)) → Alike (laid_out false false gs) (flat_map without_separator gs)
laid-alike [] = alike-same []
laid-alike (streak ∷ gs) = streak_alike streak (laid_out false false gs) (flat_map without_separator gs) (laid-alike gs)

-- cells without separators have the tokens of the cells of the definition
pub parted-alike : (cells : List Cell) → Alike (parted false false cells) (without_separators cells)
parted-alike cells =
    let e = parted-groups false false cells in
    let l = laid-alike (groups same_mark cells) in
    record { first = ap next e ∙ l.first; tokens = λ b. ap (cell_tokens b) e ∙ l.tokens b }

-- ---- at an offset

-- the test of the cell before
abbrev pub one_before : Bool → List Cell → ℕ → Bool
one_before one cells zero = one
one_before one cells (suc k) = same_first (drop k cells)

-- the test of the cell before that
abbrev pub two_before : Bool → Bool → List Cell → ℕ → Bool
two_before two one cells zero = two
two_before two one cells (suc zero) = one
two_before two one cells (suc (suc k)) = same_first (drop k cells)

pub parted-at : (two one : Bool) (cells : List Cell) (k : ℕ)
    → get_or (parted two one cells) k Blank
    ≡ unmarked (is_gone (two_before two one cells k) (one_before one cells k) (same_first (drop k cells)) (same_first (drop (suc k) cells)))
    (get_or cells k Blank)
parted-at two one [] k = refl
parted-at two one (x ∷ cells) zero = refl
parted-at two one (x ∷ cells) (suc zero) = parted-at one (same_first (x ∷ cells)) cells zero
parted-at two one (x ∷ cells) (suc (suc zero)) = parted-at one (same_first (x ∷ cells)) cells (suc zero)
parted-at two one (x ∷ cells) (suc (suc (suc k))) = parted-at one (same_first (x ∷ cells)) cells (suc (suc k))
