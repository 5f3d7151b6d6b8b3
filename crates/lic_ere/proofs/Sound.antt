-- What is read is in the grammar.
use Rattle.std.proofs.Common.{◌≡◌, ℕ, suc, ◌<◌, Bool, true, false, cond, ltb, List, [], ◌∷◌, ◌++◌, length, Option, Some, None, Result, Ok, Err, refl, sym, subst, append_assoc, arith}
use Rattle.std.proofs.lemmas.Bool.Decides.{nat_tests}
use Rattle.lic_ere.specs.declared.lexeme.bounds.Bounds.{Bounds}
use Rattle.lic_ere.specs.declared.fault.EreFault.{EreFault}
use Rattle.lic_ere.specs.declared.fault.EreCause.TheVariants.{TooDeep}
use Rattle.lic_ere.specs.Signs.{close_paren}
use Rattle.lic_ere.specs.Trees.{Tree, repeat, units_tree, choice_tree, letters_tree}
use Rattle.lic_ere.specs.Faults.{fault_at, ◌>>=◌}
use Rattle.lic_ere.specs.Located.{located}
use Rattle.lic_ere.specs.Lexemes.{Lexeme, unit, sign, opening, closing, bar, anchor, lexemes}
use Rattle.lic_ere.specs.Reading as reading
use Rattle.lic_ere.specs.Reading.{LastUnit, last_units, GroupLevel, new_level, units, with_unit, with_alternative, level_tree, State, meet, read_on, start, reading}
use Rattle.lic_ere.specs.Grammar.{IsUnit, plain, group, closes_nothing, IsSequence, no_unit, once, repeated, IsChoice, only, or, without_anchors, IsPattern}
use Rattle.lic_ere.proofs.LexemeSpelling.{are_spelled}
use Rattle.lic_ere.proofs.Complete.{run}

-- the rest of a sequence, whose last unit so far may still get its sign
data EndsSequence (depth : ℕ) : LastUnit → List (ℕ × Lexeme) → List (ℕ × Lexeme) → List Tree → Type 0 where
  fresh : {ls rest : List (ℕ × Lexeme)} {ts : List Tree} → IsSequence depth ls rest ts → EndsSequence depth reading.no_unit ls rest ts
  kept : {t : Tree} {ls rest : List (ℕ × Lexeme)} {ts : List Tree} → IsSequence depth ls rest ts → EndsSequence depth (reading.single t) ls rest (t ∷ ts)
  signed : {offset : ℕ} {b : Bounds} {t : Tree} {more rest : List (ℕ × Lexeme)} {ts : List Tree}
      → IsSequence depth more rest ts → EndsSequence depth (reading.single t) ((offset, sign (Some b)) ∷ more) rest
      (repeat t b.min b.max ∷ ts)
  settled : {t : Tree} {ls rest : List (ℕ × Lexeme)} {ts : List Tree} → IsSequence depth ls rest ts → EndsSequence depth (reading.repeated t) ls rest (t ∷ ts)

-- the rest of a level, and all of its alternatives
data EndsLevel (depth : ℕ) (level : GroupLevel) (ls rest : List (ℕ × Lexeme)) : List Tree → Type 0 where
  last_sequence : {ts : List Tree} → EndsSequence depth level.last ls rest ts → EndsLevel depth level ls rest (level.alternatives ++ units_tree (level.before ++ ts) ∷ [])
  more_sequences : {offset : ℕ} {more : List (ℕ × Lexeme)} {ts us : List Tree}
      → EndsSequence depth level.last ls ((offset, bar) ∷ more) ts → IsChoice depth more rest us
      → EndsLevel depth level ls rest (level.alternatives ++ units_tree (level.before ++ ts) ∷ us)

-- the rest of the pattern: of the innermost level, and after its `)` of those round it
abbrev Completes : GroupLevel → List GroupLevel → List (ℕ × Lexeme) → Tree → Type 0
Completes level [] ls t = (us : List Tree) × EndsLevel 0 level ls [] us × (t ≡ choice_tree us)
Completes level (o ∷ outer) ls t =
    (end : ℕ) × (rest : List (ℕ × Lexeme)) × (us : List Tree)
    × EndsLevel (suc (length outer)) level ls ((end, closing) ∷ rest) us
    × Completes (with_unit (choice_tree us) o) outer rest t

-- what ends one level so ends another so
Completes-map : (l m : GroupLevel) (outer : List GroupLevel) (ls ms : List (ℕ × Lexeme)) (t : Tree)
    → ((rest : List (ℕ × Lexeme)) (us : List Tree) → EndsLevel (length outer) l ls rest us
    → EndsLevel (length outer) m ms rest us) → Completes l outer ls t → Completes m outer ms t
Completes-map l m [] ls ms t change h = (h.0, change [] h.0 h.1, h.2)
Completes-map l m (o ∷ outer) ls ms t change h = (h.0, h.1, h.2, change ((h.0, closing) ∷ h.1) h.2 h.3, h.4)

nothing_more : (depth : ℕ) (last : LastUnit) (rest : List (ℕ × Lexeme)) → EndsSequence depth last rest rest (last_units last)
nothing_more depth reading.no_unit rest = fresh no_unit
nothing_more depth (reading.single t) rest = kept no_unit
nothing_more depth (reading.repeated t) rest = settled no_unit

-- a sequence after the last unit
attach : (depth : ℕ) (last : LastUnit) (ls rest : List (ℕ × Lexeme)) (ts : List Tree) → IsSequence depth ls rest ts
    → EndsSequence depth last ls rest (last_units last ++ ts)
attach depth reading.no_unit ls rest ts r = fresh r
attach depth (reading.single t) ls rest ts r = kept r
attach depth (reading.repeated t) ls rest ts r = settled r

-- one unit, and the sequence after it
unit_sequence : (depth : ℕ) (last : LastUnit) (from ls rest : List (ℕ × Lexeme)) (u : Tree) (ts : List Tree)
    → IsUnit depth from ls u → EndsSequence depth (reading.single u) ls rest ts
    → EndsSequence depth last from rest (last_units last ++ ts)
unit_sequence depth last from ls rest u ts is (kept {ts = us} r) = attach depth last from rest (u ∷ us) (once is r)
unit_sequence depth last from ls rest u ts is (signed {b = b} {ts = us} r) = attach depth last from rest (repeat u b.min b.max ∷ us) (repeated is r)

-- one unit, and the rest of its level
unit_level : (depth : ℕ) (level : GroupLevel) (from ls : List (ℕ × Lexeme)) (u : Tree) → IsUnit depth from ls u
    → (rest : List (ℕ × Lexeme)) (us : List Tree) → EndsLevel depth (with_unit u level) ls rest us
    → EndsLevel depth level from rest us
unit_level depth level from ls u is rest us (last_sequence {ts = ts} r) =
    subst (λ sequence. EndsLevel depth level from rest (level.alternatives ++ units_tree sequence ∷ []))
    (sym (append_assoc level.before (last_units level.last) ts))
    (last_sequence (unit_sequence depth level.last from ls rest u ts is r))
unit_level depth level from ls u is rest us (more_sequences {offset = p} {more = more} {ts = ts} {us = vs} r others) =
    subst (λ sequence. EndsLevel depth level from rest (level.alternatives ++ units_tree sequence ∷ vs))
    (sym (append_assoc level.before (last_units level.last) ts))
    (more_sequences (unit_sequence depth level.last from ls ((p, bar) ∷ more) u ts is r) others)

-- a bar, and the rest of the level
bar_level : (depth offset : ℕ) (level : GroupLevel) (ls rest : List (ℕ × Lexeme)) (us : List Tree)
    → EndsLevel depth (with_alternative level) ls rest us → EndsLevel depth level ((offset, bar) ∷ ls) rest us
bar_level depth offset level ls rest us (last_sequence {ts = ts} (fresh r)) =
    subst (EndsLevel depth level ((offset, bar) ∷ ls) rest)
    (sym (append_assoc level.alternatives (units_tree (units level) ∷ []) (units_tree ts ∷ [])))
    (more_sequences (nothing_more depth level.last ((offset, bar) ∷ ls)) (only r))
bar_level depth offset level ls rest us (more_sequences {ts = ts} {us = vs} (fresh r) others) =
    subst (EndsLevel depth level ((offset, bar) ∷ ls) rest)
    (sym (append_assoc level.alternatives (units_tree (units level) ∷ []) (units_tree ts ∷ vs)))
    (more_sequences (nothing_more depth level.last ((offset, bar) ∷ ls)) (or r others))

-- a new level is a choice
new_choice : (depth offset : ℕ) (ls rest : List (ℕ × Lexeme)) (us : List Tree) → EndsLevel depth (new_level offset) ls rest us → IsChoice depth ls rest us
new_choice depth offset ls rest us (last_sequence (fresh r)) = only r
new_choice depth offset ls rest us (more_sequences (fresh r) others) = or r others

-- a sign after the last unit, and the rest of the level
sign_level : (depth offset from : ℕ) (b : Bounds) (u : Tree) (before alternatives : List Tree) (ls rest : List (ℕ × Lexeme)) (us : List Tree)
    → EndsLevel depth (record { offset = from; alternatives = alternatives; before = before; last = reading.repeated (repeat u b.min b.max) }) ls rest us
    → EndsLevel depth (record { offset = from; alternatives = alternatives; before = before; last = reading.single u }) ((offset, sign (Some b)) ∷ ls) rest us
sign_level depth offset from b u before alternatives ls rest us (last_sequence (settled r)) = last_sequence (signed r)
sign_level depth offset from b u before alternatives ls rest us (more_sequences (settled r) others) = more_sequences (signed r) others

-- what is read from here on completes the pattern
abbrev Sound : List (ℕ × Lexeme) → Type 0
Sound ls = (level : GroupLevel) (outer : List GroupLevel) (t : Tree) → run level outer ls ≡ Ok t → Completes level outer (without_anchors ls) t

abbrev done : Tree → Result Tree EreFault
done t = Ok t

ok_is : (t u : Tree) → done t ≡ done u → t ≡ u
ok_is t u e = cc

nil_sound : Sound []
unfolding read_on
nil_sound level [] t e = (level.alternatives ++ units_tree (units level) ∷ [], last_sequence (nothing_more 0 level.last []), sym (ok_is _ _ e))
nil_sound level (o ∷ outer) t e = absurd cc

unit_sound : (offset : ℕ) (u : Tree) (ls : List (ℕ × Lexeme)) → Sound ls → Sound ((offset, unit u) ∷ ls)
unfolding read_on meet
unit_sound offset u ls others level outer t e =
    Completes-map (with_unit u level) level outer (without_anchors ls) ((offset, unit u) ∷ without_anchors ls) t
    (unit_level (length outer) level ((offset, unit u) ∷ without_anchors ls) (without_anchors ls) u plain)
    (others (with_unit u level) outer t e)

sign_by : (offset from : ℕ) (b : Option Bounds) (last : LastUnit) (before alternatives : List Tree)
    (ls : List (ℕ × Lexeme)) → Sound ls → (outer : List GroupLevel) (t : Tree)
    → run (record { offset = from; alternatives = alternatives; before = before; last = last }) outer ((offset, sign b) ∷ ls) ≡ Ok t
    → Completes (record { offset = from; alternatives = alternatives; before = before; last = last }) outer ((offset, sign b) ∷ without_anchors ls) t
unfolding read_on meet
sign_by offset from b reading.no_unit before alternatives ls others outer t e = absurd cc
sign_by offset from b (reading.repeated u) before alternatives ls others outer t e = absurd cc
sign_by offset from None (reading.single u) before alternatives ls others outer t e = absurd cc
sign_by offset from (Some b) (reading.single u) before alternatives ls others outer t e =
    Completes-map _ _ outer (without_anchors ls) ((offset, sign (Some b)) ∷ without_anchors ls) t
    (sign_level (length outer) offset from b u before alternatives (without_anchors ls))
    (others (record { offset = from; alternatives = alternatives; before = before; last = reading.repeated (repeat u b.min b.max) }) outer t e)

opening_by : (offset : ℕ) (ls : List (ℕ × Lexeme)) → Sound ls → (level : GroupLevel) (outer : List GroupLevel) (t : Tree) (b : Bool) → ltb (length outer) 64 ≡ b
    → (cond b (Ok (record { level = new_level offset; outer = level ∷ outer })) (Err (fault_at offset TooDeep)) >>= λ s. read_on s ls None) ≡ Ok t
    → Completes level outer ((offset, opening) ∷ without_anchors ls) t
opening_by offset ls others level outer t false lt e = absurd cc
opening_by offset ls others level outer t true lt e =
    let small : length outer < 64 = grind (arith, nat_tests) in
    let rest = others (new_level offset) (level ∷ outer) t e in
    let one = group {offset = offset} small (new_choice (suc (length outer)) offset (without_anchors ls) ((rest.0, closing) ∷ rest.1) rest.2 rest.3) in
    Completes-map (with_unit (choice_tree rest.2) level) level outer rest.1 ((offset, opening) ∷ without_anchors ls) t
    (unit_level (length outer) level ((offset, opening) ∷ without_anchors ls) rest.1 (choice_tree rest.2) one)
    rest.4

opening_sound : (offset : ℕ) (ls : List (ℕ × Lexeme)) → Sound ls → Sound ((offset, opening) ∷ ls)
unfolding read_on meet
opening_sound offset ls others level outer t e = opening_by offset ls others level outer t (ltb (length outer) 64) refl e

closing_sound : (offset : ℕ) (ls : List (ℕ × Lexeme)) → Sound ls → Sound ((offset, closing) ∷ ls)
unfolding read_on meet
closing_sound offset ls others level [] t e =
    Completes-map (with_unit (letters_tree close_paren) level) level [] (without_anchors ls) ((offset, closing) ∷ without_anchors ls) t
    (unit_level 0 level ((offset, closing) ∷ without_anchors ls) (without_anchors ls) (letters_tree close_paren) closes_nothing)
    (others (with_unit (letters_tree close_paren) level) [] t e)
closing_sound offset ls others level (o ∷ outer) t e = (
  offset,
  without_anchors ls,
  level.alternatives ++ units_tree (units level) ∷ [],
  last_sequence (nothing_more (suc (length outer)) level.last ((offset, closing) ∷ without_anchors ls)),
  others (with_unit (level_tree level) o) outer t e,
)

bar_sound : (offset : ℕ) (ls : List (ℕ × Lexeme)) → Sound ls → Sound ((offset, bar) ∷ ls)
unfolding read_on meet
bar_sound offset ls others level outer t e =
    Completes-map (with_alternative level) level outer (without_anchors ls) ((offset, bar) ∷ without_anchors ls) t
    (bar_level (length outer) offset level (without_anchors ls))
    (others (with_alternative level) outer t e)

anchor_sound : (offset : ℕ) (ls : List (ℕ × Lexeme)) → Sound ls → Sound ((offset, anchor) ∷ ls)
unfolding read_on meet
anchor_sound offset ls others level outer t e = others level outer t e

sound : (ls : List (ℕ × Lexeme)) → Sound ls
sound [] = nil_sound
sound ((offset, unit u) ∷ ls) = unit_sound offset u ls (sound ls)
sound ((offset, sign b) ∷ ls) = λ level outer t e. sign_by offset level.offset b level.last level.before level.alternatives ls (sound ls) outer t e
sound ((offset, opening) ∷ ls) = opening_sound offset ls (sound ls)
sound ((offset, closing) ∷ ls) = closing_sound offset ls (sound ls)
sound ((offset, bar) ∷ ls) = bar_sound offset ls (sound ls)
sound ((offset, anchor) ∷ ls) = anchor_sound offset ls (sound ls)

faulty_later : (r : Result State EreFault) (ls : List (ℕ × Lexeme)) (e : EreFault) (t : Tree)
    → ((s : State) → read_on s ls (Some e) ≡ Ok t → ⊥) → (r >>= λ u. read_on u ls (Some e)) ≡ Ok t → ⊥
faulty_later (Ok u) ls e t never is = never u is
faulty_later (Err d) ls e t never is = absurd cc

-- a pattern with an offset where no lexeme can be read is refused
faulty : (ls : List (ℕ × Lexeme)) (s : State) (e : EreFault) (t : Tree) → read_on s ls (Some e) ≡ Ok t → ⊥
unfolding read_on
faulty [] s e t is = absurd cc
faulty (l ∷ ls) s e t is = faulty_later (meet l.0 l.1 s) ls e t (λ u. faulty ls u e t) is

pub reading-IsPattern : (pattern : List ℕ) (t : Tree) → reading pattern ≡ Ok t → IsPattern pattern t
reading-IsPattern pattern t e = by_fault (lexemes 0 (located pattern)).fault refl e
  where
    by_fault : (f : Option EreFault) → (lexemes 0 (located pattern)).fault ≡ f
        → read_on start (lexemes 0 (located pattern)).found f ≡ Ok t → IsPattern pattern t
    by_fault (Some f) is e = absurd (faulty (lexemes 0 (located pattern)).found start f t e)
    by_fault None is e =
        let all = sound (lexemes 0 (located pattern)).found (new_level 0) [] t e in
        record {
          lexemes = (lexemes 0 (located pattern)).found;
          are =
              are_spelled 0 (located pattern) is;
          alternatives = all.0;
          choice =
              new_choice 0 0 _ [] all.0 all.1;
          tree = all.2;
        }
