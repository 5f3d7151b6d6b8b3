-- What is in the grammar is read.
use Rattle.std.proofs.Common.{◌≡◌, ℕ, suc, ◌<◌, true, ltb, List, [], ◌∷◌, ◌++◌, length, Some, None, Result, Ok, Err, refl, ap, sym, ◌∙◌, append_assoc, arith}
use Rattle.std.proofs.lemmas.List.{append-nil}
use Rattle.std.proofs.lemmas.Bool.Decides.{nat_tests}
use Rattle.lic_ere.specs.declared.fault.EreFault.{EreFault}
use Rattle.lic_ere.specs.declared.lexeme.bounds.Bounds.{Bounds}
use Rattle.lic_ere.specs.Signs.{close_paren}
use Rattle.lic_ere.specs.Trees.{Tree, repeat, units_tree, choice_tree, letters_tree}
use Rattle.lic_ere.specs.Faults.{◌>>=◌}
use Rattle.lic_ere.specs.Lexemes.{Lexeme, unit, sign, opening, closing, bar, anchor, Lexemes}
use Rattle.lic_ere.specs.Reading as reading
use Rattle.lic_ere.specs.Reading.{GroupLevel, new_level, units, with_unit, with_alternative, level_tree, State, max_depth, meet, read_on, start, reading}
use Rattle.lic_ere.specs.Grammar.{IsUnit, plain, group, closes_nothing, IsSequence, no_unit, once, repeated, IsChoice, only, or, without_anchors, IsPattern}
use Rattle.lic_ere.proofs.LexemeSpelling.{are_read}

-- lexemes read from a level on
abbrev pub run : GroupLevel → List GroupLevel → List (ℕ × Lexeme) → Result Tree EreFault
run level outer ls = read_on (record { level = level; outer = outer }) ls None

after_meet : (r : Result State EreFault) (ls ms : List (ℕ × Lexeme))
    → ((s : State) → read_on s ls None ≡ read_on s ms None)
    → (r >>= λ s. read_on s ls None) ≡ (r >>= λ s. read_on s ms None)
after_meet (Ok s) ls ms same = same s
after_meet (Err e) ls ms same = refl

-- the units of a sequence were read
pub record RanSequence (level : GroupLevel) (outer : List GroupLevel) (ls rest : List (ℕ × Lexeme)) (ts : List Tree) : Type 0 where
  pub then : GroupLevel
  pub runs : run level outer ls ≡ run then outer rest
  pub alternatives : then.alternatives ≡ level.alternatives
  pub units : units then ≡ units level ++ ts

-- the rest of a level was read
pub record RanChoice (level : GroupLevel) (outer : List GroupLevel) (ls rest : List (ℕ × Lexeme)) (ts : List Tree) : Type 0 where
  pub then : GroupLevel
  pub runs : run level outer ls ≡ run then outer rest
  pub tree : level_tree then ≡ choice_tree (level.alternatives ++ ts)

abbrev UnitRuns : ℕ → List (ℕ × Lexeme) → List (ℕ × Lexeme) → Tree → Type 0
UnitRuns depth ls rest t = (level : GroupLevel) (outer : List GroupLevel) → length outer ≡ depth → run level outer ls ≡ run (with_unit t level) outer rest

plain_runs : (depth offset : ℕ) (t : Tree) (rest : List (ℕ × Lexeme)) → UnitRuns depth ((offset, unit t) ∷ rest) rest t
unfolding read_on meet
plain_runs depth offset t rest level outer e = refl

closing_runs : (offset : ℕ) (rest : List (ℕ × Lexeme)) → UnitRuns 0 ((offset, closing) ∷ rest) rest (letters_tree close_paren)
unfolding read_on meet
closing_runs offset rest level [] e = refl
closing_runs offset rest level (o ∷ outer) e = absurd (omega arith)

opening_runs : (offset : ℕ) (ls : List (ℕ × Lexeme)) (level : GroupLevel) (outer : List GroupLevel) → length outer < 64
    → run level outer ((offset, opening) ∷ ls) ≡ run (new_level offset) (level ∷ outer) ls
unfolding read_on meet
opening_runs offset ls level outer lt = let e : ltb (length outer) 64 ≡ true = grind (arith, nat_tests) in rw e refl

closed_runs : (offset : ℕ) (rest : List (ℕ × Lexeme)) (level o : GroupLevel) (outer : List GroupLevel)
    → run level (o ∷ outer) ((offset, closing) ∷ rest) ≡ run (with_unit (level_tree level) o) outer rest
unfolding read_on meet
closed_runs offset rest level o outer = refl

bar_runs : (offset : ℕ) (rest : List (ℕ × Lexeme)) (level : GroupLevel) (outer : List GroupLevel)
    → run level outer ((offset, bar) ∷ rest) ≡ run (with_alternative level) outer rest
unfolding read_on meet
bar_runs offset rest level outer = refl

sign_runs : (offset : ℕ) (b : Bounds) (t : Tree) (rest : List (ℕ × Lexeme)) (level : GroupLevel) (outer : List GroupLevel)
    → run (with_unit t level) outer ((offset, sign (Some b)) ∷ rest)
    ≡ run (record (with_unit t level) { last = reading.repeated (repeat t b.min b.max) }) outer rest
unfolding read_on meet
sign_runs offset b t rest level outer = refl

group_runs : (depth offset end : ℕ) (ls rest : List (ℕ × Lexeme)) (ts : List Tree) → depth < max_depth
    → ((level : GroupLevel) (outer : List GroupLevel) → length outer ≡ suc depth → units level ≡ [] → RanChoice level outer ls ((end, closing) ∷ rest) ts)
    → UnitRuns depth ((offset, opening) ∷ ls) rest (choice_tree ts)
group_runs depth offset end ls rest ts lt inner level outer e =
    let ran = inner (new_level offset) (level ∷ outer) (omega arith) refl in
    opening_runs offset ls level outer (omega arith)
    ∙ ran.runs
    ∙ closed_runs end rest ran.then level outer
    ∙ ap (λ t. run (with_unit t level) outer rest) ran.tree

only_runs : (level : GroupLevel) (outer : List GroupLevel) (ls rest : List (ℕ × Lexeme)) (ts : List Tree) → units level ≡ []
    → RanSequence level outer ls rest ts → RanChoice level outer ls rest (units_tree ts ∷ [])
only_runs level outer ls rest ts fresh ran =
    record {
      then = ran.then;
      runs = ran.runs;
      tree = λ i. choice_tree (ran.alternatives i ++ units_tree ((ran.units ∙ ap (λ us. us ++ ts) fresh) i) ∷ []);
    }

or_runs : (level : GroupLevel) (outer : List GroupLevel) (ls more rest : List (ℕ × Lexeme)) (offset : ℕ) (ts us : List Tree)
    → units level ≡ [] → (sequence : RanSequence level outer ls ((offset, bar) ∷ more) ts)
    → RanChoice (with_alternative sequence.then) outer more rest us → RanChoice level outer ls rest (units_tree ts ∷ us)
or_runs level outer ls more rest offset ts us fresh sequence others =
    record {
      then = others.then;
      runs = sequence.runs ∙ bar_runs offset more sequence.then outer ∙ others.runs;
      tree = others.tree
          ∙ (λ i. choice_tree ((sequence.alternatives i ++ units_tree ((sequence.units ∙ ap (λ us. us ++ ts) fresh) i) ∷ []) ++ us))
          ∙ ap choice_tree (append_assoc level.alternatives (units_tree ts ∷ []) us);
    }

mutual
  unit_runs : {depth : ℕ} {ls rest : List (ℕ × Lexeme)} {t : Tree} → IsUnit depth ls rest t → UnitRuns depth ls rest t
  unit_runs (plain {depth = d} {offset = p} {t = t} {rest = r}) level outer e = plain_runs d p t r level outer e
  unit_runs (group {depth = d} {offset = p} {end = q} {ls = ls} {rest = rest} {ts = ts} lt inner) level outer e =
      group_runs d p q ls rest ts lt (choice_runs inner) level outer e
  unit_runs (closes_nothing {offset = p} {rest = r}) level outer e = closing_runs p r level outer e

  sequence_runs : {depth : ℕ} {ls rest : List (ℕ × Lexeme)} {ts : List Tree} → IsSequence depth ls rest ts
      → (level : GroupLevel) (outer : List GroupLevel) → length outer ≡ depth → RanSequence level outer ls rest ts
  sequence_runs no_unit level outer e = record { then = level; runs = refl; alternatives = refl; units = sym (append-nil (units level)) }
  sequence_runs (once {t = t} {ts = ts} first others) level outer e =
      let ran = sequence_runs others (with_unit t level) outer e in
      record {
        then = ran.then;
        runs = unit_runs first level outer e ∙ ran.runs;
        alternatives =
            ran.alternatives;
        units = ran.units ∙ append_assoc (units level) (t ∷ []) ts;
      }
  sequence_runs (repeated {offset = p} {more = more} {t = t} {b = b} {ts = ts} first others) level outer e =
      let ran = sequence_runs others (record (with_unit t level) { last = reading.repeated (repeat t b.min b.max) }) outer e in
      record {
        then = ran.then;
        runs =
            unit_runs first level outer e ∙ sign_runs p b t more level outer ∙ ran.runs;
        alternatives =
            ran.alternatives;
        units = ran.units ∙ append_assoc (units level) (repeat t b.min b.max ∷ []) ts;
      }

  choice_runs : {depth : ℕ} {ls rest : List (ℕ × Lexeme)} {ts : List Tree} → IsChoice depth ls rest ts
      → (level : GroupLevel) (outer : List GroupLevel) → length outer ≡ depth → units level ≡ []
      → RanChoice level outer ls rest ts
  choice_runs (only {ls = ls} {rest = rest} {ts = ts} sequence) level outer e fresh = only_runs level outer ls rest ts fresh (sequence_runs sequence level outer e)
  choice_runs (or {offset = p} {ls = ls} {more = more} {rest = rest} {ts = ts} {us = us} sequence others) level outer e fresh =
      let ran = sequence_runs sequence level outer e in
      or_runs level outer ls more rest p ts us fresh ran (choice_runs others (with_alternative ran.then) outer e refl)

without_anchors_runs : (ls : List (ℕ × Lexeme)) (s : State) → read_on s (without_anchors ls) None ≡ read_on s ls None
unfolding read_on meet
without_anchors_runs [] s = refl
without_anchors_runs ((p, unit t) ∷ ls) s = without_anchors_runs ls _
without_anchors_runs ((p, sign b) ∷ ls) s = after_meet (meet p (sign b) s) (without_anchors ls) ls (without_anchors_runs ls)
without_anchors_runs ((p, opening) ∷ ls) s = after_meet (meet p opening s) (without_anchors ls) ls (without_anchors_runs ls)
without_anchors_runs ((p, closing) ∷ ls) s = without_anchors_runs ls _
without_anchors_runs ((p, bar) ∷ ls) s = without_anchors_runs ls _
without_anchors_runs ((p, anchor) ∷ ls) s = without_anchors_runs ls s

-- what is in the grammar is read
pub IsPattern-read : (pattern : List ℕ) (t : Tree) → IsPattern pattern t → reading pattern ≡ Ok t
unfolding read_on
IsPattern-read pattern t is =
    let ran = choice_runs is.choice (new_level 0) [] refl refl in
    ap (λ (ls : Lexemes). read_on start ls.found ls.fault) (are_read is.are)
    ∙ sym (without_anchors_runs is.lexemes start) ∙ ran.runs ∙ ap (λ u. Ok u) (ran.tree ∙ sym is.tree)
