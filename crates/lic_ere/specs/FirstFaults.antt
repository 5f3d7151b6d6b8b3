-- Which fault decides where a pattern is refused: the first from the left. The lexemes before it are spelled and allowed
-- where they are; then no lexeme can be read, or the next one is not allowed there, or the pattern ends in an open group.
use Rattle.std.specs.Prelude.{◌≡◌, ◌≢◌, ℕ, suc, ◌<◌, ◌≤◌, false, List, [], ◌∷◌, ◌++◌, Option, Some, None}
use Rattle.std.specs.Char.{is_ascii_punctuation}
use Rattle.lic_ere.specs.declared.lexeme.bounds.Bounds.{Bounds}
use Rattle.lic_ere.specs.declared.class.Member.{Member}
use Rattle.lic_ere.specs.declared.fault.EreFault.{EreFault}
use Rattle.lic_ere.specs.declared.fault.EreCause.{EreCause}
use Rattle.lic_ere.specs.declared.fault.EreCause.TheVariants.{NothingToRepeat, TwoSigns, BadBound, BracketNotClosed, BracketExtension, RangeOutOfOrder, GroupNotClosed, UnknownEscape, EndsInBackslash, AnchorInside, TooDeep}
use Rattle.lic_ere.specs.Signs.{dollar, dash, open_bracket, backslash, close_bracket, caret}
use Rattle.lic_ere.specs.Trees.{Tree}
use Rattle.lic_ere.specs.Faults.{fault_at}
use Rattle.lic_ere.specs.Located.{Located, located}
use Rattle.lic_ere.specs.Lexemes.{Lexeme, unit, sign, opening, closing, bar}
use Rattle.lic_ere.specs.Reading.{max_depth}
use Rattle.lic_ere.specs.Spelling.{continues_as_range, IsExtension, IsMember, IsLexeme}
use Rattle.lic_ere.specs.Grammar.{without_anchors}

-- ---- characters that begin with no lexeme

-- the first member of these is at fault
pub data IsFaultyMember : List Located → EreFault → Type 0 where
  -- one character, a `[` directly before `:`, `.` or `=`
  extension : {x : Located} {after : List Located} → continues_as_range after ≡ false → IsExtension x.1 after
      → IsFaultyMember (x ∷ after) (fault_at x.0 BracketExtension)
  -- a range that ends before it begins, whatever its end is
  out_of_order : {x hyphen y : Located} {after : List Located} → hyphen.1 ≡ dash → y.1 ≢ close_bracket → y.1 < x.1
      → IsFaultyMember (x ∷ hyphen ∷ y ∷ after) (fault_at x.0 RangeOutOfOrder)
  -- a range in order that ends in such a `[`
  extension_last : {x hyphen y : Located} {after : List Located} → hyphen.1 ≡ dash → y.1 ≢ close_bracket → x.1 ≤ y.1
      → IsExtension y.1 after → IsFaultyMember (x ∷ hyphen ∷ y ∷ after) (fault_at y.0 BracketExtension)

-- members of the bracket that opens at an offset, and then one at fault, or the end of the pattern
pub data AreFaultyMembers (offset : ℕ) : List Located → EreFault → Type 0 where
  not_closed : AreFaultyMembers offset [] (fault_at offset BracketNotClosed)
  this : {x : Located} {after : List Located} {e : EreFault} → x.1 ≢ close_bracket → IsFaultyMember (x ∷ after) e
      → AreFaultyMembers offset (x ∷ after) e
  later : {x : Located} {after more : List Located} {m : Member} {e : EreFault} → x.1 ≢ close_bracket
      → IsMember (x ∷ after) more m → AreFaultyMembers offset more e → AreFaultyMembers offset (x ∷ after) e

-- the same from the first member on, which may be a `]`
pub data AreFaultyFirstMembers (offset : ℕ) : List Located → EreFault → Type 0 where
  not_closed : AreFaultyFirstMembers offset [] (fault_at offset BracketNotClosed)
  this : {cs : List Located} {e : EreFault} → IsFaultyMember cs e → AreFaultyFirstMembers offset cs e
  later : {cs more : List Located} {m : Member} {e : EreFault} → IsMember cs more m → AreFaultyMembers offset more e
      → AreFaultyFirstMembers offset cs e

-- what comes after the `[` at an offset
pub data IsFaultyBracket (offset : ℕ) : List Located → EreFault → Type 0 where
  nothing : IsFaultyBracket offset [] (fault_at offset BracketNotClosed)
  plain : {x : Located} {cs : List Located} {e : EreFault} → x.1 ≢ caret → AreFaultyFirstMembers offset (x ∷ cs) e
      → IsFaultyBracket offset (x ∷ cs) e
  complement : {x : Located} {cs : List Located} {e : EreFault} → x.1 ≡ caret → AreFaultyFirstMembers offset cs e
      → IsFaultyBracket offset (x ∷ cs) e

-- No lexeme begins with a character and those after it, by this fault.
pub data IsNoLexeme : Located → List Located → EreFault → Type 0 where
  faulty_bracket : {x : Located} {after : List Located} {e : EreFault} → x.1 ≡ open_bracket → IsFaultyBracket x.0 after e
      → IsNoLexeme x after e
  ends_in_backslash : {x : Located} → x.1 ≡ backslash → IsNoLexeme x [] (fault_at x.0 EndsInBackslash)
  unknown_escape : {x y : Located} {after : List Located} → x.1 ≡ backslash → is_ascii_punctuation y.1 ≡ false
      → IsNoLexeme x (y ∷ after) (fault_at x.0 UnknownEscape)
  caret_inside : {x : Located} {after : List Located} → x.1 ≡ caret → x.0 ≢ 0
      → IsNoLexeme x after (fault_at x.0 AnchorInside)
  dollar_inside : {x y : Located} {after : List Located} → x.1 ≡ dollar
      → IsNoLexeme x (y ∷ after) (fault_at x.0 AnchorInside)

-- ---- lexemes where they are allowed, and where they are not

-- the last of these is nothing that can be repeated: there is none, or it is a `(` or a `|`
pub data EndInNothing : List (ℕ × Lexeme) → Type 0 where
  no_lexeme : EndInNothing []
  opened : (ls : List (ℕ × Lexeme)) (offset : ℕ) → EndInNothing (ls ++ (offset, opening) ∷ [])
  divided : (ls : List (ℕ × Lexeme)) (offset : ℕ) → EndInNothing (ls ++ (offset, bar) ∷ [])

-- the last of these is a repetition sign
pub data EndInSign : List (ℕ × Lexeme) → Type 0 where
  repeated : (ls : List (ℕ × Lexeme)) (offset : ℕ) (b : Bounds) → EndInSign (ls ++ (offset, sign (Some b)) ∷ [])

-- the last of these ends a unit
pub data EndInUnit : List (ℕ × Lexeme) → Type 0 where
  plain : (ls : List (ℕ × Lexeme)) (offset : ℕ) (t : Tree) → EndInUnit (ls ++ (offset, unit t) ∷ [])
  closed : (ls : List (ℕ × Lexeme)) (offset : ℕ) → EndInUnit (ls ++ (offset, closing) ∷ [])

-- Each group that begins among these lexemes ends among them, and no other does.
pub data AreWhole : List (ℕ × Lexeme) → Type 0 where
  no_lexeme : AreWhole []
  a_unit : {ls : List (ℕ × Lexeme)} {offset : ℕ} {t : Tree} → AreWhole ls → AreWhole ((offset, unit t) ∷ ls)
  a_sign : {ls : List (ℕ × Lexeme)} {offset : ℕ} {b : Bounds} → AreWhole ls → AreWhole ((offset, sign (Some b)) ∷ ls)
  a_bar : {ls : List (ℕ × Lexeme)} {offset : ℕ} → AreWhole ls → AreWhole ((offset, bar) ∷ ls)
  a_group : {inner ls : List (ℕ × Lexeme)} {offset : ℕ} (end : ℕ) → AreWhole inner → AreWhole ls
      → AreWhole ((offset, opening) ∷ (inner ++ (end, closing) ∷ ls))

-- That many groups are open after these lexemes.
pub data AreOpen : List (ℕ × Lexeme) → ℕ → Type 0 where
  none : {ls : List (ℕ × Lexeme)} → AreWhole ls → AreOpen ls 0
  -- a `)` outside of all groups closes nothing
  stray : {before after : List (ℕ × Lexeme)} (offset : ℕ) → AreOpen before 0 → AreWhole after
      → AreOpen (before ++ (offset, closing) ∷ after) 0
  one_more : {before after : List (ℕ × Lexeme)} {depth : ℕ} (offset : ℕ) → AreOpen before depth → AreWhole after
      → AreOpen (before ++ (offset, opening) ∷ after) (suc depth)

-- a lexeme that may come after these: a repetition sign with its bounds after a unit, a `(` in less than 64 groups
pub data MayFollow (before : List (ℕ × Lexeme)) : Lexeme → Type 0 where
  a_unit : {t : Tree} → MayFollow before (unit t)
  a_bar : MayFollow before bar
  an_end : MayFollow before closing
  a_sign : {b : Bounds} → EndInUnit before → MayFollow before (sign (Some b))
  a_group : {depth : ℕ} → AreOpen before depth → depth < max_depth → MayFollow before opening

-- A lexeme that may not come after these, and why: of a repetition sign first what comes before it decides, then its bounds.
pub data MayNotFollow (before : List (ℕ × Lexeme)) : Lexeme → EreCause → Type 0 where
  nothing_to_repeat : {b : Option Bounds} → EndInNothing before → MayNotFollow before (sign b) NothingToRepeat
  two_signs : {b : Option Bounds} → EndInSign before → MayNotFollow before (sign b) TwoSigns
  bad_bound : EndInUnit before → MayNotFollow before (sign None) BadBound
  too_deep : {depth : ℕ} → AreOpen before depth → max_depth ≤ depth → MayNotFollow before opening TooDeep

-- Each of these lexemes may come after those before it.
pub data AllMayFollow : List (ℕ × Lexeme) → Type 0 where
  no_lexeme : AllMayFollow []
  one_more : {before : List (ℕ × Lexeme)} {l : Lexeme} (offset : ℕ) → AllMayFollow before → MayFollow before l
      → AllMayFollow (before ++ (offset, l) ∷ [])

-- Characters begin with these lexemes, and continue with the others.
pub data BeginWith : List Located → List (ℕ × Lexeme) → List Located → Type 0 where
  no_lexeme : {cs : List Located} → BeginWith cs [] cs
  one_lexeme : {x : Located} {after more others : List Located} {l : Lexeme} {ls : List (ℕ × Lexeme)}
      → IsLexeme x after more l → BeginWith more ls others → BeginWith (x ∷ after) ((x.0, l) ∷ ls) others

-- the fault that decides of a pattern, given as its bytes
pub data IsFaultOf (pattern : List ℕ) : EreFault → Type 0 where
  no_lexeme : {ls : List (ℕ × Lexeme)} {x : Located} {after : List Located} {e : EreFault}
      → BeginWith (located pattern) ls (x ∷ after) → AllMayFollow (without_anchors ls) → IsNoLexeme x after e
      → IsFaultOf pattern e
  misplaced : {ls : List (ℕ × Lexeme)} {x : Located} {after more : List Located} {l : Lexeme} {cause : EreCause}
      → BeginWith (located pattern) ls (x ∷ after) → AllMayFollow (without_anchors ls) → IsLexeme x after more l
      → MayNotFollow (without_anchors ls) l cause → IsFaultOf pattern (fault_at x.0 cause)
  -- the innermost open group: after its `(` each group that begins also ends
  group_open : {ls after : List (ℕ × Lexeme)} {offset : ℕ} (before : List (ℕ × Lexeme))
      → BeginWith (located pattern) ls [] → AllMayFollow (without_anchors ls)
      → without_anchors ls ≡ before ++ (offset, opening) ∷ after → AreWhole after
      → IsFaultOf pattern (fault_at offset GroupNotClosed)
