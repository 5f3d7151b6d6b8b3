-- The fault that is reported is the first.
use Rattle.std.proofs.Common.{◌≡◌, ℕ, suc, ◌≤◌, ◌<◌, Bool, true, false, cond, List, [], ◌∷◌, ◌++◌, length, Option, Some, None, Result, Ok, Err, refl, ap, sym, subst, ◌∙◌, append_assoc, append-nil, arith}
use Rattle.std.specs.Prelude.{nat_lt}
use Rattle.std.proofs.lemmas.Bool.Decides.{nat_tests}
use Rattle.lic_ere.specs.declared.lexeme.bounds.Bounds.{Bounds}
use Rattle.lic_ere.specs.declared.fault.EreFault.{EreFault}
use Rattle.lic_ere.specs.declared.fault.EreCause.{EreCause}
use Rattle.lic_ere.specs.declared.fault.EreCause.TheVariants.{NothingToRepeat, TwoSigns, BadBound, GroupNotClosed, TooDeep}
use Rattle.lic_ere.specs.Signs.{close_paren}
use Rattle.lic_ere.specs.Trees.{Tree, repeat, letters_tree}
use Rattle.lic_ere.specs.Faults.{fault_at, ◌>>=◌}
use Rattle.lic_ere.specs.Located.{Located, located}
use Rattle.lic_ere.specs.Lexemes.{Lexeme, unit, sign, opening, closing, bar, anchor, Lexemes, lexemes}
use Rattle.lic_ere.specs.Spelling.{IsLexeme}
use Rattle.lic_ere.specs.Grammar.{without_anchors}
use Rattle.lic_ere.specs.Reading as reading
use Rattle.lic_ere.specs.Reading.{LastUnit, GroupLevel, new_level, with_unit, with_alternative, level_tree, State, max_depth, meet, finish, read_on, start, reading}
use Rattle.lic_ere.specs.FirstFaults as faults
use Rattle.lic_ere.specs.FirstFaults.{EndInNothing, EndInSign, EndInUnit, AreWhole, AreOpen, MayNotFollow, AllMayFollow, BeginWith, IsNoLexeme, IsFaultOf}
use Rattle.lic_ere.proofs.FaultSpelled.{same_fault, not_failed, Ends, spelled}

-- ---- lexemes one after the other

pub without_anchors-append : (ls ms : List (ℕ × Lexeme)) → without_anchors (ls ++ ms) ≡ without_anchors ls ++ without_anchors ms
without_anchors-append [] ms = refl
without_anchors-append ((offset, unit t) ∷ ls) ms = ap (λ l. (offset, unit t) ∷ l) (without_anchors-append ls ms)
without_anchors-append ((offset, sign b) ∷ ls) ms = ap (λ l. (offset, sign b) ∷ l) (without_anchors-append ls ms)
without_anchors-append ((offset, opening) ∷ ls) ms = ap (λ l. (offset, opening) ∷ l) (without_anchors-append ls ms)
without_anchors-append ((offset, closing) ∷ ls) ms = ap (λ l. (offset, closing) ∷ l) (without_anchors-append ls ms)
without_anchors-append ((offset, bar) ∷ ls) ms = ap (λ l. (offset, bar) ∷ l) (without_anchors-append ls ms)
without_anchors-append ((offset, anchor) ∷ ls) ms = without_anchors-append ls ms

pub whole-append : {ls : List (ℕ × Lexeme)} (more : List (ℕ × Lexeme)) → AreWhole ls → AreWhole more → AreWhole (ls ++ more)
whole-append more faults.no_lexeme h = h
whole-append more (faults.a_unit w) h = faults.a_unit (whole-append more w h)
whole-append more (faults.a_sign w) h = faults.a_sign (whole-append more w h)
whole-append more (faults.a_bar w) h = faults.a_bar (whole-append more w h)
whole-append more (faults.a_group {inner = inner} {ls = ls} {offset = offset} end a w) h =
    subst (λ l. AreWhole ((offset, opening) ∷ l)) (sym (append_assoc inner ((end, closing) ∷ ls) more))
    (faults.a_group end a (whole-append more w h))

pub open-append : {ls : List (ℕ × Lexeme)} {depth : ℕ} (more : List (ℕ × Lexeme)) → AreOpen ls depth → AreWhole more → AreOpen (ls ++ more) depth
open-append more (faults.none w) h = faults.none (whole-append more w h)
open-append more (faults.stray {before = before} {after = after} offset o w) h =
    subst (λ l. AreOpen l 0) (sym (append_assoc before ((offset, closing) ∷ after) more)) (faults.stray offset o (whole-append more w h))
open-append more (faults.one_more {before = before} {after = after} {depth = depth} offset o w) h =
    subst (λ l. AreOpen l (suc depth)) (sym (append_assoc before ((offset, opening) ∷ after) more))
    (faults.one_more offset o (whole-append more w h))

-- ---- what the lexemes so far say of the state

-- what they end in
abbrev EndIn : LastUnit → List (ℕ × Lexeme) → Type 0
EndIn reading.no_unit ls = EndInNothing ls
EndIn (reading.single t) ls = EndInUnit ls
EndIn (reading.repeated t) ls = EndInSign ls

-- The innermost open group begins where its level says, and so do those round it.
abbrev Open : List (ℕ × Lexeme) → GroupLevel → List GroupLevel → Type 0
Open ls level [] = AreOpen ls 0
Open ls level (o ∷ outer) =
    (before : List (ℕ × Lexeme)) × (after : List (ℕ × Lexeme)) × (ls ≡ before ++ (level.offset, opening) ∷ after)
    × AreWhole after × Open before o outer

open-depth : (ls : List (ℕ × Lexeme)) (level : GroupLevel) (outer : List GroupLevel) → Open ls level outer → AreOpen ls (length outer)
open-depth ls level [] h = h
open-depth ls level (o ∷ outer) h =
    subst (λ l. AreOpen l (suc (length outer))) (sym h.2) (faults.one_more level.offset (open-depth h.0 o outer h.4) h.3)

-- lexemes that leave as many groups open
open-on : (ls more : List (ℕ × Lexeme)) (l m : GroupLevel) (outer : List GroupLevel) → m.offset ≡ l.offset → AreWhole more
    → Open ls l outer → Open (ls ++ more) m outer
open-on ls more l m [] same w h = open-append more h w
open-on ls more l m (o ∷ outer) same w h = (
  h.0,
  h.1 ++ more,
  ap (λ ks. ks ++ more) h.2 ∙ append_assoc h.0 ((l.offset, opening) ∷ h.1) more
      ∙ ap (λ (p : ℕ). h.0 ++ (p, opening) ∷ (h.1 ++ more)) (sym same),
  whole-append more h.3 w,
  h.4,
)

-- the end of the innermost group
open-end : (ls : List (ℕ × Lexeme)) (offset : ℕ) (level o m : GroupLevel) (outer : List GroupLevel) → m.offset ≡ o.offset
    → Open ls level (o ∷ outer) → Open (ls ++ (offset, closing) ∷ []) m outer
open-end ls offset level o m outer same h =
    let more : List (ℕ × Lexeme) = (level.offset, opening) ∷ (h.1 ++ (offset, closing) ∷ []) in
    let whole : AreWhole more = faults.a_group offset h.3 faults.no_lexeme in
    subst (λ ks. Open ks m outer)
    (sym (append_assoc h.0 ((level.offset, opening) ∷ h.1) ((offset, closing) ∷ []))
    ∙ ap (λ ks. ks ++ (offset, closing) ∷ []) (sym h.2))
    (open-on h.0 more o m outer same whole h.4)

record SoFar (ls : List (ℕ × Lexeme)) (s : State) : Type 0 where
  follow : AllMayFollow ls
  last : EndIn s.level.last ls
  groups : Open ls s.level s.outer

-- the fault of these lexemes, after some others
data Fault (before ls : List (ℕ × Lexeme)) (fault : Option EreFault) (e : EreFault) : Type 0 where
  early : (prefix after : List (ℕ × Lexeme)) {offset : ℕ} {l : Lexeme} {cause : EreCause} → before ++ ls ≡ prefix ++ (offset, l) ∷ after
      → AllMayFollow (without_anchors prefix) → MayNotFollow (without_anchors prefix) l cause → fault_at offset cause ≡ e
      → Fault before ls fault e
  left_open : (prefix after : List (ℕ × Lexeme)) {offset : ℕ} → fault ≡ None
      → without_anchors (before ++ ls) ≡ prefix ++ (offset, opening) ∷ after → AllMayFollow (without_anchors (before ++ ls))
      → AreWhole after → fault_at offset GroupNotClosed ≡ e → Fault before ls fault e
  late : fault ≡ Some e → AllMayFollow (without_anchors (before ++ ls)) → Fault before ls fault e

-- one more lexeme before
fault_back : (before ls : List (ℕ × Lexeme)) (x : ℕ × Lexeme) (fault : Option EreFault) (e : EreFault)
    → Fault (before ++ x ∷ []) ls fault e → Fault before (x ∷ ls) fault e
fault_back before ls x fault e (early prefix after is follow not same) = early prefix after (sym (append_assoc before (x ∷ []) ls) ∙ is) follow not same
fault_back before ls x fault e (left_open prefix after none is follow whole same) =
    left_open prefix after none (ap without_anchors (sym (append_assoc before (x ∷ []) ls)) ∙ is)
    (subst (λ l. AllMayFollow (without_anchors l)) (append_assoc before (x ∷ []) ls) follow) whole same
fault_back before ls x fault e (late some follow) = late some (subst (λ l. AllMayFollow (without_anchors l)) (append_assoc before (x ∷ []) ls) follow)

-- a lexeme that is refused
refused : (before ls : List (ℕ × Lexeme)) (offset : ℕ) (l : Lexeme) (cause : EreCause) (fault : Option EreFault)
    (e : EreFault) → AllMayFollow (without_anchors before) → MayNotFollow (without_anchors before) l cause
    → ◌≡◌ {A = Result Tree EreFault} (Err (fault_at offset cause)) (Err e) → Fault before ((offset, l) ∷ ls) fault e
refused before ls offset l cause fault e follow not is = early before ls refl follow not (same_fault (fault_at offset cause) e is)

module _ (fault : Option EreFault) (e : EreFault) where
  abbrev Faulty : List (ℕ × Lexeme) → Type 0
  Faulty ls = (before : List (ℕ × Lexeme)) (s : State) → SoFar (without_anchors before) s → read_on s ls fault ≡ Err e → Fault before ls fault e

  -- one more lexeme that is allowed
  taken : (before ls : List (ℕ × Lexeme)) (x : ℕ × Lexeme) (s : State) → Faulty ls
      → without_anchors (before ++ x ∷ []) ≡ without_anchors before ++ x ∷ [] → SoFar (without_anchors before ++ x ∷ []) s
      → read_on s ls fault ≡ Err e → Fault before (x ∷ ls) fault e
  taken before ls x s others plain so_far is =
      fault_back before ls x fault e (others (before ++ x ∷ []) s (subst (λ l. SoFar l s) (sym plain) so_far) is)

  end_by : (before : List (ℕ × Lexeme)) (s : State) (os : List GroupLevel) → AllMayFollow (without_anchors before)
      → Open (without_anchors before) s.level os → fault ≡ None → finish s.level os ≡ Err e → Fault before [] fault e
  end_by before s [] follow groups none is = not_failed (level_tree s.level) e is
  end_by before s (o ∷ os) follow groups none is =
      left_open groups.0 groups.1 none (ap without_anchors (append-nil before) ∙ groups.2)
      (subst (λ l. AllMayFollow (without_anchors l)) (sym (append-nil before)) follow) groups.3
      (same_fault (fault_at s.level.offset GroupNotClosed) e is)

  unit_by : (before ls : List (ℕ × Lexeme)) (offset : ℕ) (t : Tree) (s : State) → Faulty ls → SoFar (without_anchors before) s
      → read_on (record s { level = with_unit t s.level }) ls fault ≡ Err e → Fault before ((offset, unit t) ∷ ls) fault e
  unit_by before ls offset t s others so_far is =
      taken before ls (offset, unit t) (record s { level = with_unit t s.level }) others
      (without_anchors-append before ((offset, unit t) ∷ []))
      (record {
        follow = faults.one_more offset so_far.follow faults.a_unit;
        last = faults.plain (without_anchors before) offset t;
        groups = open-on (without_anchors before) ((offset, unit t) ∷ []) s.level (with_unit t s.level) s.outer refl (faults.a_unit faults.no_lexeme) so_far.groups;
      }) is

  sign_by : (before ls : List (ℕ × Lexeme)) (offset : ℕ) (b : Option Bounds) (from : ℕ) (alternatives units : List Tree)
      (last : LastUnit) (outer : List GroupLevel) → Faulty ls
      → SoFar (without_anchors before) (record { level = record { offset = from; alternatives = alternatives; before = units; last = last }; outer = outer })
      → read_on (record { level = record { offset = from; alternatives = alternatives; before = units; last = last }; outer = outer })
      ((offset, sign b) ∷ ls) fault ≡ Err e → Fault before ((offset, sign b) ∷ ls) fault e
  unfolding read_on meet
  sign_by before ls offset b from alternatives units reading.no_unit outer others so_far is =
      refused before ls offset (sign b) NothingToRepeat fault e so_far.follow (faults.nothing_to_repeat so_far.last) is
  sign_by before ls offset b from alternatives units (reading.repeated t) outer others so_far is =
      refused before ls offset (sign b) TwoSigns fault e so_far.follow (faults.two_signs so_far.last) is
  sign_by before ls offset None from alternatives units (reading.single t) outer others so_far is =
      refused before ls offset (sign None) BadBound fault e so_far.follow (faults.bad_bound so_far.last) is
  sign_by before ls offset (Some b) from alternatives units (reading.single t) outer others so_far is =
      let old : GroupLevel = record { offset = from; alternatives = alternatives; before = units; last = reading.single t } in
      let now : GroupLevel = record { offset = from; alternatives = alternatives; before = units; last = reading.repeated (repeat t b.min b.max) } in
      taken before ls (offset, sign (Some b)) (record { level = now; outer = outer }) others
      (without_anchors-append before ((offset, sign (Some b)) ∷ []))
      (record {
        follow = faults.one_more offset so_far.follow (faults.a_sign so_far.last);
        last = faults.repeated (without_anchors before) offset b;
        groups = open-on (without_anchors before) ((offset, sign (Some b)) ∷ []) old now outer refl (faults.a_sign faults.no_lexeme) so_far.groups;
      }) is

  opening_by : (before ls : List (ℕ × Lexeme)) (offset : ℕ) (s : State) (t : Bool) → Faulty ls → SoFar (without_anchors before) s
      → nat_lt (length s.outer) max_depth ≡ t
      → (cond t (Ok (record { level = new_level offset; outer = s.level ∷ s.outer })) (Err (fault_at offset TooDeep))
      >>= λ u. read_on u ls fault) ≡ Err e → Fault before ((offset, opening) ∷ ls) fault e
  opening_by before ls offset s false others so_far lt is =
      let deep : max_depth ≤ length s.outer = grind (arith, nat_tests) in
      refused before ls offset opening TooDeep fault e so_far.follow
      (faults.too_deep (open-depth (without_anchors before) s.level s.outer so_far.groups) deep) is
  opening_by before ls offset s true others so_far lt is =
      let small : length s.outer < max_depth = grind (arith, nat_tests) in
      taken before ls (offset, opening) (record { level = new_level offset; outer = s.level ∷ s.outer }) others
      (without_anchors-append before ((offset, opening) ∷ []))
      (record {
        follow = faults.one_more offset so_far.follow (faults.a_group (open-depth (without_anchors before) s.level s.outer so_far.groups) small);
        last = faults.opened (without_anchors before) offset;
        groups = (without_anchors before, [], refl, faults.no_lexeme, so_far.groups);
      }) is

  closing_by : (before ls : List (ℕ × Lexeme)) (offset : ℕ) (level : GroupLevel) (outer : List GroupLevel) → Faulty ls
      → SoFar (without_anchors before) (record { level = level; outer = outer })
      → read_on (record { level = level; outer = outer }) ((offset, closing) ∷ ls) fault ≡ Err e
      → Fault before ((offset, closing) ∷ ls) fault e
  unfolding read_on meet
  closing_by before ls offset level [] others so_far is =
      taken before ls (offset, closing) (record { level = with_unit (letters_tree close_paren) level; outer = [] }) others
      (without_anchors-append before ((offset, closing) ∷ []))
      (record {
        follow = faults.one_more offset so_far.follow faults.an_end;
        last = faults.closed (without_anchors before) offset;
        groups = faults.stray offset so_far.groups faults.no_lexeme;
      }) is
  closing_by before ls offset level (o ∷ outer) others so_far is =
      taken before ls (offset, closing) (record { level = with_unit (level_tree level) o; outer = outer }) others
      (without_anchors-append before ((offset, closing) ∷ []))
      (record {
        follow = faults.one_more offset so_far.follow faults.an_end;
        last = faults.closed (without_anchors before) offset;
        groups = open-end (without_anchors before) offset level o (with_unit (level_tree level) o) outer refl so_far.groups;
      }) is

  bar_by : (before ls : List (ℕ × Lexeme)) (offset : ℕ) (s : State) → Faulty ls → SoFar (without_anchors before) s
      → read_on (record s { level = with_alternative s.level }) ls fault ≡ Err e → Fault before ((offset, bar) ∷ ls) fault e
  bar_by before ls offset s others so_far is =
      taken before ls (offset, bar) (record s { level = with_alternative s.level }) others
      (without_anchors-append before ((offset, bar) ∷ []))
      (record {
        follow = faults.one_more offset so_far.follow faults.a_bar;
        last = faults.divided (without_anchors before) offset;
        groups = open-on (without_anchors before) ((offset, bar) ∷ []) s.level (with_alternative s.level) s.outer refl (faults.a_bar faults.no_lexeme) so_far.groups;
      }) is

  anchor_by : (before ls : List (ℕ × Lexeme)) (offset : ℕ) (s : State) → Faulty ls → SoFar (without_anchors before) s
      → read_on s ls fault ≡ Err e → Fault before ((offset, anchor) ∷ ls) fault e
  anchor_by before ls offset s others so_far is =
      fault_back before ls (offset, anchor) fault e
      (others (before ++ (offset, anchor) ∷ []) s
      (subst (λ l. SoFar l s) (sym (without_anchors-append before ((offset, anchor) ∷ []) ∙ append-nil (without_anchors before))) so_far) is)

  ends_by : (before : List (ℕ × Lexeme)) (s : State) (f : Option EreFault) → fault ≡ f → SoFar (without_anchors before) s
      → read_on s [] f ≡ Err e → Fault before [] fault e
  unfolding read_on
  ends_by before s None none so_far is = end_by before s s.outer so_far.follow so_far.groups none is
  ends_by before s (Some d) some so_far is =
      late (some ∙ ap (λ f. Some f) (same_fault d e is)) (subst (λ l. AllMayFollow (without_anchors l)) (sym (append-nil before)) so_far.follow)

  faulty : (ls : List (ℕ × Lexeme)) → Faulty ls
  unfolding read_on meet
  faulty [] before s so_far is = ends_by before s fault refl so_far is
  faulty ((offset, unit t) ∷ ls) before s so_far is = unit_by before ls offset t s (faulty ls) so_far is
  faulty ((offset, sign b) ∷ ls) before s so_far is =
      sign_by before ls offset b s.level.offset s.level.alternatives s.level.before s.level.last s.outer (faulty ls) so_far is
  faulty ((offset, opening) ∷ ls) before s so_far is = opening_by before ls offset s (nat_lt (length s.outer) max_depth) (faulty ls) so_far refl is
  faulty ((offset, closing) ∷ ls) before s so_far is = closing_by before ls offset s.level s.outer (faulty ls) so_far is
  faulty ((offset, bar) ∷ ls) before s so_far is = bar_by before ls offset s (faulty ls) so_far is
  faulty ((offset, anchor) ∷ ls) before s so_far is = anchor_by before ls offset s (faulty ls) so_far is

-- ---- the fault of a pattern

-- a lexeme among those that characters begin with
split : (prefix : List (ℕ × Lexeme)) (offset : ℕ) (l : Lexeme) (after : List (ℕ × Lexeme)) {cs others : List Located}
    → BeginWith cs (prefix ++ (offset, l) ∷ after) others
    → (x : Located) × (following : List Located) × (more : List Located) × BeginWith cs prefix (x ∷ following)
    × IsLexeme x following more l × (x.0 ≡ offset)
split [] offset l after (faults.one_lexeme {x = x} {after = following} {more = more} is others) = (x, following, more, faults.no_lexeme, is, refl)
split (y ∷ prefix) offset l after (faults.one_lexeme is others) =
    let found = split prefix offset l after others in
    (found.0, found.1, found.2, faults.one_lexeme is found.3, found.4, found.5)

fault_of : (pattern : List ℕ) (ls : List (ℕ × Lexeme)) (fault : Option EreFault) (e : EreFault) (others : List Located)
    → BeginWith (located pattern) ls others → Ends others fault → Fault [] ls fault e → IsFaultOf pattern e
fault_of pattern ls fault e others are ends (early prefix after {offset = offset} {l = l} {cause = cause} is follow not same) =
    let found = split prefix offset l after (subst (λ ks. BeginWith (located pattern) ks others) is are) in
    subst (IsFaultOf pattern) (ap (λ p. fault_at p cause) found.5 ∙ same) (faults.misplaced found.3 follow found.4 not)
fault_of pattern ls fault e [] are ends (left_open prefix after none is follow whole same) =
    subst (IsFaultOf pattern) same (faults.group_open prefix are follow is whole)
fault_of pattern ls fault e (x ∷ more) are ends (left_open prefix after none is follow whole same) = absurd (some_none (sym ends.1 ∙ none))
  where
    some_none : ◌≡◌ {A = Option EreFault} (Some ends.0) None → ⊥
    some_none h = cc
fault_of pattern ls fault e [] are ends (late some follow) = absurd (some_none (sym some ∙ ends))
  where
    some_none : ◌≡◌ {A = Option EreFault} (Some e) None → ⊥
    some_none h = cc
fault_of pattern ls fault e (x ∷ more) are ends (late some follow) =
    faults.no_lexeme are follow (subst (IsNoLexeme x more) (same (sym ends.1 ∙ some)) ends.2)
  where
    same : ◌≡◌ {A = Option EreFault} (Some ends.0) (Some e) → ends.0 ≡ e
    same h = ap (λ o. elim o [ Some f ↦ f | None ↦ e ]) h

-- the fault that is reported is the first
pub reading-IsFaultOf : (pattern : List ℕ) (e : EreFault) → reading pattern ≡ Err e → IsFaultOf pattern e
reading-IsFaultOf pattern e is =
    let ls : Lexemes = lexemes 0 (located pattern) in
    let found = spelled 0 (located pattern) in
    fault_of pattern ls.found ls.fault e found.0 found.1 found.2
    (faulty ls.fault e ls.found [] start
    (record { follow = faults.no_lexeme; last = faults.no_lexeme; groups = faults.none faults.no_lexeme }) is)
