-- The fault that decides is the one that reading meets.
use Rattle.std.proofs.Common.{◌≡◌, ℕ, suc, ◌≤◌, ◌<◌, true, false, ltb, List, [], ◌∷◌, ◌++◌, length, Option, Some, None, Result, Ok, Err, refl, ap, sym, ◌∙◌, append_assoc, arith}
use Rattle.std.proofs.lemmas.List.{nil_from_length}
use Rattle.std.proofs.lemmas.Bool.Decides.{nat_tests}
use Rattle.lic_ere.specs.declared.lexeme.bounds.Bounds.{Bounds}
use Rattle.lic_ere.specs.declared.fault.EreFault.{EreFault}
use Rattle.lic_ere.specs.declared.fault.EreCause.{EreCause}
use Rattle.lic_ere.specs.declared.fault.EreCause.TheVariants.{NothingToRepeat, TwoSigns, BadBound, GroupNotClosed, TooDeep}
use Rattle.lic_ere.specs.Signs.{close_paren}
use Rattle.lic_ere.specs.Trees.{Tree, repeat, letters_tree}
use Rattle.lic_ere.specs.Faults.{fault_at, ◌>>=◌}
use Rattle.lic_ere.specs.Lexemes.{Lexeme, unit, sign, opening, closing, bar, anchor, Lexemes, lexemes}
use Rattle.lic_ere.specs.Grammar.{without_anchors}
use Rattle.lic_ere.specs.Reading as reading
use Rattle.lic_ere.specs.Reading.{LastUnit, GroupLevel, new_level, with_unit, with_alternative, level_tree, State, max_depth, meet, finish, read_on, start, reading}
use Rattle.lic_ere.specs.FirstFaults as faults
use Rattle.lic_ere.specs.FirstFaults.{EndInNothing, EndInSign, EndInUnit, AreWhole, AreOpen, MayFollow, MayNotFollow, AllMayFollow, IsFaultOf}
use Rattle.lic_ere.proofs.FaultRead.{before_these, none_read, one_read, begin_read}

-- ---- what lexemes end in

data Kind : Type 0 where
  nothing : Kind
  one_unit : Kind
  one_sign : Kind

abbrev kind_of : Lexeme → Kind
kind_of (unit t) = one_unit
kind_of (sign b) = one_sign
kind_of opening = nothing
kind_of closing = one_unit
kind_of bar = nothing
kind_of anchor = nothing

-- the same of lexemes, after some that end in a kind
abbrev last_kind : Kind → List (ℕ × Lexeme) → Kind
last_kind k [] = k
last_kind k (x ∷ ls) = last_kind (kind_of x.1) ls

last_kind-snoc : (k : Kind) (ls : List (ℕ × Lexeme)) (x : ℕ × Lexeme) → last_kind k (ls ++ x ∷ []) ≡ kind_of x.1
last_kind-snoc k [] x = refl
last_kind-snoc k (y ∷ ls) x = last_kind-snoc (kind_of y.1) ls x

end_in_nothing : {ls : List (ℕ × Lexeme)} → EndInNothing ls → last_kind nothing ls ≡ nothing
end_in_nothing faults.no_lexeme = refl
end_in_nothing (faults.opened ls offset) = last_kind-snoc nothing ls (offset, opening)
end_in_nothing (faults.divided ls offset) = last_kind-snoc nothing ls (offset, bar)

end_in_sign : {ls : List (ℕ × Lexeme)} → EndInSign ls → last_kind nothing ls ≡ one_sign
end_in_sign (faults.repeated ls offset b) = last_kind-snoc nothing ls (offset, sign (Some b))

end_in_unit : {ls : List (ℕ × Lexeme)} → EndInUnit ls → last_kind nothing ls ≡ one_unit
end_in_unit (faults.plain ls offset t) = last_kind-snoc nothing ls (offset, unit t)
end_in_unit (faults.closed ls offset) = last_kind-snoc nothing ls (offset, closing)

abbrev unit_kind : LastUnit → Kind
unit_kind reading.no_unit = nothing
unit_kind (reading.single t) = one_unit
unit_kind (reading.repeated t) = one_sign

-- ---- which groups are open, from the inside out

abbrev but_first : List ℕ → List ℕ
but_first [] = []
but_first (p ∷ ps) = ps

abbrev open_offsets : List ℕ → List (ℕ × Lexeme) → List ℕ
open_offsets ps [] = ps
open_offsets ps ((offset, unit t) ∷ ls) = open_offsets ps ls
open_offsets ps ((offset, sign b) ∷ ls) = open_offsets ps ls
open_offsets ps ((offset, opening) ∷ ls) = open_offsets (offset ∷ ps) ls
open_offsets ps ((offset, closing) ∷ ls) = open_offsets (but_first ps) ls
open_offsets ps ((offset, bar) ∷ ls) = open_offsets ps ls
open_offsets ps ((offset, anchor) ∷ ls) = open_offsets ps ls

offsets-append : (ps : List ℕ) (ls ms : List (ℕ × Lexeme)) → open_offsets ps (ls ++ ms) ≡ open_offsets (open_offsets ps ls) ms
offsets-append ps [] ms = refl
offsets-append ps ((offset, unit t) ∷ ls) ms = offsets-append ps ls ms
offsets-append ps ((offset, sign b) ∷ ls) ms = offsets-append ps ls ms
offsets-append ps ((offset, opening) ∷ ls) ms = offsets-append (offset ∷ ps) ls ms
offsets-append ps ((offset, closing) ∷ ls) ms = offsets-append (but_first ps) ls ms
offsets-append ps ((offset, bar) ∷ ls) ms = offsets-append ps ls ms
offsets-append ps ((offset, anchor) ∷ ls) ms = offsets-append ps ls ms

whole-offsets : {ls : List (ℕ × Lexeme)} → AreWhole ls → (ps : List ℕ) → open_offsets ps ls ≡ ps
whole-offsets faults.no_lexeme ps = refl
whole-offsets (faults.a_unit w) ps = whole-offsets w ps
whole-offsets (faults.a_sign w) ps = whole-offsets w ps
whole-offsets (faults.a_bar w) ps = whole-offsets w ps
whole-offsets (faults.a_group {inner = inner} {ls = ls} {offset = offset} end a w) ps =
    offsets-append (offset ∷ ps) inner ((end, closing) ∷ ls)
    ∙ ap (λ qs. open_offsets qs ((end, closing) ∷ ls)) (whole-offsets a (offset ∷ ps))
    ∙ whole-offsets w ps

-- the innermost group, after which all are whole
inner-offsets : (before after : List (ℕ × Lexeme)) (offset : ℕ) → AreWhole after
    → open_offsets [] (before ++ (offset, opening) ∷ after) ≡ offset ∷ open_offsets [] before
inner-offsets before after offset w = offsets-append [] before ((offset, opening) ∷ after) ∙ whole-offsets w (offset ∷ open_offsets [] before)

open-offsets : {ls : List (ℕ × Lexeme)} {depth : ℕ} → AreOpen ls depth → length (open_offsets [] ls) ≡ depth
open-offsets (faults.none w) = ap length (whole-offsets w [])
open-offsets (faults.stray {before = before} {after = after} offset o w) =
    let outside : open_offsets [] before ≡ [] = nil_from_length (open_offsets [] before) (open-offsets o) in
    ap length (offsets-append [] before ((offset, closing) ∷ after)
    ∙ ap (λ qs. open_offsets (but_first qs) after) outside ∙ whole-offsets w [])
open-offsets (faults.one_more {before = before} {after = after} offset o w) =
    ap length (inner-offsets before after offset w) ∙ ap (λ n. suc n) (open-offsets o)

abbrev offsets : GroupLevel → List GroupLevel → List ℕ
offsets level [] = []
offsets level (o ∷ outer) = level.offset ∷ offsets o outer

offsets-length : (level : GroupLevel) (outer : List GroupLevel) → length (offsets level outer) ≡ length outer
offsets-length level [] = refl
offsets-length level (o ∷ outer) = ap (λ n. suc n) (offsets-length o outer)

offsets-same : (l m : GroupLevel) (outer : List GroupLevel) → l.offset ≡ m.offset → offsets l outer ≡ offsets m outer
offsets-same l m [] same = refl
offsets-same l m (o ∷ outer) same = ap (λ p. p ∷ offsets o outer) same

-- ---- reading lexemes that are allowed

record Reached (ls : List (ℕ × Lexeme)) (s : State) : Type 0 where
  last : last_kind nothing ls ≡ unit_kind s.level.last
  groups : open_offsets [] ls ≡ offsets s.level s.outer
  runs : (more : List (ℕ × Lexeme)) (fault : Option EreFault) → read_on start (ls ++ more) fault ≡ read_on s more fault

reached_depth : (ls : List (ℕ × Lexeme)) (s : State) (depth : ℕ) → Reached ls s → AreOpen ls depth → length s.outer ≡ depth
reached_depth ls s depth r o = sym (offsets-length s.level s.outer) ∙ ap length (sym r.groups) ∙ open-offsets o

module _ (before : List (ℕ × Lexeme)) (offset : ℕ) where
  abbrev Next : Lexeme → Type 0
  Next l = (t : State) × Reached (before ++ (offset, l) ∷ []) t

  next : (l : Lexeme) (s t : State) → Reached before s → kind_of l ≡ unit_kind t.level.last
      → open_offsets (offsets s.level s.outer) ((offset, l) ∷ []) ≡ offsets t.level t.outer
      → ((more : List (ℕ × Lexeme)) (fault : Option EreFault) → read_on s ((offset, l) ∷ more) fault ≡ read_on t more fault) → Next l
  next l s t r kind groups runs = (
    t,
    record {
      last = last_kind-snoc nothing before (offset, l) ∙ kind;
      groups = offsets-append [] before ((offset, l) ∷ []) ∙ ap (λ ps. open_offsets ps ((offset, l) ∷ [])) r.groups ∙ groups;
      runs = λ more fault. ap (λ ls. read_on start ls fault) (append_assoc before ((offset, l) ∷ []) more) ∙ r.runs ((offset, l) ∷ more) fault ∙ runs more fault;
    },
  )

  after_unit : (t : Tree) (s : State) → Reached before s → Next (unit t)
  unfolding read_on meet
  after_unit t s r =
      next (unit t) s (record s { level = with_unit t s.level }) r refl (offsets-same s.level (with_unit t s.level) s.outer refl) (λ more fault. refl)

  after_bar : (s : State) → Reached before s → Next bar
  unfolding read_on meet
  after_bar s r =
      next bar s (record s { level = with_alternative s.level }) r refl (offsets-same s.level (with_alternative s.level) s.outer refl) (λ more fault. refl)

  after_end : (level : GroupLevel) (outer : List GroupLevel) → Reached before (record { level = level; outer = outer }) → Next closing
  unfolding read_on meet
  after_end level [] r =
      next closing (record { level = level; outer = [] }) (record { level = with_unit (letters_tree close_paren) level; outer = [] }) r refl refl (λ more fault. refl)
  after_end level (o ∷ outer) r =
      next closing (record { level = level; outer = o ∷ outer }) (record { level = with_unit (level_tree level) o; outer = outer }) r refl
      (offsets-same o (with_unit (level_tree level) o) outer refl) (λ more fault. refl)

  after_sign : (b : Bounds) (from : ℕ) (alternatives units : List Tree) (last : LastUnit) (outer : List GroupLevel)
      → Reached before (record { level = record { offset = from; alternatives = alternatives; before = units; last = last }; outer = outer })
      → one_unit ≡ unit_kind last → Next (sign (Some b))
  unfolding read_on meet
  after_sign b from alternatives units reading.no_unit outer r is = absurd cc
  after_sign b from alternatives units (reading.repeated t) outer r is = absurd cc
  after_sign b from alternatives units (reading.single t) outer r is =
      let old : GroupLevel = record { offset = from; alternatives = alternatives; before = units; last = reading.single t } in
      let now : GroupLevel = record { offset = from; alternatives = alternatives; before = units; last = reading.repeated (repeat t b.min b.max) } in
      next (sign (Some b)) (record { level = old; outer = outer }) (record { level = now; outer = outer }) r refl (offsets-same old now outer refl) (λ more fault. refl)

  after_opening : (s : State) → Reached before s → length s.outer < max_depth → Next opening
  unfolding read_on meet
  after_opening s r small =
      let e : ltb (length s.outer) 64 ≡ true = grind (arith, nat_tests) in
      next opening s (record { level = new_level offset; outer = s.level ∷ s.outer }) r refl refl (λ more fault. rw e refl)

  after_one : {l : Lexeme} (s : State) → Reached before s → MayFollow before l → Next l
  after_one s r (faults.a_unit {t = t}) = after_unit t s r
  after_one s r faults.a_bar = after_bar s r
  after_one s r faults.an_end = after_end s.level s.outer r
  after_one s r (faults.a_sign {b = b} is) =
      after_sign b s.level.offset s.level.alternatives s.level.before s.level.last s.outer r (sym (end_in_unit is) ∙ r.last)
  after_one s r (faults.a_group {depth = depth} is small) =
      let same : length s.outer ≡ depth = reached_depth before s depth r is in
      let few : length s.outer < max_depth = omega (arith, same, small) in
      after_opening s r few

reach : {ls : List (ℕ × Lexeme)} → AllMayFollow ls → (s : State) × Reached ls s
reach faults.no_lexeme = (start, record { last = refl; groups = refl; runs = λ more fault. refl })
reach (faults.one_more {before = before} offset follow may) =
    let r = reach follow in
    after_one before offset r.0 r.1 may

after_meet : (r : Result State EreFault) (ls ms : List (ℕ × Lexeme)) (fault : Option EreFault)
    → ((s : State) → read_on s ls fault ≡ read_on s ms fault)
    → (r >>= λ s. read_on s ls fault) ≡ (r >>= λ s. read_on s ms fault)
after_meet (Ok s) ls ms fault same = same s
after_meet (Err e) ls ms fault same = refl

anchors_run : (ls more : List (ℕ × Lexeme)) (fault : Option EreFault) (s : State)
    → read_on s (without_anchors ls ++ more) fault ≡ read_on s (ls ++ more) fault
unfolding read_on meet
anchors_run [] more fault s = refl
anchors_run ((p, unit t) ∷ ls) more fault s = anchors_run ls more fault _
anchors_run ((p, sign b) ∷ ls) more fault s =
    after_meet (meet p (sign b) s) (without_anchors ls ++ more) (ls ++ more) fault (anchors_run ls more fault)
anchors_run ((p, opening) ∷ ls) more fault s =
    after_meet (meet p opening s) (without_anchors ls ++ more) (ls ++ more) fault (anchors_run ls more fault)
anchors_run ((p, closing) ∷ ls) more fault s = anchors_run ls more fault _
anchors_run ((p, bar) ∷ ls) more fault s = anchors_run ls more fault _
anchors_run ((p, anchor) ∷ ls) more fault s = anchors_run ls more fault s

runs_to : (ls : List (ℕ × Lexeme)) (s : State) → Reached (without_anchors ls) s → (more : List (ℕ × Lexeme)) (fault : Option EreFault)
    → read_on start (ls ++ more) fault ≡ read_on s more fault
runs_to ls s r more fault = sym (anchors_run ls more fault start) ∙ r.runs more fault

-- ---- reading a lexemes that are not allowed

module _ (offset : ℕ) (more : List (ℕ × Lexeme)) (fault : Option EreFault) where
  abbrev Refused : Lexeme → EreCause → State → Type 0
  Refused l cause s = read_on s ((offset, l) ∷ more) fault ≡ Err (fault_at offset cause)

  nothing_refused : (b : Option Bounds) (from : ℕ) (alternatives units : List Tree) (last : LastUnit) (outer : List GroupLevel)
      → nothing ≡ unit_kind last
      → Refused (sign b) NothingToRepeat (record { level = record { offset = from; alternatives = alternatives; before = units; last = last }; outer = outer })
  unfolding read_on meet
  nothing_refused b from alternatives units reading.no_unit outer is = refl
  nothing_refused b from alternatives units (reading.single t) outer is = absurd cc
  nothing_refused b from alternatives units (reading.repeated t) outer is = absurd cc

  sign_refused : (b : Option Bounds) (from : ℕ) (alternatives units : List Tree) (last : LastUnit) (outer : List GroupLevel)
      → one_sign ≡ unit_kind last
      → Refused (sign b) TwoSigns (record { level = record { offset = from; alternatives = alternatives; before = units; last = last }; outer = outer })
  unfolding read_on meet
  sign_refused b from alternatives units reading.no_unit outer is = absurd cc
  sign_refused b from alternatives units (reading.single t) outer is = absurd cc
  sign_refused b from alternatives units (reading.repeated t) outer is = refl

  bound_refused : (from : ℕ) (alternatives units : List Tree) (last : LastUnit) (outer : List GroupLevel)
      → one_unit ≡ unit_kind last
      → Refused (sign None) BadBound (record { level = record { offset = from; alternatives = alternatives; before = units; last = last }; outer = outer })
  unfolding read_on meet
  bound_refused from alternatives units reading.no_unit outer is = absurd cc
  bound_refused from alternatives units (reading.single t) outer is = refl
  bound_refused from alternatives units (reading.repeated t) outer is = absurd cc

  depth_refused : (s : State) → max_depth ≤ length s.outer → Refused opening TooDeep s
  unfolding read_on meet
  depth_refused s deep = let e : ltb (length s.outer) 64 ≡ false = grind (arith, nat_tests) in rw e refl

  is_refused : (ls : List (ℕ × Lexeme)) {l : Lexeme} {cause : EreCause} (s : State) → Reached ls s → MayNotFollow ls l cause → Refused l cause s
  is_refused ls s r (faults.nothing_to_repeat {b = b} is) =
      nothing_refused b s.level.offset s.level.alternatives s.level.before s.level.last s.outer (sym (end_in_nothing is) ∙ r.last)
  is_refused ls s r (faults.two_signs {b = b} is) =
      sign_refused b s.level.offset s.level.alternatives s.level.before s.level.last s.outer (sym (end_in_sign is) ∙ r.last)
  is_refused ls s r (faults.bad_bound is) =
      bound_refused s.level.offset s.level.alternatives s.level.before s.level.last s.outer (sym (end_in_unit is) ∙ r.last)
  is_refused ls s r (faults.too_deep {depth = depth} is deep) =
      let same : length s.outer ≡ depth = reached_depth ls s depth r is in
      let many : max_depth ≤ length s.outer = omega (arith, same, deep) in
      depth_refused s many

finish_open : (level : GroupLevel) (outer : List GroupLevel) (offset : ℕ) (ps : List ℕ) → offsets level outer ≡ offset ∷ ps
    → finish level outer ≡ Err (fault_at offset GroupNotClosed)
finish_open level [] offset ps e = absurd cc
finish_open level (o ∷ outer) offset ps e = ap (λ (qs : List ℕ). elim qs [ [] ↦ Err (fault_at offset GroupNotClosed) | q ∷ more ↦ Err (fault_at q GroupNotClosed) ]) e

-- the fault that decides is the one that reading meets
pub IsFaultOf-reading : (pattern : List ℕ) (e : EreFault) → IsFaultOf pattern e → reading pattern ≡ Err e
unfolding read_on lexemes
IsFaultOf-reading pattern e (faults.no_lexeme {ls = ls} are follow none) =
    let r = reach follow in
    ap (λ (ks : Lexemes). read_on start ks.found ks.fault) (begin_read are ∙ ap (before_these ls) (none_read none))
    ∙ runs_to ls r.0 r.1 [] (Some e)
IsFaultOf-reading pattern e (faults.misplaced {ls = ls} {x = x} {more = more} {l = l} are follow is not) =
    let r = reach follow in
    ap (λ (ks : Lexemes). read_on start ks.found ks.fault) (begin_read are ∙ ap (before_these ls) (one_read is))
    ∙ runs_to ls r.0 r.1 ((x.0, l) ∷ (lexemes 0 more).found) (lexemes 0 more).fault
    ∙ is_refused x.0 (lexemes 0 more).found (lexemes 0 more).fault (without_anchors ls) r.0 r.1 not
IsFaultOf-reading pattern e (faults.group_open {ls = ls} {after = after} {offset = offset} before are follow is whole) =
    let r = reach follow in
    let groups : offsets r.0.level r.0.outer ≡ offset ∷ open_offsets [] before =
    sym r.1.groups ∙ ap (open_offsets []) is ∙ inner-offsets before after offset whole in
    ap (λ (ks : Lexemes). read_on start ks.found ks.fault) (begin_read are)
    ∙ runs_to ls r.0 r.1 [] None ∙ finish_open r.0.level r.0.outer offset (open_offsets [] before) groups
