use Rattle.std.proofs.Common.{◌≡◌, ◌<◌, ◌⊎◌, inl, inr, false, ap, sym, ◌∙◌, arith, drop, get_or, length}
use Rattle.lic_kind.specs.Kinds.{kind_of, is_word_kind, is_mark_kind}
use Rattle.lic_kind.specs.declared.Kind.{Kind}
use Rattle.lic_kind.specs.declared.Kind.TheVariants.{Blank, Dropped}
use Rattle.lic_kind.specs.LineRules.{rules_of}
use Rattle.lic_pieces.proofs.LineBegins.{begin-taken, begin-tail, begin-word, begin-blank, first-parts}
use Rattle.lic_pieces.proofs.piece_reader.line_begins_in_blank.Goals as goal

no_word : (kind found : Kind) → kind ≡ found → (found ≡ Blank) ⊎ (found ≡ Dropped) → is_word_kind kind ≡ false
no_word kind found same (inl is) = ap is_word_kind (same ∙ is)
no_word kind found same (inr is) = ap is_word_kind (same ∙ is)

no_mark : (kind found : Kind) → kind ≡ found → (found ≡ Blank) ⊎ (found ≡ Dropped) → is_mark_kind kind ≡ false
no_mark kind found same (inl is) = ap is_mark_kind (same ∙ is)
no_mark kind found same (inr is) = ap is_mark_kind (same ∙ is)

pub returns-then-cut-gt0 : goal.returns-then-cut-gt0
returns-then-cut-gt0 c = begin-taken (rules_of c.args.rules.now) c.args.line.now c.in_ok-cut.cut c.in_ok-cut.ensures.cut c.if-cut-gt0.true

pub returns-then-cut-line : goal.returns-then-cut-line
returns-then-cut-line c =
    begin-tail (rules_of c.args.rules.now) c.args.line.now c.in_ok-cut.cut c.in_ok-cut.ensures.cut c.if-cut-gt0.false c.if-cut-line.true c.requires.some

pub returns-in-Word : goal.returns-in-Word
returns-in-Word c =
    let line = c.args.line.now in
    let within : c.in_ok-cut.cut.tail < length line = omega (arith, c.in_ok-cut.ensures.within, c.if-cut-line.false) in
    begin-word (rules_of c.args.rules.now) line c.in_ok-cut.cut c.in_ok-cut.ensures.cut c.if-cut-gt0.false within (get_or line 0 0) (drop 1 line)
    (first-parts line c.requires.some) (ap is_word_kind (sym c.kind_of.ensures ∙ c.in-Word.is))

pub returns-in-Blank : goal.returns-in-Blank
returns-in-Blank c =
    let line = c.args.line.now in
    let within : c.in_ok-cut.cut.tail < length line = omega (arith, c.in_ok-cut.ensures.within, c.if-cut-line.false) in
    begin-blank (rules_of c.args.rules.now) line c.in_ok-cut.cut c.in_ok-cut.ensures.cut c.if-cut-gt0.false within (get_or line 0 0) (drop 1 line)
    (first-parts line c.requires.some) (no_word (kind_of (get_or line 0 0)) _ (sym c.kind_of.ensures) c.in-Blank.is)
    (no_mark (kind_of (get_or line 0 0)) _ (sym c.kind_of.ensures) c.in-Blank.is)
