use Rattle.std.proofs.Common.{◌≡◌, ◌⊎◌, ◌<◌, false, inl, inr, sym, ◌∙◌, arith, eqb-true, vec_len}
use Rattle.lic_words.specs.Words.{blank}
use Rattle.lic_ere.specs.Trees.{tree_of}
use Rattle.lic_reverse.specs.Passing.{passes_of}
use Rattle.lic_view.specs.PlaceSets.{Reaches}
use Rattle.lic_reverse.specs.Tidily.{UpTo, a_letter, spans_of}
use Rattle.lic_spans.proofs.Lasts.{empty_list}
use Rattle.lic_reverse.proofs.EreLemmas.{ok-changed, placed-joined}
use Rattle.lic_reverse.proofs.TidyBack.{tidy-least}
use Rattle.lic_reverse.proofs.TidyPassing.{IsOne}
use Rattle.lic_reverse.proofs.TidyStreaks.{many-blanks, many-letters, many-nowhere}
use Rattle.lic_reverse.proofs.letters.streaks.over_many.Goals as goal
use Rattle.lic_reverse.proofs.letters.streaks.over_many.Goals.{then-count-eq0-via-then-count-eq0, then-count-eq0-via-else-count-eq0+then-not-passes}

pub over_one_blank-requires : goal.over_one_blank-requires
over_one_blank-requires c = c.in_ok-begun.ensures.placed

pub kept-requires : goal.kept-requires
kept-requires c = c.in_ok-found.ensures.placed

pub kept-requires-2 : goal.kept-requires-2
kept-requires-2 c =
    placed-joined c.args.view.now (spans_of c.in_ok-found.found) (spans_of c.in_ok-over_one_blank.field-0) (spans_of c.append.new.self)
    c.in_ok-append.ensures c.in_ok-found.ensures.placed c.in_ok-over_one_blank.ensures.placed

pub returns-then-is_empty : goal.returns-then-is_empty
returns-then-is_empty c =
    let tokens = c.args.view.now in
    let passes = passes_of (tree_of c.args.ere.now) in
    ok-changed _ _ c.kept.result
    (λ found least. tidy-least c.args.keep tokens (UpTo (IsOne passes) c.args.count) (λ s q l. Reaches tokens (spans_of c.args.ways.now s) q l)
    (spans_of c.in_ok-found.found) (spans_of found)
    (many-nowhere c.args.keep tokens passes c.args.count (spans_of c.args.ways.now) (spans_of c.in_ok-found.found) c.in_ok-found.ensures
    (empty_list (spans_of c.in_ok-found.found a_letter)
    (omega (arith, c.in_ok-found.found.letter.ok.0, eqb-true (vec_len c.in_ok-found.found.letter) 0 (sym c.is_empty.ensures ∙ c.if-is_empty.true))))) least)
    c.kept.ensures

pub returns-then-count-eq0 : goal.returns-then-count-eq0
returns-then-count-eq0 c =
    let tokens = c.args.view.now in
    let passes = passes_of (tree_of c.args.ere.now) in
    let none : (passes blank ≡ false) ⊎ (c.args.count ≡ 0) =
    elim c.then-count-eq0.branch [
      | then-count-eq0-via-then-count-eq0 w ↦ inr w.if-count-eq0.true
      | then-count-eq0-via-else-count-eq0+then-not-passes w ↦ inl (sym w.passes.ensures ∙ w.if-not-passes.true)
    ] in
    ok-changed _ _ c.kept-then-count-eq0.result
    (λ found least. tidy-least c.args.keep tokens (UpTo (IsOne passes) c.args.count) (λ s q l. Reaches tokens (spans_of c.args.ways.now s) q l)
    (spans_of c.in_ok-found.found) (spans_of found)
    (many-letters c.args.keep tokens passes c.args.count (spans_of c.args.ways.now) (spans_of c.in_ok-found.found) c.in_ok-found.ensures none) least)
    c.kept-then-count-eq0.ensures

pub returns : goal.returns
returns c =
    let tokens = c.args.view.now in
    let passes = passes_of (tree_of c.args.ere.now) in
    let some : 0 < c.args.count = omega (arith, c.if-count-eq0.false) in
    ok-changed _ _ c.kept-2.result
    (λ found least. tidy-least c.args.keep tokens (UpTo (IsOne passes) c.args.count) (λ s q l. Reaches tokens (spans_of c.args.ways.now s) q l)
    (spans_of c.append.new.self) (spans_of found)
    (many-blanks c.args.keep tokens passes c.args.count (spans_of c.args.ways.now) (spans_of c.in_ok-found.found) c.in_ok-found.ensures
    (spans_of c.in_ok-begun.begun) (spans_of c.in_ok-over_one_blank.field-0) (spans_of c.append.new.self)
    some (sym c.passes.ensures ∙ c.if-not-passes.false) c.in_ok-begun.ensures c.in_ok-over_one_blank.ensures c.in_ok-append.ensures) least)
    c.kept-2.ensures
