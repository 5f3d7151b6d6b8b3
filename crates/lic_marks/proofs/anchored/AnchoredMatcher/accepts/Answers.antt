use Rattle.std.proofs.Common.{◌≡◌, not, Bool, true, false, [], ◌∷◌, inl, refl}
use Rattle.lic_words.specs.Words.{blanks}
use Rattle.lic_words.specs.Spelling.{gapped}
use Rattle.lic_marks.specs.Cores.{WordsOf}
use Rattle.lic_marks.specs.Nodes.{core_of}
use Rattle.lic_marks.proofs.Cuts.{and_left, and_right, and_both}
use Rattle.lic_marks.proofs.Representing.{After-spells, spells-After}
use Rattle.lic_marks.proofs.StateLemmas.{one_list}
use Rattle.lic_marks.proofs.anchored.AnchoredMatcher.accepts.Goals as goal

not_true : (b : Bool) → not b ≡ true → b ≡ true → ⊥
not_true true h e = cc
not_true false h e = cc

true_not : (b : Bool) → (b ≡ true → ⊥) → not b ≡ true
true_not true h = absurd (h refl)
true_not false h = refl

pub returns : goal.returns
returns c = λ e ts s.
    let r = core_of c.args.self.now.tree in
    let is_empty = c.args.self.now.is_empty in
    let is_spelled = c.accepts-is_spelled.result in
    let spelled = c.accepts-is_spelled.ensures (gapped ts ∷ []) s.taken in (
      λ h.
          let some = spelled.0 (and_right (not is_empty) is_spelled h) in
          let word = spells-After (gapped ts) (WordsOf r) some.0 (one_list (WordsOf r) (gapped ts) (blanks some.0) some.1) in (
            λ none. not_true is_empty (and_left (not is_empty) is_spelled h) (s.empty.1 none),
            word.0,
            (s.words word.0).0 word.1,
            word.2,
          ),
      λ h.
          let some = After-spells (gapped ts) (WordsOf r) h.1 ((s.words h.1).1 h.2) h.3 in
          and_both (not is_empty) is_spelled (true_not is_empty (λ none. h.0 (s.empty.0 none))) (spelled.1 (some.0, inl some.1)),
    )
