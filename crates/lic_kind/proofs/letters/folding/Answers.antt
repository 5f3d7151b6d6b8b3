-- The letters come from the iterator of the folded character; the list holds four, and it gives three at most.
use Rattle.std.proofs.Common.{◌≡◌, ◌++◌, ◌∷◌, [], ◌<◌, length, Ok, Some, ap, sym, subst, ◌∙◌, arith}
use Rattle.std.proofs.lemmas.Iterator.Adapters.{items_from_extend, YieldsList-from_once}
use Rattle.std.specs.Iterator.{AlwaysYields}
use Rattle.std.specs.Iterator.Adapters.{once_steps}
use Rattle.std.specs.declared.alloc.AllocError.{AllocError}
use Rattle.caseless.specs.CaseFold.{CaseFoldSteps}
use Rattle.caseless.specs.Caseless.{default_case_fold}
use Rattle.caseless.proofs.CaselessLemmas.{Spells-CaseFold}
use Rattle.lic_kind.proofs.FoldingLemmas.{length-folding, more_to_come}
use Rattle.lic_kind.proofs.letters.folding.Goals as goal

pub returns-clause-letters : goal.returns-clause-letters
returns-clause-letters c =
    let source = YieldsList-from_once (Some c.args.c) c.once.ensures.item in
    let folded = Spells-CaseFold (c.default_case_fold.ensures.text (c.args.c ∷ []) source.runs) in
    items_from_extend {E = AllocError} {steps = CaseFoldSteps once_steps} (Ok c.in_ok-extend.field-0) c.in_ok-extend.ensures.ran (record { runs = folded })
    ∙ ap (λ front. front ++ default_case_fold (c.args.c ∷ [])) c.new-letters.ensures.items

pub returns-in_err-extend-clause-succeeds : goal.returns-in_err-extend-clause-succeeds
returns-in_err-extend-clause-succeeds c =
    let source = YieldsList-from_once (Some c.args.c) c.once.ensures.item in
    let folded = Spells-CaseFold (c.default_case_fold.ensures.text (c.args.c ∷ []) source.runs) in
    let full = c.in_err-extend.ensures.full in
    let left = subst (λ it. AlwaysYields (CaseFoldSteps once_steps) (λ y. y) it (default_case_fold (c.args.c ∷ []))) (sym full.4) folded in
    let more : length full.1 < length (default_case_fold (c.args.c ∷ [])) =
    more_to_come (CaseFoldSteps once_steps) full.0 full.1 full.5.0 full.2 full.3 (default_case_fold (c.args.c ∷ [])) left full.5.1 full.5.2 in
    let given : length c.extend.new.self.items ≡ length full.1 =
    ap length (full.6 ∙ ap (λ front. front ++ full.1) c.new-letters.ensures.items) in
    absurd (omega (arith, more, given, full.7, length-folding c.args.c, c.in_err-extend.ensures.capacity, c.new-letters.ensures.capacity))
