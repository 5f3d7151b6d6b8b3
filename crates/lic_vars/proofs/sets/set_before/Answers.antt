-- One instruction more.
use Rattle.std.proofs.Common.{◌≡◌, ◌-◌, List, length, chars, Vec, Global, sym, ◌∙◌, subst, arith}
use Rattle.lic_words.specs.Expressions.{Language, letters}
use Rattle.lic_words.proofs.Languages.{letters_complete, letters_sound}
use Rattle.lic_ere.specs.Trees.{tree_of}
use Rattle.lic_ere.specs.Meaning.{tree_words}
use Rattle.lic_spans.specs.declared.span.PlaceSpan.{PlaceSpan}
use Rattle.lic_vars.specs.Moves.{Move}
use Rattle.lic_vars.specs.Cuts.{AreFinishing, last_moves}
use Rattle.lic_vars.specs.Sets.{IsSet, IsThere}
use Rattle.lic_vars.proofs.KeptLemmas.{IsOther-here, finish-there, placed-there}
use Rattle.lic_vars.proofs.PatternLemmas.{piece-at}
use Rattle.lic_vars.proofs.SetLemmas.{finish-optional, finish-text, finish-variable, last-fewer, moves-of_step, ok-then}
use Rattle.lic_vars.proofs.sets.set_before.Goals as goal

pub set_of-others-requires : goal.set_of-others-requires
set_of-others-requires c =
    let n = c.args.number in
    let same : n - 1 - c.in-Optional.size ≡ c.saturating_sub.result = omega (arith, c.saturating_sub.ensures) in
    let there = c.requires.others (n - 1 - c.in-Optional.size)
    (IsOther-here c.args.instructions.now n c.in-Optional.size c.index-instructions-instructions.result c.requires.some c.requires.within c.index-instructions-instructions.is c.in-Optional.is) in
    subst (IsThere c.args.sets.now) same there

pub returns-in_ok-from_slice-in-Text : goal.returns-in_ok-from_slice-in-Text
returns-in_ok-from_slice-in-Text c =
    let tokens = c.args.view.now in
    let instructions = c.args.instructions.now in
    let n = c.args.number in
    let rest = c.in_ok-from_slice-in-Text.field-0.items in
    let finish = finish-there tokens instructions c.args.sets.now (n - 1) rest c.requires.sets c.requires.rest
    (λ v is. c.in_ok-from_slice-in-Text.ensures.items ∙ c.set_of-rest.ensures v is) in
    let moves = moves-of_step instructions n c.index-instructions-instructions.result _ c.requires.some c.requires.within c.index-instructions-instructions.is c.in-Text.is in
    let u = chars c.in-Text.text.now in
    ok-then c.over_text.result _ _ c.over_text.ensures
    (λ (found : Vec PlaceSpan Global) back. subst (λ (ms : List Move). AreFinishing tokens ms found.items) moves
    (finish-text tokens c.tokens_have_texts.ensures (last_moves instructions (n - 1)) rest finish u (Language (letters u)) found.items
    (λ w. (letters_sound u w, λ e. subst (Language (letters u)) (sym e) (letters_complete u))) back))

pub returns-in_ok-ends-in-Variable : goal.returns-in_ok-ends-in-Variable
returns-in_ok-ends-in-Variable c =
    let tokens = c.args.view.now in
    let instructions = c.args.instructions.now in
    let n = c.args.number in
    let rest = c.in_ok-ends-in-Variable.ends.items in
    let finish = finish-there tokens instructions c.args.sets.now (n - 1) rest c.requires.sets c.requires.rest
    (λ v is. c.in_ok-ends-in-Variable.ensures.items ∙ c.set_of-rest.ensures v is) in
    let moves = moves-of_step instructions n c.index-instructions-instructions.result _ c.requires.some c.requires.within c.index-instructions-instructions.is c.in-Variable.is in
    ok-then c.over_pattern.result _ _ c.over_pattern.ensures
    (λ (found : Vec PlaceSpan Global) back. subst (λ (ms : List Move). AreFinishing tokens ms found.items) moves
    (finish-variable tokens c.tokens_have_texts.ensures (last_moves instructions (n - 1)) rest finish c.in-Variable.name.now (tree_words (tree_of c.in-Variable.ere.now)) found.items back))

pub returns-in-Optional : goal.returns-in-Optional
returns-in-Optional c =
    let tokens = c.args.view.now in
    let instructions = c.args.instructions.now in
    let n = c.args.number in
    let size = c.in-Optional.size in
    let rest = c.set_of-rest.result.now in
    let others = c.set_of-others.result.now in
    let same : n - 1 - size ≡ c.saturating_sub.result = omega (arith, c.saturating_sub.ensures) in
    let there = c.requires.others (n - 1 - size) (IsOther-here instructions n size c.index-instructions-instructions.result c.requires.some c.requires.within c.index-instructions-instructions.is c.in-Optional.is) in
    let finish = finish-there tokens instructions c.args.sets.now (n - 1) rest c.requires.sets c.requires.rest c.set_of-rest.ensures in
    let other = finish-there tokens instructions c.args.sets.now (n - 1 - size) others c.requires.sets there
    (λ v is. c.set_of-others.ensures v (subst (λ k. IsSet c.args.sets.now k v) same is)) in
    let skipped = subst (λ (ms : List Move). AreFinishing tokens ms others) (sym (last-fewer instructions (n - 1) size (omega (arith, c.requires.within)))) other in
    let moves = moves-of_step instructions n c.index-instructions-instructions.result _ c.requires.some c.requires.within c.index-instructions-instructions.is c.in-Optional.is in
    ok-then c.either.result _ _ c.either.ensures
    (λ (found : Vec PlaceSpan Global) back. subst (λ (ms : List Move). AreFinishing tokens ms found.items) moves
    (finish-optional tokens c.tokens_have_texts.ensures (last_moves instructions (n - 1)) rest finish size others found.items skipped back))

pub over_text-requires-clause-placed : goal.over_text-requires-clause-placed
over_text-requires-clause-placed c =
    placed-there c.args.view.now c.args.instructions.now c.args.sets.now (c.args.number - 1) _ c.requires.sets c.requires.rest
    (λ v is. c.in_ok-from_slice-in-Text.ensures.items ∙ c.set_of-rest.ensures v is)

pub over_pattern-requires-clause-alone : goal.over_pattern-requires-clause-alone
over_pattern-requires-clause-alone c =
    let n = c.args.number in
    piece-at c.args.instructions.now (length c.args.instructions.now - n) c.index-instructions-instructions.result _ c.requires.pieces (omega (arith, c.requires.some, c.requires.within)) c.index-instructions-instructions.is c.in-Variable.is

pub over_pattern-requires-clause-placed : goal.over_pattern-requires-clause-placed
over_pattern-requires-clause-placed c =
    placed-there c.args.view.now c.args.instructions.now c.args.sets.now (c.args.number - 1) _ c.requires.sets c.requires.rest
    (λ v is. c.in_ok-ends-in-Variable.ensures.items ∙ c.set_of-rest.ensures v is)

pub either-requires-clause-spans : goal.either-requires-clause-spans
either-requires-clause-spans c =
    placed-there c.args.view.now c.args.instructions.now c.args.sets.now (c.args.number - 1) _ c.requires.sets c.requires.rest c.set_of-rest.ensures

pub either-requires-clause-others : goal.either-requires-clause-others
either-requires-clause-others c =
    let n = c.args.number in
    let size = c.in-Optional.size in
    let same : n - 1 - size ≡ c.saturating_sub.result = omega (arith, c.saturating_sub.ensures) in
    let there = c.requires.others (n - 1 - size)
    (IsOther-here c.args.instructions.now n size c.index-instructions-instructions.result c.requires.some c.requires.within c.index-instructions-instructions.is c.in-Optional.is) in
    placed-there c.args.view.now c.args.instructions.now c.args.sets.now c.saturating_sub.result _ c.requires.sets (subst (IsThere c.args.sets.now) same there) c.set_of-others.ensures
