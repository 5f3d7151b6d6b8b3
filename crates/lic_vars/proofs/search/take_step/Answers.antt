-- One instruction more.
use Rattle.std.proofs.Common.{◌≡◌, ℕ, ◌-◌, ◌<◌, ◌≤◌, List, ◌∷◌, ◌++◌, Option, length, map, drop, take, chars, get_or, sym, ap, ◌∙◌, subst, arith}
use Rattle.std.proofs.lemmas.Bool.{true≢false}
use Rattle.lic_ere.specs.Trees.{tree_of}
use Rattle.lic_ere.specs.Meaning.{tree_words}
use Rattle.lic_norm.specs.Tokens.{TokenValue}
use Rattle.lic_tokens.specs.declared.token.Span.{Span}
use Rattle.lic_vars.specs.Making.{CanMake}
use Rattle.lic_vars.specs.Moves.{Move}
use Rattle.lic_vars.specs.Cuts.{ReadsOn, last_moves, move_of}
use Rattle.lic_vars.specs.Recorded.{IsWalk, recorded}
use Rattle.lic_vars.specs.Sets.{IsSet}
use Rattle.lic_vars.specs.Values.{Assigned, covered}
use Rattle.lic_vars.specs.Views.{value_of}
use Rattle.lic_vars.specs.declared.cut.Cut.{Cut}
use Rattle.lic_vars.specs.declared.instructions.Instruction.{Instruction}
use Rattle.lic_vars.proofs.AssignLemmas.{value-pushed}
use Rattle.lic_vars.proofs.KeptLemmas.{finish-there}
use Rattle.lic_vars.proofs.PatternLemmas.{piece-at}
use Rattle.lic_vars.proofs.SetLemmas.{last-fewer, moves-of_step}
use Rattle.lic_vars.proofs.StepLemmas.{finish-cut, open-can, shortest-can, text-read, variable-leads, walk-absent, walk-present, walk-text, walk-variable, within-can}
use Rattle.lic_vars.proofs.search.take_step.Goals as goal

-- what can finish, before an instruction of a kind
can_at : (tokens : List TokenValue) (instructions : List Instruction) (n : ℕ) (instruction one : Instruction) (cut : Cut) → 0 < n → n ≤ length instructions
    → instruction ≡ get_or instructions (length instructions - n) instruction → instruction ≡ one → CanMake (last_moves instructions n) (ReadsOn tokens cut)
    → CanMake (move_of one ∷ last_moves instructions (n - 1)) (ReadsOn tokens cut)
can_at tokens instructions n instruction one cut some within is same can =
    subst (λ (ms : List Move). CanMake ms (ReadsOn tokens cut)) (sym (moves-of_step instructions n instruction one some within is same)) can

-- the walk, before an instruction of a kind
walk_at : (tokens : List TokenValue) (instructions : List Instruction) (n : ℕ) (instruction one : Instruction) (all : List Move) (letters : List Span) (values : List Assigned) (cut : Cut) (after : List Span)
    → 0 < n → n ≤ length instructions → instruction ≡ get_or instructions (length instructions - n) instruction → instruction ≡ one → IsWalk tokens all (last_moves instructions n) letters values cut after
    → IsWalk tokens all (move_of one ∷ last_moves instructions (n - 1)) letters values cut after
walk_at tokens instructions n instruction one all letters values cut after some within is same walk =
    subst (λ (ms : List Move). IsWalk tokens all ms letters values cut after) (sym (moves-of_step instructions n instruction one some within is same)) walk

pub after_text-walk-requires : goal.after_text-walk-requires
after_text-walk-requires c =
    let left = c.args.walk.now.left in
    let can = can_at c.args.view.now c.args.instructions.now left c.index-instructions-instructions.result _ c.args.walk.now.cut
    c.requires.more c.requires.within c.index-instructions-instructions.is c.in-Text.is c.requires.can in
    text-read c.args.view.now c.tokens_have_texts.ensures (last_moves c.args.instructions.now (left - 1)) c.args.walk.now.cut (chars c.in-Text.text.now) can

pub returns-in-Text-clause-walk : goal.returns-in-Text-clause-walk
returns-in-Text-clause-walk c = λ all letters walk.
    let tokens = c.args.view.now in
    let now = c.args.walk.now in
    let values = map value_of now.values.items in
    let at = walk_at tokens c.args.instructions.now now.left c.index-instructions-instructions.result _ all letters values now.cut now.letters.now
    c.requires.more c.requires.within c.index-instructions-instructions.is c.in-Text.is walk in
    subst (λ (l : List Span). IsWalk tokens all (last_moves c.args.instructions.now (now.left - 1)) letters values c.after_text-walk.result l)
    (sym (c.after-walk.ensures ∙ ap (λ (n : ℕ). drop n now.letters.now) c.letter_count.ensures))
    (walk-text tokens c.tokens_have_texts.ensures all (last_moves c.args.instructions.now (now.left - 1)) letters values now.cut now.letters.now
    (chars c.in-Text.text.now) c.after_text-walk.result at c.after_text-walk.ensures)

pub after_shortest-requires-clause-alone : goal.after_shortest-requires-clause-alone
after_shortest-requires-clause-alone c =
    let n = c.args.walk.now.left in
    piece-at c.args.instructions.now (length c.args.instructions.now - n) c.index-instructions-instructions.result _ c.requires.pieces (omega (arith, c.requires.more, c.requires.within)) c.index-instructions-instructions.is c.in-Variable.is

pub after_shortest-requires-clause-placed : goal.after_shortest-requires-clause-placed
after_shortest-requires-clause-placed c =
    let rest = c.args.walk.now.left - 1 in
    (finish-there c.args.view.now c.args.instructions.now c.fill.new.sets.items rest c.set_of-rest.result.now c.in_ok-fill-in-Variable.ensures.sets c.in_ok-fill-in-Variable.ensures.there
    (λ v is. c.set_of-rest.ensures v (subst (λ s. IsSet s rest v) (sym c.deref.ensures.value) is))).placed

pub after_shortest-requires-clause-open : goal.after_shortest-requires-clause-open
after_shortest-requires-clause-open c =
    open-can c.args.view.now c.tokens_have_texts.ensures (last_moves c.args.instructions.now c.args.walk.now.left) c.args.walk.now.cut c.requires.can

pub after_shortest-requires-clause-can : goal.after_shortest-requires-clause-can
after_shortest-requires-clause-can c =
    let tokens = c.args.view.now in
    let now = c.args.walk.now in
    let rest = now.left - 1 in
    let finish = finish-there tokens c.args.instructions.now c.fill.new.sets.items rest c.set_of-rest.result.now c.in_ok-fill-in-Variable.ensures.sets c.in_ok-fill-in-Variable.ensures.there
    (λ v is. c.set_of-rest.ensures v (subst (λ s. IsSet s rest v) (sym c.deref.ensures.value) is)) in
    let can = can_at tokens c.args.instructions.now now.left c.index-instructions-instructions.result _ now.cut c.requires.more c.requires.within c.index-instructions-instructions.is c.in-Variable.is c.requires.can in
    variable-leads tokens c.tokens_have_texts.ensures (last_moves c.args.instructions.now rest) now.cut c.set_of-rest.result.now finish
    c.in-Variable.name.now (tree_words (tree_of c.in-Variable.ere.now)) can

pub letters_up_to-count-requires-clause-within : goal.letters_up_to-count-requires-clause-within
letters_up_to-count-requires-clause-within c =
    let tokens = c.args.view.now in
    let rest = c.args.walk.now.left - 1 in
    let finish = finish-there tokens c.args.instructions.now c.fill.new.sets.items rest c.set_of-rest.result.now c.in_ok-fill-in-Variable.ensures.sets c.in_ok-fill-in-Variable.ensures.there
    (λ v is. c.set_of-rest.ensures v (subst (λ s. IsSet s rest v) (sym c.deref.ensures.value) is)) in
    within-can tokens c.tokens_have_texts.ensures (last_moves c.args.instructions.now rest) c.in_ok-next-in-Variable.next
    (shortest-can tokens c.tokens_have_texts.ensures (last_moves c.args.instructions.now rest) c.args.walk.now.cut c.set_of-rest.result.now finish
    (tree_words (tree_of c.in-Variable.ere.now)) c.in_ok-next-in-Variable.next c.in_ok-next-in-Variable.ensures)

pub returns-in_ok-push-in-Variable-clause-walk : goal.returns-in_ok-push-in-Variable-clause-walk
returns-in_ok-push-in-Variable-clause-walk c = λ all letters walk.
    let tokens = c.args.view.now in
    let instructions = c.args.instructions.now in
    let now = c.args.walk.now in
    let values = map value_of now.values.items in
    let rest = now.left - 1 in
    let name = c.in-Variable.name.now in
    let n = c.letters_up_to-count.result in
    let next = c.in_ok-next-in-Variable.next in
    let short = c.in_ok-next-in-Variable.ensures in
    let new = c.push.new.self.items in
    let finish = finish-there tokens instructions c.fill.new.sets.items rest c.set_of-rest.result.now c.in_ok-fill-in-Variable.ensures.sets c.in_ok-fill-in-Variable.ensures.there
    (λ v is. c.set_of-rest.ensures v (subst (λ s. IsSet s rest v) (sym c.deref.ensures.value) is)) in
    let at = walk_at tokens instructions now.left c.index-instructions-instructions.result _ all letters values now.cut now.letters.now
    c.requires.more c.requires.within c.index-instructions-instructions.is c.in-Variable.is walk in
    let span : c.covered-span.result ≡ covered (take n now.letters.now) = c.covered-span.ensures ∙ ap covered c.front.ensures in
    let pushed = λ (others : List Assigned). value-pushed now.values.items new _ others c.in_ok-push-in-Variable.ensures.items
    ∙ ap (λ (s : Option Span). values ++ record { name = name; span = s } ∷ others) span in
    subst (λ (l : List Span). IsWalk tokens all (last_moves instructions rest) letters (map value_of new) next l) (sym c.after-walk-in-Variable.ensures)
    (walk-variable tokens c.tokens_have_texts.ensures all (last_moves instructions rest) letters values now.cut now.letters.now name (tree_words (tree_of c.in-Variable.ere.now))
    c.set_of-rest.result.now finish next n (map value_of new) at short (c.letters_up_to-count.ensures ∙ sym short.count) pushed)

pub have_cut-can_be_present-requires-clause-placed : goal.have_cut-can_be_present-requires-clause-placed
have_cut-can_be_present-requires-clause-placed c =
    let rest = c.args.walk.now.left - 1 in
    (finish-there c.args.view.now c.args.instructions.now c.fill-in-Optional.new.sets.items rest c.set_of.result.now c.in_ok-fill-in-Optional.ensures.sets c.in_ok-fill-in-Optional.ensures.there
    (λ v is. c.set_of.ensures v (subst (λ s. IsSet s rest v) (sym c.deref-in-Optional.ensures.value) is))).placed

pub have_cut-can_be_present-requires-clause-open : goal.have_cut-can_be_present-requires-clause-open
have_cut-can_be_present-requires-clause-open c =
    open-can c.args.view.now c.tokens_have_texts.ensures (last_moves c.args.instructions.now c.args.walk.now.left) c.args.walk.now.cut c.requires.can

pub returns-then-can_be_present-clause-walk : goal.returns-then-can_be_present-clause-walk
returns-then-can_be_present-clause-walk c = λ all letters walk.
    let tokens = c.args.view.now in
    let instructions = c.args.instructions.now in
    let now = c.args.walk.now in
    let rest = now.left - 1 in
    let finish = finish-there tokens instructions c.fill-in-Optional.new.sets.items rest c.set_of.result.now c.in_ok-fill-in-Optional.ensures.sets c.in_ok-fill-in-Optional.ensures.there
    (λ v is. c.set_of.ensures v (subst (λ s. IsSet s rest v) (sym c.deref-in-Optional.ensures.value) is)) in
    let at = walk_at tokens instructions now.left c.index-instructions-instructions.result _ all letters (map value_of now.values.items) now.cut now.letters.now
    c.requires.more c.requires.within c.index-instructions-instructions.is c.in-Optional.is walk in
    let can = (finish-cut tokens c.tokens_have_texts.ensures (last_moves instructions rest) now.cut c.set_of.result.now finish).0
    (c.have_cut-can_be_present.ensures.0 c.if-can_be_present.true) in
    walk-present tokens c.tokens_have_texts.ensures all (last_moves instructions rest) letters (map value_of now.values.items) now.cut now.letters.now c.in-Optional.size at can

pub returns-in_ok-leave_out-in-Optional-clause-walk : goal.returns-in_ok-leave_out-in-Optional-clause-walk
returns-in_ok-leave_out-in-Optional-clause-walk c = λ all letters walk.
    let tokens = c.args.view.now in
    let instructions = c.args.instructions.now in
    let now = c.args.walk.now in
    let values = map value_of now.values.items in
    let rest = now.left - 1 in
    let size = c.in-Optional.size in
    let new = c.leave_out.new.walk in
    let more = map value_of new.values.items in
    let finish = finish-there tokens instructions c.fill-in-Optional.new.sets.items rest c.set_of.result.now c.in_ok-fill-in-Optional.ensures.sets c.in_ok-fill-in-Optional.ensures.there
    (λ v is. c.set_of.ensures v (subst (λ s. IsSet s rest v) (sym c.deref-in-Optional.ensures.value) is)) in
    let at = walk_at tokens instructions now.left c.index-instructions-instructions.result _ all letters values now.cut now.letters.now
    c.requires.more c.requires.within c.index-instructions-instructions.is c.in-Optional.is walk in
    let moves = last-fewer instructions rest size (omega (arith, c.requires.within)) ∙ ap (last_moves instructions) (sym c.in_ok-leave_out-in-Optional.ensures.left) in
    let gone = walk-absent tokens c.tokens_have_texts.ensures all (last_moves instructions rest) letters values now.cut now.letters.now size more at
    (λ can. true≢false (sym (c.have_cut-can_be_present.ensures.1 ((finish-cut tokens c.tokens_have_texts.ensures (last_moves instructions rest) now.cut
    c.set_of.result.now finish).1 can)) ∙ c.if-can_be_present.false))
    (λ r. ap (λ (ms : List Move). more ++ recorded 0 ms r now.letters.now) moves ∙ c.in_ok-leave_out-in-Optional.ensures.values r now.letters.now) in
    subst (λ (l : List Span). IsWalk tokens all (last_moves instructions new.left) letters more new.cut l) (sym c.in_ok-leave_out-in-Optional.ensures.letters)
    (subst (λ (k : Cut). IsWalk tokens all (last_moves instructions new.left) letters more k now.letters.now) (sym c.in_ok-leave_out-in-Optional.ensures.cut)
    (subst (λ (ms : List Move). IsWalk tokens all ms letters more now.cut now.letters.now) moves gone))
