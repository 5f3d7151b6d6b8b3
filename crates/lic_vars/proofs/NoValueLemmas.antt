-- A template without a variable gives no value.
use Rattle.std.proofs.Common.{◌≡◌, ℕ, ◌+◌, List, [], ◌++◌, length, Bool, Some, None, Bor, refl, sym, ◌∙◌, subst, arith}
use Rattle.std.specs.List.{All}
use Rattle.std.proofs.lemmas.List.{get_or_append_left, get_or-append-add, length-append}
use Rattle.std.proofs.lemmas.List.Elements.{All-head, All-map, All-tail, All-weaker}
use Rattle.lic_norm.specs.Tokens.{TokenValue}
use Rattle.lic_tokens.specs.declared.token.Span.{Span}
use Rattle.lic_markup.specs.Parts.{Nodes, no_node, one_more}
use Rattle.lic_markup.specs.Parts as parts
use Rattle.lic_ere.specs.declared.ere.Ere.{Ere}
use Rattle.lic_set.specs.Sets.{Known}
use Rattle.lic_set.specs.Matches.{IsMatch}
use Rattle.lic_set.specs.declared.triple.Triple.{Triple}
use Rattle.lic_vars.specs.Cuts.{HasNoValue, move_of, moves_of}
use Rattle.lic_vars.specs.Derivations.{Choice}
use Rattle.lic_vars.specs.Moves.{Move, text, variable, optional, moves}
use Rattle.lic_vars.specs.Values.{AreValues, absent_values, choice_values, nodes_of}
use Rattle.lic_vars.specs.declared.instructions.Instruction.{Instruction}
use Rattle.lic_vars.proofs.ExistLemmas.{values-exist}

abbrev IsNoVariable : Move → Type 0
IsNoVariable (text w) = Unit {0}
IsNoVariable (variable name re) = ⊥
IsNoVariable (optional n) = Unit {0}

front : (xs ys : List Move) → All IsNoVariable (xs ++ ys) → All IsNoVariable xs
front xs ys all k d below = subst IsNoVariable (get_or_append_left xs ys d k below) (all k d (omega (arith, length-append xs ys)))

back : (xs ys : List Move) → All IsNoVariable (xs ++ ys) → All IsNoVariable ys
back xs ys all k d below = subst IsNoVariable (get_or-append-add xs ys k d) (all (length xs + k) d (omega (arith, length-append xs ys)))

no-absent : (ns : Nodes) → All IsNoVariable (moves ns) → absent_values ns ≡ []
no-absent no_node all = refl
no-absent (one_more (parts.letters t) rest) all = no-absent rest (All-tail IsNoVariable _ (moves rest) all)
no-absent (one_more (parts.variable name original pattern) rest) all = absurd (All-head IsNoVariable _ (moves rest) all)
no-absent (one_more (parts.optional body) rest) all =
    let both = All-tail IsNoVariable _ (moves body ++ moves rest) all in
    rw (no-absent body (front (moves body) (moves rest) both)) (no-absent rest (back (moves body) (moves rest) both))

no-choice : (ns : Nodes) (c : Choice ns) (spans : List Span) → All IsNoVariable (moves ns) → choice_values ns c spans ≡ []
no-choice no_node c spans all = refl
no-choice (one_more (parts.letters t) rest) c spans all = no-choice rest c _ (All-tail IsNoVariable _ (moves rest) all)
no-choice (one_more (parts.variable name original pattern) rest) c spans all = absurd (All-head IsNoVariable _ (moves rest) all)
no-choice (one_more (parts.optional body) rest) (None, c) spans all =
    let both = All-tail IsNoVariable _ (moves body ++ moves rest) all in
    rw (no-absent body (front (moves body) (moves rest) both)) (no-choice rest c spans (back (moves body) (moves rest) both))
no-choice (one_more (parts.optional body) rest) (Some b, c) spans all =
    let both = All-tail IsNoVariable _ (moves body ++ moves rest) all in
    rw (no-choice body b spans (front (moves body) (moves rest) both)) (no-choice rest c _ (back (moves body) (moves rest) both))

pub no-value : (instruction : Instruction) → ((name : Bor (List ℕ)) (ere : Bor Ere) (is_empty : Bool) → instruction ≡ Instruction.Variable name ere is_empty → ⊥) → HasNoValue instruction
no-value (Instruction.Text letters) none = tt
no-value (Instruction.Variable name ere is_empty) none = none name ere is_empty refl
no-value (Instruction.Optional n) none = tt

no-variable : (instruction : Instruction) → HasNoValue instruction → IsNoVariable (move_of instruction)
no-variable (Instruction.Text letters) h = h
no-variable (Instruction.Variable name ere is_empty) h = h
no-variable (Instruction.Optional n) h = h

pub no-values : (set : List Known) (tokens : List TokenValue) (t : Triple) (instructions : List Instruction) (is : IsMatch set tokens t)
    → moves_of instructions ≡ moves (nodes_of is.known) → All HasNoValue instructions → AreValues set tokens t []
no-values set tokens t instructions is same none =
    let found = values-exist set tokens t is in
    let known : found.1.known ≡ is.known = let e = found.1.number in let f = is.number in cc in
    let all = All-map IsNoVariable move_of instructions (All-weaker HasNoValue (λ s. IsNoVariable (move_of s)) no-variable instructions none) in
    let moved : All IsNoVariable (moves (nodes_of found.1.known)) =
    subst (λ (k : Known). All IsNoVariable (moves (nodes_of k))) (sym known) (subst (All IsNoVariable) same all) in
    let nothing = found.1.same ∙ no-choice (nodes_of found.1.known) found.1.derivation.choice _ moved in
    subst (AreValues set tokens t) nothing found.1
