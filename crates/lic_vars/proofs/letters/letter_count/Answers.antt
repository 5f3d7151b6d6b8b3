-- One letter more.
use Rattle.std.proofs.Common.{◌≡◌, ℕ, suc, ◌+◌, ◌<◌, ◌==◌, List, length, get_or, drop, sym, ap, ◌∙◌, arith, ne_eqb, if◌then◌else◌}
use Rattle.std.proofs.lemmas.Iterator.{YieldsList-from_chars}
use Rattle.std.proofs.lemmas.List.{at_drop_more, at_drop_all, length_push}
use Rattle.std.proofs.lemmas.Iterator.Consumers.{YieldsList-turn, YieldsList-end}
use Rattle.std.specs.Str.{chars}
use Rattle.lic_words.specs.Words.{blank}
use Rattle.lic_words.specs.Letters.{letters_in}
use Rattle.lic_vars.proofs.letters.letter_count.Goals as goal

letters-drop : (cs : List ℕ) (n c : ℕ) → n < length cs → c ≡ get_or cs n c
    → letters_in (drop n cs) ≡ (if c == blank then letters_in (drop (n + 1) cs) else suc (letters_in (drop (n + 1) cs)))
letters-drop cs n c within is =
    at_drop_more letters_in cs n c within ∙ ap (λ x. if x == blank then letters_in (drop (n + 1) cs) else suc (letters_in (drop (n + 1) cs))) (sym is)

letters-blank : (cs : List ℕ) (n c : ℕ) → n < length cs → c ≡ get_or cs n c → c ≡ 32 → letters_in (drop n cs) ≡ letters_in (drop (n + 1) cs)
letters-blank cs n c within is same =
    letters-drop cs n c within is ∙ ap (λ x. if x == blank then letters_in (drop (n + 1) cs) else suc (letters_in (drop (n + 1) cs))) same

letters-other : (cs : List ℕ) (n c : ℕ) → n < length cs → c ≡ get_or cs n c → ¬ (c ≡ 32) → letters_in (drop n cs) ≡ suc (letters_in (drop (n + 1) cs))
letters-other cs n c within is other =
    letters-drop cs n c within is ∙ ap (λ b. if b then letters_in (drop (n + 1) cs) else suc (letters_in (drop (n + 1) cs))) (ne_eqb c blank other)

pub loop-c-preserved-then-c-eq32 : goal.loop-c-preserved-then-c-eq32
loop-c-preserved-then-c-eq32 c =
    let cs = chars c.args.text.now in
    let t = YieldsList-turn (YieldsList-from_chars c.args.text.now c.utf8.text cc) c.loop-c.yielded _ c.loop-c.yielded_by _ _ c.in-Some.c c.in-Some.is c.next.ensures.steps in
    let e = letters-blank cs (length c.loop-c.yielded) c.in-Some.c t.0 t.1 c.if-c-eq32.true in
    let n = length_push c.loop-c.yielded c.in-Some.c in
    let rest = ap (λ k. letters_in (drop k cs)) n in
    record { counts = omega (arith, e, rest, c.loop-c.invariant.counts); small = omega (arith, n, c.loop-c.invariant.small) }

pub loop-c-preserved : goal.loop-c-preserved
loop-c-preserved c =
    let cs = chars c.args.text.now in
    let t = YieldsList-turn (YieldsList-from_chars c.args.text.now c.utf8.text cc) c.loop-c.yielded _ c.loop-c.yielded_by _ _ c.in-Some.c c.in-Some.is c.next.ensures.steps in
    let e = letters-other cs (length c.loop-c.yielded) c.in-Some.c t.0 t.1 c.if-c-eq32.false in
    let n = length_push c.loop-c.yielded c.in-Some.c in
    let rest = ap (λ k. letters_in (drop k cs)) n in
    record { counts = omega (arith, e, rest, c.loop-c.invariant.counts); small = omega (arith, n, c.loop-c.invariant.small) }

pub returns : goal.returns
returns c =
    let cs = chars c.args.text.now in
    let t = YieldsList-end (YieldsList-from_chars c.args.text.now c.utf8.text cc) c.loop-c.yielded _ c.loop-c.yielded_by _ _ c.in-None.is c.next.ensures.steps in
    omega (arith, at_drop_all letters_in cs (length c.loop-c.yielded) (omega (arith, t.1)), c.loop-c.invariant.counts)
