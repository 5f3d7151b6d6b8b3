use Rattle.std.proofs.Common.{rules, ◌≡◌, ℕ, List, [], ◌++◌, drop, length, take, take_at, sym, ap, subst, ◌∙◌, arith}
use Rattle.std.specs.Char.{encode_utf8, len_utf8}
use Rattle.std.proofs.lemmas.List.{take_rest}
use Rattle.lic_letters.specs.Simple.{IsNoFront}
use Rattle.lic_letters.proofs.SpelledFronts.{char_put}
use Rattle.lic_letters.proofs.wide.put_first.Goals as goal

pub returns-then-branch-clause-put : goal.returns-then-branch-clause-put
returns-then-branch-clause-put c = λ some.
    let bytes : List ℕ = c.args.bytes.now in
    let char : ℕ = c.in-Some.c in
    let n : ℕ = c.len_utf8-width.result in
    let first = c.in-Some.ensures in
    let known = c.in_ok-put_simple.ensures in
    let yes = c.if-branch.true in
    let slot : List ℕ = c.put_simple.new.slot in
    let rest : List ℕ = drop n c.args.spelled.now in
    let long : length slot ≡ n = search rules in
    let width : n ≡ len_utf8 char = c.len_utf8-width.ensures.value in
    char_put char n bytes [] (take n (slot ++ rest)) first.scalar (known.simple yes) (omega (arith, width, first.within))
    (first.bytes ∙ ap (λ k. encode_utf8 char ++ drop k bytes) (sym width))
    (λ mark. subst (IsNoFront (encode_utf8 char)) (take_rest bytes n) (known.alone yes mark)) (take_at slot rest n long ∙ known.put yes)
