use Rattle.std.proofs.Common.{◌≡◌, ◌<◌, ◌≤◌, ◌∷◌, ◌++◌, [], ℕ, List, length, nat_le, reverse, refl, sym, ap, ◌∙◌}
use Rattle.std.proofs.lemmas.Bool.{cond-true, cond-false, le-leb, lt-leb}
use Rattle.lic_find.specs.Firsts.{noted_at}
use Rattle.lic_find.specs.Starts.{starts_in, noted_in, few_of}
use Rattle.lic_find.specs.declared.starts.Entry.{Entry}
use Rattle.lic_find.proofs.StartLemmas.{noted_in-more}
use Rattle.lic_find.proofs.starts.Starts.add.Goals as goal
use Rattle.lic_find.proofs.starts.Starts.add.Goals.{then-numbers-le-MOST_NUMBERS, else-numbers-le-MOST_NUMBERS}

few : (numbers : List ℕ) → length numbers ≤ 4 → numbers ≡ few_of numbers
few numbers h = sym (cond-true (nat_le (length numbers) 4) numbers [] (le-leb (length numbers) 4 h))

many : (numbers : List ℕ) → 4 < length numbers → [] ≡ few_of numbers
many numbers h = sym (cond-false (nat_le (length numbers) 4) numbers [] (lt-leb (length numbers) 4 h))

pub returns-clause-noted : goal.returns-clause-noted
unfolding starts_in
returns-clause-noted c =
    let numbers = c.args.numbers.now in
    let kept = c.if-numbers-le-MOST_NUMBERS.few.now in
    let entries = c.args.self.now.entries.items in
    let is : kept ≡ few_of numbers =
    elim c.if-numbers-le-MOST_NUMBERS.branch [
      | then-numbers-le-MOST_NUMBERS w ↦ ap (λ b. b.now) w.few-is ∙ few numbers w.if-numbers-le-MOST_NUMBERS.true
      | else-numbers-le-MOST_NUMBERS w ↦ ap (λ b. b.now) w.few-is ∙ many numbers w.if-numbers-le-MOST_NUMBERS.false
    ] in
    let one : Entry = record { first = c.args.first; count = length kept } in
    ap (λ l. noted_in (reverse l) c.extend_from_slice.new.self.items) c.in_ok-push.ensures.items
    ∙ ap (λ l. noted_in (reverse (entries ++ one ∷ [])) l) c.in_ok-extend_from_slice.ensures.items
    ∙ noted_in-more entries c.args.self.now.numbers.items kept one refl
    ∙ ap (λ l. noted_at c.args.first l ∷ noted_in (reverse entries) c.args.self.now.numbers.items) is
