use Rattle.std.proofs.Common.{◌≡◌, ◌+◌, ◌*◌, ◌^◌, ◌-◌, ◌<◌, ◌≤◌, ◌∷◌, ◌↔◌, [], ℕ, List, length, drop, get_or, refl, sym, ap, ◌∙◌, subst, arith}
use Rattle.std.specs.List.{Contains}
use Rattle.std.specs.Str.{chars}
use Rattle.std.proofs.Math.Seq.{drop-length}
use Rattle.std.proofs.lemmas.Bool.{eqb-true, eq-eqb, false≢true}
use Rattle.lic_norm.specs.Tokens.{TokenValue}
use Rattle.lic_words.specs.Letters.{letters_in}
use Rattle.lic_auto.specs.Backs.{BackHasTaken, IsLive, numbers_of_back, set_of_back, steps_of_back}
use Rattle.lic_find.specs.Bounds.{letters_of}
use Rattle.lic_find.specs.Firsts.{AreFirstsFrom}
use Rattle.lic_set.specs.Matches.{all_letters}
use Rattle.lic_find.specs.Starts.{HasAtMost, starts_in}
use Rattle.lic_find.proofs.FirstLemmas.{AreFirstsFrom-pass, IsFirstFrom-live, NoneBeginFrom-end, all_letters-drop, none_live}
use Rattle.lic_find.proofs.LetterLemmas.{letters_of-none, letters_of-drop, letters_of-drop_le}
use Rattle.lic_find.proofs.StartLemmas.{HasAtMost-more}
use Rattle.lic_find.proofs.reverse_scan.first_tokens.Goals as goal

-- an empty list, and one that is not
empty : (xs : List ℕ) → length xs ≡ 0 → xs ≡ []
empty [] h = refl
empty (x ∷ xs) h = absurd (omega arith)

some_of : (xs : List ℕ) → (length xs ≡ 0 → ⊥) → (k : ℕ) × Contains xs k
some_of [] h = absurd (h refl)
some_of (x ∷ xs) h = (x, (0, omega arith, refl))

pub loop-first-init : goal.loop-first-init
loop-first-init c =
    let set = c.args.set.now in
    let tokens = c.args.text.now.tokens in
    let nothing : drop c.len-first.result tokens ≡ [] = ap (λ n. drop n tokens) c.len-first.ensures ∙ drop-length tokens in
    let none : letters_of (drop c.len-first.result tokens) ≡ 0 = ap letters_of nothing ∙ letters_of-none in
    let counted = c.in_ok-back.ensures.steps in
    record {
      low = omega arith;
      set = c.in_ok-back.ensures.set;
      numbers = c.in_ok-back.ensures.numbers;
      taken = subst (λ ts. BackHasTaken c.in_ok-back.back (all_letters ts)) (sym nothing) c.in_ok-back.ensures.taken;
      firsts =
          subst (AreFirstsFrom set tokens c.args.numbers.items c.len-first.result) (sym c.none-starts.ensures.none)
          (subst (λ n. AreFirstsFrom set tokens c.args.numbers.items n []) (sym c.len-first.ensures) (NoneBeginFrom-end set tokens c.args.numbers.items));
      memory = subst (HasAtMost c.none-starts.result) (let none : 0 ≡ length tokens - c.len-first.result = omega (arith, c.len-first.ensures) in none) c.none-starts.ensures.memory;
      most = omega arith;
      least = λ bounded. omega arith;
    }

pub loop-first-preserved : goal.loop-first-preserved
loop-first-preserved c =
    let set = c.args.set.now in
    let tokens = c.args.text.now.tokens in
    let kept = c.args.numbers.items in
    let inv = c.loop-first.invariant in
    let end = c.loop-first.first in
    let first : ℕ = end - 1 in
    let token : TokenValue = record { text = c.token.result.text.now; span = c.token.result.span } in
    let back = c.push_front.new.self in
    let live = c.live_numbers-live.result.now in
    let inside : first < length tokens = omega arith in
    let next : first + 1 ≡ end = omega arith in
    let text = c.token.ensures.text token in
    let taken : BackHasTaken back (all_letters (drop first tokens)) =
    subst (BackHasTaken back) (sym (all_letters-drop tokens first end token inside next))
    (subst (λ text. BackHasTaken back (chars text ∷ all_letters (drop end tokens))) text
    (c.push_front.ensures.taken (all_letters (drop end tokens)) inv.taken)) in
    let same_set : set_of_back back ≡ set = c.push_front.ensures.set ∙ inv.set in
    let same_numbers : numbers_of_back back ≡ kept = c.push_front.ensures.numbers ∙ inv.numbers in
    let exactly : (k : ℕ) → Contains live k ↔ (Contains kept k × IsLive set (all_letters (drop first tokens)) k) =
    λ k. subst (λ s. Contains live k ↔ (Contains kept k × IsLive s (all_letters (drop first tokens)) k)) same_set
    (subst (λ ns. Contains live k ↔ (Contains ns k × IsLive (set_of_back back) (all_letters (drop first tokens)) k)) same_numbers
    (c.live_numbers-live.ensures.exactly (all_letters (drop first tokens)) taken k)) in
    let more : letters_of (drop first tokens) ≡ letters_in (chars (get_or tokens first token).text) + letters_of (drop end tokens) =
    letters_of-drop tokens first token inside ∙ ap (λ n. letters_in (chars (get_or tokens first token).text) + letters_of (drop n tokens)) next in
    let most : steps_of_back back ≤ steps_of_back c.loop-first.back + 2 * letters_in (chars (get_or tokens first token).text) =
    subst (λ text. steps_of_back back ≤ steps_of_back c.loop-first.back + 2 * letters_in (chars text)) text c.push_front.ensures.most in
    let least : steps_of_back back < 2 ^ 64 - 1 → steps_of_back c.loop-first.back + letters_in (chars (get_or tokens first token).text) ≤ steps_of_back back =
    subst (λ text. steps_of_back back < 2 ^ 64 - 1
    → steps_of_back c.loop-first.back + letters_in (chars text)
    ≤ steps_of_back back) text c.push_front.ensures.least in
    let before = inv.most in
    record {
      low = omega arith;
      set = same_set;
      numbers = same_numbers;
      taken = taken;
      firsts =
          let past : AreFirstsFrom set tokens kept (first + 1) (starts_in c.loop-first.starts) =
          subst (λ n. AreFirstsFrom set tokens kept n (starts_in c.loop-first.starts)) (sym next) inv.firsts in
          AreFirstsFrom-pass set tokens kept first (starts_in c.loop-first.starts)
          (none_live set tokens kept first inside live exactly
          (empty live (eqb-true (length live) 0 (sym c.is_empty.ensures ∙ c.if-not-is_empty.false)))) past;
      memory = HasAtMost-more c.loop-first.starts (length tokens - end) (length tokens - first) (omega arith) inv.memory;
      most = omega arith;
      least = λ bounded.
          let grown = least bounded in
          let old = inv.least (omega arith) in
          omega arith;
    }

pub loop-first-preserved-in-Continue-branch-2 : goal.loop-first-preserved-in-Continue-branch-2
loop-first-preserved-in-Continue-branch-2 c =
    let set = c.args.set.now in
    let tokens = c.args.text.now.tokens in
    let kept = c.args.numbers.items in
    let inv = c.loop-first.invariant in
    let end = c.loop-first.first in
    let first : ℕ = end - 1 in
    let token : TokenValue = record { text = c.token.result.text.now; span = c.token.result.span } in
    let back = c.push_front.new.self in
    let live = c.live_numbers-live.result.now in
    let inside : first < length tokens = omega arith in
    let next : first + 1 ≡ end = omega arith in
    let text = c.token.ensures.text token in
    let taken : BackHasTaken back (all_letters (drop first tokens)) =
    subst (BackHasTaken back) (sym (all_letters-drop tokens first end token inside next))
    (subst (λ text. BackHasTaken back (chars text ∷ all_letters (drop end tokens))) text
    (c.push_front.ensures.taken (all_letters (drop end tokens)) inv.taken)) in
    let same_set : set_of_back back ≡ set = c.push_front.ensures.set ∙ inv.set in
    let same_numbers : numbers_of_back back ≡ kept = c.push_front.ensures.numbers ∙ inv.numbers in
    let exactly : (k : ℕ) → Contains live k ↔ (Contains kept k × IsLive set (all_letters (drop first tokens)) k) =
    λ k. subst (λ s. Contains live k ↔ (Contains kept k × IsLive s (all_letters (drop first tokens)) k)) same_set
    (subst (λ ns. Contains live k ↔ (Contains ns k × IsLive (set_of_back back) (all_letters (drop first tokens)) k)) same_numbers
    (c.live_numbers-live.ensures.exactly (all_letters (drop first tokens)) taken k)) in
    let more : letters_of (drop first tokens) ≡ letters_in (chars (get_or tokens first token).text) + letters_of (drop end tokens) =
    letters_of-drop tokens first token inside ∙ ap (λ n. letters_in (chars (get_or tokens first token).text) + letters_of (drop n tokens)) next in
    let most : steps_of_back back ≤ steps_of_back c.loop-first.back + 2 * letters_in (chars (get_or tokens first token).text) =
    subst (λ text. steps_of_back back ≤ steps_of_back c.loop-first.back + 2 * letters_in (chars text)) text c.push_front.ensures.most in
    let least : steps_of_back back < 2 ^ 64 - 1 → steps_of_back c.loop-first.back + letters_in (chars (get_or tokens first token).text) ≤ steps_of_back back =
    subst (λ text. steps_of_back back < 2 ^ 64 - 1
    → steps_of_back c.loop-first.back + letters_in (chars text)
    ≤ steps_of_back back) text c.push_front.ensures.least in
    let before = inv.most in
    record {
      low = omega arith;
      set = same_set;
      numbers = same_numbers;
      taken = taken;
      firsts =
          let past : AreFirstsFrom set tokens kept (first + 1) (starts_in c.loop-first.starts) =
          subst (λ n. AreFirstsFrom set tokens kept n (starts_in c.loop-first.starts)) (sym next) inv.firsts in
          let (k, there) = some_of live (λ none. false≢true (sym c.if-not-is_empty.true ∙ c.is_empty.ensures ∙ eq-eqb (length live) 0 none)) in
          subst (AreFirstsFrom set tokens kept first) (sym c.in_ok-add.ensures.noted)
          (IsFirstFrom-live set tokens kept first inside live exactly k there, past);
      memory = let more : length tokens - end + 1 ≡ length tokens - first = omega arith in
          subst (HasAtMost c.add.new.self) more (c.in_ok-add.ensures.memory (length tokens - end) inv.memory);
      most = omega arith;
      least = λ bounded.
          let grown = least bounded in
          let old = inv.least (omega arith) in
          omega arith;
    }

pub returns-clause-most : goal.returns-clause-most
returns-clause-most c =
    let part = letters_of-drop_le c.args.text.now.tokens c.loop-first.first in
    let most = c.loop-first.invariant.most in
    omega arith

pub returns-clause-firsts : goal.returns-clause-firsts
returns-clause-firsts c =
    let low = c.loop-first.invariant.low in
    let done = c.loop-first-test.false in
    let same : c.loop-first.first ≡ c.args.from = omega arith in
    subst (λ n. AreFirstsFrom c.args.set.now c.args.text.now.tokens c.args.numbers.items n
    (starts_in c.loop-first.starts)) same c.loop-first.invariant.firsts

pub returns-clause-memory : goal.returns-clause-memory
returns-clause-memory c =
    let tokens = c.args.text.now.tokens in
    HasAtMost-more c.loop-first.starts (length tokens - c.loop-first.first) (length tokens) (omega arith) c.loop-first.invariant.memory
