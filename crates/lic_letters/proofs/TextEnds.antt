-- The first two bytes of a text and the last two, where they are of ASCII.
use Rattle.std.proofs.Common.{◌≡◌, ℕ, ◌+◌, ◌-◌, ◌<◌, ◌≤◌, List, ◌∷◌, ◌++◌, length, take, take_all, drop, get_or, sym, ap, ◌∙◌, arith}
use Rattle.std.proofs.lemmas.Grind.{take_at_read}
use Rattle.std.proofs.lemmas.Str.{encode_ascii}
use Rattle.std.proofs.Math.Seq.{drop-cons}
use Rattle.std.proofs.Math.Utf8.{low_scalar}
use Rattle.lic_letters.specs.Edges.{AreEdges}

pub ascii_edges : (text : List ℕ) → 2 ≤ length text → get_or text 0 0 < 128 → get_or text 1 0 < 128
    → get_or text (length text - 2) 0 < 128 → get_or text (length text - 1) 0 < 128
    → AreEdges text (record {
      first = get_or text 0 0;
      second = get_or text 1 0;
      before = get_or text (length text - 2) 0;
      last = get_or text (length text - 1) 0;
    })
ascii_edges text long first_low second_low before_low last_low =
    let first : ℕ = get_or text 0 0 in
    let second : ℕ = get_or text 1 0 in
    let before : ℕ = get_or text (length text - 2) 0 in
    let last : ℕ = get_or text (length text - 1) 0 in
    let to_last = take_at_read text (length text - 1) 0 (omega (arith, long)) in
    let to_before = take_at_read text (length text - 2) 0 (omega (arith, long)) in
    let all : length text - 1 + 1 ≡ length text = omega (arith, long) in
    let less : length text - 2 + 1 ≡ length text - 1 = omega (arith, long) in
    record {
      one = drop 1 text;
      two = drop 2 text;
      less = take (length text - 1) text;
      least = take (length text - 2) text;
      first = drop-cons text 0 0 (omega (arith, long)) ∙ ap (λ l. l ++ drop 1 text) (sym (encode_ascii first first_low));
      second = drop-cons text 1 0 (omega (arith, long)) ∙ ap (λ l. l ++ drop 2 text) (sym (encode_ascii second second_low));
      last = sym (ap (λ k. take k text) all ∙ take_all (length text) text (omega arith)) ∙ to_last.1
          ∙ ap (λ l. take (length text - 1) text ++ l) (sym (encode_ascii last last_low));
      before = sym (ap (λ k. take k text) less) ∙ to_before.1 ∙ ap (λ l. take (length text - 2) text ++ l) (sym (encode_ascii before before_low));
      scalar_last = low_scalar last (omega (arith, last_low));
      scalar_before = low_scalar before (omega (arith, before_low));
    }
