use Rattle.std.proofs.Common.{◌≡◌, ℕ, ◌<◌, min, false, inl, inr, length, get_or, sym, ap, ◌∙◌, arith}
use Rattle.std.specs.Char.{is_whitespace}
use Rattle.std.specs.Prelude.{bit_or}
use Rattle.std.proofs.lemmas.Bool.{or_cases, or_left, or_right}
use Rattle.lic_kind.specs.Beginnings.{has_bit}
use Rattle.lic_kind.proofs.BeginningLemmas.{has_bit_or, of_both, are_both, with_bits, bits_are_there, bits_stay, begin_parts, second_is}
use Rattle.lic_kind.proofs.rules.beginnings.Beginnings.add.Goals as goal

pub returns-then-is_whitespace-clause-known : goal.returns-then-is_whitespace-clause-known
returns-then-is_whitespace-clause-known c = λ k text small on many some first second. c.open.ensures k text small

pub returns-then-is_whitespace-clause-grows : goal.returns-then-is_whitespace-clause-grows
returns-then-is_whitespace-clause-grows c = λ k text small known. c.open.ensures k text small

pub returns-then-size-lt2-clause-known : goal.returns-then-size-lt2-clause-known
returns-then-size-lt2-clause-known c = λ k text small on many some first second a d may.
    let b = c.args.self.now in
    let at : ℕ = c.slot-at.result in
    let bit : ℕ = c.args.bit in
    let inside : at < length b.firsts = omega arith in
    let dark : is_whitespace (get_or text 0 0) ≡ false = ap is_whitespace first ∙ sym c.is_whitespace.ensures ∙ c.if-is_whitespace.false in
    let parts = begin_parts a d text (omega (arith, many, some)) dark may in
    of_both _ (get_or b.seconds (min d 255) 0) (bit_or b.alone bit) k
    (ap (λ n. has_bit (get_or (with_bits b.firsts at bit inside) n 0) k) (ap (λ n. min n 255) (parts.0 ∙ first) ∙ sym c.slot-at.ensures)
    ∙ bits_are_there b.firsts at bit inside k on)
    (or_right _ _ (has_bit_or b.alone bit k ∙ or_right (has_bit b.alone k) (has_bit bit k) on))

pub returns-then-size-lt2-clause-grows : goal.returns-then-size-lt2-clause-grows
returns-then-size-lt2-clause-grows c = λ k text small known a d may.
    let b = c.args.self.now in
    let at : ℕ = c.slot-at.result in
    let bit : ℕ = c.args.bit in
    let inside : at < length b.firsts = omega arith in
    let seconds : ℕ = get_or b.seconds (min d 255) 0 in
    let parts = are_both (get_or b.firsts (min a 255) 0) seconds b.alone k (known a d may) in
    of_both (get_or (with_bits b.firsts at bit inside) (min a 255) 0) seconds (bit_or b.alone bit) k (bits_stay b.firsts at bit inside (min a 255) k parts.0)
    (elim (or_cases (has_bit seconds k) (has_bit b.alone k) parts.1) [
      | inl second ↦ or_left (has_bit seconds k) _ second
      | inr one ↦ or_right (has_bit seconds k) _ (has_bit_or b.alone bit k ∙ or_left (has_bit b.alone k) (has_bit bit k) one)
    ])

pub returns-clause-known : goal.returns-clause-known
returns-clause-known c = λ k text small on many some first second a d may.
    let b = c.args.self.now in
    let at : ℕ = c.slot-at.result in
    let next : ℕ = c.slot-next.result in
    let bit : ℕ = c.args.bit in
    let inside : at < length b.firsts = omega arith in
    let inside' : next < length b.seconds = omega arith in
    let dark : is_whitespace (get_or text 0 0) ≡ false = ap is_whitespace first ∙ sym c.is_whitespace.ensures ∙ c.if-is_whitespace.false in
    let parts = begin_parts a d text (omega (arith, many, some)) dark may in
    let is : d ≡ c.args.second = second_is d text (omega (arith, many)) parts.1 ∙ second (omega arith) in
    of_both _ _ b.alone k
    (ap (λ n. has_bit (get_or (with_bits b.firsts at bit inside) n 0) k) (ap (λ n. min n 255) (parts.0 ∙ first) ∙ sym c.slot-at.ensures)
    ∙ bits_are_there b.firsts at bit inside k on)
    (or_left _ (has_bit b.alone k)
    (ap (λ n. has_bit (get_or (with_bits b.seconds next bit inside') n 0) k) (ap (λ n. min n 255) is ∙ sym c.slot-next.ensures)
    ∙ bits_are_there b.seconds next bit inside' k on))

pub returns-clause-grows : goal.returns-clause-grows
returns-clause-grows c = λ k text small known a d may.
    let b = c.args.self.now in
    let at : ℕ = c.slot-at.result in
    let next : ℕ = c.slot-next.result in
    let bit : ℕ = c.args.bit in
    let inside : at < length b.firsts = omega arith in
    let inside' : next < length b.seconds = omega arith in
    let seconds : ℕ = get_or b.seconds (min d 255) 0 in
    let more : ℕ = get_or (with_bits b.seconds next bit inside') (min d 255) 0 in
    let parts = are_both (get_or b.firsts (min a 255) 0) seconds b.alone k (known a d may) in
    of_both (get_or (with_bits b.firsts at bit inside) (min a 255) 0) more b.alone k (bits_stay b.firsts at bit inside (min a 255) k parts.0)
    (elim (or_cases (has_bit seconds k) (has_bit b.alone k) parts.1) [
      | inl second ↦ or_left (has_bit more k) _ (bits_stay b.seconds next bit inside' (min d 255) k second)
      | inr one ↦ or_right (has_bit more k) _ one
    ])
