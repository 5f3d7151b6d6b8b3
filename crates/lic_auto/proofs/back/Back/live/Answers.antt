use Rattle.std.proofs.Common.{◌≡◌, ℕ, ◌<◌, length, take, get_or, arith, length-take-le}
use Rattle.std.proofs.lemmas.Bool.{lt-ltb, ltb-true}
use Rattle.std.proofs.lemmas.List.Elements.{Contains-get_or}
use Rattle.lic_auto.proofs.back.Back.live.Goals as goal

pub returns : goal.returns
returns c = λ ts s.
    let b = c.args.self.now in
    let front = take b.live_count b.live.items in
    let size : length front ≡ b.live_count = length-take-le b.live_count b.live.items (omega (arith, b.live_within, b.live.ok)) in (
      λ h.
          let some : 0 < length front = omega (arith, ltb-true 0 b.live_count h, size) in
          let k : ℕ = get_or front 0 0 in
          let there = (s.live k).0 (Contains-get_or front 0 0 some) in
          (k, there.0, there.1),
      λ (k, kept, live).
          let (i, inside, is) = (s.live k).1 (kept, live) in
          lt-ltb 0 b.live_count (omega (arith, inside, size)),
    )
