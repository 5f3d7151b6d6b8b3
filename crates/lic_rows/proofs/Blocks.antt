-- Blocks of four words.
use Rattle.std.proofs.Common.{◌≡◌, ℕ, ◌+◌, ◌-◌, ◌*◌, ◌/◌, ◌%◌, ◌^◌, ◌<◌, ◌≤◌, List, get_or, length, ap, sym, ◌∙◌, arith}
use Rattle.std.specs.Prelude.{bit_or}
use Rattle.std.proofs.lemmas.Simd.{get_or-put_chunk_at, get_or-put_chunk_above, get_or-zip2, length-zip2, get_or-chunk, length-chunk, get_or-replicate}
use Rattle.std.specs.Prelude.{replicate}
use lib.Lanes.{put_chunk, zip2, chunk}

pub here : (f : ℕ → ℕ → ℕ) (xs us vs : List ℕ) (at k : ℕ) → length us ≡ 4 → length vs ≡ 4 → at + 4 ≤ length xs → at ≤ k → k < at + 4
    → get_or (put_chunk at xs (zip2 f us vs)) k 0 ≡ f (get_or us (k - at) 0) (get_or vs (k - at) 0)
here f xs us vs at k lu lv fits low high =
    let len : length (zip2 f us vs) ≡ 4 = length-zip2 f us vs (lu ∙ sym lv) ∙ lu in
    let index : at + (k - at) ≡ k = omega arith in
    let in_block : k - at < 4 = omega arith in
    let got : get_or (put_chunk at xs (zip2 f us vs)) (at + (k - at)) 0 ≡ get_or (zip2 f us vs) (k - at) 0 =
    get_or-put_chunk_at at xs (zip2 f us vs) (k - at) 0 (omega arith) (omega arith) in
    ap (λ n. get_or (put_chunk at xs (zip2 f us vs)) n 0) (sym index) ∙ got ∙ get_or-zip2 f us vs (k - at) 0 0 0 (omega arith) (omega arith)

pub above : (f : ℕ → ℕ → ℕ) (xs us vs : List ℕ) (at k : ℕ) → length us ≡ 4 → length vs ≡ 4 → at + 4 ≤ k
    → get_or (put_chunk at xs (zip2 f us vs)) k 0 ≡ get_or xs k 0
above f xs us vs at k lu lv high =
    let len : length (zip2 f us vs) ≡ 4 = length-zip2 f us vs (lu ∙ sym lv) ∙ lu in
    get_or-put_chunk_above at xs (zip2 f us vs) k 0 (omega arith)

pub of_chunk : (at k from : ℕ) (xs : List ℕ) → at ≤ k → k < at + 4 → get_or (chunk from 4 xs) (k - at) 0 ≡ get_or xs (from + (k - at)) 0
of_chunk at k from xs low high = get_or-chunk from 4 xs (k - at) 0 (omega arith)

-- two loads at the same index, lane by lane
pub both_here : (f : ℕ → ℕ → ℕ) (xs ys : List ℕ) (at k : ℕ) → at + 4 ≤ length xs → at + 4 ≤ length ys → at ≤ k → k < at + 4
    → get_or (put_chunk at xs (zip2 f (chunk at 4 xs) (chunk at 4 ys))) k 0 ≡ f (get_or xs k 0) (get_or ys k 0)
both_here f xs ys at k rx ry low high =
    let index : at + (k - at) ≡ k = omega arith in
    here f xs (chunk at 4 xs) (chunk at 4 ys) at k (length-chunk at 4 xs rx) (length-chunk at 4 ys ry) rx low high
    ∙ ap (λ a. f a (get_or (chunk at 4 ys) (k - at) 0)) (of_chunk at k at xs low high ∙ ap (λ n. get_or xs n 0) index)
    ∙ ap (λ b. f (get_or xs k 0) b) (of_chunk at k at ys low high ∙ ap (λ n. get_or ys n 0) index)

pub both_above : (f : ℕ → ℕ → ℕ) (xs ys : List ℕ) (at k : ℕ) → at + 4 ≤ length xs → at + 4 ≤ length ys → at + 4 ≤ k
    → get_or (put_chunk at xs (zip2 f (chunk at 4 xs) (chunk at 4 ys))) k 0 ≡ get_or xs k 0
both_above f xs ys at k rx ry high = above f xs (chunk at 4 xs) (chunk at 4 ys) at k (length-chunk at 4 xs rx) (length-chunk at 4 ys ry) high

-- the words moved up by one bit, with what the words below them lend
abbrev pub moved : List ℕ → List ℕ → List ℕ
moved us vs = zip2 (λ a b. bit_or a b) (zip2 (λ a s. a * 2 ^ s % 2 ^ 64) us (replicate 4 1)) (zip2 (λ a s. a / 2 ^ s) vs (replicate 4 63))

pub moved_here : (xs : List ℕ) (at k : ℕ) → 1 ≤ at → at + 4 ≤ length xs → at ≤ k → k < at + 4
    → get_or (put_chunk at xs (moved (chunk at 4 xs) (chunk (at - 1) 4 xs))) k 0
    ≡ bit_or (get_or xs k 0 * 2 ^ 1 % 2 ^ 64) (get_or xs (k - 1) 0 / 2 ^ 63)
moved_here xs at k one fits low high =
    let us : List ℕ = chunk at 4 xs in
    let vs : List ℕ = chunk (at - 1) 4 xs in
    let lu : length us ≡ 4 = length-chunk at 4 xs fits in
    let lv : length vs ≡ 4 = length-chunk (at - 1) 4 xs (omega arith) in
    let shl : ℕ → ℕ → ℕ = λ a s. a * 2 ^ s % 2 ^ 64 in
    let shr : ℕ → ℕ → ℕ = λ a s. a / 2 ^ s in
    let up : List ℕ = zip2 shl us (replicate 4 1) in
    let down : List ℕ = zip2 shr vs (replicate 4 63) in
    let lup : length up ≡ 4 = length-zip2 shl us (replicate 4 1) lu ∙ lu in
    let ldown : length down ≡ 4 = length-zip2 shr vs (replicate 4 63) lv ∙ lv in
    let j : k - at < 4 = omega arith in
    let index : at + (k - at) ≡ k = omega arith in
    let placed : (at - 1) + (k - at) ≡ k - 1 = omega arith in
    let a : get_or up (k - at) 0 ≡ get_or xs k 0 * 2 ^ 1 % 2 ^ 64 =
    get_or-zip2 shl us (replicate 4 1) (k - at) 0 0 0 (omega arith) j
    ∙ ap (λ s. shl (get_or us (k - at) 0) s) (get_or-replicate 4 (k - at) 1 0 j)
    ∙ ap (λ x. shl x 1) (of_chunk at k at xs low high ∙ ap (λ n. get_or xs n 0) index) in
    let b : get_or down (k - at) 0 ≡ get_or xs (k - 1) 0 / 2 ^ 63 =
    get_or-zip2 shr vs (replicate 4 63) (k - at) 0 0 0 (omega arith) j
    ∙ ap (λ s. shr (get_or vs (k - at) 0) s) (get_or-replicate 4 (k - at) 63 0 j)
    ∙ ap (λ x. shr x 63) (of_chunk at k (at - 1) xs low high ∙ ap (λ n. get_or xs n 0) placed) in
    here bit_or xs up down at k lup ldown fits low high
    ∙ ap (λ x. bit_or x (get_or down (k - at) 0)) a ∙ ap (λ y. bit_or (get_or xs k 0 * 2 ^ 1 % 2 ^ 64) y) b

pub moved_above : (xs : List ℕ) (at k : ℕ) → 1 ≤ at → at + 4 ≤ length xs → at + 4 ≤ k
    → get_or (put_chunk at xs (moved (chunk at 4 xs) (chunk (at - 1) 4 xs))) k 0 ≡ get_or xs k 0
moved_above xs at k one fits high =
    let us : List ℕ = chunk at 4 xs in
    let vs : List ℕ = chunk (at - 1) 4 xs in
    let lu : length us ≡ 4 = length-chunk at 4 xs fits in
    let lv : length vs ≡ 4 = length-chunk (at - 1) 4 xs (omega arith) in
    let shl : ℕ → ℕ → ℕ = λ a s. a * 2 ^ s % 2 ^ 64 in
    let shr : ℕ → ℕ → ℕ = λ a s. a / 2 ^ s in
    above bit_or xs (zip2 shl us (replicate 4 1)) (zip2 shr vs (replicate 4 63)) at k
    (length-zip2 shl us (replicate 4 1) lu ∙ lu) (length-zip2 shr vs (replicate 4 63) lv ∙ lv) high
