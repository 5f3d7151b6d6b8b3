use Rattle.std.proofs.Common.{◌≡◌, ℕ, ◌-◌, ◌++◌, length, take, drop, replicate, ap, sym, ◌∙◌, arith, rules}
use Rattle.std.proofs.Math.Seq.{take-add}
use Rattle.std.proofs.lemmas.List.{length-drop, take-take, take_at, take_rest, take-append-drop}
use Rattle.lic_columns.specs.Known.{known_of, followed_by}
use Rattle.lic_columns.proofs.KnownLemmas.{known_of-append}
use Rattle.lic_columns.proofs.columns.Columns.read.Goals as goal

pub loop-at-preserved : goal.loop-at-preserved
loop-at-preserved c =
    let bytes = c.args.bytes.now in
    let at : ℕ = c.loop-at.at in
    let step : c.push_block.new.self ≡ followed_by c.loop-at.self (known_of (take 64 (take 64 (drop at bytes)))) = search rules in (
      omega (arith, c.loop-at.invariant.0, c.loop-at-test.true),
      omega (arith, c.loop-at.invariant.1),
      step ∙ ap (λ l. followed_by c.loop-at.self (known_of l)) (take-take 64 64 (drop at bytes) (omega arith))
          ∙ ap (λ k. followed_by k (known_of (take 64 (drop at bytes)))) c.loop-at.invariant.2
          ∙ known_of-append (take at bytes) (take 64 (drop at bytes))
          ∙ ap known_of (sym (take-add at 64 bytes)),
    )

pub returns-in_ok-push_block-2 : goal.returns-in_ok-push_block-2
returns-in_ok-push_block-2 c =
    let bytes = c.args.bytes.now in
    let at : ℕ = c.loop-at.at in
    let count : ℕ = length bytes - at in
    let rest = take count (drop at bytes) in
    let whole : rest ≡ drop at bytes = take_rest bytes at in
    let block : c.padded.result ≡ rest ++ replicate (64 - length rest) 32 = c.padded.ensures in
    let step : c.push_block-then-at-bytes.new.self ≡ followed_by c.loop-at.self (known_of (take count c.padded.result)) = search rules in
    step ∙ ap (λ l. followed_by c.loop-at.self (known_of (take count l))) block
    ∙ ap (λ l. followed_by c.loop-at.self (known_of l)) (take_at rest (replicate (64 - length rest) 32) count (ap length whole ∙ length-drop at bytes) ∙ whole)
    ∙ ap (λ k. followed_by k (known_of (drop at bytes))) c.loop-at.invariant.2
    ∙ known_of-append (take at bytes) (drop at bytes) ∙ ap known_of (take-append-drop at bytes)
