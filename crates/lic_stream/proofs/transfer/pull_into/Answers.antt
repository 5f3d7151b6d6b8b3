use Rattle.std.proofs.Common.{◌≡◌, ℕ, ◌+◌, ◌-◌, ◌≤◌, List, ◌++◌, length, take, drop, sym, ap, ap₂, ◌∙◌, arith, take_all, length-append, length-drop, replicate}
use Rattle.std.proofs.Math.Seq.{take-append-add}
use Rattle.std.proofs.lemmas.Grind.{common_steps}
use Rattle.std.proofs.lemmas.List.{length-take-le, take-append-le, take_at, with_items_is}
use borrow.Rule.Slice.PartMut.{put_mid}
use Rattle.lic_stream.proofs.transfer.pull_into.Goals as goal

-- what was read over the bytes from an offset on
read_over : (bytes buf : List ℕ) (a k n : ℕ) → a ≤ length bytes → n ≤ length buf → take (a + n) (put_mid a k bytes buf) ≡ take a bytes ++ take n buf
read_over bytes buf a k n fits short =
    ap (λ m. take (m + n) (put_mid a k bytes buf)) (sym (length-take-le a bytes fits))
    ∙ (take-append-add (take a bytes) _ n ∙ ap (λ l. take a bytes ++ l) (take-append-le n buf _ short))

put_long : (bytes mid : List ℕ) (a k : ℕ) → a ≤ length bytes → length (put_mid a k bytes mid) ≡ a + (length mid + (length bytes - a - k))
put_long bytes mid a k fits =
    length-append (take a bytes) _
    ∙ ap₂ (λ x y. x + y) (length-take-le a bytes fits)
    (length-append mid _ ∙ ap (λ n. length mid + n) (length-drop k (drop a bytes) ∙ ap (λ n. n - k) (length-drop a bytes)))

pub returns-in-Ok-clause-bytes : goal.returns-in-Ok-clause-bytes
returns-in-Ok-clause-bytes g c =
    let old = c.args.bytes.now.items in
    let buf = c.pull.new.buf in
    let n = c.in-Ok.n in
    let len = c.len-len.result in
    let all = c.deref_mut.result.now in
    let whole : len ≡ length old = grind (arith, common_steps) in
    let grown : length all ≡ len + c.min.result = omega (arith, c.deref_mut.ensures.len, c.resize.ensures.len, c.in_ok-resize.ensures.len) in
    let fits : len ≤ length all = omega (arith, grown) in
    let held = with_items_is c.resize.new.self (put_mid len (length all - len) all buf)
    (omega (arith, put_long all buf len (length all - len) fits, c.pull.auto, c.deref_mut.ensures.len, grown)) in
    let added : c.resize.new.self.items ≡ take (len + c.min.result) old ++ replicate (len + c.min.result - length old) 0 = grind (arith, common_steps) in
    let front : take len all ≡ old =
    ap (take len) (c.deref_mut.ensures.value ∙ (added ∙ ap (λ l. l ++ replicate (len + c.min.result - length old) 0) (take_all (len + c.min.result) old (omega (arith, whole)))))
    ∙ take_at old (replicate (len + c.min.result - length old) 0) len (sym whole) in (
      take n buf,
      c.in-Ok.ensures.bytes.0,
      sym (length-take-le n buf c.in-Ok.ensures.bound.0),
      c.truncate.ensures.items ∙ (ap (take (len + n)) held ∙ (read_over all buf len (length all - len) n fits c.in-Ok.ensures.bound.0 ∙ ap (λ l. l ++ take n buf) front)),
    )
