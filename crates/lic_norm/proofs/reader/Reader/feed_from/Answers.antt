use Rattle.std.proofs.Common.{◌≡◌, ◌≢◌, ◌+◌, ◌++◌, ◌≤◌, ℕ, [], All, length, ap, subst, ◌∙◌, arith, append-nil, length-append}
use Rattle.std.proofs.lemmas.Grind.{common_steps}
use Rattle.lic_norm.specs.Refusal.{max_bytes}
use Rattle.lic_norm.specs.declared.fault.TextFault.{TextFault}
use Rattle.lic_norm.proofs.FromInput.{long_refusal, open_part, refusal_of_memory, refusal_of_read, same_refusal, short_refusal}
use Rattle.lic_norm.proofs.reader.Reader.feed_from.Goals as goal

pub returns-in_err-count-clause-refused : goal.returns-in_err-count-clause-refused
returns-in_err-count-clause-refused g c = λ fault is.
    let old = c.args.self.now.source.items in
    let same = append-nil old in
    let short : length (old ++ []) ≤ max_bytes = omega (arith, ap length same, c.requires.short) in (
      [],
      c.in_err-count.ensures.none,
      omega (arith, short),
      short_refusal fault (old ++ []) (refusal_of_read c.in_err-count.field-0.0 c.from_residual.result fault c.from_residual.ensures.1 is) short,
    )

pub returns-then-len-gt-MAX_BYTES-clause-refused : goal.returns-then-len-gt-MAX_BYTES-clause-refused
returns-then-len-gt-MAX_BYTES-clause-refused g c = λ fault is.
    let old = c.args.self.now.source.items in
    let read = c.in_ok-count.ensures.bytes in
    let more = read.0 in
    let whole : c.len-searched.result ≡ length old = grind (arith, common_steps) in
    let all : length c.pull_into.new.bytes.items ≡ length old + length more = ap length read.3 ∙ length-append old more in
    let now : c.len.result ≡ length c.pull_into.new.bytes.items = grind (arith, common_steps) in (
      more,
      read.1,
      omega (arith, length-append old more, read.2, c.in_ok-count.ensures.bound, whole),
      long_refusal fault (old ++ more) (same_refusal {A = ℕ} TextFault.TooLong fault is)
          (omega (arith, length-append old more, all, now, c.if-len-gt-MAX_BYTES.true)),
    )

pub take_new-requires-clause-searched : goal.take_new-requires-clause-searched
take_new-requires-clause-searched g c =
    let old = c.args.self.now.source.items in
    let read = c.in_ok-count.ensures.bytes in
    let whole : c.len-searched.result ≡ length old = grind (arith, common_steps) in
    subst (All (λ b. b ≢ 10))
    (open_part old read.0 c.pull_into.new.bytes.items c.args.self.now.line_start c.len-searched.result c.requires.read.read.within whole read.3)
    c.requires.read.open_line

pub returns-in_err-take_new-clause-refused : goal.returns-in_err-take_new-clause-refused
returns-in_err-take_new-clause-refused g c = λ fault is.
    let old = c.args.self.now.source.items in
    let read = c.in_ok-count.ensures.bytes in
    let more = read.0 in
    let now : c.len.result ≡ length c.pull_into.new.bytes.items = grind (arith, common_steps) in
    let short : length (old ++ more) ≤ max_bytes = omega (arith, ap length read.3, now, c.if-len-gt-MAX_BYTES.false) in (
      more,
      read.1,
      omega (arith, short),
      short_refusal fault (old ++ more) (refusal_of_memory c.from_residual-in_err-take_new.result fault c.from_residual-in_err-take_new.ensures.1 is) short,
    )
