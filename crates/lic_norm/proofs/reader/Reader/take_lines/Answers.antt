use Rattle.std.proofs.Common.{◌≢◌, ◌+◌, ◌<◌, All, length, drop, Some, None, ap, sym, subst, arith}
use Rattle.memchr.specs.Find.{IsLastByte, is_byte}
use Rattle.lic_norm.proofs.ReaderLemmas.{has_ended, last_within, no_more_ends, none_later, searched_rest}
use Rattle.lic_norm.proofs.reader.Reader.take_lines.Goals as goal

pub returns-in_default-clause-read : goal.returns-in_default-clause-read
returns-in_default-clause-read c =
    let self = c.args.self.now in
    let source = self.source.items in
    let none : IsLastByte (is_byte 0x0A) (drop c.args.from source) None =
    subst (λ l. IsLastByte (is_byte 0x0A) l None) (searched_rest c.deref.result.now source c.args.from c.deref.ensures.value) c.in_default.ensures in
    record { read = c.requires.read; open_line = no_more_ends source self.line_start c.args.from c.requires.order c.requires.searched none }

pub overflow_add-last : goal.overflow_add-last
overflow_add-last c =
    let source = c.args.self.now.source.items in
    let found : IsLastByte (is_byte 0x0A) (drop c.args.from source) (Some c.in-Some.offset) =
    subst (λ l. IsLastByte (is_byte 0x0A) l (Some c.in-Some.offset))
    (searched_rest c.deref.result.now source c.args.from c.deref.ensures.value) c.in-Some.ensures in
    omega (arith, last_within source c.args.from c.in-Some.offset found, c.requires.fits)

pub take_next-requires-clause-fits : goal.take_next-requires-clause-fits
take_next-requires-clause-fits c = omega (arith, c.requires.fits, ap length c.loop-self.invariant.source)

pub take_next-requires-clause-ended : goal.take_next-requires-clause-ended
take_next-requires-clause-ended c =
    let source = c.args.self.now.source.items in
    let at = c.loop-self.self.line_start in
    let found : IsLastByte (is_byte 0x0A) (drop c.args.from source) (Some c.in-Some.offset) =
    subst (λ l. IsLastByte (is_byte 0x0A) l (Some c.in-Some.offset))
    (searched_rest c.deref.result.now source c.args.from c.deref.ensures.value) c.in-Some.ensures in
    λ none. has_ended source c.args.from c.in-Some.offset found at c.loop-self-test.true
    (subst (λ l. All (λ b. b ≢ 0x0A) (drop at l)) c.loop-self.invariant.source none)

pub returns-clause-read : goal.returns-clause-read
returns-clause-read c =
    let source = c.args.self.now.source.items in
    let at = c.loop-self.self.line_start in
    let found : IsLastByte (is_byte 0x0A) (drop c.args.from source) (Some c.in-Some.offset) =
    subst (λ l. IsLastByte (is_byte 0x0A) l (Some c.in-Some.offset))
    (searched_rest c.deref.result.now source c.args.from c.deref.ensures.value) c.in-Some.ensures in
    let later : c.args.from + c.in-Some.offset < at = omega (arith, c.loop-self-test.false) in
    record {
      read = c.loop-self.invariant.read;
      open_line = subst (λ l. All (λ b. b ≢ 0x0A) (drop at l)) (sym c.loop-self.invariant.source)
          (none_later source c.args.from c.in-Some.offset found at later);
    }
