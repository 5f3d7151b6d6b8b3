use Rattle.std.proofs.Common.{◌≡◌, length, drop, map, ap, ap₂, subst, ◌∙◌, arith, take_all}
use Rattle.std.specs.List.{slice_range}
use Rattle.lic_kind.specs.LineRules.{rules_of}
use Rattle.lic_phrases.specs.Rewriting.{rewritten}
use Rattle.lic_norm.specs.LineEnds.{IsFirstLine}
use Rattle.lic_tokens.specs.Tokens.{reported}
use Rattle.lic_norm.specs.Tokens.{first_tokens_of}
use Rattle.lic_norm.proofs.ReaderLemmas.{last_line}
use Rattle.lic_norm.proofs.reader.Reader.finish.Goals as goal

pub take_line-requires-clause-line : goal.take_line-requires-clause-line
take_line-requires-clause-line c =
    let source = c.args.self.source.items in
    let at = c.args.self.line_start in
    let end : length source ≡ c.len-end.result = omega (arith, c.len-end.ensures, c.args.self.source.ok) in
    subst (λ n. IsFirstLine (slice_range source at n) (drop n source)) end (last_line source at c.requires.read.read.within c.requires.read.open_line)

pub returns-clause-tokens : goal.returns-clause-tokens
returns-clause-tokens c =
    let source = c.args.self.source.items in
    let end : c.len-end.result ≡ length source = omega (arith, c.len-end.ensures, c.args.self.source.ok) in
    c.in_ok-tokens.ensures _ c.in_ok-take_line.ensures.taken
    ∙ ap₂ (λ words bytes. map reported (rewritten words (first_tokens_of (rules_of c.args.self.rules.now) 0 bytes)))
    (ap (λ p. p.phrases) c.take_line.ensures.words) (take_all c.len-end.result source (omega (arith, end)))

pub returns-then-end-gt-MAX_KEPT-clause-tokens : goal.returns-then-end-gt-MAX_KEPT-clause-tokens
returns-then-end-gt-MAX_KEPT-clause-tokens c =
    let source = c.args.self.source.items in
    let end : c.len-end.result ≡ length source = omega (arith, c.len-end.ensures, c.args.self.source.ok) in
    c.in_ok-tokens.ensures _ c.in_ok-take_line.ensures.taken
    ∙ ap₂ (λ words bytes. map reported (rewritten words (first_tokens_of (rules_of c.args.self.rules.now) 0 bytes)))
    (ap (λ p. p.phrases) c.take_line.ensures.words) (take_all c.len-end.result source (omega (arith, end)))
