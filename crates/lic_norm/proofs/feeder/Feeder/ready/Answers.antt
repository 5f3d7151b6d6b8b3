use Rattle.std.proofs.Common.{◌≡◌, ◌≤◌, ◌+◌, length, ap, sym, subst, ◌∙◌}
use Rattle.lic_norm.specs.Feeding.{lines_read}
use Rattle.lic_norm.specs.Tokens.{tokens_of}
use Rattle.lic_norm.proofs.ReaderLemmas.{seen_first, seen_nearly_all}
use Rattle.lic_norm.proofs.feeder.Feeder.ready.Goals as goal

pub returns-in-None-clause-settled : goal.returns-in-None-clause-settled
returns-in-None-clause-settled c = λ none.
    let f = c.self.inside in
    let same = c.self.view_is in
    seen_first c.args.self.now f.reader f.refused (ap (λ v. v.bytes) same)
    (c.self.invariant.0 ∙ ap (λ v. v.words) same) (ap (λ v. v.rules) same) (ap (λ v. v.tokens) same) c.in-None.is
    (c.self.invariant.1 c.in-None.is).0

pub returns-in-None-clause-nearly : goal.returns-in-None-clause-nearly
returns-in-None-clause-nearly c = λ none.
    let f = c.self.inside in
    let same = c.self.view_is in
    let count : c.len.result ≡ length f.reader.rewriting.tokens = c.len.ensures ∙ ap length c.settled.ensures in
    subst (λ n. length (tokens_of c.args.self.now.rules c.args.self.now.words (lines_read c.args.self.now.bytes)) ≤ n + 12) (sym count)
    (seen_nearly_all c.args.self.now f.reader f.refused (ap (λ v. v.bytes) same)
    (c.self.invariant.0 ∙ ap (λ v. v.words) same) (ap (λ v. v.rules) same)
    (ap (λ v. v.tokens) same) c.in-None.is (c.self.invariant.1 c.in-None.is).0)
