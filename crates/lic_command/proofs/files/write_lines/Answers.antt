use Rattle.lic_kind.specs.LineRules.{rules_of}
use Rattle.lic_norm.specs.Tokens.{tokens_of}
use Rattle.lic_engine.specs.Report.{token_lines}
use Rattle.lic_command.proofs.LineLemmas.{whole_lines, part_lines}
use Rattle.lic_command.proofs.files.write_lines.Goals as goal

pub returns-in-Scan-clause-report : goal.returns-in-Scan-clause-report
returns-in-Scan-clause-report g c = rw c.in-Scan.is c.run.ensures.report

pub returns-in-Scan-clause-part : goal.returns-in-Scan-clause-part
returns-in-Scan-clause-part g c = rw c.in-Scan.is c.run.ensures.part

pub returns-in-Tokens-clause-report : goal.returns-in-Tokens-clause-report
returns-in-Tokens-clause-report g c =
    rw c.in-Tokens.is
    (whole_lines _ _ _ _ (λ bytes. token_lines c.args.name.now (tokens_of (rules_of c.in-Tokens.rules.now) c.in-Tokens.words.now bytes)) c.run_tokens.result
    c.run_tokens.ensures.report)

pub returns-in-Tokens-clause-part : goal.returns-in-Tokens-clause-part
returns-in-Tokens-clause-part g c =
    rw c.in-Tokens.is
    (λ fault is which.
    part_lines _ _ _ _ (λ bytes. token_lines c.args.name.now (tokens_of (rules_of c.in-Tokens.rules.now) c.in-Tokens.words.now bytes))
    (c.run_tokens.ensures.part fault is which))

pub returns-in-Scan-clause-refused : goal.returns-in-Scan-clause-refused
returns-in-Scan-clause-refused g c = c.run.ensures.refused

pub returns-in-Scan-clause-memory : goal.returns-in-Scan-clause-memory
returns-in-Scan-clause-memory g c = c.run.ensures.memory

pub returns-in-Scan-clause-keeps : goal.returns-in-Scan-clause-keeps
returns-in-Scan-clause-keeps g c = c.run.ensures.keeps

pub returns-in-Scan-clause-reads : goal.returns-in-Scan-clause-reads
returns-in-Scan-clause-reads g c = c.run.ensures.reads

pub returns-in-Scan-clause-writes : goal.returns-in-Scan-clause-writes
returns-in-Scan-clause-writes g c = c.run.ensures.writes

pub returns-in-Tokens-clause-refused : goal.returns-in-Tokens-clause-refused
returns-in-Tokens-clause-refused g c = c.run_tokens.ensures.refused

pub returns-in-Tokens-clause-memory : goal.returns-in-Tokens-clause-memory
returns-in-Tokens-clause-memory g c = c.run_tokens.ensures.memory

pub returns-in-Tokens-clause-keeps : goal.returns-in-Tokens-clause-keeps
returns-in-Tokens-clause-keeps g c = c.run_tokens.ensures.keeps

pub returns-in-Tokens-clause-reads : goal.returns-in-Tokens-clause-reads
returns-in-Tokens-clause-reads g c = c.run_tokens.ensures.reads

pub returns-in-Tokens-clause-writes : goal.returns-in-Tokens-clause-writes
returns-in-Tokens-clause-writes g c = c.run_tokens.ensures.writes
