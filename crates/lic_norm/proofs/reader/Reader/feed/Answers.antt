use Rattle.std.proofs.Common.{◌<◌, ◌++◌, length, arith, length-append}
use Rattle.lic_norm.specs.Refusal.{max_bytes}
use Rattle.lic_norm.proofs.Refused.{refused_unless_memory}
use Rattle.lic_norm.proofs.reader.Reader.feed.Goals as goal

pub returns-then-bytes-searched-clause-refused : goal.returns-then-bytes-searched-clause-refused
returns-then-bytes-searched-clause-refused c = λ not_memory.
    let source = c.args.self.now.source in
    let long : max_bytes < length (source.items ++ c.args.bytes.now) =
    omega (arith, length-append source.items c.args.bytes.now, c.if-bytes-searched.true, c.len-searched.ensures, source.ok, c.requires.short) in
    refused_unless_memory (source.items ++ c.args.bytes.now) _ long not_memory
