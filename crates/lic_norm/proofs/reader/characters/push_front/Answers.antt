use Rattle.std.proofs.Common.{◌++◌, ap, ◌∙◌, arith}
use Rattle.lic_trim.specs.Sources.{without_dropped}
use Rattle.lic_norm.specs.Sources.{source_of}
use Rattle.lic_norm.proofs.FrontChars.{text_read, byte_read}
use Rattle.std.proofs.Common.{length, drop, ◌+◌}
use Rattle.lic_norm.proofs.reader.characters.push_front.Goals as goal

pub returns-then-length-bytes-clause-added : goal.returns-then-length-bytes-clause-added
returns-then-length-bytes-clause-added c =
    let text = c.valid_prefix-text in
    text_read c.args.characters.now.items c.push_text.new.characters.items c.args.at c.args.bytes.now text.result.now text.utf8 text.ensures.within text.ensures.front c.in_ok-push_text.ensures

pub returns-clause-added : goal.returns-clause-added
returns-clause-added c =
    let text = c.valid_prefix-text in
    let bytes = c.args.bytes.now in
    let n = length text.result.now in
    ap (λ l. l ++ without_dropped (source_of (c.args.at + (n + 1)) (drop (n + 1) bytes))) c.in_ok-push.ensures.items
    ∙ byte_read c.push_text.new.characters.items c.args.at n bytes (omega (arith, text.ensures.within, c.if-length-bytes.false)) text.ensures.longest
    ∙ text_read c.args.characters.now.items c.push_text.new.characters.items c.args.at bytes text.result.now text.utf8 text.ensures.within text.ensures.front c.in_ok-push_text.ensures
