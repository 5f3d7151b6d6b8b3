use Rattle.std.proofs.Common.{rules, ◌<◌, length}
use Rattle.lic_markup.specs.FirstFaults.IsFaultOf.{too_long}
use Rattle.lic_load.proofs.templates.template_in.Goals as goal

pub returns-then-bytes-gt-MAX_BYTES-clause-refused : goal.returns-then-bytes-gt-MAX_BYTES-clause-refused
returns-then-bytes-gt-MAX_BYTES-clause-refused c = λ lasting.
    let long : 1048576 < length c.args.bytes.now = search rules in
    too_long long
