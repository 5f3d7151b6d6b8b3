use Rattle.std.proofs.Common.{get_or, refl}
use Rattle.lic_reverse.proofs.LeadBytes.{letter-ends}
use Rattle.lic_reverse.proofs.letters.streak.letter_end.Goals as goal

pub returns : goal.returns
returns c = λ end letter occurs.
    let bytes = c.args.bytes.now in
    letter-ends bytes c.args.place end letter (get_or bytes c.args.place 0) c.letter_length.result refl c.letter_length.ensures.length occurs
