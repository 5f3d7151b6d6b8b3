-- The places are those at which the letters of the text end.
use Rattle.std.proofs.Common.{arith, subst, sym}
use Rattle.lic_literals.specs.Ends.{EndsAt}
use Rattle.lic_search.proofs.last_text.last_ends.Goals as goal

pub returns : goal.returns
returns c = (
  record {
    letters = c.in-Some.text.letters.now;
    text = c.in-Some.ensures;
    all = λ e ends.
        let here : EndsAt c.bytes-bytes.result.now c.in-Some.text.letters.now e = subst (λ x. EndsAt x c.in-Some.text.letters.now e) (sym c.bytes-bytes.ensures) ends in
        (c.in_ok-places.ensures.exact e).1 (omega arith, here.within, here);
  },
  c.in_ok-places.ensures.rising,
)
