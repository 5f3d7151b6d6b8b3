use Rattle.std.proofs.Common.{◌≡◌, ◌∷◌, [], subst, take_all}
use Rattle.std.proofs.lemmas.List.Elements.{All-more}
use Rattle.lic_fields.specs.Fields.{ArePlain, escaped_byte}
use Rattle.lic_fields.proofs.PlainBytes.{first-false, second-false}
use Rattle.lic_fields.proofs.has_escaped.Goals as goal

pub loop-byte-preserved : goal.loop-byte-preserved
loop-byte-preserved c none =
    All-more (λ b. escaped_byte b ≡ b ∷ []) c.args.bytes.now c.loop-byte.byte-index 0 c.loop-byte-test.true
    (c.loop-byte.invariant (first-false c.loop-byte.found _ none))
    (c.may_be_escaped-found.ensures (second-false c.loop-byte.found _ none))

pub returns : goal.returns
returns c none = subst ArePlain (take_all c.loop-byte.byte-index c.args.bytes.now c.loop-byte-test.false) (c.loop-byte.invariant none)
