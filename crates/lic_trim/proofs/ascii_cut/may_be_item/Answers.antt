use Rattle.std.proofs.Common.{◌≡◌, ◌∙◌, ◌-◌, ◌||◌, ◌==◌, Bool, true, false, inr, sym, ap, length, take, get_or, refl, arith}
use Rattle.std.specs.Char.{is_ascii_digit}
use Rattle.std.proofs.lemmas.Bool.{false≢true}
use Rattle.std.proofs.lemmas.List.{length-take-le, get_or-take}
use Rattle.lic_trim.proofs.NoItems.{no_item_form}
use Rattle.lic_trim.proofs.ascii_cut.may_be_item.Goals as goal

pub returns : goal.returns
returns c = λ off.
    let word = c.args.word.now in
    let n = length word - 1 in
    let first : get_or (take n word) 0 0 ≡ get_or word 0 0 = get_or-take n word 0 0 (omega arith) in
    let none : ((get_or word 0 0 == 0x28) || is_ascii_digit (get_or word 0 0)) ≡ false = sym c.begins_item.ensures ∙ off in
    no_item_form word (omega arith)
    (inr (record {
      long = omega (arith, length-take-le n word (omega arith));
      no_digit = ap is_ascii_digit first ∙ right (get_or word 0 0 == 0x28) (is_ascii_digit (get_or word 0 0)) none;
      no_parenthesis = ap (λ b. b == 0x28) first ∙ left (get_or word 0 0 == 0x28) (is_ascii_digit (get_or word 0 0)) none;
    }))
  where
    left : (a b : Bool) → (a || b) ≡ false → a ≡ false
    left false b h = refl
    left true b h = h

    right : (a b : Bool) → (a || b) ≡ false → b ≡ false
    right false b h = h
    right true b h = absurd (false≢true (sym h))
