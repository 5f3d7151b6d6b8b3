-- The loop that gathers marks over blanks.
use Rattle.std.proofs.Common.{◌≡◌, ℕ, zero, suc, ◌≤◌, Bool, true, false, List, refl, sym, ap, ◌∙◌, subst, arith}
use Rattle.lic_words.specs.Words.{blank}
use Rattle.lic_marks.specs.Cores.{Core}
use Rattle.lic_marks.specs.Marks.{Marks, join, shift}
use Rattle.lic_marks.specs.Rows.{weight, marks_of}
use Rattle.lic_marks.specs.Deciding.{has_new, gather, over_blanks}
use Rattle.lic_marks.proofs.Deciding.{unmarked, unmarked-bound, join-same, join-grows, stopped}

-- gathered on, the marks are all of these
pub record GathersTo (r : Core) (all marks : Marks r) : Type 0 where
  pub times : ℕ
  pub enough : unmarked r marks ≤ times
  pub rest : all ≡ gather times true r marks

module _ (r : Core) (all m : Marks r) where
  abbrev next : Marks r
  next = shift r true false m blank

  -- one blank more that marks a new position
  grown : has_new r m next ≡ true → (n : ℕ) → unmarked r m ≤ n → all ≡ gather n true r m → GathersTo r all (join r m next)
  grown h zero k e = absurd (omega (arith, join-grows r m next h, k))
  grown h (suc n) k e = record {
    times = n;
    enough = omega (arith, join-grows r m next h, k);
    rest = e ∙ ap (λ b. gather n b r (join r m next)) h;
  }

  more : (b : Bool) → has_new r m next ≡ b → GathersTo r all m → GathersTo r all (join r m next)
  more true h g = grown h g.times g.enough g.rest
  more false h g = subst (λ (x : Marks r). GathersTo r all x) (sym (join-same r m next h)) g

  -- one blank more
  pub GathersTo-more : GathersTo r all m → GathersTo r all (join r m next)
  GathersTo-more g = more (has_new r m next) refl g

  none_new : (b : Bool) → has_new r m next ≡ b → join r m next ≡ m → has_new r m next ≡ false
  none_new true h e =
      let same : unmarked r (join r m next) ≡ unmarked r m = ap (unmarked r) e in
      absurd (omega (arith, join-grows r m next h, same))
  none_new false h e = h

  ended : (n : ℕ) → has_new r m next ≡ false → gather n true r m ≡ m
  ended zero h = refl
  ended (suc n) h = ap (λ b. gather n b r (join r m next)) h ∙ stopped r n (join r m next) ∙ join-same r m next h

  -- one blank more marks nothing new
  pub GathersTo-done : GathersTo r all m → join r m next ≡ m → all ≡ m
  GathersTo-done g e = g.rest ∙ ended g.times (none_new (has_new r m next) refl e)

-- the first blank
pub GathersTo-begin : (r : Core) (entry : Bool) (at_once copy after_blanks : List Bool) → copy ≡ at_once →
    marks_of r after_blanks ≡ shift r false entry (marks_of r copy) blank → GathersTo r (over_blanks r entry (marks_of r at_once)) (marks_of r after_blanks)
GathersTo-begin r entry at_once copy after_blanks e p =
    let same : marks_of r after_blanks ≡ shift r false entry (marks_of r at_once) blank = p ∙ ap (λ t. shift r false entry (marks_of r t) blank) e in
    record { times = weight r; enough = unmarked-bound r (marks_of r after_blanks); rest = ap (gather (weight r) true r) (sym same) }

-- one blank more, joined
module _ (r : Core) (all : Marks r) (after_blanks copy spare row : List Bool) (e : copy ≡ after_blanks)
    (p : marks_of r spare ≡ shift r true false (marks_of r copy) blank) (w : marks_of r row ≡ join r (marks_of r after_blanks) (marks_of r spare)) where
  joined : marks_of r row ≡ join r (marks_of r after_blanks) (shift r true false (marks_of r after_blanks) blank)
  joined = w ∙ ap (join r (marks_of r after_blanks)) (p ∙ ap (λ t. shift r true false (marks_of r t) blank) e)

  pub GathersTo-next : GathersTo r all (marks_of r after_blanks) → GathersTo r all (marks_of r row)
  GathersTo-next g = subst (λ (y : Marks r). GathersTo r all y) (sym joined) (GathersTo-more r all (marks_of r after_blanks) g)

  pub GathersTo-end : GathersTo r all (marks_of r after_blanks) → row ≡ after_blanks → all ≡ marks_of r row
  GathersTo-end g same =
      GathersTo-done r all (marks_of r after_blanks) g (sym joined ∙ ap (marks_of r) same) ∙ ap (marks_of r) (sym same)
