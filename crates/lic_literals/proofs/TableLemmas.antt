-- A window more in a table, and what is noted of windows as the bytes are gone through.
use Rattle.std.proofs.Common.{Bool, ◌≡◌, ℕ, ◌+◌, ◌-◌, ◌<◌, ◌≤◌, true, false, cond, List, [], ◌∷◌, Option, None, Some, length, refl, sym, ap, ◌∙◌, subst, arith}
use Rattle.std.specs.HashMap.{hash_map_len}
use Rattle.std.specs.Map.{lookup}
use Rattle.std.specs.Str.{bytes_eq}
use Rattle.std.proofs.lemmas.Bool.{cases_Bool, cases_lt, cond-false, cond-true}
use Rattle.std.proofs.lemmas.Option.{none-some, same_Some}
use Rattle.std.proofs.lemmas.Slice.Eq.{bytes_eq-Decides}
use Rattle.std.proofs.Math.Logic.{⊎_elim}
use Rattle.memchr.specs.Find.{OccursAt}
use Rattle.lic_literals.specs.Hits.{IsNoted}
use Rattle.lic_literals.specs.Sizes.{AreSizes, gram_at}
use Rattle.lic_literals.specs.Tables.{AddsWindow, HasWindow, IsFlagged, FlagsWindow, NotesWhere, number_of}
use Rattle.lic_literals.specs.declared.hits.Hits.{Hits}
use Rattle.lic_literals.specs.declared.tables.table.Table.{Table}
use Rattle.lic_literals.proofs.GramLemmas.{part_of_occurrence}

module _ {LENGTH GRAM STEP : ℕ} (window : List ℕ) (given : ℕ) (old new : Table LENGTH GRAM STEP) where
  -- the window has a number already
  pub adds_known : (answer : ℕ) → FlagsWindow window old new → length window ≡ LENGTH → number_of new window ≡ Some answer →
      AddsWindow window given answer old new
  adds_known answer flags size known = record {
    added = record { size = size; numbered = known; flagged = flags.flagged };
    kept = λ w i h. record {
      size = h.size;
      numbered = flags.numbers w ∙ h.numbered;
      flagged = λ start within. flags.kept (gram_at GRAM w start) start (h.flagged start within);
    };
    below = λ all w i is. let less : i < given = all w i (sym (flags.numbers w) ∙ is) in omega arith;
  }

-- the window gets a number
module _ {LENGTH GRAM STEP : ℕ} (window : List ℕ) (given : ℕ) (old new : Table LENGTH GRAM STEP) (before : List ℕ → Option ℕ)
    (flags : (start : ℕ) → start < STEP → IsFlagged new (gram_at GRAM window start) start)
    (stay : (gram : List ℕ) (start : ℕ) → IsFlagged old gram start → IsFlagged new gram start)
    (was : (w : List ℕ) → number_of old w ≡ before w) (size : length window ≡ LENGTH) (absent : before window ≡ None)
    (updates : (w : List ℕ) → number_of new w ≡ cond (bytes_eq window w) (Some given) (before w)) where
  same_number : (w : List ℕ) → bytes_eq window w ≡ false → number_of new w ≡ before w
  same_number w other = updates w ∙ cond-false (bytes_eq window w) (Some given) (before w) other

  new_number : (w : List ℕ) → bytes_eq window w ≡ true → number_of new w ≡ Some given
  new_number w same = updates w ∙ cond-true (bytes_eq window w) (Some given) (before w) same

  pub adds_new : AddsWindow window given given old new
  adds_new = record {
    added = record { size = size; numbered = new_number window ((bytes_eq-Decides window window).1 refl); flagged = flags };
    kept = λ w i h. record {
      size = h.size;
      numbered =
          ⊎_elim
          (λ (same : bytes_eq window w ≡ true).
          let known : before window ≡ Some i = ap before ((bytes_eq-Decides window w).0 same) ∙ sym (was w) ∙ h.numbered in
          absurd (none-some i (sym absent ∙ known)))
          (λ (other : bytes_eq window w ≡ false). same_number w other ∙ sym (was w) ∙ h.numbered)
          (cases_Bool (bytes_eq window w));
      flagged = λ start within. stay (gram_at GRAM w start) start (h.flagged start within);
    };
    below = λ all w i is.
        ⊎_elim
        (λ (same : bytes_eq window w ≡ true). let here : given ≡ i = same_Some given i (sym (new_number w same) ∙ is) in omega arith)
        (λ (other : bytes_eq window w ≡ false). let less : i < given = all w i (was w ∙ sym (same_number w other) ∙ is) in omega arith)
        (cases_Bool (bytes_eq window w));
  }

module _ {LENGTH GRAM STEP : ℕ} (table : Table LENGTH GRAM STEP) (bytes : List ℕ) (sizes : AreSizes LENGTH GRAM STEP) where
  -- of the first grams of a window that is in the bytes, the one at this offset is flagged
  pub gram_flagged : (w : List ℕ) (i p offset : ℕ) → HasWindow table w i → OccursAt bytes w p → p ≤ offset → offset < p + STEP →
      IsFlagged table (gram_at GRAM bytes offset) (offset - p)
  gram_flagged w i p offset has occurs begins late =
      let d : ℕ = offset - p in
      let here : p + d ≡ offset = omega arith in
      let gram : gram_at GRAM w d ≡ gram_at GRAM bytes offset =
      part_of_occurrence bytes w p d GRAM occurs (omega (arith, sizes.fits, has.size)) ∙ ap (gram_at GRAM bytes) here in
      subst (λ gr. IsFlagged table gr d) gram (has.flagged d (omega arith))

  -- those that begin late enough before an offset
  abbrev pub IsLate : ℕ → ℕ → ℕ → Type 0
  IsLate offset back p = (p ≤ offset) × (offset < p + STEP) × (STEP + p ≤ offset + back)

  module _ (initial old new : Hits) (kept : (i p : ℕ) → IsNoted old i p → IsNoted new i p) (offset : ℕ) where
    pub around_more : (back : ℕ) → NotesWhere table bytes (IsLate offset back) initial old →
        ((w : List ℕ) (i p : ℕ) → HasWindow table w i → OccursAt bytes w p → p ≤ offset → offset < p + STEP → STEP + p ≡ offset + (back + 1) → IsNoted new i p) →
        NotesWhere table bytes (IsLate offset (back + 1)) initial new
    around_more back notes found = record {
      found = λ w i p has occurs (a, b, d).
          ⊎_elim
          (λ (now : offset + back < STEP + p). found w i p has occurs a b (omega arith))
          (λ (before : STEP + p ≤ offset + back). kept i p (notes.found w i p has occurs (a, b, before)))
          (cases_lt (offset + back) (STEP + p));
      kept = λ i p h. kept i p (notes.kept i p h);
    }

    pub all_more : NotesWhere table bytes (λ p. p + STEP ≤ offset) initial old →
        ((w : List ℕ) (i p : ℕ) → HasWindow table w i → OccursAt bytes w p → p ≤ offset → offset < p + STEP → IsNoted new i p) →
        NotesWhere table bytes (λ p. p + STEP ≤ offset + STEP) initial new
    all_more notes found = record {
      found = λ w i p has occurs early.
          ⊎_elim
          (λ (now : offset < p + STEP). found w i p has occurs (omega arith) now)
          (λ (before : p + STEP ≤ offset). kept i p (notes.found w i p has occurs before))
          (cases_lt offset (p + STEP));
      kept = λ i p h. kept i p (notes.kept i p h);
    }

  -- the last offsets were looked at
  pub all_done : (initial hits : Hits) (offset : ℕ) → length bytes < offset + GRAM → NotesWhere table bytes (λ p. p + STEP ≤ offset) initial hits →
      NotesWhere table bytes (λ _. Unit {0}) initial hits
  all_done initial hits offset end notes = record {
    found = λ w i p has occurs _. notes.found w i p has occurs (omega (arith, sizes.fits, has.size, occurs.fits));
    kept = notes.kept;
  }

-- what is in no entry is not in a map
none_in : (test : List ℕ → Bool) (entries : List (List ℕ × ℕ)) → length entries ≡ 0 → lookup test entries ≡ None
none_in test [] none = refl
none_in test (e ∷ es) none = absurd (omega arith)

-- a table without windows has nothing to note
pub none_noted : {LENGTH GRAM STEP : ℕ} (table : Table LENGTH GRAM STEP) (bytes : List ℕ) (hits : Hits) → hash_map_len table.numbers ≡ 0 →
    NotesWhere table bytes (λ _. Unit {0}) hits hits
none_noted table bytes hits none = record {
  found = λ w i p has occurs _. absurd (none-some i (sym (none_in (bytes_eq w) table.numbers.entries none) ∙ has.numbered));
  kept = λ i p h. h;
}
