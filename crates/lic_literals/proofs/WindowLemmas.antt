-- Windows of literals, in the bytes in which the literals occur.
use Rattle.std.proofs.Common.{◌≡◌, ◌⊎◌, ℕ, ◌+◌, ◌-◌, ◌<◌, ◌≤◌, List, Option, None, Some, inl, inr, length, drop, arith}
use Rattle.std.specs.Prelude.{slice_range}
use Rattle.std.proofs.lemmas.List.{length-drop, length-take}
use Rattle.std.proofs.Math.Logic.{⊎_elim}
use Rattle.memchr.specs.Find.{OccursAt}
use Rattle.lic_literals.specs.Ends.{EndsAt}
use Rattle.lic_literals.specs.Hits.{IsNoted}
use Rattle.lic_literals.specs.Tables.{AddsWindow, AllBelow, NotesWhere}
use Rattle.lic_literals.specs.Windows.{AddsKey, AddsLiteral, AreBelow, HasKey, IsWindowOf, NotesKeys}
use Rattle.lic_literals.specs.declared.hits.Hits.{Hits}
use Rattle.lic_literals.specs.declared.tables.table.Table.{Table}
use Rattle.lic_literals.specs.declared.tables.Key.{Key}
use Rattle.lic_literals.specs.declared.tables.Tables.{Tables}
use Rattle.lic_literals.proofs.Occurring.{OccursAt-from_end, occurs_part}

module _ {LENGTH GRAM STEP : ℕ} (table : Table LENGTH GRAM STEP) (bytes literal : List ℕ) (key : Key) (is : IsWindowOf table literal key) where
  -- a window lies within its literal
  window_within : is.start + LENGTH ≤ length literal
  window_within =
      let size : length (slice_range literal is.start (is.start + LENGTH)) ≡ LENGTH = is.window.size in
      omega (arith, is.end, size, length-take (is.start + LENGTH - is.start) (drop is.start literal), length-drop is.start literal)

  -- where the literal ends, its window occurs as much before as the key says, and is noted
  pub key_noted : (old new : Hits) (e : ℕ) → NotesWhere table bytes (λ _. Unit {0}) old new → EndsAt bytes literal e →
      (p : ℕ) × (p + key.to_end ≡ e) × IsNoted new key.window p
  key_noted old new e notes ends =
      let q = ends.start in
      let occurs : OccursAt bytes (slice_range literal is.start (is.start + LENGTH)) (q + is.start) =
      occurs_part bytes literal q is.start (is.start + LENGTH) (OccursAt-from_end bytes literal q e ends ends.end) (omega arith) window_within in (
        q + is.start,
        omega (arith, is.end, ends.end),
        notes.found (slice_range literal is.start (is.start + LENGTH)) key.window (q + is.start) is.window occurs tt,
      )

-- more offsets are noted
noted_later : (i to_end e : ℕ) (old new : Hits) → ((p : ℕ) → IsNoted old i p → IsNoted new i p) → (p : ℕ) × (p + to_end ≡ e) × IsNoted old i p →
    (p : ℕ) × (p + to_end ≡ e) × IsNoted new i p
noted_later i to_end e old new kept (p, at, noted) = (p, at, kept p noted)

-- each table is gone through
pub keys_noted : (tables : Tables) (bytes : List ℕ) (old one two new : Hits) → NotesWhere tables.long bytes (λ _. Unit {0}) old one →
    NotesWhere tables.middle bytes (λ _. Unit {0}) one two → NotesWhere tables.short bytes (λ _. Unit {0}) two new → NotesKeys tables bytes old new
keys_noted tables bytes old one two new first second third = record {
  found = λ literal key e has ends.
      ⊎_elim
      (λ (long : IsWindowOf tables.long literal key).
      noted_later key.window key.to_end e one new (λ p h. third.kept key.window p (second.kept key.window p h))
      (key_noted tables.long bytes literal key long old one e first ends))
      (λ (shorter : IsWindowOf tables.middle literal key ⊎ IsWindowOf tables.short literal key).
      ⊎_elim
      (λ (middle : IsWindowOf tables.middle literal key).
      noted_later key.window key.to_end e two new (λ p h. third.kept key.window p h)
      (key_noted tables.middle bytes literal key middle one two e second ends))
      (λ (short : IsWindowOf tables.short literal key). key_noted tables.short bytes literal key short two new e third ends)
      shorter)
      has;
}

module _ (old new : Tables) (long : (l : List ℕ) (k : Key) → IsWindowOf old.long l k → IsWindowOf new.long l k)
    (middle : (l : List ℕ) (k : Key) → IsWindowOf old.middle l k → IsWindowOf new.middle l k)
    (short : (l : List ℕ) (k : Key) → IsWindowOf old.short l k → IsWindowOf new.short l k) where
  HasKey-kept : (l : List ℕ) (k : Option Key) → HasKey old l k → HasKey new l k
  HasKey-kept l None has = tt
  HasKey-kept l (Some key) has =
      ⊎_elim
      (λ (a : IsWindowOf old.long l key). inl (long l key a))
      (λ (b : IsWindowOf old.middle l key ⊎ IsWindowOf old.short l key).
      ⊎_elim
      (λ (d : IsWindowOf old.middle l key). inr (inl (middle l key d)))
      (λ (d : IsWindowOf old.short l key). inr (inr (short l key d)))
      b)
      has

AllBelow-more : {LENGTH GRAM STEP : ℕ} (table : Table LENGTH GRAM STEP) (n : ℕ) → AllBelow table n → AllBelow table (n + 1)
AllBelow-more table n all w i is = let less : i < n = all w i is in omega arith

module _ (literal : List ℕ) (number : ℕ) (old : Tables) where
  -- the literal is too short to have a window
  pub adds_none : AddsLiteral literal number None old old
  adds_none = record {
    added = tt;
    kept = λ l k has. has;
    below = λ below. record {
      long = AllBelow-more old.long number below.long;
      middle = AllBelow-more old.middle number below.middle;
      short = AllBelow-more old.short number below.short;
    };
  }

  -- one of the tables has its window
  pub adds_long : (key : Key) (new : Table 16 8 8) → AddsKey literal number key old.long new →
      AddsLiteral literal number (Some key) old (record { long = new; middle = old.middle; short = old.short })
  adds_long key new adds = record {
    added = inl adds.added;
    kept = HasKey-kept old (record { long = new; middle = old.middle; short = old.short }) adds.kept (λ l k h. h) (λ l k h. h);
    below = λ below. record {
      long = adds.below below.long;
      middle = AllBelow-more old.middle number below.middle;
      short = AllBelow-more old.short number below.short;
    };
  }

  pub adds_middle : (key : Key) (new : Table 7 4 4) → AddsKey literal number key old.middle new →
      AddsLiteral literal number (Some key) old (record { long = old.long; middle = new; short = old.short })
  adds_middle key new adds = record {
    added = inr (inl adds.added);
    kept = HasKey-kept old (record { long = old.long; middle = new; short = old.short }) (λ l k h. h) adds.kept (λ l k h. h);
    below = λ below. record {
      long = AllBelow-more old.long number below.long;
      middle = adds.below below.middle;
      short = AllBelow-more old.short number below.short;
    };
  }

  pub adds_short : (key : Key) (new : Table 4 4 1) → AddsKey literal number key old.short new →
      AddsLiteral literal number (Some key) old (record { long = old.long; middle = old.middle; short = new })
  adds_short key new adds = record {
    added = inr (inr adds.added);
    kept = HasKey-kept old (record { long = old.long; middle = old.middle; short = new }) (λ l k h. h) (λ l k h. h) adds.kept;
    below = λ below. record {
      long = AllBelow-more old.long number below.long;
      middle = AllBelow-more old.middle number below.middle;
      short = adds.below below.short;
    };
  }

-- the window that begins at an offset is put down in a table
module _ {LENGTH GRAM STEP : ℕ} (literal : List ℕ) (number start answer : ℕ) (old new : Table LENGTH GRAM STEP) (fits : start + LENGTH ≤ length literal)
    (adds : AddsWindow (slice_range literal start (start + LENGTH)) number answer old new) where
  pub adds_key : AddsKey literal number (record { window = answer; to_end = length literal - start }) old new
  adds_key = record {
    added = record { start = start; end = omega arith; window = adds.added };
    kept = λ l k h. record { start = h.start; end = h.end; window = adds.kept (slice_range l h.start (h.start + LENGTH)) k.window h.window };
    below = adds.below;
  }

-- the number of a literal's window is one of a table
pub key_below : (tables : Tables) (literal : List ℕ) (key : Key) (n : ℕ) → HasKey tables literal (Some key) → AreBelow tables n → key.window < n
key_below tables literal key n has below =
    ⊎_elim
    (λ (long : IsWindowOf tables.long literal key). below.long (slice_range literal long.start (long.start + 16)) key.window long.window.numbered)
    (λ (shorter : IsWindowOf tables.middle literal key ⊎ IsWindowOf tables.short literal key).
    ⊎_elim
    (λ (middle : IsWindowOf tables.middle literal key). below.middle (slice_range literal middle.start (middle.start + 7)) key.window middle.window.numbered)
    (λ (short : IsWindowOf tables.short literal key). below.short (slice_range literal short.start (short.start + 4)) key.window short.window.numbered)
    shorter)
    has
