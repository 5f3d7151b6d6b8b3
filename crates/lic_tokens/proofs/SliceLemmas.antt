-- Tokens as slices.
use Rattle.std.proofs.Common.{◌≡◌, ℕ, zero, suc, ◌+◌, ◌<◌, List, [], ◌∷◌, length, get_or, refl, ap, ap₂, ◌∙◌, arith}
use Rattle.std.proofs.Math.Logic.{∥∥₁_elim}
use Rattle.std.proofs.Math.Bridge.{le_prop}
use Rattle.std.proofs.Math.Nat.{ℕ_set}
use Rattle.lic_tokens.specs.Entries.{Entry, IsKept, entries_by, entry_values, text_from}
use Rattle.lic_tokens.specs.Places.{place_end, place_start}
use Rattle.lic_tokens.specs.Tokens.{TokenValue}
use Rattle.lic_tokens.specs.declared.entries.SourceBytes.{SourceBytes}
use Rattle.lic_tokens.specs.declared.token.Span.{Span}
use Rattle.lic_tokens.proofs.EntriesBy.{end_by, end_of_source_by, length-entries_by, no_entry, start_by}
use Rattle.lic_tokens.proofs.EntryLemmas.{end_inside, end_is, start_is}

values-length : (spelling : List ℕ) (place : ℕ) (entries : List Entry) → length (entry_values spelling place entries) ≡ length entries
values-length spelling place [] = refl
values-length spelling place (e ∷ entries) = ap suc (values-length spelling e.text_end entries)

value-span : (spelling : List ℕ) (place : ℕ) (entries : List Entry) (i : ℕ) (d : Entry) (v : TokenValue) → i < length entries
    → record { start = (get_or entries i d).start; end = (get_or entries i d).end } ≡ (get_or (entry_values spelling place entries) i v).span
value-span spelling place [] i d v inside = absurd (omega arith)
value-span spelling place (e ∷ entries) zero d v inside = refl
value-span spelling place (e ∷ entries) (suc i) d v inside = value-span spelling e.text_end entries i d v (omega (arith, inside))

-- tokens by where their texts end in a spelling, and by the bytes of the source
module _ (spelling ends : List ℕ) (sources : List SourceBytes) (paired : length ends ≡ length sources) where
  abbrev tokens : List TokenValue
  tokens = entry_values spelling 0 (entries_by ends sources)

  entry_count : length tokens ≡ length (entries_by ends sources)
  entry_count = values-length spelling 0 (entries_by ends sources)

  -- how many there are
  pub slice_count : length tokens ≡ length sources
  slice_count = entry_count ∙ length-entries_by ends sources paired

  pub slice_span : (i : ℕ) (s : SourceBytes) (v : TokenValue) → i < length tokens
      → record { start = (get_or sources i s).start; end = (get_or sources i s).end } ≡ (get_or tokens i v).span
  slice_span i s v inside =
      let within : i < length sources = omega (arith, inside, slice_count) in
      ap₂ (λ (m n : ℕ). let span : Span = record { start = m; end = n } in span) (start_by ends sources i s no_entry paired within)
      (end_of_source_by ends sources i s no_entry paired within)
      ∙ value-span spelling 0 (entries_by ends sources) i no_entry v (omega (arith, inside, entry_count))

  -- where the texts of tokens that are kept are
  module _ (kept : ∥ IsKept spelling (entries_by ends sources) tokens ∥₁) (i : ℕ) (inside : i < length tokens) where
    pub slice_end : (n : ℕ) → get_or ends i n ≡ place_end tokens i
    slice_end n =
        ∥∥₁_elim kept (ℕ_set _ _) (λ k.
        end_by ends sources i n no_entry paired (omega (arith, inside, slice_count))
        ∙ end_is spelling (entries_by ends sources) tokens i k inside no_entry)

    -- and of one after another
    module _ (j : ℕ) (next : j + 1 ≡ i) (n : ℕ) where
      end_before : get_or ends j n ≡ (get_or (entries_by ends sources) j no_entry).text_end
      end_before = end_by ends sources j n no_entry paired (omega (arith, inside, next, slice_count))

      pub slice_inside : get_or ends j n < length spelling
      slice_inside =
          ∥∥₁_elim kept le_prop (λ k.
          omega (arith, end_before, end_inside spelling (entries_by ends sources) tokens i j no_entry k next inside))

      pub slice_start : text_from spelling (get_or ends j n) ≡ place_start tokens i
      slice_start =
          ∥∥₁_elim kept (ℕ_set _ _) (λ k.
          ap (text_from spelling) end_before ∙ start_is spelling (entries_by ends sources) tokens i j no_entry k next inside)
