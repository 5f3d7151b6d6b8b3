-- Entries by where texts end and by the bytes of the source.
use Rattle.std.proofs.Common.{◌≡◌, ℕ, zero, suc, ◌+◌, ◌-◌, ◌^◌, ◌≤◌, ◌<◌, List, [], ◌∷◌, ◌++◌, length, take, get_or, refl, sym, ap, ap₂, subst, ◌∙◌, arith, append_assoc, append-nil, length-append}
use Rattle.std.specs.Prelude.{slice_set}
use Rattle.std.proofs.Math.ListN.{get_or-append}
use Rattle.std.proofs.Math.Seq.{get_or-append_seam, get_or-append_right}
use Rattle.std.proofs.lemmas.Grind.{take-set_at}
use Rattle.std.proofs.lemmas.List.{length-take-le}
use Rattle.lic_tokens.specs.Entries.{AreNear, Entry, entries_by}
use Rattle.lic_tokens.specs.declared.entries.SourceBytes.{SourceBytes}

-- an entry of no use
abbrev pub no_entry : Entry
no_entry = record { text_end = 0; start = 0; end = 0 }

pub length-entries_by : (ends : List ℕ) (sources : List SourceBytes) → length ends ≡ length sources
    → length (entries_by ends sources) ≡ length sources
length-entries_by [] [] same = refl
length-entries_by [] (s ∷ sources) same = absurd (omega (arith, same))
length-entries_by (e ∷ ends) [] same = absurd (omega (arith, same))
length-entries_by (e ∷ ends) (s ∷ sources) same = ap suc (length-entries_by ends sources (omega (arith, same)))

pub entries_by-append : (ends ends' : List ℕ) (sources sources' : List SourceBytes) → length ends ≡ length sources
    → entries_by (ends ++ ends') (sources ++ sources') ≡ entries_by ends sources ++ entries_by ends' sources'
entries_by-append [] ends' [] sources' same = refl
entries_by-append [] ends' (s ∷ sources) sources' same = absurd (omega (arith, same))
entries_by-append (e ∷ ends) ends' [] sources' same = absurd (omega (arith, same))
entries_by-append (e ∷ ends) ends' (s ∷ sources) sources' same =
    ap (λ es. (record { text_end = e; start = s.start; end = s.end }) ∷ es) (entries_by-append ends ends' sources sources' (omega (arith, same)))

-- ---- one of them

pub end_by : (ends : List ℕ) (sources : List SourceBytes) (i n : ℕ) (d : Entry) → length ends ≡ length sources → i < length sources
    → get_or ends i n ≡ (get_or (entries_by ends sources) i d).text_end
end_by [] [] i n d same inside = absurd (omega (arith, inside))
end_by [] (s ∷ sources) i n d same inside = absurd (omega (arith, same))
end_by (e ∷ ends) [] i n d same inside = absurd (omega (arith, same))
end_by (e ∷ ends) (s ∷ sources) zero n d same inside = refl
end_by (e ∷ ends) (s ∷ sources) (suc i) n d same inside = end_by ends sources i n d (omega (arith, same)) (omega (arith, inside))

pub start_by : (ends : List ℕ) (sources : List SourceBytes) (i : ℕ) (s : SourceBytes) (d : Entry) → length ends ≡ length sources
    → i < length sources → (get_or sources i s).start ≡ (get_or (entries_by ends sources) i d).start
start_by [] [] i s d same inside = absurd (omega (arith, inside))
start_by [] (t ∷ sources) i s d same inside = absurd (omega (arith, same))
start_by (e ∷ ends) [] i s d same inside = absurd (omega (arith, same))
start_by (e ∷ ends) (t ∷ sources) zero s d same inside = refl
start_by (e ∷ ends) (t ∷ sources) (suc i) s d same inside = start_by ends sources i s d (omega (arith, same)) (omega (arith, inside))

pub end_of_source_by : (ends : List ℕ) (sources : List SourceBytes) (i : ℕ) (s : SourceBytes) (d : Entry) → length ends ≡ length sources
    → i < length sources → (get_or sources i s).end ≡ (get_or (entries_by ends sources) i d).end
end_of_source_by [] [] i s d same inside = absurd (omega (arith, inside))
end_of_source_by [] (t ∷ sources) i s d same inside = absurd (omega (arith, same))
end_of_source_by (e ∷ ends) [] i s d same inside = absurd (omega (arith, same))
end_of_source_by (e ∷ ends) (t ∷ sources) zero s d same inside = refl
end_of_source_by (e ∷ ends) (t ∷ sources) (suc i) s d same inside =
    end_of_source_by ends sources i s d (omega (arith, same)) (omega (arith, inside))

-- where a text ends, near or far
module _ (near far : List ℕ) (sources : List SourceBytes) (i : ℕ) (d : Entry) (same : length (near ++ far) ≡ length sources)
    (inside : i < length sources) where
  pub near_end : (m n : ℕ) → m ≡ i → i < length near → get_or near m n ≡ (get_or (entries_by (near ++ far) sources) i d).text_end
  near_end m n is first =
      ap (λ k. get_or near k n) is ∙ sym (get_or-append near far n i first) ∙ end_by (near ++ far) sources i n d same inside

  pub far_end : (m n : ℕ) → m ≡ i - length near → length near ≤ i → get_or far m n ≡ (get_or (entries_by (near ++ far) sources) i d).text_end
  far_end m n is later =
      ap (λ k. get_or far k n) is ∙ sym (get_or-append_right near far i n later) ∙ end_by (near ++ far) sources i n d same inside

-- ---- more of them

-- where 32 bits say of more tokens where their texts end, they say it of all before
pub moved : (near far ends : List ℕ) → (0 < length ends → far ≡ []) → (near ++ ends) ++ far ≡ (near ++ far) ++ ends
moved near far [] none = ap (λ l. l ++ far) (append-nil near) ∙ sym (append-nil (near ++ far))
moved near far (e ∷ ends) none =
    let no_far : far ≡ [] = none (omega arith) in
    ap (λ l. (near ++ e ∷ ends) ++ l) no_far ∙ append-nil (near ++ e ∷ ends) ∙ ap (λ l. l ++ e ∷ ends) (sym (append-nil near))
    ∙ ap (λ l. (near ++ l) ++ e ∷ ends) (sym no_far)

-- one more of a text that ends where 32 bits say it, and one of another
module _ (near far : List ℕ) (sources : List SourceBytes) (end : ℕ) (source : SourceBytes) (same : length (near ++ far) ≡ length sources) where
  abbrev entry : Entry
  entry = record { text_end = end; start = source.start; end = source.end }

  pub near-pushed : far ≡ [] → entries_by ((near ++ end ∷ []) ++ far) (sources ++ source ∷ []) ≡ entries_by (near ++ far) sources ++ entry ∷ []
  near-pushed none =
      ap (λ l. entries_by l (sources ++ source ∷ [])) (moved near far (end ∷ []) (λ some. none))
      ∙ entries_by-append (near ++ far) (end ∷ []) sources (source ∷ []) same

  pub far-pushed : entries_by (near ++ (far ++ end ∷ [])) (sources ++ source ∷ []) ≡ entries_by (near ++ far) sources ++ entry ∷ []
  far-pushed =
      ap (λ l. entries_by l (sources ++ source ∷ [])) (sym (append_assoc near far (end ∷ [])))
      ∙ entries_by-append (near ++ far) (end ∷ []) sources (source ∷ []) same

-- the first of a list, and the last
near-front : (entries more : List Entry) → AreNear (entries ++ more) → AreNear entries
near-front entries more are = λ i d inside.
    subst (λ (e : Entry). e.text_end < 2 ^ 32) (get_or-append entries more d i inside)
    (are i d (omega (arith, inside, length-append entries more)))

near-last : (entries : List Entry) (e : Entry) → AreNear (entries ++ e ∷ []) → e.text_end < 2 ^ 32
near-last entries e are =
    subst (λ (f : Entry). f.text_end < 2 ^ 32) (get_or-append_seam entries e [] no_entry)
    (are (length entries) no_entry (omega (arith, length-append entries (e ∷ []))))

-- where 32 bits say of all texts where they end, none is far
pub none_far : (entries entries' more : List Entry) (far far' : List ℕ) → entries' ≡ entries ++ more → (AreNear entries → far ≡ [])
    → (AreNear entries' → far' ≡ far) → AreNear entries' → far' ≡ []
none_far entries entries' more far far' grown known same are =
    same are ∙ known (near-front entries more (subst AreNear grown are))

pub not_near : (entries entries' : List Entry) (e : Entry) (far : List ℕ) → entries' ≡ entries ++ e ∷ [] → (AreNear entries → far ≡ [])
    → (far ≡ [] → 2 ^ 32 ≤ e.text_end) → ¬ AreNear entries'
not_near entries entries' e far grown known beyond = λ are.
    let all = subst AreNear grown are in
    let beyond : 2 ^ 32 ≤ e.text_end = beyond (known (near-front entries (e ∷ []) all)) in
    omega (arith, beyond, near-last entries e all)

-- ---- of lists in which one more was put

pub set_by : (ends : List ℕ) (sources : List SourceBytes) (k n end : ℕ) (source : SourceBytes) → n ≡ k + 1 → k < length ends → k < length sources
    → entries_by (take n (slice_set ends k end)) (take n (slice_set sources k source))
    ≡ entries_by (take k ends) (take k sources) ++ (record { text_end = end; start = source.start; end = source.end }) ∷ []
set_by ends sources k n end source next within within' =
    ap₂ (λ (a : List ℕ) (b : List SourceBytes). entries_by a b) (take-set_at ends k n end next within) (take-set_at sources k n source next within')
    ∙ entries_by-append (take k ends) (end ∷ []) (take k sources) (source ∷ [])
    (length-take-le k ends (omega (arith, within)) ∙ sym (length-take-le k sources (omega (arith, within'))))
