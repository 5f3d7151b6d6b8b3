use Rattle.std.proofs.Common.{◌≡◌, ◌+◌, ◌++◌, ◌∷◌, ◌^◌, ◌≤◌, [], List, ℕ, length, true, ap, ap₂, sym, ◌∙◌, arith, length-append}
use Rattle.std.proofs.lemmas.Bool.{eq-eqb, eqb-true, false≢true}
use Rattle.std.proofs.lemmas.List.{nil_from_length}
use Rattle.lic_tokens.specs.Entries.{AreNear, Entry, entries_by}
use Rattle.lic_tokens.specs.declared.entries.SourceBytes.{SourceBytes}
use Rattle.lic_tokens.proofs.EntriesBy.{far-pushed, near-pushed, not_near}
use Rattle.lic_tokens.proofs.entries.Entries.push.Goals as goal
use Rattle.lic_tokens.proofs.entries.Entries.push.Goals.{then-is_empty+then-text_end+in_ok-push, else-is_empty+in_ok-push-2, else-is_empty-via-then-is_empty+else-text_end, else-is_empty-via-else-is_empty, In_ok-push-3}

abbrev entry : (c : In_ok-push-3) → Entry
entry c = record { text_end = c.args.text_end; start = c.args.source.start; end = c.args.source.end }

abbrev old : (c : In_ok-push-3) → List Entry
old c = entries_by (c.self.inside.near.items ++ c.self.inside.far.items) c.self.inside.sources.items

abbrev new : (c : In_ok-push-3) → List Entry
new c = entries_by (c.if-is_empty.self-inside.near.items ++ c.if-is_empty.self-inside.far.items) c.push-2.new.self.items

sources : (c : In_ok-push-3) → c.push-2.new.self.items ≡ c.self.inside.sources.items ++ c.args.source ∷ []
sources c =
    elim c.if-is_empty.branch [
      | then-is_empty+then-text_end+in_ok-push w ↦ c.in_ok-push-3.ensures.items ∙ ap (λ s. s.sources.items ++ c.args.source ∷ []) w.self-inside-is
          ∙ ap (λ l. l ++ c.args.source ∷ []) c.in_ok-reserve.ensures.items
      | else-is_empty+in_ok-push-2 w ↦ c.in_ok-push-3.ensures.items ∙ ap (λ s. s.sources.items ++ c.args.source ∷ []) w.self-inside-is
          ∙ ap (λ l. l ++ c.args.source ∷ []) c.in_ok-reserve.ensures.items
    ]

-- no place is far where the list of those is empty
no_far : (c : In_ok-push-3) → c.is_empty.result ≡ true → c.self.inside.far.items ≡ []
no_far c empty = nil_from_length c.self.inside.far.items (omega (arith, eqb-true _ 0 (sym c.is_empty.ensures ∙ empty), c.self.inside.far.ok))

grown : (c : In_ok-push-3) → new c ≡ old c ++ entry c ∷ []
grown c =
    let near = c.self.inside.near.items in
    let far = c.self.inside.far.items in
    let all = c.self.inside.sources.items in
    elim c.if-is_empty.branch [
      | then-is_empty+then-text_end+in_ok-push w ↦
          ap₂ (λ (a : List ℕ) (b : List SourceBytes). entries_by a b)
          (ap₂ (λ (a b : List ℕ). a ++ b) (ap (λ s. s.near.items) w.self-inside-is ∙ w.in_ok-push.ensures.items) (ap (λ s. s.far.items) w.self-inside-is))
          (sources c)
          ∙ near-pushed near far all c.args.text_end c.args.source c.self.invariant.0 (no_far c w.if-is_empty.true)
      | else-is_empty+in_ok-push-2 w ↦
          ap₂ (λ (a : List ℕ) (b : List SourceBytes). entries_by a b)
          (ap₂ (λ (a b : List ℕ). a ++ b) (ap (λ s. s.near.items) w.self-inside-is) (ap (λ s. s.far.items) w.self-inside-is ∙ w.in_ok-push-2.ensures.items))
          (sources c)
          ∙ far-pushed near far all c.args.text_end c.args.source c.self.invariant.0
    ]

-- none is far where 32 bits say of all texts where they end
near_all : (c : In_ok-push-3) → AreNear (new c) → c.if-is_empty.self-inside.far.items ≡ []
near_all c =
    elim c.if-is_empty.branch [
      | then-is_empty+then-text_end+in_ok-push w ↦ λ are. ap (λ s. s.far.items) w.self-inside-is ∙ no_far c w.if-is_empty.true
      | else-is_empty+in_ok-push-2 w ↦ λ are.
          let beyond : c.self.inside.far.items ≡ [] → 2 ^ 32 ≤ c.args.text_end =
          elim w.else-is_empty.branch [
            | else-is_empty-via-then-is_empty+else-text_end v ↦ λ none. omega (arith, v.if-text_end.false)
            | else-is_empty-via-else-is_empty v ↦ λ none.
                absurd (false≢true (sym v.if-is_empty.false ∙ c.is_empty.ensures ∙ eq-eqb _ 0 (let e : _ ≡ 0 = omega (arith, ap length none, c.self.inside.far.ok) in e)))
          ] in
          absurd (not_near (old c) (new c) (entry c) c.self.inside.far.items (grown c) c.self.invariant.1 beyond are)
    ]

long : (c : In_ok-push-3) → length (c.if-is_empty.self-inside.near.items ++ c.if-is_empty.self-inside.far.items) ≡ length c.push-2.new.self.items
long c =
    let near = c.self.inside.near.items in
    let far = c.self.inside.far.items in
    let count : length c.push-2.new.self.items ≡ length c.self.inside.sources.items + 1 =
    omega (arith, ap length (sources c), length-append c.self.inside.sources.items (c.args.source ∷ [])) in
    elim c.if-is_empty.branch [
      | then-is_empty+then-text_end+in_ok-push w ↦
          omega (
            arith,
            ap (λ s. length s.near.items) w.self-inside-is,
            ap (λ s. length s.far.items) w.self-inside-is,
            ap length w.in_ok-push.ensures.items,
            length-append near (c.args.text_end ∷ []),
            length-append near far,
            length-append c.if-is_empty.self-inside.near.items c.if-is_empty.self-inside.far.items,
            c.self.invariant.0,
            count,
          )
      | else-is_empty+in_ok-push-2 w ↦
          omega (
            arith,
            ap (λ s. length s.near.items) w.self-inside-is,
            ap (λ s. length s.far.items) w.self-inside-is,
            ap length w.in_ok-push-2.ensures.items,
            length-append far (c.args.text_end ∷ []),
            length-append near far,
            length-append c.if-is_empty.self-inside.near.items c.if-is_empty.self-inside.far.items,
            c.self.invariant.0,
            count,
          )
    ]

pub invariant_of-self-2 : goal.invariant_of-self-2
invariant_of-self-2 c = (long c, near_all c)

pub returns-clause-added : goal.returns-clause-added
returns-clause-added c = grown c ∙ ap (λ es. es ++ entry c ∷ []) c.self.view_is
