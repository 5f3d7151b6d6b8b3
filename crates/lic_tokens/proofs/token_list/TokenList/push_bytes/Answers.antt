use Rattle.std.proofs.Common.{◌≡◌, ℕ, Bool, true, false, refl, ◌+◌, ◌++◌, ◌∷◌, ◌&&◌, [], List, length, ap, ap₂, sym, ◌∙◌, append_assoc, append-nil, length-append, arith}
use Rattle.std.proofs.lemmas.Grind.{common_steps}
use Rattle.std.specs.Int.{from_bool}
use Rattle.std.specs.Str.{IsUtf8}
use Rattle.std.proofs.lemmas.Str.{IsUtf8-append}
use Rattle.lic_phrases.specs.Spelling.{blank_if, ends_in_word, is_parted}
use Rattle.lic_tokens.specs.Tokens.{TokenValue}
use Rattle.lic_tokens.specs.Entries.{Entry}
use Rattle.lic_tokens.proofs.EntryLemmas.{kept-pushed, kept_utf8, values-pushed}
use Rattle.lic_tokens.proofs.SpellingPlaces.{blank_utf8, ends_as}
use Rattle.lic_tokens.proofs.token_list.TokenList.push_bytes.Goals as goal
use Rattle.lic_tokens.proofs.token_list.TokenList.push_bytes.Goals.{then-parted+in_ok-push-2, else-parted, After-self-1}

blank_length : (b : Bool) → from_bool b ≡ length (blank_if b)
blank_length true = refl
blank_length false = refl

abbrev parted : (c : After-self-1) → Bool
parted c = c.self.inside.after_word && c.args.begins

-- whether a blank is wanted
is_parted_is : (c : After-self-1) → parted c ≡ is_parted c.self.inside.spelling.items c.args.text.now
is_parted_is c = ap₂ (λ a b. a && b) c.self.invariant.1 c.requires.begins

-- what was written: a blank where one is wanted, and the text
written : (c : After-self-1) → c.extend_from_slice.new.self.items
    ≡ c.self.inside.spelling.items ++ (blank_if (is_parted (c.self.inside.spelling.items) c.args.text.now) ++ c.args.text.now)
written c =
    let old = c.self.inside.spelling.items in
    let text = c.args.text.now in
    let b = parted c in
    let blank : c.if-parted.self-inside.spelling.items ≡ old ++ blank_if b =
    elim c.if-parted.branch [
      | then-parted+in_ok-push-2 w ↦ ap (λ s. s.spelling.items) w.self-inside-is ∙ w.in_ok-push-2.ensures.items
          ∙ ap (λ l. l ++ 0x20 ∷ []) c.in_ok-reserve.ensures.items
          ∙ ap (λ b. old ++ blank_if b) (sym w.if-parted.true)
      | else-parted w ↦ ap (λ s. s.spelling.items) w.self-inside-is ∙ c.in_ok-reserve.ensures.items ∙ sym (append-nil old)
          ∙ ap (λ b. old ++ blank_if b) (sym w.if-parted.false)
    ] in
    c.in_ok-extend_from_slice.ensures.items ∙ ap (λ l. l ++ text) blank ∙ append_assoc old (blank_if b) text
    ∙ ap (λ b. old ++ (blank_if b ++ text)) (is_parted_is c)

abbrev end : (c : After-self-1) → ℕ
end c = c.len.result + c.from.result + length c.args.text.now

-- where it ends
ends : (c : After-self-1) → end c ≡ length (c.extend_from_slice.new.self.items)
ends c =
    let old = c.self.inside.spelling.items in
    let text = c.args.text.now in
    let before : c.len.result ≡ length old = grind (arith, common_steps) in
    let wanted = is_parted old text in
    let blank : c.from.result ≡ length (blank_if wanted) =
    c.from.ensures ∙ blank_length (parted c) ∙ ap (λ b. length (blank_if b)) (is_parted_is c) in
    omega (arith, before, blank, ap length (written c), length-append old (blank_if wanted ++ text), length-append (blank_if wanted) text)

-- the entries so far, and one more
added : (c : After-self-1) → c.if-parted.self-inside.entries
    ≡ c.self.inside.entries ++ (record { text_end = end c; start = c.args.start; end = c.args.end }) ∷ []
added c =
    elim c.if-parted.branch [
      | then-parted+in_ok-push-2 w ↦ ap (λ s. s.entries) w.self-inside-is ∙ c.in_ok-push.ensures.added
      | else-parted w ↦ ap (λ s. s.entries) w.self-inside-is ∙ c.in_ok-push.ensures.added
    ]

pub invariant_of-self-2 : goal.invariant_of-self-2
invariant_of-self-2 c =
    let old = c.self.inside.spelling.items in
    let text = c.args.text.now in
    let entry : Entry = record { text_end = end c; start = c.args.start; end = c.args.end } in
    let blank = blank_if (is_parted old text) in
    let before : IsUtf8 (old ++ blank) =
    IsUtf8-append old blank (kept_utf8 old c.self.inside.entries _ c.self.invariant.0) (blank_utf8 (is_parted old text)) in (
      kept-pushed old c.extend_from_slice.new.self.items text c.self.inside.entries
          c.if-parted.self-inside.entries _ entry c.requires.utf8 c.requires.text (written c) (ends c) (added c) c.self.invariant.0,
      c.requires.ends ∙ sym (ends_as (old ++ blank) text before c.requires.utf8 c.requires.text.not_empty)
          ∙ ap ends_in_word (append_assoc old blank text ∙ sym (written c)),
    )

pub returns : goal.returns
returns c =
    let entry : Entry = record { text_end = end c; start = c.args.start; end = c.args.end } in
    values-pushed c.self.inside.spelling.items c.extend_from_slice.new.self.items c.args.text.now c.self.inside.entries
    c.if-parted.self-inside.entries _ entry c.requires.utf8 c.requires.text (written c) (ends c) (added c) c.self.invariant.0
    ∙ ap (λ (ts : List TokenValue). ts ++ (record { text = c.args.text.now; span = record { start = c.args.start; end = c.args.end } }) ∷ []) c.self.view_is
