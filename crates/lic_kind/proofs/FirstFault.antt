-- The first fault of a rules file, line by line.
use Rattle.std.proofs.Common.{◌≡◌, ◌==◌, ◌⊎◌, inl, inr, ⊎_elim, ℕ, ◌+◌, ◌<◌, List, ◌∷◌, [], ◌++◌, length, get_or, take, Some, None, refl, sym, ap, ◌∙◌, arith}
use Rattle.std.proofs.lemmas.Bool.{cases_lt}
use Rattle.std.proofs.lemmas.List.{length-map, take_more, get_or-map}
use Rattle.std.specs.List.{slice_split}
use Rattle.lic_kind.specs.LineRules.{LineRules}
use Rattle.lic_kind.specs.RuleFiles.{Line, comment, line_of, lines_of, AreSound, IsFirstFault, cause_of, cause_at, texts_before, text_count, rules_in, fault_at, out_of_memory}
use Rattle.lic_kind.specs.RuleReading.{with_line}
use Rattle.lic_kind.specs.declared.rules_fault.RulesCause.{RulesCause}
use Rattle.lic_kind.specs.declared.rules_fault.RulesCause.TheVariants.{UnknownRule, BadText, TooManyTexts, OutOfMemory}
use Rattle.lic_kind.proofs.RulesRead.{rules_more, texts_more}

-- a line of the file
pub line_at : (file : List ℕ) (n : ℕ) (line : List ℕ)
    → (n < length (slice_split (λ b. b == 0x0A) file)) × (line ≡ get_or (slice_split (λ b. b == 0x0A) file) n line)
    → (n < length (lines_of file)) × (line_of line ≡ get_or (lines_of file) n comment)
line_at file n line here =
    let lines = slice_split (λ b. b == 0x0A) file in
    (omega (arith, here.0, length-map lines line_of), ap line_of here.1 ∙ sym (get_or-map line_of lines n line comment here.0))

-- the first lines and the next one
next_line : (lines : List Line) (n : ℕ) (line : Line) → n < length lines → line ≡ get_or lines n comment → take n lines ++ line ∷ [] ≡ take (n + 1) lines
next_line lines n line within is = ap (λ l. take n lines ++ l ∷ []) is ∙ sym (take_more lines n comment within)

pub next_rules : (lines : List Line) (n : ℕ) (line : Line) (rules rules' : LineRules) → n < length lines → line ≡ get_or lines n comment
    → rules ≡ rules_in (take n lines) → rules' ≡ with_line line rules → rules' ≡ rules_in (take (n + 1) lines)
next_rules lines n line rules rules' within is before more =
    more ∙ ap (with_line line) before ∙ sym (rules_more (take n lines) line) ∙ ap rules_in (next_line lines n line within is)

pub next_count : (lines : List Line) (n : ℕ) (line : Line) (count count' : ℕ) → n < length lines → line ≡ get_or lines n comment
    → count ≡ texts_before (take n lines) → count' ≡ count + text_count line → count' ≡ texts_before (take (n + 1) lines)
next_count lines n line count count' within is before more =
    let all = texts_more (take n lines) line in
    let same = ap texts_before (next_line lines n line within is) in
    omega (arith, before, more, all, same)

pub cause_here : (lines : List Line) (n : ℕ) (line : Line) (count : ℕ) → line ≡ get_or lines n comment
    → count ≡ texts_before (take n lines) → cause_at lines n ≡ cause_of count line
cause_here lines n line count is before = ap (λ l. cause_of (texts_before (take n lines)) l) (sym is) ∙ ap (λ k. cause_of k line) (sym before)

pub sound_more : (lines : List Line) (n : ℕ) → AreSound lines n → cause_at lines n ≡ None → AreSound lines (n + 1)
sound_more lines n sound here k within =
    ⊎_elim (λ before. sound k before) (λ last. let same : k ≡ n = omega (arith, within, last) in ap (cause_at lines) same ∙ here) (cases_lt k n)

-- what is reported for the first line at fault
pub first_reported : (lines : List Line) (n : ℕ) (cause : RulesCause) → n < length lines → AreSound lines n → (cause_at lines n ≡ Some cause) ⊎ (cause ≡ OutOfMemory)
    → IsFirstFault lines (fault_at (n + 1) cause) ⊎ (fault_at (n + 1) cause ≡ out_of_memory)
first_reported lines n UnknownRule within sound (inl fault) = inl (record { before = n; line = refl; within = within; cause = fault; first = sound })
first_reported lines n UnknownRule within sound (inr memory) = absurd (let h : UnknownRule ≡ OutOfMemory = memory in cc)
first_reported lines n BadText within sound (inl fault) = inl (record { before = n; line = refl; within = within; cause = fault; first = sound })
first_reported lines n BadText within sound (inr memory) = absurd (let h : BadText ≡ OutOfMemory = memory in cc)
first_reported lines n TooManyTexts within sound (inl fault) = inl (record { before = n; line = refl; within = within; cause = fault; first = sound })
first_reported lines n TooManyTexts within sound (inr memory) = absurd (let h : TooManyTexts ≡ OutOfMemory = memory in cc)
first_reported lines n OutOfMemory within sound fault = inr refl
