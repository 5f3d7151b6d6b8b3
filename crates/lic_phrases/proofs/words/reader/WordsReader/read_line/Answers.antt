use Rattle.std.proofs.Common.{◌≡◌, ◌⊎◌, List, ℕ, [], ◌∷◌, ◌++◌, Bool, true, false, if◌then◌else◌, OnOk, IfErr, refl, sym, ap, subst, ◌∙◌}
use Rattle.std.specs.Str.{chars}
use Rattle.lic_phrases.specs.declared.fault.WordsCause.TheVariants.{OutOfMemory}
use Rattle.lic_phrases.specs.Listed.{HasFault, HasNoFault, phrases_in}
use Rattle.lic_phrases.specs.WordLists.{is_skipped, phrases_of_line, split_phrases}
use Rattle.lic_phrases.specs.WordReading.{HasRead}
use Rattle.lic_phrases.proofs.ListedLemmas.{line_is_read}
use Rattle.lic_phrases.proofs.words.reader.WordsReader.read_line.Goals as goal

skipped : (line : List ℕ) (b : Bool) → b ≡ is_skipped (chars line) → b ≡ true → phrases_of_line line ≡ []
skipped line b is skips = ap (λ s. if s then [] else split_phrases line) (sym is ∙ skips)

not_skipped : (line : List ℕ) (b : Bool) → b ≡ is_skipped (chars line) → b ≡ false → split_phrases line ≡ phrases_of_line line
not_skipped line b is reads = sym (ap (λ s. if s then [] else split_phrases line) (sym is ∙ reads))

pub returns-then-is_skipped-clause-read : goal.returns-then-is_skipped-clause-read
returns-then-is_skipped-clause-read c = λ lines before.
    let self = c.args.self.now in
    subst (λ (l : List (List (List ℕ))). HasRead [] (lines ++ l ∷ []) []
    (phrases_in self.phrases.items) self.heads.items [])
    (sym (skipped c.args.line.now c.is_skipped.result c.is_skipped.ensures c.if-is_skipped.true))
    (line_is_read lines [] (phrases_in self.phrases.items) self.heads.items self.heads.items [] before refl (λ ls h. h))

pub returns-clause-sound : goal.returns-clause-sound
returns-clause-sound c =
    subst (λ (l : List (List (List ℕ))). OnOk c.read_phrases.result (HasNoFault l c.args.self.now.count c.read_phrases.new.self.count))
    (not_skipped c.args.line.now c.is_skipped.result c.is_skipped.ensures c.if-is_skipped.false) c.read_phrases.ensures.sound

pub returns-clause-fault : goal.returns-clause-fault
returns-clause-fault c =
    subst (λ (l : List (List (List ℕ))). IfErr c.read_phrases.result (λ cause. HasFault l c.args.self.now.count cause ⊎ (cause ≡ OutOfMemory)))
    (not_skipped c.args.line.now c.is_skipped.result c.is_skipped.ensures c.if-is_skipped.false) c.read_phrases.ensures.fault
